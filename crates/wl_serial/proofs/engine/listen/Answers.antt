-- Each line stands after those of the places before it.
use Rattle.std.proofs.Common.{◌+◌, ◌∙◌, ◌∷◌, [], ap, length, length-append}
use Rattle.wl_serial.specs.LineAt.{IsLineAt, IsHeard}
use Rattle.wl_serial.proofs.Expected.{each_more}
use Rattle.wl_serial.proofs.engine.listen.Goals as goal

pub loop-j-preserved : goal.loop-j-preserved
loop-j-preserved c =
    let plan = c.args.plan.now in
    let xs = c.loop-j.lines.items in
    let h = c.loop-j.invariant in (
      ap length c.in_ok-push.ensures.items ∙ (length-append xs (c.new.result ∷ []) ∙ ap (λ n. n + 1) h.0),
      each_more (IsLineAt plan) xs c.push.new.self.items c.new.result c.loop-j.j c.in_ok-push.ensures.items h.0 h.1 c.new.ensures.line,
      λ rs. each_more (IsHeard plan rs) xs c.push.new.self.items c.new.result c.loop-j.j c.in_ok-push.ensures.items h.0 (h.2 rs) (c.new.ensures.heard rs),
    )
