-- One place more is silent, and the others are up to an earlier tick too.
use Rattle.std.proofs.Common.{◌<◌, inl, inr, length, get_or, sym, subst, arith}
use Rattle.std.proofs.lemmas.Bool.{cases_eq}
use Rattle.wl_serial.specs.QuietLine.{IsSilent}
use Rattle.wl_serial.proofs.Resting.{silent_less}
use Rattle.wl_serial.proofs.quiet_line.all_silent_until.Goals as goal

pub loop-j-preserved : goal.loop-j-preserved
loop-j-preserved c k d b =
    let plan = c.args.plan.now in
    let rs = c.args.running.now in
    let j = c.loop-j.j in
    let here : j < length c.args.lines.now = c.loop-j-test.true in
    let min = c.min-until.ensures in
    elim (cases_eq k j) [
      | inl own ↦
          subst (λ n. IsSilent plan rs n (get_or rs n d).next c.min-until.result) (sym own)
          (silent_less plan rs j (get_or rs j d).next c.min-until.result c.silent_until.result (omega (arith, min))
          (c.silent_until.ensures plan d (c.requires.lines.each j _ here) (c.requires.heard j _ here)))
      | inr other ↦ silent_less plan rs k (get_or rs k d).next c.min-until.result c.loop-j.until (omega (arith, min)) (c.loop-j.invariant k d (omega (arith, b, other)))
    ]
