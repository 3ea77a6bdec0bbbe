-- One part more, up to the thousandth.
use Rattle.std.proofs.Common.{◌≡◌, ◌∙◌, ◌++◌, ℕ, ap, sym, subst, arith, string_bytes}
use Rattle.std.specs.List.{flat_map, range_with_len}
use Rattle.wl_views.specs.Parts.{part_line}
use Rattle.wl_views.proofs.Telling.{one_more}
use Rattle.wl_views.proofs.parts.parts_by.Goals as goal

pub loop-k-preserved : goal.loop-k-preserved
loop-k-preserved c =
    let line = part_line c.args.end c.args.sent.now c.args.errors.now in
    c.in_ok-push_part.ensures ∙ ap (λ was. was ++ line c.loop-k.k) c.loop-k.invariant ∙ sym (one_more line c.loop-k.k)

pub returns : goal.returns
returns c =
    let all : c.loop-k.k ≡ 1000 = omega (arith, c.loop-k-test.false, c.loop-k.auto.k-end) in
    subst (λ (n : ℕ). string_bytes c.loop-k.text ≡ flat_map (part_line c.args.end c.args.sent.now c.args.errors.now) (range_with_len 0 n)) all c.loop-k.invariant
