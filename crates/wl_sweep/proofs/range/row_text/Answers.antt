use Rattle.std.proofs.Common.{◌∙◌, ap, arith, rules, w64, SFits}
use Rattle.std.proofs.lemmas.Int.{to_z-of_z}
use Rattle.wl_sweep.specs.Changes.{text_with}
use Rattle.wl_sweep.proofs.Placed.{row_text_more}
use Rattle.wl_sweep.proofs.range.row_text.Goals as goal

pub loop-i-preserved : goal.loop-i-preserved
loop-i-preserved c =
    let g = c.index-ranges-i.result in
    let fits : SFits w64 c.row_value-value.result = first_of (search rules, grind arith) in
    row_text_more c.args.row c.args.ranges.now c.loop-i.i c.loop-i.made c.in_ok-made-2.made g c.loop-i-test.true c.index-ranges-i.is
    (c.in_ok-made-2.ensures
    ∙ ap (λ v. text_with g.key g.named v c.loop-i.made)
    (to_z-of_z w64 c.row_value-value.result fits ∙ c.row_value-value.ensures g c.index-ranges-i.is))
    ∙ c.loop-i.invariant
