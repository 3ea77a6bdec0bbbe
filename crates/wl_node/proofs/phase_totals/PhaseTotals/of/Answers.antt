use Rattle.std.proofs.Common.{◌≡◌, ◌∙◌, ap, rules, get_or, sym, take, ℕ, ◌++◌, ◌∷◌, [], pos, to_z, of_z, SFits, w16, ℤ}
use Rattle.std.proofs.lemmas.Int.{to_z-of_z}
use Rattle.std.proofs.lemmas.List.{take_more}
use Rattle.wl_node.specs.Extremes.{phase_totals}
use Rattle.wl_node.proofs.phase_totals.PhaseTotals.of.Goals as goal

pub loop-error-preserved : goal.loop-error-preserved
loop-error-preserved c =
    let edge : ℕ × ℤ = get_or c.args.phases.now c.loop-error.error-index (0, pos 0) in
    let error_fits : SFits w16 edge.1 = search rules in
    let error : to_z w16 (of_z w16 edge.1) ≡ edge.1 = to_z-of_z w16 edge.1 error_fits in
    c.add.ensures.totals (take c.loop-error.error-index c.args.phases.now) edge.0 c.loop-error.invariant
    ∙ ap (λ (e : ℤ). phase_totals (take c.loop-error.error-index c.args.phases.now ++ (edge.0, e) ∷ [])) error
    ∙ ap phase_totals (sym (take_more c.args.phases.now c.loop-error.error-index (0, pos 0) c.loop-error-test.true))
