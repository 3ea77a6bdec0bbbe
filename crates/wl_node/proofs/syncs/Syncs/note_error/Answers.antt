use Rattle.std.proofs.Common.{◌∙◌, ◌++◌, ◌∷◌, [], ap, rules, SFits, w16}
use Rattle.std.proofs.lemmas.Int.{to_z-of_z}
use Rattle.wl_node.specs.Extremes.{phase_totals}
use Rattle.wl_node.proofs.syncs.Syncs.note_error.Goals as goal

pub returns-else-self-clause-totals : goal.returns-else-self-clause-totals
returns-else-self-clause-totals c phases is =
    let error_fits : SFits w16 c.args.error = search rules in
    c.add.ensures.totals phases c.args.quantum is
    ∙ ap (λ e. phase_totals (phases ++ (c.args.quantum, e) ∷ [])) (to_z-of_z w16 c.args.error error_fits)
