-- What is said of each node of the outcome.
use Rattle.std.proofs.Common.{◌∙◌, ap, length, map, sym}
use Rattle.std.specs.List.{range_with_len}
use Rattle.std.proofs.lemmas.Simd.{map-map}
use Rattle.wl_plan.specs.declared.plan.Plan.{Plan}
use Rattle.wl_serial.specs.Outcome.{node_outcome_of, node_totals}
use Rattle.wl_serial.proofs.engine.run_totals.Goals as goal

pub returns : goal.returns
returns c =
    c.in_ok-totals.ensures
    ∙ ap (λ (p : Plan). map (λ i. node_totals (node_outcome_of p i)) (range_with_len 0 (length p.nodes))) c.new-checked.ensures
    ∙ sym (map-map node_totals (node_outcome_of c.args.plan.now) (range_with_len 0 (length c.args.plan.now.nodes)))
