-- The changes and the totals of each node of the outcome.
use Rattle.std.proofs.Common.{◌≡◌, ◌∙◌, ap, length, map, sym, List, ℕ}
use Rattle.std.specs.List.{range_with_len}
use Rattle.std.proofs.lemmas.Simd.{map-map}
use Rattle.wl_plan.specs.declared.plan.Plan.{Plan}
use Rattle.wl_plan.specs.PlanLine.{table_of}
use Rattle.wl_serial.specs.declared.outcome.NodeOutcome.{NodeOutcome}
use Rattle.wl_serial.specs.Outcome.{drives_of, node_outcome_of, node_totals, outcome_of, totals_of}
use Rattle.wl_serial.proofs.recorded.run_counted.Goals as goal

pub returns : goal.returns
returns c =
    let plan : Plan = c.args.plan.now in
    let drives : c.in_ok-counted.counted.drives ≡ drives_of (outcome_of plan) =
    c.in_ok-counted.ensures.drives
    ∙ ap (λ (p : Plan). map (table_of p) (range_with_len 0 (length p.nodes))) c.new-checked.ensures
    ∙ sym (map-map (λ (n : NodeOutcome). n.changes) (node_outcome_of plan) (range_with_len 0 (length plan.nodes)))
    in
    let totals : c.in_ok-counted.counted.totals ≡ totals_of (outcome_of plan) =
    c.in_ok-counted.ensures.totals
    ∙ ap (λ (p : Plan). map (λ i. node_totals (node_outcome_of p i)) (range_with_len 0 (length p.nodes))) c.new-checked.ensures
    ∙ sym (map-map node_totals (node_outcome_of plan) (range_with_len 0 (length plan.nodes)))
    in
    λ i. record { drives = drives i; totals = totals i }
