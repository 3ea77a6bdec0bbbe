-- The changes of each node of the outcome.
use Rattle.std.proofs.Common.{◌∙◌, ap, length, map, sym}
use Rattle.std.specs.List.{range_with_len}
use Rattle.std.proofs.lemmas.Simd.{map-map}
use Rattle.wl_plan.specs.declared.plan.Plan.{Plan}
use Rattle.wl_plan.specs.PlanLine.{table_of}
use Rattle.wl_serial.specs.declared.outcome.NodeOutcome.{NodeOutcome}
use Rattle.wl_serial.specs.Outcome.{node_outcome_of}
use Rattle.wl_serial.proofs.recorded.run_drives.Goals as goal

pub returns : goal.returns
returns c =
    c.in_ok-drives.ensures
    ∙ ap (λ (p : Plan). map (table_of p) (range_with_len 0 (length p.nodes))) c.new-checked.ensures
    ∙ sym (map-map (λ (n : NodeOutcome). n.changes) (node_outcome_of c.args.plan.now) (range_with_len 0 (length c.args.plan.now.nodes)))
