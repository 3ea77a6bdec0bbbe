use Rattle.std.proofs.Common.{◌≡◌, length, map}
use Rattle.std.specs.List.{range_with_len}
use Rattle.wl_plan.specs.PlanLine.{table_of}
use Rattle.wl_serial.specs.Outcome.{node_outcome_of, node_totals}
use Rattle.wl_serial.proofs.recorded.counted_at_end.Given as goal

abbrev pub invariant-loop-r : goal.invariant-loop-r
invariant-loop-r l = record {
  drives : l.drives ≡ map (table_of l.plan) (range_with_len 0 (length l.yielded));
  totals : l.totals ≡ map (λ i. node_totals (node_outcome_of l.plan i)) (range_with_len 0 (length l.yielded));
}
