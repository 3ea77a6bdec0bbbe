use Rattle.std.proofs.Common.{◌≡◌, map}
use Rattle.std.specs.List.{enumerate_from, flat_map, range_with_len}
use Rattle.wl_serial.specs.Outcome.{node_outcome_of}
use Rattle.wl_serial.specs.Records.{node_records}
use Rattle.wl_serial.proofs.recorded.records_at_end.Given as goal

abbrev pub invariant-loop-i : goal.invariant-loop-i
invariant-loop-i l =
    l.records.items ≡ flat_map (λ (i, node). node_records l.plan.end i node.changes) (enumerate_from 0 (map (node_outcome_of l.plan) (range_with_len 0 l.i)))
