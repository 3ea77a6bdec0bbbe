use Rattle.std.proofs.Common.{◌≡◌, take}
use Rattle.std.specs.List.{enumerate_from, flat_map}
use Rattle.wl_serial.specs.Records.{node_records}
use Rattle.wl_serial.proofs.records.records_of.Given as goal

abbrev pub invariant-loop-i : goal.invariant-loop-i
invariant-loop-i l = l.records.items ≡ flat_map (λ (i, node). node_records l.outcome.end i node.changes) (enumerate_from 0 (take l.i l.outcome.nodes))
