use Rattle.std.proofs.Common.{◌≡◌, ◌++◌, take}
use Rattle.wl_serial.specs.Records.{edges_from}
use Rattle.wl_serial.proofs.records.push_node.Given as goal

abbrev pub invariant-loop-seq : goal.invariant-loop-seq
invariant-loop-seq l = l.records.items ≡ l.fn.records.items ++ edges_from l.node 0 (take l.seq l.changes)
