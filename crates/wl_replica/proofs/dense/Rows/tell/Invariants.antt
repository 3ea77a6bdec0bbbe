use Rattle.std.proofs.Common.{◌≡◌, ◌++◌}
use Rattle.std.specs.List.{flat_map}
use Rattle.std.specs.FinMap.{entries}
use Rattle.wl_replica.specs.Canonical.{canonical, records_of_node}
use Rattle.wl_replica.proofs.Telling.{nodes_from}
use Rattle.wl_replica.proofs.dense.Rows.tell.Given as goal

-- what was added so far, and what the nodes that are left add
abbrev pub invariant-loop-node : goal.invariant-loop-node
invariant-loop-node g l =
    g.S.RecordSink.parts l.sink ++ nodes_from g.S.RecordSink.line (records_of_node (entries l.fn.self.edges) (entries l.fn.self.silences)) l.fn.self.nodes l.node
    ≡ g.S.RecordSink.parts l.fn.sink ++ flat_map g.S.RecordSink.line (canonical l.fn.self)
