use Rattle.wl_lattice.specs.Numbers.{joined_numbers}
use Rattle.wl_replica.proofs.RowSteps.{AreJoinedTo}
use Rattle.wl_replica.proofs.node_rows.join_edge_rows.Given as goal

-- what is joined in so far
abbrev pub invariant-loop-node : goal.invariant-loop-node
invariant-loop-node l = AreJoinedTo joined_numbers l.fn.rows.items l.fn.others.items l.rows.items l.node
