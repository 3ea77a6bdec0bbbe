use Rattle.wl_lattice.specs.Numbers.{joined_numbers}
use Rattle.wl_replica.proofs.RowSteps.{IsJoinedTo}
use Rattle.wl_replica.proofs.node_row.Row.join_edges.Given as goal

-- what is joined in so far
abbrev pub invariant-loop-at : goal.invariant-loop-at
invariant-loop-at l = IsJoinedTo joined_numbers l.fn.self l.fn.other l.self l.at
