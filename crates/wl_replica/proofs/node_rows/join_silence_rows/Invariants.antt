use Rattle.std.proofs.Common.{max}
use Rattle.wl_replica.proofs.RowSteps.{AreJoinedTo}
use Rattle.wl_replica.proofs.node_rows.join_silence_rows.Given as goal

-- what is joined in so far
abbrev pub invariant-loop-node : goal.invariant-loop-node
invariant-loop-node l = AreJoinedTo max l.fn.rows.items l.fn.others.items l.rows.items l.node
