use Rattle.std.proofs.Common.{◌≡◌, ◌++◌, drop}
use Rattle.wl_sweep.proofs.change.nodes_same.Given as goal

abbrev pub invariant-loop-node : goal.invariant-loop-node
invariant-loop-node l = l.copies ++ drop l.node-index l.nodes ≡ l.nodes
