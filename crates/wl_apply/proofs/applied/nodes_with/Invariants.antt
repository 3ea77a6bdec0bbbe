use Rattle.wl_apply.specs.Applied.{node_at}
use Rattle.wl_apply.proofs.Making.{IsSoFar}
use Rattle.wl_apply.proofs.applied.nodes_with.Given as goal

abbrev pub invariant-loop-i : goal.invariant-loop-i
invariant-loop-i l = IsSoFar (node_at l.wide l.chosen l.labels) l.made l.i l.nodes
