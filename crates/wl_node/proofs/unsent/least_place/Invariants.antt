use Rattle.wl_node.proofs.Unsents.{Found}
use Rattle.wl_node.proofs.unsent.least_place.Given as goal

abbrev pub invariant-loop-k : goal.invariant-loop-k
invariant-loop-k l = Found l.waiting l.k l.place l.least

abbrev pub decreases-loop-k : goal.decreases-loop-k
decreases-loop-k l = l.k
