use Rattle.wl_bound.specs.Kept.{AreOfNodes, AreOfPairs}
use Rattle.wl_bound.specs.OneBuses.{the_bus}
use Rattle.wl_bound.proofs.bus.OneBus.all_terms.Given as goal

-- the nodes so far
abbrev pub invariant-loop-i : goal.invariant-loop-i
invariant-loop-i l = AreOfNodes l.i (the_bus l.self) l.of_nodes.items × AreOfPairs l.i (the_bus l.self) l.of_pairs.items
