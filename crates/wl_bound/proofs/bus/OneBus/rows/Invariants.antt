use Rattle.wl_bound.specs.Evaluated.{AreCaught, AreWaysOfBus}
use Rattle.wl_bound.specs.OneBuses.{the_bus}
use Rattle.wl_bound.proofs.bus.OneBus.rows.Given as goal

-- the nodes so far
abbrev pub invariant-loop-i : goal.invariant-loop-i
invariant-loop-i l = AreWaysOfBus l.i (the_bus l.self) l.ways.items × AreCaught l.i (the_bus l.self) l.early l.edges
