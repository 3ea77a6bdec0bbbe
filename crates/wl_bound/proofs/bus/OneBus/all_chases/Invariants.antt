use Rattle.wl_bound.specs.Kept.{AreChases}
use Rattle.wl_bound.specs.OneBuses.{the_bus}
use Rattle.wl_bound.proofs.bus.OneBus.all_chases.Given as goal

-- the nodes so far
abbrev pub invariant-loop-k : goal.invariant-loop-k
invariant-loop-k l = AreChases l.k (the_bus l.self) l.edges
