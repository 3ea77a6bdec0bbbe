use Rattle.std.proofs.Common.{◌≡◌}
use Rattle.wl_topology.specs.Driven.{any_below}
use Rattle.wl_bound.specs.Rooms.{is_crowded}
use Rattle.wl_bound.specs.OneBuses.{the_bus}
use Rattle.wl_bound.proofs.bus.OneBus.is_crowded_by_any.Given as goal

-- one of the nodes so far
abbrev pub invariant-loop-k : goal.invariant-loop-k
invariant-loop-k l = l.crowded ≡ any_below l.k (is_crowded (the_bus l.self) l.i)
