use Rattle.std.proofs.Common.{ℕ, ◌+◌, ◌*◌, ◌<◌, get_or}
use Rattle.wl_topology.specs.Limits.{most_places}
use Rattle.wl_bound.specs.Evaluated.{AreWaysOfBus, IsWay}
use Rattle.wl_bound.specs.OneBuses.{the_bus}
use Rattle.wl_bound.proofs.bus.OneBus.put_ways.Given as goal

-- the rows before, and of this row the nodes so far
abbrev pub invariant-loop-j : goal.invariant-loop-j
invariant-loop-j l = AreWaysOfBus l.i (the_bus l.self) l.ways × ((k d : ℕ) → k < l.j → IsWay (the_bus l.self) l.i k (get_or l.ways (most_places * l.i + k) d))
