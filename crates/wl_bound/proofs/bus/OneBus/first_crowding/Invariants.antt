use Rattle.std.proofs.Common.{◌≡◌, ◌<◌}
use Rattle.std.specs.Prelude.{IfSome}
use Rattle.wl_level.specs.Places.{first_place}
use Rattle.wl_bound.specs.Rooms.{is_crowded}
use Rattle.wl_bound.specs.OneBuses.{the_bus}
use Rattle.wl_bound.proofs.bus.OneBus.first_crowding.Given as goal

-- the first of the nodes so far
abbrev pub invariant-loop-k : goal.invariant-loop-k
invariant-loop-k l = (l.first ≡ first_place (is_crowded (the_bus l.self) l.i) l.k) × IfSome l.first (λ k. k < (the_bus l.self).nodes)
