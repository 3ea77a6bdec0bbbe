use Rattle.std.proofs.Common.{◌≡◌, ◌<◌}
use Rattle.std.specs.Prelude.{IfSome}
use Rattle.wl_level.specs.Places.{first_place}
use Rattle.wl_bound.specs.Rooms.{falls_behind}
use Rattle.wl_bound.specs.OneBuses.{the_bus}
use Rattle.wl_bound.proofs.bus.OneBus.first_ahead.Given as goal

-- the first of the nodes so far
abbrev pub invariant-loop-w : goal.invariant-loop-w
invariant-loop-w l = (l.first ≡ first_place (falls_behind (the_bus l.self) l.i) l.w) × IfSome l.first (λ w. w < (the_bus l.self).nodes)
