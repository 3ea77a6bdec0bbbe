use Rattle.std.proofs.Common.{◌≡◌}
use Rattle.wl_topology.specs.Driven.{any_below}
use Rattle.wl_bound.specs.Rooms.{falls_behind}
use Rattle.wl_bound.specs.OneBuses.{the_bus}
use Rattle.wl_bound.proofs.bus.OneBus.falls_behind_any.Given as goal

-- with one of the senders so far
abbrev pub invariant-loop-w : goal.invariant-loop-w
invariant-loop-w l = l.falls ≡ any_below l.w (falls_behind (the_bus l.self) l.i)
