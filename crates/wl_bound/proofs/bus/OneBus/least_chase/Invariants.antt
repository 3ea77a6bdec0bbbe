use Rattle.std.proofs.Common.{◌≡◌, ◌<◌}
use Rattle.wl_bound.specs.Terms.{greatest, sends_but}
use Rattle.wl_bound.specs.Rooms.{edges_to}
use Rattle.wl_bound.specs.OneBuses.{the_bus}
use Rattle.wl_bound.specs.Limits.{way_limit}
use Rattle.wl_bound.proofs.bus.OneBus.least_chase.Given as goal

-- the most of the senders so far
abbrev pub invariant-loop-w : goal.invariant-loop-w
invariant-loop-w l = (l.most ≡ greatest l.w (sends_but (the_bus l.self) l.k) (edges_to (the_bus l.self) l.k)) × (l.most < way_limit)
