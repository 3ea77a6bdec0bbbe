use Rattle.std.proofs.Common.{◌≡◌, ◌<◌}
use Rattle.wl_bound.specs.Terms.{greatest, sends_but}
use Rattle.wl_bound.specs.Limits.{trip_limit}
use Rattle.wl_bound.specs.BusTimes.{following_time}
use Rattle.wl_bound.specs.OneBuses.{the_bus}
use Rattle.wl_bound.proofs.bus.OneBus.longest_following.Given as goal

abbrev pub invariant-loop-a : goal.invariant-loop-a
invariant-loop-a l = (l.longest ≡ greatest l.a (sends_but (the_bus l.self) l.k) (following_time (the_bus l.self) l.k l.i)) × (l.longest < trip_limit)
