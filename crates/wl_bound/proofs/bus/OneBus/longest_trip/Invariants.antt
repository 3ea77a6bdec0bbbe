use Rattle.std.proofs.Common.{◌≡◌, ◌<◌}
use Rattle.wl_bound.specs.Terms.{greatest, sends_but, trip}
use Rattle.wl_bound.specs.OneBuses.{the_bus}
use Rattle.wl_bound.specs.Limits.{trip_limit}
use Rattle.wl_bound.proofs.bus.OneBus.longest_trip.Given as goal

-- the longest trip over the senders so far
abbrev pub invariant-loop-k : goal.invariant-loop-k
invariant-loop-k l =
    (l.longest ≡ greatest l.k (sends_but (the_bus l.self) l.j) (trip (the_bus l.self) l.i l.j)) × (l.longest < trip_limit)
