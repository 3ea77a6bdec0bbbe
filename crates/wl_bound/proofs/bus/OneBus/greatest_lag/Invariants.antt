use Rattle.std.proofs.Common.{◌≡◌, ◌<◌, ◌==◌, not}
use Rattle.wl_bound.specs.Terms.{greatest}
use Rattle.wl_bound.specs.Limits.{trip_limit}
use Rattle.wl_bound.specs.BusTimes.{lag_time}
use Rattle.wl_bound.specs.OneBuses.{the_bus}
use Rattle.wl_bound.proofs.bus.OneBus.greatest_lag.Given as goal

abbrev pub invariant-loop-i : goal.invariant-loop-i
invariant-loop-i l = (l.lag ≡ greatest l.i (λ i. not (i == l.k)) (lag_time (the_bus l.self) l.k)) × (l.lag < trip_limit)
