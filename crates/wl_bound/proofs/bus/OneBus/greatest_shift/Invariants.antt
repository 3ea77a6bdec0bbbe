use Rattle.std.proofs.Common.{◌≡◌, ◌*◌, ◌<◌, max}
use Rattle.wl_bound.specs.Terms.{greatest}
use Rattle.wl_bound.specs.Limits.{drift_limit}
use Rattle.wl_bound.specs.BusTimes.{greatest_lag}
use Rattle.wl_bound.specs.OneBuses.{the_bus}
use Rattle.wl_bound.proofs.bus.OneBus.greatest_shift.Given as goal

abbrev pub invariant-loop-k : goal.invariant-loop-k
invariant-loop-k l = (l.shift ≡ greatest l.k (the_bus l.self).sends (λ k. max (greatest_lag (the_bus l.self) k) (((the_bus l.self).lengths k).sjw * (the_bus l.self).longest k))) × (l.shift < drift_limit)
