use Rattle.std.proofs.Common.{◌≡◌, ◌*◌, ◌<◌, true}
use Rattle.wl_bound.specs.Terms.{greatest}
use Rattle.wl_bound.specs.Limits.{drift_limit}
use Rattle.wl_bound.specs.OneBuses.{the_bus}
use Rattle.wl_bound.proofs.bus.OneBus.greatest_wake.Given as goal

abbrev pub invariant-loop-i : goal.invariant-loop-i
invariant-loop-i l = (l.wake ≡ greatest l.i (λ i. true) (λ i. ((the_bus l.self).lengths i).ps2 * (the_bus l.self).longest i)) × (l.wake < drift_limit)
