use Rattle.std.proofs.Common.{◌≡◌, ◌<◌, ◌==◌, not}
use Rattle.wl_bound.specs.Terms.{greatest}
use Rattle.wl_bound.specs.Limits.{delay_limit}
use Rattle.wl_bound.specs.OneBuses.{the_bus}
use Rattle.wl_bound.proofs.bus.OneBus.greatest_delay.Given as goal

abbrev pub invariant-loop-k : goal.invariant-loop-k
invariant-loop-k l = (l.delay ≡ greatest l.k (λ k. not (k == l.i)) ((the_bus l.self).delay l.i)) × (l.delay < delay_limit)
