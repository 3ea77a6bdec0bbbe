use Rattle.std.proofs.Common.{◌≡◌, ◌*◌, ◌<◌, true}
use Rattle.wl_segments.specs.Lengths.{sample_at}
use Rattle.wl_bound.specs.Terms.{greatest}
use Rattle.wl_bound.specs.Limits.{drift_limit}
use Rattle.wl_bound.specs.OneBuses.{the_bus}
use Rattle.wl_bound.proofs.bus.OneBus.longest_sample.Given as goal

abbrev pub invariant-loop-i : goal.invariant-loop-i
invariant-loop-i l = (l.longest ≡ greatest l.i (λ i. true) (λ i. sample_at ((the_bus l.self).lengths i) * (the_bus l.self).longest i)) × (l.longest < drift_limit)
