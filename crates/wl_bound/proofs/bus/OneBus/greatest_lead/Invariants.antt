use Rattle.std.proofs.Common.{◌≡◌, ◌*◌, ◌+◌, ◌-◌, ◌<◌, true}
use Rattle.wl_segments.specs.Lengths.{bit_quanta}
use Rattle.wl_bound.specs.Terms.{greatest}
use Rattle.wl_bound.specs.Limits.{drift_limit}
use Rattle.wl_bound.specs.BusTimes.{greatest_delay}
use Rattle.wl_bound.specs.OneBuses.{the_bus}
use Rattle.wl_bound.proofs.bus.OneBus.greatest_lead.Given as goal

abbrev pub invariant-loop-i : goal.invariant-loop-i
invariant-loop-i l = (l.lead ≡ greatest l.i (λ i. true) (λ i. (bit_quanta ((the_bus l.self).lengths i) - 1) * (the_bus l.self).longest i + greatest_delay (the_bus l.self) i)) × (l.lead < drift_limit)
