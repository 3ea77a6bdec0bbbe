use Rattle.std.proofs.Common.{◌≡◌, false, nat_lt}
use Rattle.wl_topology.specs.Delays.{disturbance_delay}
use Rattle.wl_topology.specs.Driven.{any_below}
use Rattle.wl_topology.specs.Limits.{longest_delay}
use Rattle.wl_plan.proofs.plan.Plan.is_far_from.Given as goal

abbrev pub invariant-loop-j : goal.invariant-loop-j
invariant-loop-j l = any_below l.j (λ j. nat_lt longest_delay (disturbance_delay l.self.topology l.x j)) ≡ false
