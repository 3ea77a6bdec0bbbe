use Rattle.std.proofs.Common.{◌≡◌}
use Rattle.wl_topology.specs.Delays.{delay_of}
use Rattle.wl_onward.specs.Silences.{greatest_below}
use Rattle.wl_calm.proofs.ticks.way_to.Given as goal

-- from the nodes so far
abbrev pub invariant-loop-k : goal.invariant-loop-k
invariant-loop-k l = l.way ≡ greatest_below (λ k. delay_of l.plan.topology k l.i) l.k
