use Rattle.std.proofs.Common.{◌≡◌}
use Rattle.wl_topology.specs.Driven.{any_below}
use Rattle.wl_bound.specs.OneBuses.{the_bus}
use Rattle.wl_bound.proofs.bus.OneBus.any_sends.Given as goal

-- one of the nodes so far does
abbrev pub invariant-loop-a : goal.invariant-loop-a
invariant-loop-a l = l.sends ≡ any_below l.a (the_bus l.self).sends
