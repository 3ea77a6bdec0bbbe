use Rattle.std.proofs.Common.{◌≡◌}
use Rattle.wl_topology.specs.Driven.{any_below}
use Rattle.wl_margin.specs.Paces.{is_turning}
use Rattle.wl_margin.proofs.paces.any_turning.Given as goal

-- one of the nodes so far
abbrev pub invariant-loop-i : goal.invariant-loop-i
invariant-loop-i l = l.turning ≡ any_below l.i (is_turning l.deviations)
