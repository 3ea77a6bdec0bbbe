use Rattle.std.proofs.Common.{◌≡◌}
use Rattle.wl_topology.specs.Driven.{any_below}
use Rattle.wl_bound.specs.Covered.{is_uncovered}
use Rattle.wl_bound.proofs.covered.is_covered.Given as goal

-- one of the nodes so far isn't covered
abbrev pub invariant-loop-i : goal.invariant-loop-i
invariant-loop-i l = l.uncovered ≡ any_below l.i (is_uncovered l.plan)
