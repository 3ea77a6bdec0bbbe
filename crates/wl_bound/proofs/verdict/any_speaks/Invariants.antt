use Rattle.std.proofs.Common.{◌≡◌}
use Rattle.wl_topology.specs.Driven.{any_below}
use Rattle.wl_bound.specs.Verdicts.{speaks}
use Rattle.wl_bound.proofs.verdict.any_speaks.Given as goal

-- one of the nodes so far doesn't only listen
abbrev pub invariant-loop-i : goal.invariant-loop-i
invariant-loop-i l = l.any ≡ any_below l.i (speaks l.plan)
