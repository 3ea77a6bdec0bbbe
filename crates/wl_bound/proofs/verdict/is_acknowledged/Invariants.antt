use Rattle.std.proofs.Common.{◌≡◌}
use Rattle.wl_topology.specs.Driven.{any_below}
use Rattle.wl_bound.specs.Verdicts.{acknowledges}
use Rattle.wl_bound.proofs.verdict.is_acknowledged.Given as goal

-- one of the nodes so far acknowledges
abbrev pub invariant-loop-j : goal.invariant-loop-j
invariant-loop-j l = l.is ≡ any_below l.j (acknowledges l.plan l.i)
