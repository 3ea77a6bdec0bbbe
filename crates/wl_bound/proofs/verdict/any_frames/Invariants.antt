use Rattle.std.proofs.Common.{◌≡◌}
use Rattle.wl_topology.specs.Driven.{any_below}
use Rattle.wl_bound.specs.Verdicts.{sends_something}
use Rattle.wl_bound.proofs.verdict.any_frames.Given as goal

-- one of the nodes so far sends
abbrev pub invariant-loop-i : goal.invariant-loop-i
invariant-loop-i l = l.any ≡ any_below l.i (sends_something l.plan)
