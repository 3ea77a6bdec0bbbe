use Rattle.std.proofs.Common.{◌≡◌, ◌&&◌}
use Rattle.wl_topology.specs.Driven.{any_below}
use Rattle.wl_plan.specs.PlanLine.{setup_at}
use Rattle.wl_bound.specs.Verdicts.{acknowledges, idle_at, is_ready_from}
use Rattle.wl_bound.proofs.verdict.finds_one_idle.Given as goal

-- one of the nodes so far is
abbrev pub invariant-loop-j : goal.invariant-loop-j
invariant-loop-j l =
    l.finds ≡ any_below l.j
    (λ j. acknowledges l.plan l.i j && is_ready_from (setup_at l.plan l.i) (setup_at l.plan l.i).queue (idle_at (setup_at l.plan j)))
