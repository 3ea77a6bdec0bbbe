use Rattle.std.proofs.Common.{◌≡◌, ◌&&◌, not}
use Rattle.std.specs.Prelude.{◌==◌}
use Rattle.wl_topology.specs.Driven.{any_below}
use Rattle.wl_plan.specs.PlanLine.{setup_at}
use Rattle.wl_bound.specs.Verdicts.{idle_at, is_ready_from}
use Rattle.wl_bound.proofs.covered.finds_one_busy.Given as goal

-- one of the nodes so far isn't
abbrev pub invariant-loop-j : goal.invariant-loop-j
invariant-loop-j l =
    l.finds ≡ any_below l.j
    (λ j. not (j == l.i) && not (is_ready_from (setup_at l.plan l.i) (setup_at l.plan l.i).queue (idle_at (setup_at l.plan j))))
