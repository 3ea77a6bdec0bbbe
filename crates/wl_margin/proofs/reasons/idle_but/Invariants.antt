use Rattle.std.proofs.Common.{◌≡◌, ◌^◌, ◌<◌}
use Rattle.std.specs.Prelude.{◌==◌, not}
use Rattle.wl_plan.specs.PlanLine.{setup_at}
use Rattle.wl_bound.specs.Terms.{greatest}
use Rattle.wl_bound.specs.Verdicts.{idle_at}
use Rattle.wl_margin.proofs.reasons.idle_but.Given as goal

-- the latest of the nodes so far
abbrev pub invariant-loop-j : goal.invariant-loop-j
invariant-loop-j l = (l.latest ≡ greatest l.j (λ j. not (j == l.i)) (λ j. idle_at (setup_at l.plan j))) × (l.latest < 2 ^ 40)
