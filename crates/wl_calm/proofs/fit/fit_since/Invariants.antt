use Rattle.std.proofs.Common.{◌+◌, ◌-◌}
use Rattle.wl_node.specs.Limits.{most_run_quanta}
use Rattle.wl_plan.specs.PlanLine.{setup_at}
use Rattle.wl_views.specs.Sampling.{IsSampling, given_by, quanta_sampled}
use Rattle.wl_calm.specs.Kept.{IsFit}
use Rattle.wl_calm.proofs.fit.fit_since.Given as goal

-- what is kept is that of the samples so far
abbrev pub invariant-loop-sample : goal.invariant-loop-sample
invariant-loop-sample l = record {
  is : IsSampling l.plan l.i l.samples;
  kept : IsFit (setup_at l.plan l.i) (given_by l.plan l.i l.samples) l.seen;
}

abbrev pub decreases-loop-sample : goal.decreases-loop-sample
decreases-loop-sample l = most_run_quanta + 1 - quanta_sampled l.samples
