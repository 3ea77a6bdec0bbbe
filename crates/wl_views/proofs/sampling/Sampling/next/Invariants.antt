use Rattle.std.proofs.Common.{◌≡◌, ◌-◌, ◌+◌, ◌≤◌}
use Rattle.wl_node.specs.Limits.{most_run_quanta}
use Rattle.wl_views.specs.Sampling.{IsSampling, given_by}
use Rattle.wl_views.proofs.sampling.Sampling.next.Given as goal

-- no sample more was seen
abbrev pub invariant-loop-stride : goal.invariant-loop-stride
invariant-loop-stride l = record {
  is : IsSampling l.plan l.i l.self;
  same : given_by l.plan l.i l.self ≡ given_by l.plan l.i l.initial.self;
  later : l.initial.self.quanta ≤ l.self.quanta;
}

abbrev pub decreases-loop-stride : goal.decreases-loop-stride
decreases-loop-stride l = most_run_quanta + 1 - l.self.quanta
