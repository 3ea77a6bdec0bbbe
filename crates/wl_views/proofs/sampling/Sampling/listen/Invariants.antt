use Rattle.std.proofs.Common.{◌≡◌, ◌-◌}
use Rattle.wl_views.specs.Sampling.{IsSampling}
use Rattle.wl_views.proofs.sampling.Sampling.listen.Given as goal

-- no quantum more was seen
abbrev pub invariant-loop-self : goal.invariant-loop-self
invariant-loop-self l = record {
  is : IsSampling l.plan l.i l.self;
  quanta : l.self.quanta ≡ l.initial.self.quanta;
}

abbrev pub decreases-loop-self : goal.decreases-loop-self
decreases-loop-self l = l.plan.end - l.self.until
