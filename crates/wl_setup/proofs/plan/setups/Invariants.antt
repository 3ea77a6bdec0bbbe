use Rattle.wl_setup.specs.Plans.{setup_of}
use Rattle.wl_setup.proofs.PlanLemmas.{IsSoFar}
use Rattle.wl_setup.proofs.plan.setups.Given as goal

abbrev pub invariant-loop-i : goal.invariant-loop-i
invariant-loop-i l = IsSoFar (setup_of l.plan) l.setups l.i l.plan.node
