use Rattle.wl_setup.specs.Plans.{rate_in}
use Rattle.wl_setup.proofs.PlanLemmas.{IsMadeSoFar}
use Rattle.wl_setup.proofs.plan.rates.Given as goal

abbrev pub invariant-loop-text : goal.invariant-loop-text
invariant-loop-text l = IsMadeSoFar (rate_in l.i) l.rates l.text-index l.texts
