use Rattle.wl_setup.proofs.BusLemmas.{counted}
use Rattle.wl_setup.proofs.plan_text.PlanText.bus.Goals as goal

pub returns-clause-deviations : goal.returns-clause-deviations
returns-clause-deviations c = counted c.args.self.now c.in_ok-plan.plan c.in_ok-deviations.deviations c.in_ok-plan.ensures.answer (rw c.as_slice.ensures at c.in_ok-deviations.ensures)
