use Rattle.wl_setup.proofs.BusLemmas.{buses_are_of_plans}
use Rattle.wl_setup.proofs.laws.buses_of_plans.Goals as goal

pub returns : goal.returns
returns c = buses_are_of_plans
