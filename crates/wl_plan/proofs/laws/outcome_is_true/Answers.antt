-- The outcome's records rest on the laws of the simulation.
use Rattle.wl_plan.proofs.OutcomeProofs.{outcome_is_true}
use Rattle.wl_plan.proofs.laws.outcome_is_true.Goals as goal

pub returns : goal.returns
returns c = outcome_is_true c.simulation_laws.ensures
