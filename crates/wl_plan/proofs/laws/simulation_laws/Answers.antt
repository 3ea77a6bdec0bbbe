-- The laws of the simulation rest on those of lines and of tables.
use Rattle.wl_plan.proofs.QuantumProofs.{simulation_laws}
use Rattle.wl_plan.proofs.laws.simulation_laws.Goals as goal

pub returns : goal.returns
returns c = simulation_laws c.driven_laws.ensures c.table_laws.ensures
