-- The laws of groups rest on those of tables, slots and the simulation.
use Rattle.wl_group.proofs.GroupProofs.{group_laws}
use Rattle.wl_group.proofs.laws.group_laws.Goals as goal

pub returns : goal.returns
returns c = group_laws c.table_laws.ensures c.slots_laws.ensures c.known_laws.ensures c.simulation_laws.ensures
