-- The laws of slots rest on those of tables.
use Rattle.wl_replica.proofs.TrueSlots.{known_laws}
use Rattle.wl_replica.proofs.laws.known_laws.Goals as goal

pub returns : goal.returns
returns c = known_laws c.table_laws.ensures
