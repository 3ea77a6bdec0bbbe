use Rattle.wl_replica.proofs.RoundTrip.{slot_by_slot}
use Rattle.wl_replica.proofs.laws.states_join_slot_by_slot.Goals as goal

pub returns : goal.returns
returns c = slot_by_slot
