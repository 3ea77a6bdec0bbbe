use Rattle.wl_replica.proofs.SlotsOfProofs.{slots_of_states}
use Rattle.wl_replica.proofs.laws.slots_of_states.Goals as goal

pub returns : goal.returns
returns c = slots_of_states
