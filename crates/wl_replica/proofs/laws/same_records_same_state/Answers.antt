use Rattle.wl_replica.proofs.States.{same_state}
use Rattle.wl_replica.proofs.laws.same_records_same_state.Goals as goal

pub returns : goal.returns
returns c = same_state
