use Rattle.wl_replica.proofs.RoundTrip.{state_again}
use Rattle.wl_replica.proofs.laws.canonical_determines_the_state.Goals as goal

pub returns : goal.returns
returns c = state_again
