use Rattle.wl_replica.proofs.RoundTrip.{merging}
use Rattle.wl_replica.proofs.laws.merging_is_appending.Goals as goal

pub returns : goal.returns
returns c = merging
