use Rattle.wl_replica.proofs.States.{joining}
use Rattle.wl_replica.proofs.laws.joining_is_a_join.Goals as goal

pub returns : goal.returns
returns c = joining
