use Rattle.wl_replica.proofs.States.{taking}
use Rattle.wl_replica.proofs.laws.taking_is_joining.Goals as goal

pub returns : goal.returns
returns c = taking
