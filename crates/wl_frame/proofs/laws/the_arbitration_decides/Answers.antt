use Rattle.wl_frame.proofs.Deciding.{decides}
use Rattle.wl_frame.proofs.laws.the_arbitration_decides.Goals as goal

pub returns : goal.returns
returns c = decides
