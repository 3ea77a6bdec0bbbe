use Rattle.wl_frame.proofs.OneStuffing.{one_stuffing}
use Rattle.wl_frame.proofs.laws.a_list_has_one_stuffing.Goals as goal

pub returns : goal.returns
returns c = one_stuffing
