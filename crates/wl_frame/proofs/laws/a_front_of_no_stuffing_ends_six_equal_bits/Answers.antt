use Rattle.wl_frame.proofs.OneStuffing.{six_or_front}
use Rattle.wl_frame.proofs.laws.a_front_of_no_stuffing_ends_six_equal_bits.Goals as goal

pub returns : goal.returns
returns c = six_or_front
