use Rattle.wl_proved.proofs.Longest.{few_stuffed}
use Rattle.wl_proved.proofs.laws.no_frame_has_more_bits.Goals as goal

pub returns : goal.returns
returns c = few_stuffed c.a_front_is_read_to_its_end.ensures.sent
