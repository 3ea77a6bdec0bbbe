use Rattle.wl_wire.proofs.Run.{all_got}
use Rattle.wl_wire.proofs.laws.all_get_each_frame.Goals as goal

pub returns : goal.returns
returns c = all_got c.the_arbitration_decides.ensures c.a_sent_frame_is_the_head_that_began_its_stretch.ensures
