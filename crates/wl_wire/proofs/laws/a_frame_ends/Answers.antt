use Rattle.wl_wire.proofs.Run.{frames_end}
use Rattle.wl_wire.proofs.laws.a_frame_ends.Goals as goal

pub returns : goal.returns
returns c = frames_end c.the_arbitration_decides.ensures c.a_sent_frame_is_the_head_that_began_its_stretch.ensures
