use Rattle.wl_wire.proofs.Run.{have_one_winner}
use Rattle.wl_wire.proofs.laws.the_least_field_wins.Goals as goal

pub returns : goal.returns
returns c = have_one_winner c.the_arbitration_decides.ensures c.a_sent_frame_is_the_head_that_began_its_stretch.ensures
