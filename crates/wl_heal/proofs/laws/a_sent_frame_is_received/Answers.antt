use Rattle.wl_heal.proofs.Received.{received}
use Rattle.wl_heal.proofs.laws.a_sent_frame_is_received.Goals as goal

pub returns : goal.returns
returns h = λ w c s j start n frame sound heads ne ts tj sent clear.
    received h.a_sent_frame_is_the_head_that_began_its_stretch.ensures w c s j n frame start ts tj sent clear sound heads ne
