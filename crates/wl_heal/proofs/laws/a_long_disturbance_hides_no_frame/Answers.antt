use Rattle.wl_heal.proofs.LongHits.{received_all_the_same}
use Rattle.wl_heal.proofs.laws.a_long_disturbance_hides_no_frame.Goals as goal

pub returns : goal.returns
returns h = λ w c s j start n from many frame sound heads ne ts tj sent step six most hs hj.
    received_all_the_same h.a_sent_frame_is_the_head_that_began_its_stretch.ensures w c s j n frame start ts tj sent from many six most hs hj step sound heads ne
