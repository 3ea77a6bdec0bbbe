use Rattle.wl_heal.proofs.Tails.{received_if, sent_if}
use Rattle.wl_heal.proofs.laws.who_has_a_frame_at_its_end.Goals as goal

pub returns : goal.returns
returns h = record {
  received = λ w c own s k frame sound heads active e lt ne. received_if h.a_sent_frame_is_the_head_that_began_its_stretch.ensures w c own s frame sound heads active e k lt ne;
  sent = λ w c own s frame sound heads active e. sent_if h.a_sent_frame_is_the_head_that_began_its_stretch.ensures w c own s frame sound heads active e;
}
