use Rattle.wl_frame.proofs.Reading.{front_none, front_more, front_room, covered_some, sent_whole, arbitration_over}
use Rattle.wl_frame.proofs.laws.a_front_is_read_to_its_end.Goals as goal

pub returns : goal.returns
returns c = record {
  none = front_none;
  more = λ bits bit h. front_more bits bit h.0 h.1;
  room = λ bits h. front_room bits h.0 h.1;
  least = covered_some;
  sent = sent_whole;
  over = arbitration_over;
}
