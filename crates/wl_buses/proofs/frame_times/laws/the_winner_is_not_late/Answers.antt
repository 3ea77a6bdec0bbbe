use Rattle.wl_buses.proofs.FrameEnd.Below.{MachineLaws}
use Rattle.wl_buses.proofs.FrameTimes.Lasting.{winner_next}
use Rattle.wl_buses.proofs.FrameTimes.Places.{bit_in_time, slot_by_jump}
use Rattle.wl_buses.proofs.frame_times.laws.the_winner_is_not_late.Goals as goal

pub returns-clause-bits : goal.returns-clause-bits
returns-clause-bits c = λ s f are room b n low other.
    (let m : MachineLaws = record {
      steps = c.machines_stay_in_step.ensures.step;
      errors = c.machines_stay_in_step.ensures.errors;
      winner = c.the_least_field_wins.ensures;
      stuffed = c.a_transmitter_sends_its_head_stuffed.ensures.sent;
      found = c.a_transmitter_sends_its_head_stuffed.ensures.found;
      six = c.a_front_of_no_stuffing_ends_six_equal_bits.ensures;
      ten = c.ten_bits_have_an_edge.ensures.ten;
      driven = c.driven_laws.ensures;
    } in
    bit_in_time m s are room f.outset b.outset f.bits b.ends.none b.ends.there b.won b.chase b.answer.catch b.answer.room b.room n low other)

pub returns-clause-slot : goal.returns-clause-slot
returns-clause-slot c = λ s f are room b.
    (let m : MachineLaws = record {
      steps = c.machines_stay_in_step.ensures.step;
      errors = c.machines_stay_in_step.ensures.errors;
      winner = c.the_least_field_wins.ensures;
      stuffed = c.a_transmitter_sends_its_head_stuffed.ensures.sent;
      found = c.a_transmitter_sends_its_head_stuffed.ensures.found;
      six = c.a_front_of_no_stuffing_ends_six_equal_bits.ensures;
      ten = c.ten_bits_have_an_edge.ensures.ten;
      driven = c.driven_laws.ensures;
    } in
    slot_by_jump m s are room f.outset b.outset f.bits b.ends.none b.ends.there b.won b.chase b.answer.catch b.answer.room b.room)

pub returns-clause-frame : goal.returns-clause-frame
returns-clause-frame c = λ s f are room b.
    (let m : MachineLaws = record {
      steps = c.machines_stay_in_step.ensures.step;
      errors = c.machines_stay_in_step.ensures.errors;
      winner = c.the_least_field_wins.ensures;
      stuffed = c.a_transmitter_sends_its_head_stuffed.ensures.sent;
      found = c.a_transmitter_sends_its_head_stuffed.ensures.found;
      six = c.a_front_of_no_stuffing_ends_six_equal_bits.ensures;
      ten = c.ten_bits_have_an_edge.ensures.ten;
      driven = c.driven_laws.ensures;
    } in
    winner_next m s are room f b)
