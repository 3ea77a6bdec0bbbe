use Rattle.wl_buses.proofs.FrameEnd.Below.{MachineLaws}
use Rattle.wl_buses.proofs.NextFrames.Winning.{another, begun_by}
use Rattle.wl_buses.proofs.next_frames.begun.another_frame_follows.Goals as goal

pub returns-clause-first : goal.returns-clause-first
returns-clause-first c = λ s o chase are room enough is.
    (let m : MachineLaws = record {
      steps = c.machines_stay_in_step.ensures.step;
      errors = c.machines_stay_in_step.ensures.errors;
      winner = c.the_least_field_wins.ensures;
      stuffed = c.a_transmitter_sends_its_head_stuffed.ensures.sent;
      found = c.a_transmitter_sends_its_head_stuffed.ensures.found;
      six = c.a_front_of_no_stuffing_ends_six_equal_bits.ensures;
      ten = c.ten_bits_have_an_edge.ensures.ten;
      driven = c.driven_laws.ensures;
    } in
    begun_by m c.one_frame_is_left.ensures c.what_is_expected_is_a_course.ensures c.all_sample_the_same_bits.ensures c.the_stuffed_part_ends.ensures s o chase are room enough is)

pub returns-clause-next : goal.returns-clause-next
returns-clause-next c = λ s a chase sent decides are room enough is more.
    (let m : MachineLaws = record {
      steps = c.machines_stay_in_step.ensures.step;
      errors = c.machines_stay_in_step.ensures.errors;
      winner = c.the_least_field_wins.ensures;
      stuffed = c.a_transmitter_sends_its_head_stuffed.ensures.sent;
      found = c.a_transmitter_sends_its_head_stuffed.ensures.found;
      six = c.a_front_of_no_stuffing_ends_six_equal_bits.ensures;
      ten = c.ten_bits_have_an_edge.ensures.ten;
      driven = c.driven_laws.ensures;
    } in
    another m c.one_frame_is_left.ensures c.what_is_expected_is_a_course.ensures c.all_sample_the_same_bits.ensures c.the_stuffed_part_ends.ensures c.resting_stations_begin_the_next_frame.ensures.outset
    (λ s a sent decides are room f more. c.stations_rest_after_a_frame.ensures.rest s a.outset a.bits f.chase sent decides are room f.outset f.ends f.won f.answer f.room more)
    (λ s a are room f. c.stations_rest_after_a_frame.ensures.free s a.outset a.bits are room f.outset f.ends f.won) s a chase sent decides are room enough is more)
