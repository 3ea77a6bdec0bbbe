use Rattle.wl_buses.proofs.FrameEnd.Below.{MachineLaws}
use Rattle.wl_buses.proofs.SentFrames.Winning.{begun_with}
use Rattle.wl_buses.proofs.sent_frames.winners.the_winner_sends_the_frame_that_it_began.Goals as goal

pub returns : goal.returns
returns c = λ s o end are room is ends won alone.
    (let m : MachineLaws = record {
      steps = c.machines_stay_in_step.ensures.step;
      errors = c.machines_stay_in_step.ensures.errors;
      winner = c.the_least_field_wins.ensures;
      stuffed = c.a_transmitter_sends_its_head_stuffed.ensures.sent;
      found = c.a_transmitter_sends_its_head_stuffed.ensures.found;
      six = c.a_front_of_no_stuffing_ends_six_equal_bits.ensures;
      ten = c.ten_bits_have_an_edge.ensures.ten;
      driven = c.driven_laws.ensures;
    } in
    begun_with m c.what_is_expected_is_a_course.ensures c.all_sample_the_same_bits.ensures c.machines_drive_as_a_course_asks.ensures c.machines_answer_as_asked.ensures s o end are room is ends won alone)
