use Rattle.wl_buses.proofs.OneFrame.Expecting.{course}
use Rattle.wl_buses.proofs.one_frame.laws.what_is_expected_is_a_course.Goals as goal

pub returns : goal.returns
returns c = λ s o length are room is valid.
    course c.machines_stay_in_step.ensures.step c.machines_stay_in_step.ensures.errors c.the_least_field_wins.ensures c.a_transmitter_sends_its_head_stuffed.ensures.sent
    c.a_front_of_no_stuffing_ends_six_equal_bits.ensures c.ten_bits_have_an_edge.ensures.ten s are room o is length valid
