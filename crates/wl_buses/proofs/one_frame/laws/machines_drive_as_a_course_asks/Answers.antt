use Rattle.wl_buses.proofs.OneFrame.Machines.{goes}
use Rattle.wl_buses.proofs.one_frame.laws.machines_drive_as_a_course_asks.Goals as goal

pub returns : goal.returns
returns c = λ s bits drove frames past length sound m some n less right none.
    goes c.machines_stay_in_step.ensures.step c.machines_stay_in_step.ensures.errors c.the_least_field_wins.ensures c.a_transmitter_sends_its_head_stuffed.ensures.sent
    c.a_front_of_no_stuffing_ends_six_equal_bits.ensures c.ten_bits_have_an_edge.ensures.ten s bits drove frames past length sound m some n less right none
