use Rattle.wl_buses.proofs.OneFrame.Joined.{joins_with}
use Rattle.wl_buses.proofs.one_frame.joining.a_station_that_joins_still_sends.Goals as goal

pub returns : goal.returns
returns c =
    joins_with c.machines_stay_in_step.ensures.step c.machines_stay_in_step.ensures.errors c.the_least_field_wins.ensures c.a_transmitter_sends_its_head_stuffed.ensures.sent
    c.a_front_of_no_stuffing_ends_six_equal_bits.ensures c.ten_bits_have_an_edge.ensures.ten
