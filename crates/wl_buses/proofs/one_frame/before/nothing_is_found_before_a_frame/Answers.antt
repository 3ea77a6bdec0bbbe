use Rattle.wl_buses.proofs.OneFrame.Unreached.{silent_before}
use Rattle.wl_buses.proofs.one_frame.before.nothing_is_found_before_a_frame.Goals as goal

pub returns : goal.returns
returns c = λ s o length i q are room is valid inside by_from unfound.
    silent_before c.machines_stay_in_step.ensures.step c.machines_stay_in_step.ensures.errors c.the_least_field_wins.ensures c.a_transmitter_sends_its_head_stuffed.ensures.sent
    c.a_front_of_no_stuffing_ends_six_equal_bits.ensures c.ten_bits_have_an_edge.ensures.ten c.driven_laws.ensures s are room o is length valid i q inside by_from unfound
