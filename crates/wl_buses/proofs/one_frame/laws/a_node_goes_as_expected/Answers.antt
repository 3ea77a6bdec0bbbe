use Rattle.wl_buses.proofs.OneFrame.Calm.{no_edge_laws}
use Rattle.wl_buses.proofs.OneFrame.Going.{goes_on}
use Rattle.wl_buses.proofs.one_frame.laws.a_node_goes_as_expected.Goals as goal

pub returns : goal.returns
returns c = λ s o length i setup levels node are room is valid inside segments run n less finds at.
    goes_on c.machines_stay_in_step.ensures.step c.machines_stay_in_step.ensures.errors c.the_least_field_wins.ensures c.a_transmitter_sends_its_head_stuffed.ensures.sent
    c.a_front_of_no_stuffing_ends_six_equal_bits.ensures c.ten_bits_have_an_edge.ensures.ten c.driven_laws.ensures c.a_station_begins_its_bits.ensures
    (no_edge_laws (record { clock = c.clock_goes_on.ensures.clock; beat = c.clock_goes_on.ensures.beat; sync = c.clock_goes_on.ensures.sync })
    c.clock_goes_on.ensures.sample c.clock_goes_on.ensures.level c.an_edge_moves_the_sample.ensures) s are room o is length valid i inside setup segments levels node run n less finds at
