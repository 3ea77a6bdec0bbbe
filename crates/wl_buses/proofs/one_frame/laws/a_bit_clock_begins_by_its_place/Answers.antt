use Rattle.wl_buses.proofs.OneFrame.Beginning.{bit_start_laws}
use Rattle.wl_buses.proofs.one_frame.laws.a_bit_clock_begins_by_its_place.Goals as goal

pub returns : goal.returns
returns c =
    bit_start_laws (record { clock = c.clock_goes_on.ensures.clock; beat = c.clock_goes_on.ensures.beat; sync = c.clock_goes_on.ensures.sync })
    c.an_edge_moves_the_sample.ensures
