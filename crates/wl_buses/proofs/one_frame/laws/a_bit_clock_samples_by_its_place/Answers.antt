use Rattle.wl_buses.proofs.OneFrame.Clocked.{bit_place_laws}
use Rattle.wl_buses.proofs.one_frame.laws.a_bit_clock_samples_by_its_place.Goals as goal

pub returns : goal.returns
returns c = bit_place_laws c.an_edge_moves_the_sample.ensures
