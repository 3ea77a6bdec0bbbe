use Rattle.wl_buses.proofs.OneFrame.Settling.{begin_bit}
use Rattle.wl_buses.proofs.one_frame.laws.a_bit_with_an_edge_begins.Goals as goal

pub returns : goal.returns
returns c = λ s drives due are early k there dominant. begin_bit s are drives due early k there dominant
