use Rattle.wl_buses.proofs.OneFrame.Passing.{sampled_bit}
use Rattle.wl_buses.proofs.one_frame.laws.all_sample_the_same_bits.Goals as goal

pub returns : goal.returns
returns c = λ s bits drove length until are room course n less. sampled_bit s are room bits drove length until course c.driven_laws.ensures n less
