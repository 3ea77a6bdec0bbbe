use Rattle.wl_frame.proofs.Edges.{edge_within, nine_are_few}
use Rattle.wl_frame.proofs.laws.ten_bits_have_an_edge.Goals as goal

pub returns : goal.returns
returns c = record { ten = edge_within; nine = nine_are_few }
