use Rattle.wl_lattice.proofs.OrderLaws.{join_order}
use Rattle.wl_lattice.proofs.laws.join_makes_an_order.Goals as goal

pub returns : goal.returns
returns g c = join_order g.met.W.Join.laws
