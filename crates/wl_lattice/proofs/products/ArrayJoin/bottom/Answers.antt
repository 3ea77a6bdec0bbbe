use Rattle.wl_lattice.proofs.Lists.{all_same}
use Rattle.wl_lattice.proofs.products.ArrayJoin.bottom.Goals as goal

pub returns : goal.returns
returns g c = all_same g.W.Join.least g.row.N c.from_fn.result c.from_fn.ensures.items.long (λ i lt. (c.from_fn.ensures.items.at i g.W.Join.least lt).2.met)
