use Rattle.std.proofs.Common.{arith, sym, ◌∙◌}
use Rattle.wl_lattice.proofs.Lists.{half_joined-end}
use Rattle.wl_lattice.proofs.products.ArrayJoin.join.Goals as goal

pub returns : goal.returns
returns g c = sym (half_joined-end g.W.Join.joined c.loop-i.i _ c.args.other.now (omega arith) (omega arith)) ∙ c.loop-i.invariant.half
