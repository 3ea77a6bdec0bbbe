use Rattle.std.proofs.Common.{◌≡◌, length}
use Rattle.wl_lattice.specs.Products.{joined_lists}
use Rattle.wl_lattice.proofs.Lists.{half_joined}
use Rattle.wl_lattice.proofs.products.ArrayJoin.join.Given as goal

abbrev pub invariant-loop-i : goal.invariant-loop-i
invariant-loop-i g l = record {
  long : length l.self ≡ length l.other;
  half : half_joined g.W.Join.joined l.i l.self l.other ≡ joined_lists g.W.Join.joined l.fn.self l.other;
}
