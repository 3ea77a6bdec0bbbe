use Rattle.std.proofs.Common.{◌≡◌, take}
use Rattle.wl_lattice.proofs.products.ArrayJoin.same.Given as goal

abbrev pub invariant-loop-i : goal.invariant-loop-i
invariant-loop-i g l = take l.i l.self ≡ take l.i l.other
