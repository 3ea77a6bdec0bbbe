use Rattle.std.proofs.Common.{take}
use Rattle.std.specs.Prelude.{All}
use Rattle.wl_lattice.proofs.products.ArrayJoin.known.Given as goal

abbrev pub invariant-loop-word : goal.invariant-loop-word
invariant-loop-word g l = All g.W.Join.is_word (take l.word-index l.self)
