use Rattle.wl_respond.specs.Tables.{IsMostBits}
use Rattle.wl_respond.proofs.table.most_bits.Given as goal

-- of the entries so far
abbrev pub invariant-loop-n : goal.invariant-loop-n
invariant-loop-n l = IsMostBits l.queue l.field l.frame l.n l.most
