use Rattle.std.proofs.Common.{◌≡◌}
use Rattle.wl_frame.specs.Grammar.{bytes_from}
use Rattle.wl_frame.specs.Padded.{eight_bytes}
use Rattle.wl_frame.proofs.frame.bytes_at.Given as goal

abbrev pub invariant-loop-k : goal.invariant-loop-k
invariant-loop-k l = l.held ≡ eight_bytes (bytes_from l.bits l.from l.k)
