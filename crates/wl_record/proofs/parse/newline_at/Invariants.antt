use Rattle.std.proofs.Common.{take}
use Rattle.wl_record.specs.Faults.{HasNoNewline}
use Rattle.wl_record.proofs.parse.newline_at.Given as goal

abbrev pub invariant-loop-at : goal.invariant-loop-at
invariant-loop-at l = HasNoNewline (take l.at l.bytes)
