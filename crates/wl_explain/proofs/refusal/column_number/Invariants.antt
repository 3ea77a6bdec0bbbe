use Rattle.std.proofs.Common.{◌≡◌, ◌+◌, ◌≤◌, filter, length, take}
use Rattle.wl_explain.specs.Refusals.{begins_letter, in_line}
use Rattle.wl_explain.proofs.refusal.column_number.Given as goal

-- the letters of the line so far are counted
abbrev pub invariant-loop-byte : goal.invariant-loop-byte
invariant-loop-byte l =
    (l.column ≡ 1 + length (filter begins_letter (in_line (take l.byte-index l.before)))) × (l.column ≤ 1 + l.byte-index)
