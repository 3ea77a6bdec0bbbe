use Rattle.std.proofs.Common.{◌≡◌, ◌+◌, ◌≤◌, filter, length, take}
use Rattle.wl_explain.specs.Refusals.{is_newline}
use Rattle.wl_explain.proofs.refusal.line_number.Given as goal

-- the newlines so far are counted
abbrev pub invariant-loop-byte : goal.invariant-loop-byte
invariant-loop-byte l = (l.line ≡ 1 + length (filter is_newline (take l.byte-index l.before))) × (l.line ≤ 1 + l.byte-index)
