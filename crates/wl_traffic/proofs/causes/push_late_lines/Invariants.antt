use Rattle.std.proofs.Common.{◌≡◌, ◌++◌, string_bytes, take}
use Rattle.wl_traffic.specs.Causes.{late_lines}
use Rattle.wl_traffic.proofs.causes.push_late_lines.Given as goal

-- the lines so far come after the text
abbrev pub invariant-loop-message : goal.invariant-loop-message
invariant-loop-message l = string_bytes l.text ≡ string_bytes l.initial.text ++ late_lines l.tick l.names (take l.message-index l.late)
