use Rattle.std.proofs.Common.{◌≡◌, ◌++◌, string_bytes}
use Rattle.wl_margin.specs.Pieces.{each_below}
use Rattle.wl_traffic.specs.Messages.{node_lines}
use Rattle.wl_traffic.proofs.messages.push_messages.Given as goal

-- the lines so far come after the text
abbrev pub invariant-loop-i : goal.invariant-loop-i
invariant-loop-i l = string_bytes l.text ≡ string_bytes l.initial.text ++ each_below (node_lines l.tick l.plan l.names) l.i
