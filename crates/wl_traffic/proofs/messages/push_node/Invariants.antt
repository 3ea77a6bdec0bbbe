use Rattle.std.proofs.Common.{◌≡◌, ◌++◌, string_bytes, take}
use Rattle.std.specs.List.{enumerate_from, flat_map}
use Rattle.wl_traffic.specs.Messages.{line_at}
use Rattle.wl_traffic.proofs.messages.push_node.Given as goal

-- the lines so far come after the text
abbrev pub invariant-loop-k : goal.invariant-loop-k
invariant-loop-k l = string_bytes l.text ≡ string_bytes l.initial.text ++ flat_map (line_at l.tick l.plan l.names l.i l.entries) (enumerate_from 0 (take l.k l.entries))
