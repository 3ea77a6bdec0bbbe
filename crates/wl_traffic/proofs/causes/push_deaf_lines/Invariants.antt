use Rattle.std.proofs.Common.{◌≡◌, ◌++◌, string_bytes, take}
use Rattle.std.specs.List.{enumerate_from, flat_map}
use Rattle.wl_traffic.specs.Causes.{deaf_line}
use Rattle.wl_traffic.proofs.causes.push_deaf_lines.Given as goal

-- the lines so far come after the text
abbrev pub invariant-loop-k : goal.invariant-loop-k
invariant-loop-k l = string_bytes l.text ≡ string_bytes l.initial.text ++ flat_map (deaf_line l.names l.most) (enumerate_from 0 (take l.k l.nodes))
