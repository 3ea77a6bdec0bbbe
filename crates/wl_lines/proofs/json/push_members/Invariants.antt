use Rattle.std.proofs.Common.{◌≡◌, ◌++◌, map, drop, string_bytes}
use Rattle.wl_lines.specs.Shapes.{part_of}
use Rattle.wl_lines.specs.Json.{members}
use Rattle.wl_lines.proofs.json.push_members.Given as goal

-- the fields so far, and then those of the rest
abbrev pub invariant-loop-piece : goal.invariant-loop-piece
invariant-loop-piece l =
    l.text.items ++ members (map part_of (drop l.piece-index l.pieces)) (map string_bytes l.rest) ≡ l.fn.text.items ++ members (map part_of l.pieces) (map string_bytes l.values)
