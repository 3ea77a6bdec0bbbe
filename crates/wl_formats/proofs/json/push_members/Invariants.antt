use Rattle.std.proofs.Common.{◌≡◌, ◌++◌, map, drop}
use Rattle.wl_formats.specs.Shapes.{part_of}
use Rattle.wl_formats.specs.Json.{members}
use Rattle.wl_formats.proofs.json.push_members.Given as goal

-- the fields so far, and then those of the rest
abbrev pub invariant-loop-piece : goal.invariant-loop-piece
invariant-loop-piece l =
    l.text.items ++ members (map part_of (drop l.piece-index l.pieces)) l.rest ≡ l.fn.text.items ++ members (map part_of l.pieces) l.line
