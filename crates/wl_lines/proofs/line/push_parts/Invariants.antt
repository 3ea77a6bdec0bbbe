use Rattle.std.proofs.Common.{◌≡◌, ◌++◌, map, drop, string_bytes}
use Rattle.wl_lines.specs.Shapes.{part_of, pieces_text}
use Rattle.wl_lines.proofs.line.push_parts.Given as goal

-- the text so far, and then that of the rest
abbrev pub invariant-loop-piece : goal.invariant-loop-piece
invariant-loop-piece l =
    string_bytes l.text ++ pieces_text (map part_of (drop l.piece-index l.pieces)) (map string_bytes l.rest)
    ≡ string_bytes l.fn.text ++ pieces_text (map part_of l.pieces) (map string_bytes l.values)
