use Rattle.std.proofs.Common.{◌≡◌, map, drop, string_bytes}
use Rattle.wl_lines.specs.Shapes.{part_of}
use Rattle.wl_lines.specs.Ranks.{value_of}
use Rattle.wl_lines.proofs.rank.value_of.Given as goal

-- the field is among those of the rest
abbrev pub invariant-loop-piece : goal.invariant-loop-piece
invariant-loop-piece l =
    value_of l.name (map part_of (drop l.piece-index l.pieces)) (map string_bytes l.rest) ≡ value_of l.name (map part_of l.pieces) (map string_bytes l.values)
