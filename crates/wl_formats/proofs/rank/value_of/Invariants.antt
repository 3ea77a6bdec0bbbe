use Rattle.std.proofs.Common.{◌≡◌, map, drop}
use Rattle.wl_formats.specs.Shapes.{part_of}
use Rattle.wl_formats.specs.Ranks.{value_of}
use Rattle.wl_formats.proofs.rank.value_of.Given as goal

-- the field is among those of the rest
abbrev pub invariant-loop-piece : goal.invariant-loop-piece
invariant-loop-piece l =
    value_of l.name (map part_of (drop l.piece-index l.pieces)) l.rest ≡ value_of l.name (map part_of l.pieces) l.line
