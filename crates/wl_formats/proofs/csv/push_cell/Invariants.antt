use Rattle.std.proofs.Common.{◌≡◌, map, drop}
use Rattle.wl_formats.specs.Shapes.{part_of}
use Rattle.wl_formats.specs.Csv.{cell}
use Rattle.wl_formats.proofs.csv.push_cell.Given as goal

-- the field is among those of the rest, and nothing is written
abbrev pub invariant-loop-piece : goal.invariant-loop-piece
invariant-loop-piece l = record {
  field : cell l.column (map part_of (drop l.piece-index l.pieces)) l.rest ≡ cell l.column (map part_of l.pieces) l.line;
  text : l.text.items ≡ l.fn.text.items;
}
