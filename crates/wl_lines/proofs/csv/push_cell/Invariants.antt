use Rattle.std.proofs.Common.{◌≡◌, map, drop, string_bytes}
use Rattle.wl_lines.specs.Shapes.{part_of}
use Rattle.wl_lines.specs.Csv.{cell}
use Rattle.wl_lines.proofs.csv.push_cell.Given as goal

-- the field is among those of the rest, and nothing is written
abbrev pub invariant-loop-piece : goal.invariant-loop-piece
invariant-loop-piece l = record {
  field : cell l.column (map part_of (drop l.piece-index l.pieces)) (map string_bytes l.rest) ≡ cell l.column (map part_of l.pieces) (map string_bytes l.values);
  text : l.text.items ≡ l.fn.text.items;
}
