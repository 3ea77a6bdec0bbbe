use Rattle.std.proofs.Common.{◌≡◌, ◌++◌, map, drop, string_bytes}
use Rattle.wl_lines.specs.Shapes.{part_of}
use Rattle.wl_lines.specs.Csv.{cells}
use Rattle.wl_lines.proofs.csv.push_cells.Given as goal

-- the cells so far, and then those of the columns that are left
abbrev pub invariant-loop-column : goal.invariant-loop-column
invariant-loop-column l =
    l.text.items ++ cells (map part_of l.pieces) (map string_bytes l.values) (map (λ c. c.now) (drop l.column-index l.columns))
    ≡ l.fn.text.items ++ cells (map part_of l.pieces) (map string_bytes l.values) (map (λ c. c.now) l.columns)
