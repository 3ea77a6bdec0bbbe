use Rattle.std.proofs.Common.{◌≡◌, ◌++◌, map, drop}
use Rattle.wl_lines.specs.Shapes.{sheet_of}
use Rattle.wl_lines.specs.Aligned.{shown_head, row_lines}
use Rattle.wl_lines.proofs.aligned.push_rows.Given as goal

-- the rows so far, and then those that are left
abbrev pub invariant-loop-row : goal.invariant-loop-row
invariant-loop-row l =
    l.text.items ++ row_lines l.paint (sheet_of l.outline) (map shown_head l.columns) l.marked
    (map (λ r. r.now) (drop l.row-index l.rows))
    ≡ l.fn.text.items ++ row_lines l.paint (sheet_of l.outline) (map shown_head l.columns) l.marked
    (map (λ r. r.now) l.rows)
