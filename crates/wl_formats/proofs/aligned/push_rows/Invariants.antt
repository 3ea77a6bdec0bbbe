use Rattle.std.proofs.Common.{◌≡◌, ◌++◌, map, drop}
use Rattle.wl_formats.specs.Shapes.{part_of}
use Rattle.wl_formats.specs.Aligned.{shown_head, row_lines}
use Rattle.wl_formats.proofs.aligned.push_rows.Given as goal

-- the rows so far, and then those that are left
abbrev pub invariant-loop-row : goal.invariant-loop-row
invariant-loop-row l =
    l.text.items ++ row_lines l.look.paint l.look.worst (map (λ n. n.now) l.look.names.now) (map part_of l.pieces) (map shown_head l.columns) l.marked
    (map (λ r. r.now) (drop l.row-index l.rows))
    ≡ l.fn.text.items ++ row_lines l.look.paint l.look.worst (map (λ n. n.now) l.look.names.now) (map part_of l.pieces) (map shown_head l.columns) l.marked
    (map (λ r. r.now) l.rows)
