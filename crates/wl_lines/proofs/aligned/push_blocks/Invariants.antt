use Rattle.std.proofs.Common.{◌≡◌, ◌++◌, map, drop, []}
use Rattle.wl_lines.specs.Shapes.{sheet_of}
use Rattle.wl_lines.specs.Aligned.{blocks}
use Rattle.wl_lines.proofs.aligned.push_blocks.Given as goal

-- the blocks so far, and then what these rows and the lines that are left give
abbrev pub invariant-loop-line : goal.invariant-loop-line
invariant-loop-line l =
    l.text.items ++ blocks l.paint (sheet_of l.outline) (map (λ r. r.now) l.rows.items) (drop l.line-index l.lines)
    ≡ l.fn.text.items ++ blocks l.paint (sheet_of l.outline) [] l.lines
