use Rattle.std.proofs.Common.{◌≡◌, ◌++◌, length}
use Rattle.std.specs.Prelude.{true}
use Rattle.wl_formats.specs.Shapes.{layout_of}
use Rattle.wl_formats.specs.Formats.{all_fit, lines_bytes, lines_of}
use Rattle.wl_formats.proofs.formats.push_lines.Given as goal

-- all lines fit if those that are left do; the records so far, and then theirs, are the whole
abbrev pub invariant-lines : goal.invariant-lines
invariant-lines l = record {
  fits : all_fit (layout_of l.table) (lines_of l.rest) ≡ all_fit (layout_of l.table) (lines_of l.lines);
  text :
      l.text.items ++ lines_bytes l.format (layout_of l.table) l.is_first (lines_of l.rest)
      ≡ l.fn.text.items ++ lines_bytes l.format (layout_of l.table) true (lines_of l.lines);
}

abbrev pub decreases-lines : goal.decreases-lines
decreases-lines l = length l.rest
