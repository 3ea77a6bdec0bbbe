use Rattle.std.proofs.Common.{◌≡◌, ◌++◌, drop, true}
use Rattle.wl_lines.specs.Shapes.{sheet_of}
use Rattle.wl_lines.specs.Formats.{lines_bytes}
use Rattle.wl_lines.proofs.formats.push_lines.Given as goal

-- the records so far, and then those of the lines that are left
abbrev pub invariant-loop-line : goal.invariant-loop-line
invariant-loop-line l =
    l.text.items ++ lines_bytes l.format (sheet_of l.outline) l.is_first (drop l.line-index l.lines)
    ≡ l.fn.text.items ++ lines_bytes l.format (sheet_of l.outline) true l.lines
