use Rattle.std.proofs.Common.{◌≡◌, ◌++◌, drop}
use Rattle.wl_lines.specs.Formats.{lines_text}
use Rattle.wl_lines.proofs.formats.lines_text.Given as goal

-- the text so far, and then that of the lines that are left
abbrev pub invariant-loop-line : goal.invariant-loop-line
invariant-loop-line l = l.text.items ++ lines_text (drop l.line-index l.lines) ≡ lines_text l.lines
