use Rattle.std.proofs.Common.{◌≡◌, ◌++◌, map, length}
use Rattle.wl_formats.specs.Shapes.{layout_of}
use Rattle.wl_formats.specs.Formats.{all_fit, lines_of}
use Rattle.wl_formats.proofs.formats.fitting_lines.Given as goal

-- all lines fit if those that are left do; the lines so far, and then those, are all
abbrev pub invariant-fitting : goal.invariant-fitting
invariant-fitting l = record {
  fits : all_fit (layout_of l.table) (lines_of l.rest) ≡ all_fit (layout_of l.table) (lines_of l.text);
  lines : map (λ line. line.now) l.lines.items ++ lines_of l.rest ≡ lines_of l.text;
}

abbrev pub decreases-fitting : goal.decreases-fitting
decreases-fitting l = length l.rest
