use Rattle.wl_margin.specs.Pieces.{each_below}
use Rattle.wl_report.specs.Lines.{GrowsBy}
use Rattle.wl_traffic.specs.Bounds.{bound_line_at}
use Rattle.wl_traffic.proofs.bounds.push_lines.Given as goal

-- the lines so far
abbrev pub invariant-loop-e : goal.invariant-loop-e
invariant-loop-e l = GrowsBy l.initial.text l.text (each_below (bound_line_at l.names l.asked l.lines) l.e)
