use Rattle.wl_margin.specs.Pieces.{each_below}
use Rattle.wl_report.specs.Lines.{GrowsBy}
use Rattle.wl_explain.specs.Waits.{overdue_at}
use Rattle.wl_explain.proofs.waits.push_lines.Given as goal

-- the lines so far
abbrev pub invariant-loop-e : goal.invariant-loop-e
invariant-loop-e l = GrowsBy l.initial.text l.text (each_below (overdue_at l.names l.asked l.lines) l.e)
