use Rattle.std.proofs.Common.{◌≡◌, drop}
use Rattle.wl_sweep.specs.Rows.{row_text}
use Rattle.wl_sweep.proofs.range.row_text.Given as goal

abbrev pub invariant-loop-i : goal.invariant-loop-i
invariant-loop-i l = row_text l.row (drop l.i l.ranges) l.made ≡ row_text l.row l.ranges l.text
