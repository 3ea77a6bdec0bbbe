use Rattle.std.proofs.Common.{◌≡◌, ◌-◌}
use Rattle.std.specs.List.{range_with_len}
use Rattle.wl_sweep.specs.Rows.{row_count}
use Rattle.wl_sweep.specs.Sweeps.{located}
use Rattle.wl_sweep.proofs.sweep.Sweep.locate.Given as goal

abbrev pub invariant-loop-row : goal.invariant-loop-row
invariant-loop-row l = located l.self (range_with_len l.row (row_count l.self.ranges - l.row)) l.left ≡ located l.self (range_with_len 0 (row_count l.self.ranges)) l.number
