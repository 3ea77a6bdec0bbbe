use Rattle.std.proofs.Common.{◌≡◌, ◌≤◌, ◌*◌, ◌^◌, length}
use Rattle.std.specs.List.{range_with_len}
use Rattle.wl_sweep.specs.Sweeps.{rows_findings, rows_members}
use Rattle.wl_sweep.proofs.sweep.Sweep.size.Given as goal

abbrev pub invariant-loop-row : goal.invariant-loop-row
invariant-loop-row l = record {
  runs : l.size.runs ≡ length (rows_findings l.self (range_with_len 0 l.row));
  few : l.size.runs ≤ l.row * 2 ^ 32;
  members : l.size.members ≡ rows_members l.self (range_with_len 0 l.row);
}
