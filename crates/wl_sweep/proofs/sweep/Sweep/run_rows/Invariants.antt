use Rattle.std.proofs.Common.{◌≡◌, ◌++◌, string_bytes}
use Rattle.std.specs.List.{range_with_len}
use Rattle.wl_sweep.specs.Sweeps.{rows_findings, rows_lines, rows_members}
use Rattle.wl_sweep.specs.Tallies.{tally_of}
use Rattle.wl_sweep.proofs.sweep.Sweep.run_rows.Given as goal

abbrev pub invariant-loop-row : goal.invariant-loop-row
invariant-loop-row g l = record {
  tally : l.sum.tally ≡ tally_of (rows_findings l.self (range_with_len 0 l.row));
  members : l.sum.members ≡ rows_members l.self (range_with_len 0 l.row);
  text : string_bytes l.text ≡ string_bytes l.fn.text ++ rows_lines l.self (range_with_len 0 l.row);
}
