use Rattle.std.proofs.Common.{◌≡◌, ◌++◌, ◌≤◌, List, map}
use Rattle.wl_parts.specs.Whole.{rows_between, slice}
use Rattle.wl_sweep.specs.declared.finding.Finding.{Finding}
use Rattle.wl_sweep.specs.Parts.{kinds_of}
use Rattle.wl_sweep.specs.Sweeps.{all_findings, all_rows, row_findings, rows_findings}
use Rattle.wl_sweep.specs.Tallies.{tally_of}
use Rattle.wl_sweep.proofs.Shares.{rest}
use Rattle.wl_sweep.proofs.sweep.Sweep.run_numbers.Given as goal

-- the rows that are left have what is left of the numbers
abbrev pub invariant-loop-row : goal.invariant-loop-row
invariant-loop-row g l = record {
  ordered : l.left.from ≤ l.left.to;
  rows :
      l.rows ++ rows_between (kinds_of l.self) l.left.from l.left.to (map (row_findings l.self) (rest l.self l.row))
      ≡ l.fn.rows ++ rows_between (kinds_of l.self) l.fn.numbers.from l.fn.numbers.to (map (row_findings l.self) (all_rows l.self));
  tally :
      (done : List Finding) × (l.tally ≡ tally_of done)
      × (done ++ slice l.left.from l.left.to (rows_findings l.self (rest l.self l.row)) ≡ slice l.fn.numbers.from l.fn.numbers.to (all_findings l.self));
}
