use Rattle.std.proofs.Common.{◌≡◌, ◌++◌, string_bytes}
use Rattle.std.specs.List.{flat_map, list_all, range_with_len}
use Rattle.wl_sweep.specs.Findings.{is_clean}
use Rattle.wl_sweep.specs.Sweeps.{rows_findings}
use Rattle.wl_map.specs.Maps.{cell_in}
use Rattle.wl_map.specs.Rows.{with_ranges}
use Rattle.wl_map.proofs.map.push_cells.Given as goal

-- all but the ranges stays, and the cells and answers are those of the rows so far
abbrev pub invariant-loop-row : goal.invariant-loop-row
invariant-loop-row g l = record {
  same : with_ranges l.alone l.ranges ≡ with_ranges l.fn.sweep l.ranges;
  text : string_bytes l.text ≡ string_bytes l.fn.text ++ flat_map (cell_in (with_ranges l.fn.sweep l.ranges)) (range_with_len 0 l.row);
  clean : l.clean ≡ list_all is_clean (rows_findings (with_ranges l.fn.sweep l.ranges) (range_with_len 0 l.row));
}
