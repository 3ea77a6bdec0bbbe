use Rattle.std.proofs.Common.{◌≡◌, drop}
use Rattle.std.specs.Prelude.{fold}
use Rattle.wl_parts.specs.Found.{counts_sum, total_of}
use Rattle.wl_parts.proofs.found.total_of.Given as goal

abbrev pub invariant-loop-row : goal.invariant-loop-row
invariant-loop-row l = fold counts_sum l.total (drop l.row-index l.rows) ≡ total_of l.rows
