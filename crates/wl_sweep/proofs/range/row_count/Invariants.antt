use Rattle.std.proofs.Common.{◌≡◌, ◌*◌, drop, length}
use Rattle.std.specs.Prelude.{fold}
use Rattle.wl_sweep.specs.declared.range.SweptRange.{SweptRange}
use Rattle.wl_sweep.specs.Family.{capped}
use Rattle.wl_sweep.specs.Rows.{row_count}
use Rattle.wl_sweep.proofs.range.row_count.Given as goal

abbrev pub invariant-loop-range : goal.invariant-loop-range
invariant-loop-range l = fold (λ rows (g : SweptRange). capped (rows * length g.values)) l.rows (drop l.range-index l.ranges) ≡ row_count l.ranges
