use Rattle.std.proofs.Common.{◌≡◌, ◌++◌, drop}
use Rattle.wl_parts.specs.Found.{rows_sum}
use Rattle.wl_parts.proofs.found.rows_sum.Given as goal

abbrev pub invariant-loop-i : goal.invariant-loop-i
invariant-loop-i l = l.rows ++ rows_sum (drop l.i l.one) (drop l.i l.other) ≡ rows_sum l.one l.other
