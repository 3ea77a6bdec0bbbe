use Rattle.std.proofs.Common.{◌≡◌, ◌++◌, drop}
use Rattle.wl_map.specs.Rows.{ranges_alone}
use Rattle.wl_map.proofs.rows.ranges_alone.Given as goal

-- those so far, and those that are left
abbrev pub invariant-loop-i : goal.invariant-loop-i
invariant-loop-i l = l.made ++ ranges_alone l.row (drop l.i l.ranges) ≡ ranges_alone l.row l.ranges
