use Rattle.std.proofs.Common.{◌≡◌, ◌++◌, take}
use Rattle.wl_map.proofs.rows.push_same.Given as goal

-- those so far come after the others
abbrev pub invariant-loop-range : goal.invariant-loop-range
invariant-loop-range l = l.made ≡ l.initial.made ++ take l.range-index l.ranges
