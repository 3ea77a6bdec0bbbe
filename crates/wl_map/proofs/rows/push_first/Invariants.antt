use Rattle.std.proofs.Common.{◌≡◌, ◌++◌, map, take}
use Rattle.wl_map.specs.Rows.{at_first}
use Rattle.wl_map.proofs.rows.push_first.Given as goal

-- those so far come after the others
abbrev pub invariant-loop-range : goal.invariant-loop-range
invariant-loop-range l = l.made ≡ l.initial.made ++ map at_first (take l.range-index l.ranges)
