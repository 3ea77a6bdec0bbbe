use Rattle.std.proofs.Common.{◌≡◌, take}
use Rattle.wl_intervals.specs.Pairs.{later_by}
use Rattle.wl_intervals.proofs.intervals.Intervals.shift.Given as goal

abbrev pub invariant-loop-from : goal.invariant-loop-from
invariant-loop-from l = l.pairs.items ≡ later_by l.d (take l.from-index l.self)
