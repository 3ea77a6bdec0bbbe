use Rattle.std.proofs.Common.{◌+◌, ◌-◌, length}
use Rattle.wl_intervals.specs.Search.{IsMerged}
use Rattle.wl_intervals.proofs.intervals.merged.Given as goal

abbrev pub invariant-loop-i : goal.invariant-loop-i
invariant-loop-i l = IsMerged l.left l.right l.i l.j l.joined.items

abbrev pub decreases-loop-i : goal.decreases-loop-i
decreases-loop-i l = (length l.left - l.i) + (length l.right - l.j)
