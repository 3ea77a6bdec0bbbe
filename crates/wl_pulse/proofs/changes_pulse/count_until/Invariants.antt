use Rattle.std.proofs.Common.{◌+◌, ◌-◌, ◌≤◌, length}
use Rattle.wl_record_core.specs.Truth.{count_below}
use Rattle.wl_pulse.proofs.changes_pulse.count_until.Given as goal

-- so many changes at least are not after the tick
abbrev pub invariant-loop-count : goal.invariant-loop-count
invariant-loop-count l = l.count ≤ count_below (l.tick + 1) l.changes

abbrev pub decreases-loop-count : goal.decreases-loop-count
decreases-loop-count l = length l.changes - l.count
