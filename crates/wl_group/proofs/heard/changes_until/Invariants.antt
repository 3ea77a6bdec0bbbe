use Rattle.std.proofs.Common.{◌<◌, ◌≤◌, ◌-◌}
use Rattle.wl_replica.specs.State.{slots_of}
use Rattle.wl_replica.specs.Known.{tick_in}
use Rattle.wl_group.proofs.heard.changes_until.Given as goal

-- so many of them are not after the tick
abbrev pub invariant-loop-count : goal.invariant-loop-count
invariant-loop-count l = (l.count ≤ l.run) × (0 < l.count → tick_in ((slots_of l.replica).edge l.node (l.count - 1)) ≤ l.tick)

abbrev pub decreases-loop-count : goal.decreases-loop-count
decreases-loop-count l = l.run - l.count
