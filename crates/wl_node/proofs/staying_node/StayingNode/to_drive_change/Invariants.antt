use Rattle.std.proofs.Common.{◌≤◌, ◌-◌}
use Rattle.wl_node.specs.Staying.{StayingHasGone, StayingStands}
use Rattle.wl_node.proofs.staying_node.StayingNode.to_drive_change.Given as goal

-- so many quanta have run, and the drive stands
abbrev pub invariant-loop-done : goal.invariant-loop-done
invariant-loop-done l = StayingHasGone l.level l.done l.initial.self l.self × (StayingStands l.initial.self l.level l.done × (l.done ≤ l.most))

abbrev pub decreases-loop-done : goal.decreases-loop-done
decreases-loop-done l = l.most - l.done
