use Rattle.std.proofs.Common.{◌≡◌, ◌-◌, ◌≤◌, ◌++◌, length, take, drop}
use Rattle.wl_node.specs.Queues.{waiting_frames}
use Rattle.wl_node.proofs.unsent.waiting.Given as goal

abbrev pub invariant-loop-count : goal.invariant-loop-count
invariant-loop-count l = (l.count ≤ length l.unsent)
    × (waiting_frames l.unsent l.quantum ≡ take l.count l.unsent ++ waiting_frames (drop l.count l.unsent) l.quantum)

abbrev pub decreases-loop-count : goal.decreases-loop-count
decreases-loop-count l = length l.unsent - l.count
