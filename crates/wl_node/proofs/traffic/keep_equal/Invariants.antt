use Rattle.std.proofs.Common.{◌≡◌, ◌+◌, ◌-◌, ◌*◌, ◌<◌, ◌≤◌}
use Rattle.wl_node.specs.KeptBits.{HasKept}
use Rattle.wl_node.proofs.traffic.keep_equal.Given as goal

-- so many samples have been kept, and the next one ends there
abbrev pub invariant-loop-end : goal.invariant-loop-end
invariant-loop-end l =
    HasKept l.level l.bits l.fn.machine l.machine
    × (l.end ≡ l.first + l.bits * l.bit)
    × (0 < l.bits → l.first + (l.bits - 1) * l.bit ≤ l.most)

abbrev pub decreases-loop-end : goal.decreases-loop-end
decreases-loop-end l = 255 - l.bits
