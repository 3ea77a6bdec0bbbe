use Rattle.std.proofs.Common.{◌≡◌, ◌-◌, ◌≤◌}
use Rattle.wl_intervals.specs.Pairs.{covers}
use Rattle.wl_traffic.specs.Bus.{load_below}
use Rattle.wl_traffic.proofs.load.load_below.Given as goal

-- the load by the ticks so far
abbrev pub invariant-loop-at : goal.invariant-loop-at
invariant-loop-at l = record { load : l.load ≡ load_below (covers l.busy) l.at; within : l.at ≤ l.end }

abbrev pub decreases-loop-at : goal.decreases-loop-at
decreases-loop-at l = l.end - l.at
