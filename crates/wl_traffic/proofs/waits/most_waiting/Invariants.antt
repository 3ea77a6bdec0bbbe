use Rattle.std.proofs.Common.{◌≡◌, take, fold}
use Rattle.wl_traffic.specs.Waits.{more_waiting}
use Rattle.wl_traffic.proofs.waits.most_waiting.Given as goal

-- the most so far
abbrev pub invariant-loop-entry : goal.invariant-loop-entry
invariant-loop-entry l = l.most ≡ fold (more_waiting l.mine l.last) 0 (take l.entry-index l.mine)
