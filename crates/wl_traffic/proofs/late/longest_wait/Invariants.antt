use Rattle.std.proofs.Common.{◌≡◌, take}
use Rattle.wl_traffic.specs.Late.{longest_wait}
use Rattle.wl_traffic.proofs.late.longest_wait.Given as goal

-- the longest so far
abbrev pub invariant-loop-entry : goal.invariant-loop-entry
invariant-loop-entry l = l.longest ≡ longest_wait l.queue (take l.entry-index l.late)
