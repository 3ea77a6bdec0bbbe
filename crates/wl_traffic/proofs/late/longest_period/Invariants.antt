use Rattle.std.proofs.Common.{◌≡◌, take}
use Rattle.wl_traffic.specs.Late.{longest_period}
use Rattle.wl_traffic.proofs.late.longest_period.Given as goal

-- the longest so far
abbrev pub invariant-loop-queue : goal.invariant-loop-queue
invariant-loop-queue l = l.longest ≡ longest_period (take l.queue-index l.queues)
