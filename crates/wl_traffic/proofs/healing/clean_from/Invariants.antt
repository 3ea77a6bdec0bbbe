use Rattle.std.proofs.Common.{◌≡◌, take}
use Rattle.wl_traffic.specs.Healing.{clean_from}
use Rattle.wl_traffic.proofs.healing.clean_from.Given as goal

-- that of those so far
abbrev pub invariant-loop-queue : goal.invariant-loop-queue
invariant-loop-queue l = l.last ≡ clean_from l.disturbed (take l.queue-index l.queues)
