use Rattle.std.proofs.Common.{◌≡◌, take}
use Rattle.std.specs.List.{flat_map}
use Rattle.wl_traffic.specs.Unequal.{said_of, unequal_at}
use Rattle.wl_traffic.proofs.unequal.unequal_in.Given as goal

-- those of the nodes so far
abbrev pub invariant-loop-queue : goal.invariant-loop-queue
invariant-loop-queue l = l.all.items ≡ flat_map (λ q. said_of (unequal_at l.sender l.frame l.sent.items q)) (take l.queue-index l.queues)
