use Rattle.std.proofs.Common.{◌≡◌, take}
use Rattle.std.specs.List.{flat_map}
use Rattle.wl_traffic.specs.Late.{late_in}
use Rattle.wl_traffic.proofs.late.late_messages.Given as goal

-- those of the nodes so far
abbrev pub invariant-loop-queue : goal.invariant-loop-queue
invariant-loop-queue l = l.all.items ≡ flat_map (late_in l.longest) (take l.queue-index l.queues)
