use Rattle.std.proofs.Common.{◌≡◌, take}
use Rattle.std.specs.List.{flat_map}
use Rattle.wl_traffic.specs.Unequal.{unequal_of_node}
use Rattle.wl_traffic.proofs.unequal.unequal_deliveries.Given as goal

-- those of the senders so far
abbrev pub invariant-loop-sender : goal.invariant-loop-sender
invariant-loop-sender l = l.all.items ≡ flat_map (unequal_of_node l.queues) (take l.sender-index l.queues)
