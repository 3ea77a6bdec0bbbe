use Rattle.std.proofs.Common.{◌≡◌, count_by, take}
use Rattle.wl_delivery.specs.Deliveries.{misses_instance}
use Rattle.wl_delivery.proofs.delivery.missed_count.Given as goal

-- those so far
abbrev pub invariant-loop-instance : goal.invariant-loop-instance
invariant-loop-instance l = l.count ≡ count_by (misses_instance l.presence) (take l.instance-index l.instances)
