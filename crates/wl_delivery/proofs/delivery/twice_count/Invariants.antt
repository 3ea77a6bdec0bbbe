use Rattle.std.proofs.Common.{◌≡◌, count_by, take}
use Rattle.wl_delivery.specs.Deliveries.{is_twice}
use Rattle.wl_delivery.proofs.delivery.twice_count.Given as goal

-- those so far
abbrev pub invariant-loop-instance : goal.invariant-loop-instance
invariant-loop-instance l = l.count ≡ count_by is_twice (take l.instance-index l.instances)
