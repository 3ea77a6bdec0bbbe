use Rattle.std.proofs.Common.{◌≡◌, map, take}
use Rattle.wl_delivery.specs.Instances.{new_instance}
use Rattle.wl_delivery.proofs.instances.new_instances.Given as goal

-- those so far
abbrev pub invariant-loop-tick : goal.invariant-loop-tick
invariant-loop-tick l = l.made.items ≡ map new_instance (take l.tick-index l.sent)
