use Rattle.std.proofs.Common.{◌≡◌, ◌<◌, fold, map, take}
use Rattle.std.specs.List.{All}
use Rattle.wl_delivery.specs.Instances.{new_instance, with_taken}
use Rattle.wl_delivery.proofs.instances.taken_instances.Given as goal

-- with those so far; what was sent before the last of them lies before its place
abbrev pub invariant-loop-tick : goal.invariant-loop-tick
invariant-loop-tick l = record {
  items : l.instances.items ≡ fold (λ is tick. with_taken tick is) (map new_instance l.sent) (take l.tick-index l.taken);
  early : All (λ i. i.sent < l.before) (take l.place l.instances.items);
}
