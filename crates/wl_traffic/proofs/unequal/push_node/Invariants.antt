use Rattle.std.proofs.Common.{◌≡◌, ◌++◌}
use Rattle.std.specs.List.{flat_map, range_with_len}
use Rattle.wl_traffic.specs.Unequal.{unequal_message}
use Rattle.wl_traffic.proofs.unequal.push_node.Given as goal

-- those so far come after the others
abbrev pub invariant-loop-k : goal.invariant-loop-k
invariant-loop-k l = l.all.items ≡ l.initial.all.items ++ flat_map (unequal_message l.queues l.sender) (range_with_len 0 l.k)
