use Rattle.std.proofs.Common.{◌≡◌, ◌++◌}
use Rattle.std.specs.List.{flat_map, range_with_len}
use Rattle.wl_traffic.specs.Late.{late_at}
use Rattle.wl_traffic.proofs.late.push_node.Given as goal

-- those so far come after the others
abbrev pub invariant-loop-k : goal.invariant-loop-k
invariant-loop-k l = l.all.items ≡ l.initial.all.items ++ flat_map (late_at l.longest l.queue) (range_with_len 0 l.k)
