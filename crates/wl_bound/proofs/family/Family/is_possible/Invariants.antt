use Rattle.std.proofs.Common.{◌≡◌}
use Rattle.wl_topology.specs.Driven.{any_below}
use Rattle.wl_bound.specs.Helps.{is_refused_at}
use Rattle.wl_bound.proofs.family.Family.is_possible.Given as goal

-- one of the nodes so far refuses
abbrev pub invariant-loop-i : goal.invariant-loop-i
invariant-loop-i l = l.refused ≡ any_below l.i (is_refused_at l.self l.change)
