use Rattle.std.proofs.Common.{◌≡◌}
use Rattle.wl_topology.specs.Driven.{any_below}
use Rattle.wl_bound.specs.Families.{only_listens}
use Rattle.wl_bound.proofs.covered.all_speak.Given as goal

-- one of the nodes so far only listens
abbrev pub invariant-loop-i : goal.invariant-loop-i
invariant-loop-i l = l.listen ≡ any_below l.i (only_listens l.plan.topology)
