use Rattle.std.proofs.Common.{◌≡◌, ◌≤◌}
use Rattle.wl_bound.specs.Families.{way_between}
use Rattle.wl_bound.specs.Searches.{each}
use Rattle.wl_bound.specs.Terms.{greatest}
use Rattle.wl_topology.specs.Limits.{longest_delay}
use Rattle.wl_bound.proofs.family.Family.furthest_from.Given as goal

-- the longest way to the nodes so far
abbrev pub invariant-loop-j : goal.invariant-loop-j
invariant-loop-j l = (l.furthest ≡ greatest l.j each (way_between l.self.cable l.i)) × (l.furthest ≤ longest_delay)
