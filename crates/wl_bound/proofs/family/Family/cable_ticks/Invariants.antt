use Rattle.std.proofs.Common.{◌≡◌, ◌≤◌, length}
use Rattle.wl_bound.specs.Families.{way_between}
use Rattle.wl_bound.specs.Searches.{each}
use Rattle.wl_bound.specs.Terms.{greatest}
use Rattle.wl_topology.specs.Limits.{longest_delay}
use Rattle.wl_bound.proofs.family.Family.cable_ticks.Given as goal

-- the longest way from the nodes so far
abbrev pub invariant-loop-i : goal.invariant-loop-i
invariant-loop-i l =
    (l.longest ≡ greatest l.i each (λ i. greatest (length l.self.members) each (way_between l.self.cable i))) × (l.longest ≤ longest_delay)
