use Rattle.std.proofs.Common.{◌≡◌, ℕ, ◌<◌, ◌≤◌, length}
use Rattle.wl_topology.specs.Limits.{most_places, never}
use Rattle.wl_topology.specs.Delays.{delay_of}
use Rattle.wl_group.specs.Ways.{way_in}
use Rattle.wl_group.proofs.begin.ways_to.Given as goal

-- the ways of the nodes so far
abbrev pub invariant-loop-i : goal.invariant-loop-i
invariant-loop-i l = (length l.ways ≡ most_places) × ((k : ℕ) → k < l.i → way_in l.ways k ≡ delay_of l.plan.topology k l.j) × ((k : ℕ) → way_in l.ways k ≤ never)
