use Rattle.std.proofs.Common.{◌≡◌, ◌≤◌, ◌^◌}
use Rattle.wl_bound.specs.Helps.{least}
use Rattle.wl_bound.specs.Searches.{each}
use Rattle.wl_margin.specs.Noise.{short_bit}
use Rattle.wl_margin.proofs.noise.shortest_bit.Given as goal

-- the shortest of the bits so far
abbrev pub invariant-loop-i : goal.invariant-loop-i
invariant-loop-i l = (l.shortest ≡ least l.i each (short_bit l.family)) × (l.shortest ≤ 2 ^ 100)
