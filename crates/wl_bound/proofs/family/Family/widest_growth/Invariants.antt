use Rattle.std.proofs.Common.{◌≡◌, ◌≤◌}
use Rattle.wl_bound.specs.Families.{member_at}
use Rattle.wl_bound.specs.Searches.{each}
use Rattle.wl_bound.specs.Terms.{greatest}
use Rattle.wl_bound.specs.Oscillators.{greatest_tolerance}
use Rattle.wl_bound.proofs.family.Family.widest_growth.Given as goal

-- the greatest tolerance so far
abbrev pub invariant-loop-i : goal.invariant-loop-i
invariant-loop-i l = (l.greatest ≡ greatest l.i each (λ i. (member_at l.self i).oscillator.tolerance)) × (l.greatest ≤ greatest_tolerance)
