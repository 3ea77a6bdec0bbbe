use Rattle.std.proofs.Common.{◌≡◌, ◌-◌, ◌<◌, ◌≤◌, true, false}
use Rattle.wl_bound.specs.SearchTests.{passes_grown}
use Rattle.wl_bound.proofs.family.Family.border.Given as goal

-- the bus passes at the low end, and doesn't at the high one
abbrev pub invariant-loop-high : goal.invariant-loop-high
invariant-loop-high l =
    (l.low < l.high) × (l.high ≤ l.limit) × (passes_grown l.self l.test l.growth l.low ≡ true) × (passes_grown l.self l.test l.growth l.high ≡ false)

abbrev pub decreases-loop-high : goal.decreases-loop-high
decreases-loop-high l = l.high - l.low
