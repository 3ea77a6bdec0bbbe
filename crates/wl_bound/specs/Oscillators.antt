-- The shortest and the longest quantum of an oscillator within its tolerance.
use Rattle.std.specs.Prelude.{◌≡◌, ℕ, ◌+◌, ◌-◌, ◌*◌, ◌/◌, ◌<◌, ◌≤◌, ◌||◌, not, nat_lt, Bool, List, [], ◌∷◌, length, Option, Some, None, if◌then◌else◌}
use Rattle.std.specs.Int.{div_ceil}
use Rattle.std.specs.Result.{is_ok}
use Rattle.wl_clock.specs.declared.Rate.{Rate}
use Rattle.wl_clock.specs.Timing.{IsRate, timing_within}
use Rattle.wl_limits.specs.declared.Limits.TheVariants.{Wide}
use Rattle.wl_bound.specs.Limits.{fast_limit, slow_limit}

-- the greatest tolerance, in parts per million: a clock deviates by a tenth at most (this project's profile)
abbrev pub greatest_tolerance : ℕ
greatest_tolerance = 100000

-- The fastest and the slowest nominal rate of an oscillator, by how many parts per million it may deviate from them either way, and how often its rate
-- changes.
pub record Pace : Type 0 where
  pub fastest : Rate
  pub slowest : Rate
  pub tolerance : ℕ
  pub turns : ℕ

-- what holds of every oscillator
pub record IsPace (p : Pace) : Type 0 where
  pub fastest : IsRate p.fastest
  pub slowest : IsRate p.slowest
  pub small : p.tolerance ≤ greatest_tolerance

-- a quantum of the first rate is shorter
abbrev pub is_faster : Rate → Rate → Bool
is_faster a b = nat_lt (a.num * b.den) (b.num * a.den)

-- the first of the fastest of some rates, and of the slowest
abbrev pub fastest_of : Rate → List Rate → Rate
fastest_of r [] = r
fastest_of r (next ∷ later) = fastest_of (if is_faster next r then next else r) later

abbrev pub slowest_of : Rate → List Rate → Rate
slowest_of r [] = r
slowest_of r (next ∷ later) = slowest_of (if is_faster r next then next else r) later

-- the oscillator of the rates of a clock and of a tolerance, if the rates make a clock by the wide limits and the tolerance is small
abbrev pub pace_of : List Rate → ℕ → Option Pace
pace_of [] tolerance = None
pace_of (r ∷ later) tolerance =
    Some (record { fastest = fastest_of r later; slowest = slowest_of r later; tolerance = tolerance; turns = length later })

abbrev pub oscillator_of : List Rate → ℕ → Option Pace
oscillator_of rates tolerance =
    if not (is_ok (timing_within Wide 0 rates)) || nat_lt greatest_tolerance tolerance then None else pace_of rates tolerance

-- the shortest quantum with a tolerance wider by some parts per million, in millionths of a tick, rounded down
abbrev pub shortest_of : Pace → ℕ → ℕ
shortest_of p wider = p.fastest.num * (1000000 - (p.tolerance + wider)) / p.fastest.den

-- the longest one, rounded up
abbrev pub longest_of : Pace → ℕ → ℕ
longest_of p wider = div_ceil (p.slowest.num * (1000000 + (p.tolerance + wider))) p.slowest.den

-- what is kept of an oscillator: its own shortest and longest quantum too
pub record IsOscillator (least most : ℕ) (p : Pace) : Type 0 where
  pub pace : IsPace p
  pub shortest : least ≡ shortest_of p 0
  pub longest : most ≡ longest_of p 0
  pub short : least < fast_limit
  pub long : most < slow_limit
