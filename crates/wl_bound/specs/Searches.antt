-- How much longer the cable may be, and how much wider the tolerances. This project's.
use Rattle.std.specs.Prelude.{◌≡◌, ℕ, ◌+◌, ◌-◌, ◌*◌, ◌/◌, ◌<◌, ◌≤◌, ◌⊎◌, Bool, true, false, length, Option, Some, None}
use Rattle.std.specs.Option.{is_some}
use Rattle.std.specs.Prelude.{not}
use Rattle.wl_topology.specs.Limits.{longest_delay}
use Rattle.wl_bound.specs.declared.condition.Senders.{Senders}
use Rattle.wl_bound.specs.declared.family.Setting.{Setting}
use Rattle.wl_bound.specs.declared.family.Source.TheVariants.{Together}
use Rattle.wl_bound.specs.declared.search.Growth.{Growth}
use Rattle.wl_bound.specs.declared.search.Growth.TheVariants.{Longer, Wider}
use Rattle.wl_bound.specs.Oscillators.{greatest_tolerance}
use Rattle.wl_bound.specs.Families.{Buses, member_at, way_between}
use Rattle.wl_bound.specs.Terms.{greatest}
use Rattle.wl_bound.specs.Conditions.{first_failure_of}

-- every node
abbrev pub each : ℕ → Bool
each i = true

-- The setting that grew by n: a cable of `length` ticks by n units of length, of `per` ticks each; or every tolerance by n parts per million.
abbrev pub grown_by : Growth → ℕ → Setting
grown_by (Longer length per) n = record { source = Together; change = None; wider = 0; length = length; longer = n * per }
grown_by Wider n = record { source = Together; change = None; wider = n; length = 1; longer = 0 }

-- no inequality fails
abbrev pub holds_in : Buses → Setting → Senders → Bool
holds_in f s senders = not (is_some (first_failure_of f s senders))

abbrev pub holds_grown : Buses → Senders → Growth → ℕ → Bool
holds_grown f senders growth n = holds_in f (grown_by growth n) senders

-- n is the greatest number up to a limit for which a test passes.
pub record IsGreatest (test : ℕ → Bool) (limit n : ℕ) : Type 0 where
  pub within : n ≤ limit
  pub passes : test n ≡ true
  pub greatest : (m : ℕ) → m ≤ limit → test m ≡ true → m ≤ n

-- the same of an answer, which is none if the test fails at 0
abbrev pub IsGreatestOf : (ℕ → Bool) → ℕ → Option ℕ → Type 0
IsGreatestOf test limit None = test 0 ≡ false
IsGreatestOf test limit (Some n) = IsGreatest test limit n

-- A test passes at n, and no more one further, unless n is the limit: what halving finds.
pub record IsBorder (test : ℕ → Bool) (limit n : ℕ) : Type 0 where
  pub within : n ≤ limit
  pub passes : test n ≡ true
  pub no_further : n < limit → test (n + 1) ≡ false

abbrev pub IsBorderOf : (ℕ → Bool) → ℕ → Option ℕ → Type 0
IsBorderOf test limit None = test 0 ≡ false
IsBorderOf test limit (Some n) = IsBorder test limit n

-- the ticks that a level takes from one end of the cable to the other: between the two nodes that are furthest apart
abbrev pub cable_ticks : Buses → ℕ
cable_ticks f = greatest (length f.members) each (λ i. greatest (length f.members) each (way_between f.cable i))

-- A cable takes at most as many ticks as the delay between two nodes may.
abbrev pub longest_growth : Buses → ℕ
longest_growth f = (longest_delay - cable_ticks f) / f.cable.per

-- by how many units of length the cable may be longer, if it has a length
abbrev pub IsLongerCable : Buses → Senders → Option ℕ → Type 0
IsLongerCable f senders None = (cable_ticks f ≡ 0) ⊎ (holds_grown f senders (Longer (cable_ticks f) f.cable.per) 0 ≡ false)
IsLongerCable f senders (Some n) =
    (0 < cable_ticks f) × IsGreatest (holds_grown f senders (Longer (cable_ticks f) f.cable.per)) (longest_growth f) n

-- every tolerance stays a tolerance
abbrev pub widest_growth : Buses → ℕ
widest_growth f = greatest_tolerance - greatest (length f.members) each (λ i. (member_at f i).oscillator.tolerance)

-- by how many parts per million every tolerance may grow
abbrev pub IsWiderTolerance : Buses → Senders → Option ℕ → Type 0
IsWiderTolerance f senders found = IsGreatestOf (holds_grown f senders Wider) (widest_growth f) found

-- n units of length fit a number of 32 bits
abbrev pub GrowsTo : Growth → ℕ → Type 0
GrowsTo (Longer length per) n = n * per < 4294967296
GrowsTo Wider n = Unit {0}
