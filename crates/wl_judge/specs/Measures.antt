-- How much a bus has to spare, and which change gives most (this project's profile).
use Rattle.std.specs.Prelude.{◌≡◌, ℕ, ◌==◌, ◌&&◌, ◌||◌, nat_lt, Bool, true, if◌then◌else◌, List, [], ◌∷◌, Option, Some, None, unwrap_or}
use Rattle.wl_plan.specs.declared.plan.Plan.{Plan}
use Rattle.wl_setup.specs.declared.bus.Deviation.{Deviation}
use Rattle.wl_bound.specs.Families.{Buses, family_of}
use Rattle.wl_bound.specs.Oscillators.{Pace}
use Rattle.wl_bound.specs.Searches.{IsLongerCable, IsWiderTolerance, cable_ticks}
use Rattle.wl_bound.specs.declared.search.Growth.TheVariants.{Longer, Wider}
use Rattle.wl_bound.specs.declared.condition.Senders.{Senders}
use Rattle.wl_bound.specs.declared.condition.Senders.TheVariants.{Any, One}
use Rattle.wl_margin.specs.Margins.{IsProvedGrowth, paces_of}
use Rattle.wl_margin.specs.Standings.{standing_of}
use Rattle.wl_margin.specs.declared.margin.readers.Standing.{Standing}
use Rattle.wl_margin.specs.declared.margin.readers.Standing.TheVariants.{Astray, AnySenders, OneSender, Fails, Unbound}
use Rattle.wl_margin.specs.declared.margin.readers.Surety.{Surety}
use Rattle.wl_margin.specs.declared.margin.readers.Surety.TheVariants.{ProvedForAny, ProvedForOne, Searched}
use Rattle.wl_judge.specs.declared.measure.Measure.{Measure}
use Rattle.wl_judge.specs.declared.measure.Found.{Found}
use Rattle.wl_judge.specs.declared.trial.Trial.{Trial}
use Rattle.wl_judge.specs.Trials.{tried_deviations, tried_plan}

-- the ticks of a unit of length, if the cable may be longer
abbrev pub IsUnit : Buses → Option ℕ → ℕ → Type 0
IsUnit f None per = per ≡ 0
IsUnit f (Some units) per = per ≡ f.cable.per

-- by how much the cable may be longer and every tolerance wider, as a margin searches it: for the senders for which the condition holds
abbrev pub AreReserves : Buses → Senders → Measure → Type 0
AreReserves f senders m = IsLongerCable f senders m.longer × IsUnit f m.longer m.per × IsWiderTolerance f senders m.wider

-- If it is proved for any senders, that is how far it stays proved.
abbrev pub AreProvedReserves : Buses → Measure → Type 0
AreProvedReserves f m =
    (longer : Option ℕ) × (wider : Option ℕ) × IsLongerCable f Any longer × IsWiderTolerance f Any wider
    × IsProvedGrowth true f (Longer (cable_ticks f) f.cable.per) longer m.longer × IsUnit f longer m.per × IsProvedGrowth true f Wider wider m.wider

abbrev pub AreReservesBy : Buses → Surety → Measure → Type 0
AreReservesBy f ProvedForAny m = AreProvedReserves f m
AreReservesBy f ProvedForOne m = AreReserves f Any m
AreReservesBy f Searched m = AreReserves f Any m

-- a bus that isn't asked
abbrev pub HasNone : Measure → Type 0
HasNone m = (m.longer ≡ None) × (m.per ≡ 0) × (m.wider ≡ None)

abbrev pub HasReserves : Buses → Standing → Measure → Type 0
HasReserves f (Astray i) m = HasNone m
HasReserves f (AnySenders surety) m = AreReservesBy f surety m
HasReserves f (OneSender surety) m = AreReserves f One m
HasReserves f (Fails failure) m = HasNone m
HasReserves f (Unbound cause) m = HasNone m

abbrev pub IsMeasured : Buses → Standing → Measure → Type 0
IsMeasured f standing m = (m.standing ≡ standing) × HasReserves f standing m

-- how much a margin says of a bus
abbrev pub surety_rank : Surety → ℕ
surety_rank ProvedForAny = 4
surety_rank ProvedForOne = 3
surety_rank Searched = 2

abbrev pub standing_rank : Standing → ℕ
standing_rank (Astray i) = 0
standing_rank (AnySenders surety) = surety_rank surety
standing_rank (OneSender surety) = 1
standing_rank (Fails failure) = 0
standing_rank (Unbound cause) = 0

-- numbers in the order of the first in which they differ
abbrev pub is_more : (a b : ℕ) → Bool → Bool
is_more a b other = nat_lt b a || (a == b && other)

-- a measure is better than another: more is said of the bus; of the same the cable may be longer, and then the tolerances wider
abbrev pub is_better : Measure → Measure → Bool
is_better m other =
    is_more (standing_rank m.standing) (standing_rank other.standing) (is_more (unwrap_or m.longer 0) (unwrap_or other.longer 0)
    (nat_lt (unwrap_or other.wider 0) (unwrap_or m.wider 0)))

-- the measure to beat: that of the best change so far, else that of the bus as it is
abbrev pub best_measure : Measure → Option Found → Measure
best_measure base None = base
best_measure base (Some found) = found.measure

abbrev pub found_if : Bool → Trial → Measure → Option Found → Option Found
found_if better t m best = if better then Some (record { trial = t; measure = m }) else best

abbrev pub better_of : Measure → Option Found → Trial → Option Measure → Option Found
better_of base best t None = best
better_of base best t (Some m) = found_if (is_better m (best_measure base best)) t m best

-- what is found of the bus of a plan with these deviations: nothing if a clock is none
abbrev pub IsMeasureBy : Option (List Pace) → List Deviation → Plan → Option Measure → Type 0
IsMeasureBy None deviations plan found = found ≡ None
IsMeasureBy (Some paces) deviations plan found =
    (m : Measure) × (found ≡ Some m) × IsMeasured (family_of plan paces) (standing_of deviations plan (family_of plan paces)) m

abbrev pub IsMeasureOf : List Deviation → Option Plan → Option Measure → Type 0
IsMeasureOf deviations None found = found ≡ None
IsMeasureOf deviations (Some plan) found = IsMeasureBy (paces_of deviations) deviations plan found

module _ (deviations : List Deviation) (plan : Plan) where
  -- what is found of a bus after a change
  abbrev pub IsTried : Trial → Option Measure → Type 0
  IsTried t found = IsMeasureOf (tried_deviations t deviations) (tried_plan t deviations plan) found

  -- the best of some changes, if one is better than the best so far
  abbrev pub IsBestOf : Measure → List Trial → (best result : Option Found) → Type 0
  IsBestOf base [] best result = result ≡ best
  IsBestOf base (t ∷ later) best result = (found : Option Measure) × IsTried t found × IsBestOf base later (better_of base best t found) result
