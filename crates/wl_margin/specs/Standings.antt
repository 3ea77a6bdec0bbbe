-- What the first line of a bus's margin says, and why (this project's profile).
use Rattle.std.specs.Prelude.{ℕ, ◌<◌, Bool, true, false, List, ◌++◌, codes, Option, Some, None}
use Rattle.wl_plan.specs.declared.plan.Plan.{Plan}
use Rattle.wl_setup.specs.declared.bus.Deviation.{Deviation}
use Rattle.wl_setup.specs.Names.{name_of}
use Rattle.wl_bound.specs.Families.{Buses, member_at}
use Rattle.wl_bound.specs.Conditions.{first_failure_of, plain}
use Rattle.wl_bound.specs.Verdicts.{verdict_of}
use Rattle.wl_bound.specs.declared.condition.Senders.TheVariants.{Any}
use Rattle.wl_bound.specs.declared.verdict.Verdict.{Verdict}
use Rattle.wl_bound.specs.declared.verdict.Verdict.TheVariants.{ForAny, ForOne, DoesNotHold, NoBound}
use Rattle.wl_margin.specs.Paces.{first_stray, stray_at}
use Rattle.wl_margin.specs.Reasons.{astray_line}
use Rattle.wl_margin.specs.Margins.{any_failure, any_lead, any_reason, failure_line, one_lead, one_reason, outside_words, proved_of, senders_words}
use Rattle.wl_margin.specs.declared.margin.Proved.{Proved}
use Rattle.wl_margin.specs.declared.margin.readers.Standing.{Standing}
use Rattle.wl_margin.specs.declared.margin.readers.Standing.TheVariants.{Astray, AnySenders, OneSender, Fails, Unbound}
use Rattle.wl_margin.specs.declared.margin.readers.Surety.{Surety}
use Rattle.wl_margin.specs.declared.margin.readers.Surety.TheVariants.{ProvedForAny, ProvedForOne, Searched}
use Rattle.wl_margin.specs.declared.reasons.Asked.TheVariants.{ThisPlan}

-- how sure it is, by whom it is proved for
abbrev pub surety_of : (any one : Bool) → Surety
surety_of true one = ProvedForAny
surety_of false true = ProvedForOne
surety_of false false = Searched

abbrev pub standing_by : Proved → Verdict → Standing
standing_by proved ForAny = AnySenders (surety_of proved.any proved.one)
standing_by proved ForOne = OneSender (surety_of false proved.one)
standing_by proved (DoesNotHold failure) = Fails failure
standing_by proved (NoBound cause) = Unbound cause

-- first the clocks
abbrev pub standing_unless : Option ℕ → Standing → Standing
standing_unless (Some i) other = Astray i
standing_unless None other = other

-- what is said of the senders of a plan
abbrev pub standing_of : List Deviation → Plan → Buses → Standing
standing_of deviations plan f =
    standing_unless (first_stray deviations plan f) (standing_by (proved_of ThisPlan deviations plan f) (verdict_of plan f))

-- a clock that leaves its tolerance is one of the nodes'
abbrev pub IsInside : ℕ → Standing → Type 0
IsInside n (Astray i) = i < n
IsInside n (AnySenders surety) = Unit {0}
IsInside n (OneSender surety) = Unit {0}
IsInside n (Fails failure) = Unit {0}
IsInside n (Unbound cause) = Unit {0}

module _ (tick : ℕ) (deviations : List Deviation) (plan : Plan) (names : List (List ℕ)) (f : Buses) where
  -- the lines of a margin that say why it isn't more
  abbrev pub standing_reasons : Standing → List ℕ
  standing_reasons (Astray i) = astray_line (name_of names i) (member_at f i).oscillator (stray_at deviations plan f i)
  standing_reasons (AnySenders surety) = any_reason ThisPlan tick deviations plan names f
  standing_reasons (OneSender surety) =
      one_reason ThisPlan tick deviations plan names f ++ any_failure tick f names (first_failure_of f plain Any)
  standing_reasons (Fails failure) = failure_line tick f names (codes "does not hold: ") failure
  standing_reasons (Unbound cause) = outside_words names cause
