-- What is proved of a bus after the silence of its run, or why nothing is (this project's profile).
use Rattle.std.specs.Prelude.{◌≡◌, ℕ, ◌+◌, ◌&&◌, nat_lt, Bool, true, false, List, [], ◌∷◌, ◌++◌, codes, length, Option, Some, None}
use Rattle.std.specs.Fmt.{decimal}
use Rattle.std.specs.Option.{is_none}
use Rattle.wl_level.specs.Places.{first_place}
use Rattle.wl_plan.specs.declared.plan.Plan.{Plan}
use Rattle.wl_setup.specs.declared.bus.Bus.{Bus}
use Rattle.wl_setup.specs.declared.bus.Deviation.{Deviation}
use Rattle.wl_setup.specs.Names.{name_of}
use Rattle.wl_bound.specs.Conditions.{first_failure_of, plain}
use Rattle.wl_bound.specs.Covered.{all_speak}
use Rattle.wl_bound.specs.Families.{Buses}
use Rattle.wl_bound.specs.Rooms.{leaves_room}
use Rattle.wl_bound.specs.declared.condition.Senders.TheVariants.{Any}
use Rattle.wl_margin.specs.Margins.{any_failure, any_reason, bus_family, no_clock_words}
use Rattle.wl_margin.specs.Paces.{is_turning}
use Rattle.wl_margin.specs.Pieces.{joined}
use Rattle.wl_margin.specs.Reasons.{first_leaver}
use Rattle.wl_margin.specs.Standings.{standing_of, standing_reasons}
use Rattle.wl_margin.specs.declared.margin.readers.Standing.{Standing}
use Rattle.wl_margin.specs.declared.margin.readers.Standing.TheVariants.{Astray, AnySenders, OneSender, Fails, Unbound}
use Rattle.wl_margin.specs.declared.reasons.Asked.TheVariants.{AllNodes}
use Rattle.wl_onward.specs.Silences.{silence_ticks}
use Rattle.wl_calm.specs.declared.calm.Calm.{Calm}
use Rattle.wl_calm.specs.declared.calm.Calm.TheVariants.{Busy, Silent, Unfit}
use Rattle.wl_calm.specs.Calms.{IsCalm}

-- the tick by which a silence has its 36 bits of each node
abbrev pub silence_end : Plan → (from : ℕ) → ℕ
silence_end plan from = from + silence_ticks plan + 1

abbrev pub clean_line : (from until : ℕ) → List ℕ
clean_line from until =
    joined (codes "clean from tick " ∷ decimal until ∷ codes " on, after a silence from tick " ∷ decimal from
    ∷ codes " on, proved: a_silent_run_speaks_for_each_plan\n" ∷ [])

abbrev pub margin_lead : List ℕ
margin_lead = codes "not proved clean; margin: "

abbrev pub unfit_line : List ℕ → List ℕ
unfit_line a = joined (codes "not proved clean: " ∷ a ∷ codes " is error passive or bus off at the end\n" ∷ [])

abbrev pub busy_line : List ℕ
busy_line = codes "not proved clean: no silence of 36 bits follows the disturbances\n"

abbrev pub leaver_line : List ℕ → List ℕ
leaver_line a = joined (codes "not proved: " ∷ a ∷ codes " leaves the bus\n" ∷ [])

-- `margin` says that the bus holds for any senders
abbrev pub is_for_any : Standing → Bool
is_for_any (AnySenders surety) = true
is_for_any standing = false

-- What the law on a silence asks beside that: each oscillator has one rate, no node only listens or leaves the bus, and the bus has room.
abbrev pub is_mended : List Deviation → Plan → Buses → Bool
is_mended deviations plan f =
    is_none (first_place (is_turning deviations) (length plan.nodes)) && (all_speak plan && (is_none (first_leaver plan) && leaves_room f))

-- the law covers the plan after a silence
abbrev pub is_cleaned : List Deviation → Plan → Buses → Bool
is_cleaned deviations plan f = is_for_any (standing_of deviations plan f) && is_mended deviations plan f

-- a clock with several rates is named before a node that leaves the bus
abbrev pub leaver_after : Option ℕ → Option ℕ → Option ℕ
leaver_after (Some turning) leaver = None
leaver_after None leaver = leaver

module _ (tick : ℕ) (bus : Bus) (f : Buses) where
  -- Why it doesn't: the first thing that lacks, as `margin` has it of the plan without its disturbances.
  abbrev pub mend_line : Option ℕ → List ℕ
  mend_line (Some i) = leaver_line (name_of bus.names i)
  mend_line None = any_reason AllNodes tick bus.deviations bus.plan bus.names f

  abbrev pub lack_line : Standing → List ℕ
  lack_line (AnySenders surety) =
      mend_line (leaver_after (first_place (is_turning bus.deviations) (length bus.plan.nodes)) (first_leaver bus.plan))
  lack_line (OneSender surety) = any_failure tick f bus.names (first_failure_of f plain Any)
  lack_line (Astray i) = standing_reasons tick bus.deviations bus.plan bus.names f (Astray i)
  lack_line (Fails failure) = standing_reasons tick bus.deviations bus.plan bus.names f (Fails failure)
  lack_line (Unbound cause) = standing_reasons tick bus.deviations bus.plan bus.names f (Unbound cause)

-- what the run shows of a bus that the law covers
abbrev pub calm_line : Bus → Calm → List ℕ
calm_line bus (Silent from) = clean_line from (silence_end bus.plan from)
calm_line bus (Unfit i) = unfit_line (name_of bus.names i)
calm_line bus Busy = busy_line

abbrev pub IsLineIfCleaned : (cleaned : Bool) → ℕ → Bus → Buses → List ℕ → Type 0
IsLineIfCleaned false tick bus f text = text ≡ margin_lead ++ lack_line tick bus f (standing_of bus.deviations bus.plan f)
IsLineIfCleaned true tick bus f text = (calm : Calm) × IsCalm bus.plan calm × (text ≡ calm_line bus calm)

-- of a bus with this family, if its clocks without `ppm` are some
abbrev pub IsFamilyLine : ℕ → Bus → Option Buses → List ℕ → Type 0
IsFamilyLine tick bus None text = text ≡ margin_lead ++ no_clock_words
IsFamilyLine tick bus (Some f) text = IsLineIfCleaned (is_cleaned bus.deviations bus.plan f) tick bus f text

-- the line is there if something disturbs
abbrev pub IsLineIf : (disturbed : Bool) → ℕ → Bus → List ℕ → Type 0
IsLineIf false tick bus text = text ≡ []
IsLineIf true tick bus text = IsFamilyLine tick bus (bus_family bus) text

abbrev pub IsSilenceLine : ℕ → Bus → List ℕ → Type 0
IsSilenceLine tick bus text = IsLineIf (nat_lt 0 (length bus.plan.disturbances)) tick bus text
