-- Why it isn't proved that a bus works, as far as the condition holds for it; and the line of a clock beyond its tolerance (this project's profile).
use Rattle.std.specs.Prelude.{ℕ, suc, ◌==◌, ◌&&◌, nat_le, nat_lt, not, Bool, List, [], ◌∷◌, ◌++◌, codes, length, if◌then◌else◌, Option, Some, None, unwrap_or}
use Rattle.std.specs.Fmt.{decimal}
use Rattle.wl_level.specs.Places.{first_place}
use Rattle.wl_clock.specs.Timing.{tick_of}
use Rattle.wl_topology.specs.Driven.{any_below}
use Rattle.wl_plan.specs.declared.plan.Plan.{Plan}
use Rattle.wl_plan.specs.PlanLine.{setup_at}
use Rattle.wl_setup.specs.declared.bus.Deviation.{Deviation}
use Rattle.wl_setup.specs.Names.{name_of}
use Rattle.wl_bound.specs.Covered.{finds_one_busy, leaves}
use Rattle.wl_bound.specs.Families.{Buses, only_listens}
use Rattle.wl_bound.specs.Oscillators.{Pace}
use Rattle.wl_bound.specs.Terms.{greatest}
use Rattle.wl_bound.specs.Verdicts.{idle_at, is_ready_from}
use Rattle.wl_bound.specs.Lacks.{first_lack}
use Rattle.wl_bound.specs.declared.lack.Lack.{Lack}
use Rattle.wl_bound.specs.declared.lack.Shortage.{Shortage}
use Rattle.wl_bound.specs.declared.lack.Shortage.TheVariants.{OwnBit, CatchingUp, DriftInJump, WayToSample, Rest}
use Rattle.wl_margin.specs.Paces.{is_turning, least_ticks, most_ticks}
use Rattle.wl_margin.specs.Pieces.{joined, each_below}
use Rattle.wl_margin.specs.Sentences.{Measure, around_words, drift_words, late_words, loop_words, measure_of, within_words}
use Rattle.wl_margin.specs.declared.paces.Stray.{Stray}
use Rattle.wl_margin.specs.declared.reasons.Asked.{Asked}
use Rattle.wl_margin.specs.declared.reasons.Asked.TheVariants.{ThisPlan, AllNodes}
use Rattle.wl_margin.specs.declared.reasons.Cause.{Cause}
use Rattle.wl_margin.specs.declared.reasons.Cause.TheVariants.{Turning, Disturbed, Leaving, Listening, Lacking, Waiting}

-- the line of a clock beyond its tolerance: the ticks of some quanta, and the ticks that are within it
abbrev pub beyond_words : List ℕ → ℕ → List ℕ
beyond_words a ppm = joined (codes "does not hold: the clock of " ∷ a ∷ codes " is outside of its tolerance of " ∷ decimal ppm ∷ codes " ppm: " ∷ [])

abbrev pub taken_words : Stray → (least most : ℕ) → List ℕ
taken_words stray least most =
    joined (decimal stray.quanta ∷ codes " quanta take " ∷ decimal stray.ticks ∷ codes " ticks, and " ∷ decimal least ∷ codes " to " ∷ decimal most
    ∷ codes " are within it\n" ∷ [])

abbrev pub astray_words : List ℕ → Pace → Stray → List ℕ
astray_words a p stray = beyond_words a p.tolerance ++ taken_words stray (least_ticks p stray.quanta) (most_ticks p stray.quanta)

abbrev pub astray_line : List ℕ → Pace → Option Stray → List ℕ
astray_line a p None = []
astray_line a p (Some stray) = astray_words a p stray

-- the first node that only listens
abbrev pub first_listener : Plan → Option ℕ
first_listener plan = if nat_lt (length plan.nodes) 2 then None else first_place (only_listens plan.topology) (length plan.nodes)

-- the first node that leaves the bus
abbrev pub first_leaver : Plan → Option ℕ
first_leaver plan = first_place (leaves plan) (length plan.nodes)

-- The first cause that there is. The plan's own disturbances and times count if it alone is asked about; what a bus lacks goes before these times.
abbrev pub cause_at : Option ℕ → (ℕ → Cause) → Cause → Cause
cause_at None cause other = other
cause_at (Some i) cause other = cause i

abbrev pub of_line : Asked → Plan → Cause → Cause
of_line ThisPlan plan other = if nat_lt 0 (length plan.disturbances) then Disturbed else cause_at (first_leaver plan) Leaving other
of_line AllNodes plan other = other

abbrev pub of_room : Option Lack → Cause
of_room None = Waiting
of_room (Some lack) = Lacking lack

abbrev pub cause_before : Asked → List Deviation → Plan → Cause → Cause
cause_before asked deviations plan other =
    cause_at (first_place (is_turning deviations) (length plan.nodes)) Turning (of_line asked plan (cause_at (first_listener plan) Listening other))

-- for any senders, and for one at a time
abbrev pub any_cause : Asked → List Deviation → Plan → Buses → Cause
any_cause asked deviations plan f = cause_before asked deviations plan (of_room (first_lack f))

abbrev pub one_cause : Asked → List Deviation → Plan → Cause
one_cause asked deviations plan = cause_before asked deviations plan Waiting

-- node j isn't idle when the first frame of node i becomes ready
abbrev pub is_kept_by : Plan → ℕ → ℕ → Bool
is_kept_by plan i j = not (j == i) && not (is_ready_from (setup_at plan i) (setup_at plan i).queue (idle_at (setup_at plan j)))

-- all nodes but node i are idle from this tick on; its first quantum from there on
abbrev pub idle_but : Plan → ℕ → ℕ
idle_but plan i = greatest (length plan.nodes) (λ j. not (j == i)) (λ j. idle_at (setup_at plan j))

abbrev pub is_from : Plan → ℕ → ℕ → Bool
is_from plan i k = nat_le (idle_but plan i) (tick_of (setup_at plan i).clock k)

abbrev pub idle_quantum : Plan → ℕ → ℕ
idle_quantum plan i = unwrap_or (first_place (is_from plan i) (suc (idle_but plan i))) 0

-- the first quantum at which the first frame of a may be ready
abbrev pub quantum_words : List ℕ → ℕ → List ℕ
quantum_words a quantum = joined (a ∷ codes " " ∷ decimal quantum ∷ [])

-- the first frame of a finds b busy
abbrev pub kept_words : (a b : List ℕ) → List ℕ
kept_words a b =
    joined (b ∷ codes " isn't idle when the first frame of " ∷ a
    ∷ codes " is ready; proved if first frames are ready at these quanta or later:" ∷ [])

module _ (plan : Plan) (names : List (List ℕ)) where
  -- those of each node whose first frame is ready too soon
  abbrev pub ready_words : ℕ → List ℕ
  ready_words i =
      if finds_one_busy plan i
      then (if any_below i (finds_one_busy plan) then codes ", " else codes " ") ++ quantum_words (name_of names i) (idle_quantum plan i)
      else []

  abbrev pub kept_at : ℕ → Option ℕ → List ℕ
  kept_at i None = []
  kept_at i (Some j) = kept_words (name_of names i) (name_of names j) ++ each_below ready_words (length plan.nodes)

  abbrev pub waiting_at : Option ℕ → List ℕ
  waiting_at None = codes "a quantum takes too long to be counted"
  waiting_at (Some i) = kept_at i (first_place (is_kept_by plan i) (length plan.nodes))

  abbrev pub waiting_words : List ℕ
  waiting_words = waiting_at (first_place (finds_one_busy plan) (length plan.nodes))

-- what the room lacks at node a for node b
abbrev pub chase_words : (a b taken there : List ℕ) → List ℕ
chase_words a b taken there = joined (a ∷ codes " can be " ∷ taken ∷ codes " off the bits of " ∷ b ∷ codes ", and its edges put right " ∷ there ∷ [])

abbrev pub resting_words : (a b taken there : List ℕ) → List ℕ
resting_words a b taken there =
    joined (codes "twelve bits after an edge a bit of " ∷ b ∷ codes " comes to " ∷ a ∷ codes " up to " ∷ taken
    ∷ codes " too early, and its PHASE_SEG2 has " ∷ there ∷ [])

abbrev pub shortage_words : Shortage → (a b taken there : List ℕ) → List ℕ
shortage_words OwnBit a b taken there = loop_words a taken there
shortage_words CatchingUp a b taken there = chase_words a b taken there
shortage_words DriftInJump a b taken there = drift_words b a taken there
shortage_words WayToSample a b taken there = late_words a b taken there
shortage_words Rest a b taken there = resting_words a b taken there

abbrev pub lack_sentence : Measure → List (List ℕ) → Lack → List ℕ
lack_sentence m names lack =
    shortage_words lack.shortage (name_of names lack.node) (name_of names lack.other) (around_words m lack.sides.left) (within_words m lack.sides.right)

abbrev pub lack_words : ℕ → Buses → List (List ℕ) → Lack → List ℕ
lack_words tick f names lack = lack_sentence (measure_of tick f lack.node) names lack

-- a cause in words
abbrev pub cause_words : ℕ → Buses → Plan → List (List ℕ) → Cause → List ℕ
cause_words tick f plan names (Turning i) = joined (codes "the clock of " ∷ name_of names i ∷ codes " has several rates" ∷ [])
cause_words tick f plan names Disturbed = codes "the plan has a disturbance"
cause_words tick f plan names (Leaving i) = joined (name_of names i ∷ codes " leaves the bus" ∷ [])
cause_words tick f plan names (Listening i) = joined (name_of names i ∷ codes " only listens" ∷ [])
cause_words tick f plan names (Lacking lack) = lack_words tick f names lack
cause_words tick f plan names Waiting = waiting_words plan names
