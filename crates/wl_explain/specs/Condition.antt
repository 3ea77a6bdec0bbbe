-- What is doubtful of clocks, ways and cables together: the condition for a sound bus, for each pair of nodes (this project's profile).
use Rattle.std.specs.Prelude.{◌≡◌, ℕ, ◌+◌, ◌-◌, ◌*◌, ◌/◌, ◌||◌, nat_lt, Bool, true, false, List, [], ◌∷◌, ◌++◌, codes, length, if◌then◌else◌, Option, Some, None}
use Rattle.std.specs.Fmt.{decimal}
use Rattle.wl_level.specs.Places.{first_place}
use Rattle.wl_clock.specs.Timing.{Timing}
use Rattle.wl_node.specs.declared.setup.NodeSetup.{NodeSetup}
use Rattle.wl_plan.specs.declared.plan.Plan.{Plan}
use Rattle.wl_plan.specs.PlanLine.{setup_at}
use Rattle.wl_setup.specs.declared.bus.Bus.{Bus}
use Rattle.wl_setup.specs.declared.plan_text.PlanText.{PlanText}
use Rattle.wl_respond.specs.declared.bounds.Waits.{Waits}
use Rattle.wl_respond.specs.Bounds.{AreWaitsOfBus}
use Rattle.wl_explain.specs.Waits.{wait_doubts}
use Rattle.wl_setup.specs.Names.{name_of}
use Rattle.wl_bound.specs.declared.condition.Inequality.{Inequality}
use Rattle.wl_bound.specs.declared.condition.Inequality.TheVariants.{DriftFitsJump, BitIsThereAtSample, NoBitTooEarly}
use Rattle.wl_bound.specs.declared.condition.Failure.{Failure}
use Rattle.wl_bound.specs.declared.condition.Senders.TheVariants.{Any, One}
use Rattle.wl_bound.specs.declared.verdict.Outside.{Outside}
use Rattle.wl_bound.specs.declared.verdict.Outside.TheVariants.{FewNodes, NoFrames, ListenerSends, NobodyAcknowledges, NotByTheBook, SameIdentifier, NobodyIdle}
use Rattle.wl_bound.specs.Families.{Buses, member_at}
use Rattle.wl_bound.specs.Oscillators.{Pace, shortest_of, longest_of}
use Rattle.wl_bound.specs.Conditions.{plain, pair_failure}
use Rattle.wl_bound.specs.Verdicts.{outside_of, without_book}
use Rattle.wl_margin.specs.Pieces.{joined, each_below}
use Rattle.wl_margin.specs.Margins.{failure_line, bus_family, no_clock_words, outside_reason, TellsHeadroom}
use Rattle.wl_explain.specs.Figures.{quanta_begun, ticks_of}
use Rattle.wl_explain.specs.Doubts.{difference, greatest_difference}
use Rattle.wl_explain.specs.Words.{bit_rate, unlike_words, doubts_with, node_doubts, room_doubts, timing_figures, figures_line}

-- what lies outside of the condition: a doubt, or that no bound is known
abbrev pub doubt_lead : Outside → List ℕ
doubt_lead FewNodes = codes "doubt: "
doubt_lead NoFrames = codes "doubt: no bound is known: "
doubt_lead (ListenerSends i) = codes "doubt: "
doubt_lead (NobodyAcknowledges i) = codes "doubt: "
doubt_lead (NotByTheBook i) = codes "doubt: no bound is known: "
doubt_lead (SameIdentifier i j) = codes "doubt: "
doubt_lead (NobodyIdle i) = codes "doubt: "

abbrev pub outside_line : List (List ℕ) → Option Outside → List ℕ
outside_line names None = []
outside_line names (Some cause) = doubt_lead cause ++ outside_reason names cause

-- the picoseconds of a tick, which is taken for a nanosecond
abbrev pub nanosecond : ℕ
nanosecond = 1000

-- what goes wrong for one sender at a time, or else for several
abbrev pub told_failure : Buses → List (List ℕ) → Option Failure → Option Failure → List ℕ
told_failure f names (Some failure) any = failure_line nanosecond f names (codes "doubt: ") failure
told_failure f names None (Some failure) = failure_line nanosecond f names (codes "doubt: if several nodes send at once, ") failure
told_failure f names None None = []

abbrev pub fail_line : Buses → List (List ℕ) → Inequality → ℕ → ℕ → List ℕ
fail_line f names inequality i j =
    told_failure f names (pair_failure f plain One inequality i j) (pair_failure f plain Any inequality i j)

-- each inequality that fails for nodes i and j
abbrev pub fail_lines : Buses → List (List ℕ) → ℕ → ℕ → List ℕ
fail_lines f names i j =
    fail_line f names DriftFitsJump i j ++ fail_line f names BitIsThereAtSample i j ++ fail_line f names NoBitTooEarly i j

-- Two nodes of unlike bit rates are told once, and nothing else of them.
abbrev pub are_unlike : ℕ → NodeSetup → NodeSetup → Bool
are_unlike end s u = nat_lt greatest_difference (difference end s u)

abbrev pub unlike_line : Plan → List (List ℕ) → ℕ → ℕ → List ℕ
unlike_line plan names i j =
    if nat_lt i j
    then unlike_words (name_of names i) (name_of names j) (bit_rate plan.end (setup_at plan i)) (bit_rate plan.end (setup_at plan j))
    else []

abbrev pub pair_lines : Buses → Plan → List (List ℕ) → ℕ → ℕ → List ℕ
pair_lines f plan names i j =
    if are_unlike plan.end (setup_at plan i) (setup_at plan j) then unlike_line plan names i j else fail_lines f names i j

abbrev pub lines_of : Buses → Plan → List (List ℕ) → ℕ → List ℕ
lines_of f plan names i = each_below (pair_lines f plan names i) (length f.members)

-- The ticks of the quanta up to the end, which are told to less than one, are too few or too many for a clock within its tolerance.
abbrev pub strays : ℕ → Timing → Pace → Bool
strays end t p =
    nat_lt (1000000 * (ticks_of t (quanta_begun end t) + 1) / quanta_begun end t) (shortest_of p 0)
    || nat_lt (longest_of p 0) (1000000 * (ticks_of t (quanta_begun end t) - 1) / quanta_begun end t)

abbrev pub stray_words : List ℕ → ℕ → List ℕ
stray_words a ppm =
    joined (codes "doubt: the clock of " ∷ a ∷ codes " deviates by more than its tolerance of " ∷ decimal ppm ∷ codes " ppm\n" ∷ [])

abbrev pub stray_line : ℕ → List ℕ → Timing → Pace → List ℕ
stray_line end a t p = if strays end t p then stray_words a p.tolerance else []

abbrev pub stray_of : Buses → Plan → List (List ℕ) → ℕ → List ℕ
stray_of f plan names i = stray_line plan.end (name_of names i) (setup_at plan i).clock (member_at f i).oscillator

-- of a family, by the condition
abbrev pub family_doubts : Buses → Plan → List (List ℕ) → List ℕ
family_doubts f plan names =
    each_below (lines_of f plan names) (length f.members) ++ each_below (stray_of f plan names) (length f.members)

abbrev pub condition_doubts : Plan → List (List ℕ) → Option Buses → List ℕ
condition_doubts plan names None = codes "doubt: " ++ no_clock_words
condition_doubts plan names (Some f) = family_doubts f plan names

-- of clocks and ways: by the condition if every node synchronises by the book, else each by itself
abbrev pub clock_doubts : Plan → List (List ℕ) → Option ℕ → Option Buses → List ℕ
clock_doubts plan names None family = condition_doubts plan names family
clock_doubts plan names (Some i) family = each_below (doubts_with plan names) (length plan.nodes)

-- of each node, and of the end for each node
abbrev pub rest_doubts : Plan → List (List ℕ) → List ℕ
rest_doubts plan names =
    each_below (node_doubts plan names) (length plan.nodes) ++ each_below (room_doubts plan names) (length plan.nodes)

abbrev pub doubts_text : Plan → List (List ℕ) → Option ℕ → Option Buses → List ℕ
doubts_text plan names other family =
    outside_line names (outside_of plan) ++ clock_doubts plan names other family ++ rest_doubts plan names

-- The figures: by the book those of each node's bit, and then how much longer the cable and wider the tolerances may be together; else those of
-- each node by itself.
abbrev pub timing_line : Plan → List (List ℕ) → ℕ → List ℕ
timing_line plan names i = timing_figures plan names i ++ codes "\n"

abbrev pub timing_lines : Plan → List (List ℕ) → List ℕ
timing_lines plan names = each_below (timing_line plan names) (length plan.nodes)

-- A lone node is no bus: nothing is said of a longer cable and wider tolerances.
abbrev pub TellsHeadroomOf : (lone : Bool) → Buses → List ℕ → List ℕ → Type 0
TellsHeadroomOf true f old new = new ≡ old
TellsHeadroomOf false f old new = TellsHeadroom f old new

abbrev pub TellsFigures : Plan → List (List ℕ) → Option ℕ → Option Buses → List ℕ → List ℕ → Type 0
TellsFigures plan names None (Some f) old new = TellsHeadroomOf (nat_lt (length plan.nodes) 2) f (old ++ timing_lines plan names) new
TellsFigures plan names None None old new = new ≡ old ++ timing_lines plan names
TellsFigures plan names (Some i) family old new = new ≡ old ++ each_below (figures_line plan names) (length plan.nodes)

-- the first node that doesn't synchronise by the book
abbrev pub other_of : Plan → Option ℕ
other_of plan = first_place (without_book plan) (length plan.nodes)

-- of clocks, ways and nodes what is doubtful, and then of messages
abbrev pub all_doubts : Bus → Option Waits → List ℕ
all_doubts bus waits = doubts_text bus.plan bus.names (other_of bus.plan) (bus_family bus) ++ wait_doubts bus.names waits

-- the whole text, the doubts and then the figures, and whether there is a doubt
abbrev pub IsExplanation : PlanText → Bus → (text : List ℕ) → (doubted : Bool) → Type 0
IsExplanation plain bus text doubted =
    (waits : Option Waits) × AreWaitsOfBus nanosecond plain bus waits
    × TellsFigures bus.plan bus.names (other_of bus.plan) (bus_family bus) (all_doubts bus waits) text × (doubted ≡ nat_lt 0 (length (all_doubts bus waits)))
