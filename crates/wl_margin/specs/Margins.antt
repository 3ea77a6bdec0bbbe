-- The text of a bus's margin: whether it works, what is to spare, how much longer and wider it may be (this project's profile).
use Rattle.std.specs.Prelude.{◌≡◌, ℕ, ◌==◌, ◌&&◌, nat_lt, not, Bool, true, false, List, [], ◌∷◌, ◌++◌, codes, length, if◌then◌else◌, Option, Some, None, option_map, option_and_then}
use Rattle.std.specs.Fmt.{decimal}
use Rattle.std.specs.Option.{is_some}
use Rattle.wl_topology.specs.Driven.{any_below}
use Rattle.wl_plan.specs.declared.plan.Plan.{Plan}
use Rattle.wl_setup.specs.declared.bus.Bus.{Bus}
use Rattle.wl_setup.specs.declared.bus.Deviation.{Deviation}
use Rattle.wl_setup.specs.Names.{name_of}
use Rattle.wl_bound.specs.Families.{Buses, all_sending, family_of, member_at, only_listens}
use Rattle.wl_bound.specs.Oscillators.{Pace, oscillator_of}
use Rattle.wl_bound.specs.Conditions.{first_failure_of, is_asked, plain, sides_in}
use Rattle.wl_bound.specs.Covered.{all_speak, is_covered}
use Rattle.wl_bound.specs.Helps.{help_of}
use Rattle.wl_bound.specs.declared.family.Change.{Change}
use Rattle.wl_bound.specs.declared.family.Change.TheVariants.{WiderJump, NarrowerJump, LaterSample, EarlierSample}
use Rattle.wl_bound.specs.declared.search.Growth.{Growth}
use Rattle.wl_bound.specs.declared.search.Growth.TheVariants.{Longer, Wider}
use Rattle.wl_bound.specs.Searches.{IsBorderOf, IsLongerCable, IsWiderTolerance, cable_ticks}
use Rattle.wl_bound.specs.Verdicts.{verdict_for_all, verdict_of}
use Rattle.wl_bound.specs.declared.condition.Inequality.{Inequality}
use Rattle.wl_bound.specs.declared.condition.Inequality.TheVariants.{DriftFitsJump, BitIsThereAtSample, NoBitTooEarly}
use Rattle.wl_bound.specs.declared.condition.Failure.{Failure}
use Rattle.wl_bound.specs.declared.condition.Senders.{Senders}
use Rattle.wl_bound.specs.declared.condition.Senders.TheVariants.{Any, One}
use Rattle.wl_bound.specs.declared.verdict.Outside.{Outside}
use Rattle.wl_bound.specs.declared.verdict.Outside.TheVariants.{FewNodes, NoFrames, ListenerSends, NobodyAcknowledges, NotByTheBook, SameIdentifier, NobodyIdle}
use Rattle.wl_bound.specs.declared.verdict.Verdict.{Verdict}
use Rattle.wl_bound.specs.declared.verdict.Verdict.TheVariants.{ForAny, ForOne, DoesNotHold, NoBound}
use Rattle.wl_bound.specs.Rooms.{is_roomy_grown, leaves_room}
use Rattle.wl_margin.specs.Paces.{first_stray, is_turning, stray_at}
use Rattle.wl_margin.specs.Noise.{noise_words}
use Rattle.wl_margin.specs.Pieces.{joined, each_below}
use Rattle.wl_margin.specs.Reasons.{any_cause, cause_words, one_cause, astray_line}
use Rattle.wl_margin.specs.declared.reasons.Asked.{Asked}
use Rattle.wl_margin.specs.declared.reasons.Asked.TheVariants.{ThisPlan, AllNodes}
use Rattle.wl_margin.specs.declared.searches.SearchResults.{SearchResults}
use Rattle.wl_margin.specs.declared.searches.Headroom.{Headroom}
use Rattle.wl_margin.specs.declared.margin.Proved.{Proved}
use Rattle.wl_margin.specs.Sentences.{measure_of, spare_words, failure_words}

-- the oscillators of the nodes, if each has rates that make a clock
abbrev pub paces_of : List Deviation → Option (List Pace)
paces_of [] = Some []
paces_of (d ∷ later) = option_and_then (λ p. option_map (λ ps. p ∷ ps) (paces_of later)) (oscillator_of d.rates d.tolerance)

-- frames of one identifier, and a frame that nobody may acknowledge
abbrev pub shared_words : List ℕ → List ℕ → List ℕ
shared_words a b = joined (a ∷ codes " and " ∷ b ∷ codes " have frames of one identifier, which no arbitration parts\n" ∷ [])

abbrev pub unheard_words : List ℕ → List ℕ
unheard_words a =
    joined (codes "the first frame of " ∷ a
    ∷ codes " becomes ready before any other node is idle, and nobody may acknowledge it\n" ∷ [])

-- frames of a node that only listens, and frames of the one node that doesn't
abbrev pub mute_words : List ℕ → List ℕ
mute_words a = joined (a ∷ codes " only listens, and nobody hears the frames that it has\n" ∷ [])

abbrev pub lone_words : List ℕ → List ℕ
lone_words a = joined (codes "all nodes but " ∷ a ∷ codes " only listen, and nobody acknowledges its frames\n" ∷ [])

-- what is said of a plan outside of the condition, and why
abbrev pub outside_lead : Outside → List ℕ
outside_lead FewNodes = codes "does not hold: "
outside_lead NoFrames = codes "no bound is known: "
outside_lead (ListenerSends i) = codes "does not hold: "
outside_lead (NobodyAcknowledges i) = codes "does not hold: "
outside_lead (NotByTheBook i) = codes "no bound is known: "
outside_lead (SameIdentifier i j) = codes "does not hold: "
outside_lead (NobodyIdle i) = codes "does not hold: "

abbrev pub outside_reason : List (List ℕ) → Outside → List ℕ
outside_reason names FewNodes = codes "there is one node, and nobody acknowledges its frames\n"
outside_reason names NoFrames = codes "no node has a frame to send\n"
outside_reason names (ListenerSends i) = mute_words (name_of names i)
outside_reason names (NobodyAcknowledges i) = lone_words (name_of names i)
outside_reason names (NotByTheBook i) =
    joined (name_of names i
    ∷ codes " synchronises after an edge, so it can miss a start of frame or an edge at its sample; for sync = \"book\" one is known\n" ∷ [])
outside_reason names (SameIdentifier i j) = shared_words (name_of names i) (name_of names j)
outside_reason names (NobodyIdle i) = unheard_words (name_of names i)

abbrev pub outside_words : List (List ℕ) → Outside → List ℕ
outside_words names cause = outside_lead cause ++ outside_reason names cause

-- what is to spare for nodes i and j, by the quantum of node i; none if the inequality isn't asked of them
abbrev pub spare_of : ℕ → Buses → Senders → Inequality → ℕ → ℕ → List ℕ
spare_of tick f senders inequality i j =
    if is_asked (only_listens f.cable) inequality i j then spare_words (measure_of tick f i) (sides_in f plain senders inequality i j)
    else codes "none"

-- the names of the nodes that send, in their order
abbrev pub sends_at : Buses → ℕ → Bool
sends_at f i = (member_at f i).sends

abbrev pub sender_words : Buses → List (List ℕ) → ℕ → List ℕ
sender_words f names i = if sends_at f i then (if any_below i (sends_at f) then codes " and " else []) ++ name_of names i else []

abbrev pub senders_words : Buses → List (List ℕ) → List ℕ
senders_words f names = each_below (sender_words f names) (length f.members)

-- What is said where the condition holds, after the names of those that send. That it suffices is proved for one sender at a time, on the plans that
-- the law covers (`one_sender_is_clean` of wl_buses::one_sender). So it is for any senders, if the bus leaves room (`any_senders_are_clean` of wl_buses::clean_plans).
-- Else it rests on searches.
abbrev pub any_word : Proved → List ℕ
any_word proved =
    if proved.any then codes ", proved: any_senders_are_clean\n"
    else if proved.one then codes ", as far as searched; for one sender at a time, proved: one_sender_is_clean\n"
    else codes ", as far as searched, not proved\n"

abbrev pub one_word : Bool → List ℕ
one_word true = codes ", proved: one_sender_is_clean\n"
one_word false = codes ", as far as searched, not proved\n"

abbrev pub any_lead : List ℕ → Proved → List ℕ
any_lead who proved = codes "holds for any senders of " ++ who ++ any_word proved

abbrev pub one_lead : List ℕ → Bool → List ℕ
one_lead who proved = codes "holds for one sender at a time of " ++ who ++ one_word proved

-- Who is asked about: the nodes with frames, on this plan; or all that don't only listen, on any plan of these nodes. The laws cover it.
abbrev pub is_asked_plan_covered : Asked → Plan → Bool
is_asked_plan_covered ThisPlan plan = is_covered plan
is_asked_plan_covered AllNodes plan = all_speak plan

-- Each oscillator has one rate, and the laws cover it. So it is proved for one sender at a time if the condition holds for that, and for any senders if
-- the bus has room for their acknowledgements and to rest after each frame.
abbrev pub is_law_abiding : Asked → List Deviation → Plan → Bool
is_law_abiding asked deviations plan = not (any_below (length plan.nodes) (is_turning deviations)) && is_asked_plan_covered asked plan

abbrev pub is_proved_for_one : Asked → List Deviation → Plan → Buses → Bool
is_proved_for_one asked deviations plan f = is_law_abiding asked deviations plan && not (is_some (first_failure_of f plain One))

abbrev pub is_proved_for_any : Asked → List Deviation → Plan → Buses → Bool
is_proved_for_any asked deviations plan f = is_law_abiding asked deviations plan && leaves_room f

-- for whom it is proved, if the condition holds for them
abbrev pub proved_of : Asked → List Deviation → Plan → Buses → Proved
proved_of asked deviations plan f = record {
  any = is_proved_for_any asked deviations plan f;
  one = is_proved_for_one asked deviations plan f;
}

-- why it isn't proved, if it isn't
abbrev pub unless_proved : Bool → List ℕ → List ℕ
unless_proved true reason = []
unless_proved false reason = joined (codes "not proved: " ∷ reason ∷ codes "\n" ∷ [])

module _ (tick : ℕ) (f : Buses) (names : List (List ℕ)) where
  abbrev pub pair_line : Senders → ℕ → ℕ → List ℕ
  pair_line senders i j =
      joined (codes "pair " ∷ name_of names i ∷ codes " " ∷ name_of names j ∷ codes ": late " ∷ spare_of tick f senders BitIsThereAtSample i j
      ∷ codes ", early " ∷ spare_of tick f senders NoBitTooEarly i j ∷ codes ", drift " ∷ spare_of tick f senders DriftFitsJump i j ∷ codes "\n" ∷ [])

  -- a node is no pair
  abbrev pub pair_words : Senders → ℕ → ℕ → List ℕ
  pair_words senders i j = if i == j then [] else pair_line senders i j

  abbrev pub pairs_of : Senders → ℕ → List ℕ
  pairs_of senders i = each_below (pair_words senders i) (length f.members)

  abbrev pub all_pairs : Senders → List ℕ
  all_pairs senders = each_below (pairs_of senders) (length f.members)

  -- what goes wrong, after some words
  abbrev pub failure_line : List ℕ → Failure → List ℕ
  failure_line lead failure = joined (lead ∷ failure_words tick f names failure ∷ codes "\n" ∷ [])

  -- why the condition doesn't hold for any senders
  abbrev pub any_failure : Option Failure → List ℕ
  any_failure None = []
  any_failure (Some failure) = failure_line (codes "any senders: ") failure

-- how far something may grow, for one sender at a time and for any
abbrev pub figure_words : List ℕ → Option ℕ → List ℕ
figure_words unit None = codes "none"
figure_words unit (Some n) = decimal n ++ unit

-- and up to which growth it stays proved for any senders, if it is
abbrev pub proved_words : Option ℕ → List ℕ
proved_words None = []
proved_words (Some n) = codes ", proved " ++ decimal n

abbrev pub growth_words : List ℕ → List ℕ → Headroom → List ℕ
growth_words what unit headroom =
    joined (what ∷ codes ": one sender at a time " ∷ figure_words unit headroom.one ∷ codes ", any senders " ∷ figure_words unit headroom.any
    ∷ proved_words headroom.proved ∷ codes "\n" ∷ [])

-- what a change by a quantum is
abbrev pub change_words : Option Change → List ℕ
change_words None = codes "none"
change_words (Some WiderJump) = codes "a jump width wider by a quantum"
change_words (Some NarrowerJump) = codes "a jump width narrower by a quantum"
change_words (Some LaterSample) = codes "a sample point later by a quantum"
change_words (Some EarlierSample) = codes "a sample point earlier by a quantum"

abbrev pub help_line : List ℕ → List ℕ → List ℕ
help_line one any = joined (codes "help: one sender at a time " ∷ one ∷ codes ", any senders " ∷ any ∷ codes "\n" ∷ [])

abbrev pub help_words : Option Change → Option Change → List ℕ
help_words one any = help_line (change_words one) (change_words any)

-- how much longer the cable may be, in units of length, and how much wider every tolerance
abbrev pub headroom_words : Headroom → Headroom → List ℕ
headroom_words longer wider =
    growth_words (codes "cable") (codes " units longer") longer ++ growth_words (codes "tolerance") (codes " ppm wider") wider

-- How far something may grow and have room: up to where the condition holds, and with one more it hasn't. If it isn't proved there is no such number.
abbrev pub IsProvedGrowth : Bool → Buses → Growth → Option ℕ → Option ℕ → Type 0
IsProvedGrowth true f growth (Some most) found = IsBorderOf (is_roomy_grown f growth) most found
IsProvedGrowth proved f growth most found = found ≡ None

-- the searches found these; for a family of which it is proved that it works for any senders also how far that is proved
pub record IsHeadroom (proved : Bool) (f : Buses) (longer wider : Headroom) : Type 0 where
  pub longer_one : IsLongerCable f One longer.one
  pub longer_any : IsLongerCable f Any longer.any
  pub longer_proved : IsProvedGrowth proved f (Longer (cable_ticks f) f.cable.per) longer.any longer.proved
  pub wider_one : IsWiderTolerance f One wider.one
  pub wider_any : IsWiderTolerance f Any wider.any
  pub wider_proved : IsProvedGrowth proved f Wider wider.any wider.proved

-- a text with them after it, of a family of which nothing is asked to be proved
abbrev pub TellsHeadroom : Buses → List ℕ → List ℕ → Type 0
TellsHeadroom f old new = (longer : Headroom) × (wider : Headroom) × IsHeadroom false f longer wider × (new ≡ old ++ headroom_words longer wider)

-- it without how much may grow so that it stays proved
abbrev pub unproved : Headroom → Headroom
unproved headroom = record { one = headroom.one; any = headroom.any; proved = None }

-- what a search of a bus's family found, if it was searched and if there is one
abbrev pub IsHeadroomFound : Option (Headroom × Headroom) → Option Buses → Type 0
IsHeadroomFound None family = Unit {0}
IsHeadroomFound (Some found) None = ⊥
IsHeadroomFound (Some found) (Some f) = IsHeadroom false f found.0 found.1

-- these, and which change helps most
abbrev pub results_words : SearchResults → List ℕ
results_words found = headroom_words found.longer found.wider ++ help_words found.help_one found.help_any

pub record AreSearchResults (proved : Bool) (f : Buses) (found : SearchResults) : Type 0 where
  pub reached : IsHeadroom proved f found.longer found.wider
  pub help_one : found.help_one ≡ help_of f One
  pub help_any : found.help_any ≡ help_of f Any

-- the text of a family, and after it what is said of noise: of a plan of which the condition says nothing there is nothing to search
abbrev pub IsTextAfter : Bool → Verdict → List ℕ → List ℕ → Buses → List ℕ → Type 0
IsTextAfter proved (NoBound cause) said noise f text = text ≡ said
IsTextAfter proved verdict said noise f text =
    (found : SearchResults) × AreSearchResults proved f found × (text ≡ said ++ (results_words found ++ noise))

-- the verdict on those who are asked about
abbrev pub verdict_asked : Asked → Plan → Buses → Verdict
verdict_asked ThisPlan plan f = verdict_of plan f
verdict_asked AllNodes plan f = verdict_for_all plan f

-- it is proved for any senders, and the condition holds for them
abbrev pub is_proved : Proved → Verdict → Bool
is_proved proved ForAny = proved.any
is_proved proved verdict = false

module _ (asked : Asked) (tick : ℕ) (deviations : List Deviation) (plan : Plan) (names : List (List ℕ)) (f : Buses) where
  -- why it isn't proved for any senders, and for one at a time
  abbrev pub any_reason : List ℕ
  any_reason = unless_proved (proved_of asked deviations plan f).any (cause_words tick f plan names (any_cause asked deviations plan f))

  abbrev pub one_reason : List ℕ
  one_reason = unless_proved (proved_of asked deviations plan f).one (cause_words tick f plan names (one_cause asked deviations plan))

  -- the first lines, and what is to spare
  abbrev pub verdict_words : Verdict → List ℕ
  verdict_words ForAny = any_lead (senders_words f names) (proved_of asked deviations plan f) ++ any_reason ++ all_pairs tick f names Any
  verdict_words ForOne =
      one_lead (senders_words f names) (proved_of asked deviations plan f).one ++ one_reason
      ++ any_failure tick f names (first_failure_of f plain Any) ++ all_pairs tick f names One
  verdict_words (DoesNotHold failure) = failure_line tick f names (codes "does not hold: ") failure ++ all_pairs tick f names One
  verdict_words (NoBound cause) = outside_words names cause

  abbrev pub family_words : List ℕ
  family_words = verdict_words (verdict_asked asked plan f)

  abbrev pub IsVerdictText : List ℕ → Type 0
  IsVerdictText text =
      IsTextAfter (is_proved (proved_of asked deviations plan f) (verdict_asked asked plan f)) (verdict_asked asked plan f) family_words
      (noise_words tick f names (verdict_asked asked plan f)) f text

  -- First the clocks: of a plan in which one leaves its tolerance nothing else is said.
  abbrev pub IsTextUnless : Option ℕ → List ℕ → Type 0
  IsTextUnless (Some i) text = text ≡ astray_line (name_of names i) (member_at f i).oscillator (stray_at deviations plan f i)
  IsTextUnless None text = IsVerdictText text

  abbrev pub IsFamilyText : List ℕ → Type 0
  IsFamilyText text = IsTextUnless (first_stray deviations plan f) text

abbrev pub no_clock_words : List ℕ
no_clock_words = codes "no bound is known: without its ppm a quantum takes less than a tick or more than 1,048,576\n"

-- the family that is asked about
abbrev pub family_asked : Asked → Buses → Buses
family_asked ThisPlan f = f
family_asked AllNodes f = if nat_lt (length f.members) 2 then f else all_sending f

-- the family of a bus
abbrev pub bus_family : Bus → Option Buses
bus_family bus = option_map (family_of bus.plan) (paces_of bus.deviations)

abbrev pub IsTextOfPaces : Asked → ℕ → Bus → Option (List Pace) → List ℕ → Type 0
IsTextOfPaces asked tick bus None text = text ≡ no_clock_words
IsTextOfPaces asked tick bus (Some paces) text =
    IsFamilyText asked tick bus.deviations bus.plan bus.names (family_asked asked (family_of bus.plan paces)) text

-- the whole text, for ticks of so many picoseconds
abbrev pub IsTextFor : Asked → ℕ → Bus → List ℕ → Type 0
IsTextFor asked tick bus text = IsTextOfPaces asked tick bus (paces_of bus.deviations) text

-- of the senders of the plan, and of all nodes that don't only listen
abbrev pub IsMarginText : ℕ → Bus → List ℕ → Type 0
IsMarginText tick bus text = IsTextFor ThisPlan tick bus text

abbrev pub IsAllSendText : ℕ → Bus → List ℕ → Type 0
IsAllSendText tick bus text = IsTextFor AllNodes tick bus text
