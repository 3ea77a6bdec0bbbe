-- A bus after a silence, of which `traffic` says that it is clean: what was tested of its plan is what the law asks of it, and of each plan that goes on from there.
use Rattle.std.proofs.Common.{◌≡◌, ◌∙◌, refl, sym, ap, subst, ℕ, ◌+◌, ◌<◌, ◌≤◌, List, [], ◌++◌, get_or, length, Bool, true, false, not, cond, Option, Some, None, arith}
use Rattle.std.specs.Prelude.{nat_lt, option_map}
use Rattle.std.specs.Option.{is_none}
use Rattle.std.proofs.lemmas.Bool.{and_parts, ltb-false, not-true}
use Rattle.std.proofs.lemmas.List.{append-nil}
use Rattle.std.proofs.lemmas.List.Elements.{All-nil}
use Rattle.wl_level.specs.Places.{PlaceLaws, first_place}
use Rattle.wl_level.proofs.Callers.{first_none}
use Rattle.wl_clock.specs.Timing.{Timing, tick_of}
use Rattle.wl_topology.specs.Driven.{any_below}
use Rattle.wl_phase.specs.Clocks.{HasRate, Steady}
use Rattle.wl_node.specs.declared.setup.NodeSetup.{NodeSetup}
use Rattle.wl_node.specs.declared.setup.Queued.{Queued}
use Rattle.wl_plan.specs.declared.plan.Plan.{Plan}
use Rattle.wl_plan.specs.Checked.{IsChecked, IsDisturbance}
use Rattle.wl_plan.specs.PlanLine.{line_of, setup_at}
use Rattle.wl_setup.specs.declared.bus.Bus.{Bus}
use Rattle.wl_setup.specs.declared.bus.Deviation.{Deviation}
use Rattle.wl_bound.specs.Covered.{all_speak, leaves}
use Rattle.wl_bound.specs.Families.{Buses, family_of, only_listens}
use Rattle.wl_bound.specs.Oscillators.{Pace}
use Rattle.wl_bound.specs.Rooms.{leaves_room}
use Rattle.wl_bound.specs.Verdicts.{outside_of, verdict_of}
use Rattle.wl_bound.specs.declared.verdict.Verdict.{Verdict}
use Rattle.wl_bound.specs.declared.verdict.Verdict.TheVariants.{ForAny, ForOne, DoesNotHold, NoBound}
use Rattle.wl_margin.specs.declared.reasons.Asked.TheVariants.{ThisPlan}
use Rattle.wl_margin.specs.Margins.{bus_family, proved_of}
use Rattle.wl_margin.specs.Paces.{PaceLaw, first_stray, is_turning}
use Rattle.wl_margin.specs.Reasons.{first_leaver}
use Rattle.wl_margin.specs.Standings.{standing_by, standing_of, standing_unless}
use Rattle.wl_margin.proofs.Callers.{members-length, paces-length}
use Rattle.wl_buses.specs.BothProofs.Plans.{IsOfFamily, IsSteadyPlan}
use Rattle.wl_buses.specs.FamilyPlans.FamilyStations.{AreContents, NoneListens, SendAsFamily}
use Rattle.wl_buses.proofs.Callers.{none_below}
use Rattle.wl_silence.specs.Shown.{ShowCleanSince}
use Rattle.wl_silence.specs.Silences.{IsSilentFor}
use Rattle.wl_silence.specs.SilentPlans.{NoneDisturbsSince, undisturbed_plan}
use Rattle.wl_onward.specs.Plans.{IsNodeUpTo, IsPlanUpTo}
use Rattle.wl_onward.specs.Silences.{AreFit, ShowsSilence, silence_ticks}
use Rattle.wl_calm.specs.declared.calm.Calm.{Calm}
use Rattle.wl_calm.specs.declared.calm.Calm.TheVariants.{Busy, Silent, Unfit}
use Rattle.wl_calm.specs.Calms.{IsCalm}
use Rattle.wl_traffic.specs.Silence.{IsLineIf, IsLineIfCleaned, IsFamilyLine, IsSilenceLine, calm_line, clean_line, is_cleaned, is_for_any, is_mended, silence_end}
use Rattle.wl_proved.specs.Silence.{GoesOnFrom, IsCleanAfter, NamesCleanTick, SaysCleanFrom}
use Rattle.wl_proved.specs.Words.{IsFamilyOf}
use Rattle.wl_proved.proofs.Bounded.{inside_of, none_turns, sound_of}
use Rattle.wl_proved.proofs.Members.{member_is}
use Rattle.wl_proved.proofs.Paced.{HasPace, book_at, clocks_of, paces_at, rate_at, verdict_at}

-- a letter of a line
abbrev letter : ℕ → List ℕ → ℕ
letter n line = get_or line n 0

abbrev Says : List ℕ → Type 0
Says line = SaysCleanFrom line

none_of : {A : Type 0} (o : Option A) → is_none o ≡ true → o ≡ None
none_of None e = refl
none_of (Some x) e = cc

-- a plan without its disturbances can be run, too
calm_checked : (plan : Plan) → IsChecked plan → IsChecked (undisturbed_plan plan)
calm_checked plan c = record {
  clocks = c.clocks;
  segments = c.segments;
  cable = c.cable;
  some_node = c.some_node;
  few_nodes = c.few_nodes;
  placed = c.placed;
  ends = c.ends;
  few_quanta = c.few_quanta;
  short_queues = c.short_queues;
  few_disturbances = omega arith;
  disturbances = All-nil (IsDisturbance (undisturbed_plan plan));
}

-- the clocks keep to their tolerances, and the condition holds for any senders
module _ (deviations : List Deviation) (plan : Plan) (f : Buses) where
  for_any_said : (stray : Option ℕ) (v : Verdict) → is_for_any (standing_unless stray (standing_by (proved_of ThisPlan deviations plan f) v)) ≡ true
      → (stray ≡ None) × (v ≡ ForAny)
  for_any_said None ForAny e = (refl, refl)
  for_any_said None ForOne e = cc
  for_any_said None (DoesNotHold failure) e = cc
  for_any_said None (NoBound cause) e = cc
  for_any_said (Some i) v e = cc

spoken : (few : Bool) (listen : Bool) → cond few false (not listen) ≡ true → (few ≡ false) × (listen ≡ false)
spoken true listen e = cc
spoken false listen e = (refl, not-true listen e)

-- the tests of a plan whose family this is
record HasPassed (deviations : List Deviation) (plan : Plan) (f : Buses) : Type 0 where
  stray : first_stray deviations plan f ≡ None
  verdict : verdict_of plan f ≡ ForAny
  turning : first_place (is_turning deviations) (length plan.nodes) ≡ None
  two : nat_lt (length plan.nodes) 2 ≡ false
  listen : any_below (length plan.nodes) (only_listens plan.topology) ≡ false
  leaver : first_leaver plan ≡ None
  room : leaves_room f ≡ true

passed_by : (deviations : List Deviation) (plan : Plan) (f : Buses) → is_cleaned deviations plan f ≡ true → HasPassed deviations plan f
passed_by deviations plan f e =
    let both = and_parts (is_for_any (standing_of deviations plan f)) (is_mended deviations plan f) e in
    let said = for_any_said deviations plan f (first_stray deviations plan f) (verdict_of plan f) both.0 in
    let mended = and_parts (is_none (first_place (is_turning deviations) (length plan.nodes))) _ both.1 in
    let speak = and_parts (all_speak plan) _ mended.1 in
    let last = and_parts (is_none (first_leaver plan)) (leaves_room f) speak.1 in
    let all = spoken (nat_lt (length plan.nodes) 2) (any_below (length plan.nodes) (only_listens plan.topology)) speak.0 in record {
      stray = said.0;
      verdict = said.1;
      turning = none_of _ mended.0;
      two = all.0;
      listen = all.1;
      leaver = none_of _ last.0;
      room = last.1;
    }

-- What the line says.
record Found (plan : Plan) (line : List ℕ) (cleaned : Bool) : Type 0 where
  from : ℕ
  calm : IsCalm plan (Silent from)
  tested : cleaned ≡ true
  is : line ≡ clean_line from (silence_end plan from)

module _ (tick : ℕ) (bus : Bus) (line : List ℕ) (says : Says line) where
  begins : letter 0 line ≡ 99
  begins = ap (letter 0) says.1

  by_calm : (calm : Calm) → IsCalm bus.plan calm → line ≡ calm_line bus calm → (b : Bool) → b ≡ true → Found bus.plan line b
  by_calm (Silent from) is e b tested = record { from = from; calm = is; tested = tested; is = e }
  by_calm (Unfit i) is e b tested = (let other : letter 0 line ≡ 110 = ap (letter 0) e in let first = begins in absurd (omega arith))
  by_calm Busy is e b tested = (let other : letter 0 line ≡ 110 = ap (letter 0) e in let first = begins in absurd (omega arith))

  by_test : (f : Buses) (b : Bool) → IsLineIfCleaned b tick bus f line → Found bus.plan line b
  by_test f true is = by_calm is.0 is.1 is.2 true refl
  by_test f false e = (let other : letter 0 line ≡ 110 = ap (letter 0) e in let first = begins in absurd (omega arith))

  by_line : (f : Buses) → bus_family bus ≡ Some f → (disturbed : Bool) → IsLineIf disturbed tick bus line → Found bus.plan line (is_cleaned bus.deviations bus.plan f)
  by_line f family false e = (let other : letter 0 line ≡ 0 = ap (letter 0) e in let first = begins in absurd (omega arith))
  by_line f family true is = by_test f (is_cleaned bus.deviations bus.plan f) (subst (λ (o : Option Buses). IsFamilyLine tick bus o line) family is)

-- The laws on the silence of a run.
abbrev ShowsLaw : Type 0
ShowsLaw = (plan : Plan) (clocks : ℕ → Steady) (from : ℕ) → IsSteadyPlan (undisturbed_plan plan) clocks → IsChecked plan → AreFit plan (length plan.nodes) → ShowsSilence plan from
    → NoneDisturbsSince plan from × (first : ℕ → ℕ) × IsSilentFor (line_of plan) (setup_at plan) from (from + silence_ticks plan + 1) first

abbrev SpeaksLaw : Type 0
SpeaksLaw = (f : Buses) (plan other : Plan) (clocks : ℕ → Steady) (from : ℕ) → IsChecked plan → IsChecked other → IsSteadyPlan (undisturbed_plan plan) clocks
    → AreFit plan (length plan.nodes) → ShowsSilence plan from → IsPlanUpTo plan other (from + silence_ticks plan + 1) → IsSteadyPlan (undisturbed_plan other) clocks
    → IsOfFamily f (undisturbed_plan other) clocks → NoneListens other → AreContents other → SendAsFamily f other → verdict_of (undisturbed_plan other) f ≡ ForAny
    → leaves_room f ≡ true → NoneDisturbsSince other from
    → (first : ℕ → ℕ) × IsSilentFor (line_of other) (setup_at other) from (from + silence_ticks plan + 1) first × ShowCleanSince (line_of other) (setup_at other) first

-- The plan that was tested.
module _ (places : PlaceLaws) (paced : PaceLaw) (deviations : List Deviation) (plan : Plan) (paces : List Pace) (checked : IsChecked plan)
    (same : length paces ≡ length plan.nodes) (passed : HasPassed deviations plan (family_of plan paces)) where
  abbrev f : Buses
  f = family_of plan paces

  abbrev Inside : ℕ → Type 0
  Inside i = i < length plan.nodes

  pace : (i : ℕ) → Inside i → HasPace f i (setup_at plan i).clock.rates
  pace = paces_at f plan (paced deviations plan f passed.stray (none_turns places deviations (length plan.nodes) passed.turning))

  outside : outside_of plan ≡ None
  outside = inside_of plan f passed.verdict

  two : 2 ≤ length plan.nodes
  two = ltb-false (length plan.nodes) 2 passed.two

  stays : (i : ℕ) → Inside i → (setup_at plan i).until ≡ None
  stays i inside = none_of (setup_at plan i).until (ap not (first_none (leaves plan) (length plan.nodes) passed.leaver i inside))

  speaks : NoneListens plan
  speaks i inside = none_below (length plan.nodes) (only_listens plan.topology) passed.listen i inside

  steady : IsSteadyPlan (undisturbed_plan plan) (clocks_of plan)
  steady = record {
    checked = calm_checked plan checked;
    two = two;
    rates = λ i inside. rate_at f plan checked i inside (pace i inside);
    book = book_at plan outside;
    undisturbed = refl;
    stays = stays;
  }

  of_family : IsOfFamily f (undisturbed_plan plan) (clocks_of plan)
  of_family = record {
    cable = refl;
    members = members-length plan.nodes paces same;
    segments = λ i inside. ap (λ m. m.segments) (member_is plan.nodes paces same i inside).1;
    slowest = λ i inside. (pace i inside).slowest;
    fastest = λ i inside. (pace i inside).fastest;
  }

  sends : SendAsFamily f plan
  sends i inside has = ap (λ m. m.sends) (member_is plan.nodes paces same i inside).1 ∙ has

  module _ (from : ℕ) (calm : IsCalm plan (Silent from)) (speak : SpeaksLaw) where
    -- It speaks for each plan that goes on from there.
    module _ (other : Plan) (goes : GoesOnFrom f plan other from) where
      inside_of_both : (i : ℕ) → i < length other.nodes → Inside i
      inside_of_both i inside = let count = goes.up_to.count in omega arith

      node : (i : ℕ) (inside : i < length other.nodes) → setup_at other i ≡ record (setup_at plan i) { queue = (setup_at other i).queue }
      node i inside = (goes.up_to.nodes i (inside_of_both i inside)).node

      steady_other : IsSteadyPlan (undisturbed_plan other) (clocks_of plan)
      steady_other = record {
        checked = calm_checked other goes.runs.checked;
        two = (let count = goes.up_to.count in let some = two in omega arith);
        rates = λ i inside. subst (λ (t : Timing). HasRate t (clocks_of plan i)) (sym (ap (λ (n : NodeSetup). n.clock) (node i inside)))
            (steady.rates i (inside_of_both i inside));
        book = λ i inside. ap (λ (n : NodeSetup). n.segments.sync) (node i inside) ∙ steady.book i (inside_of_both i inside);
        undisturbed = refl;
        stays = λ i inside. ap (λ (n : NodeSetup). n.until) (node i inside) ∙ stays i (inside_of_both i inside);
      }

      of_other : IsOfFamily f (undisturbed_plan other) (clocks_of plan)
      of_other = record {
        cable = goes.up_to.cable;
        members = of_family.members ∙ sym goes.up_to.count;
        segments = λ i inside. of_family.segments i (inside_of_both i inside) ∙ sym (ap (λ (n : NodeSetup). n.segments) (node i inside));
        slowest = λ i inside. of_family.slowest i (inside_of_both i inside);
        fastest = λ i inside. of_family.fastest i (inside_of_both i inside);
      }

      speaks_other : NoneListens other
      speaks_other i inside = ap (λ t. only_listens t i) goes.up_to.cable ∙ speaks i (inside_of_both i inside)

      clean_each : IsCleanAfter other from (silence_end plan from)
      clean_each =
          speak f plan other (clocks_of plan) from checked goes.runs.checked steady calm.0 calm.1 goes.up_to steady_other of_other speaks_other goes.runs.frames goes.senders
          (verdict_at f (undisturbed_plan other) goes.inside (sound_of plan f passed.verdict)) passed.room goes.passed

    -- It goes on so itself.
    same_node : (i : ℕ) → Inside i → IsNodeUpTo (silence_end plan from) (setup_at plan i) (setup_at plan i)
    same_node i inside =
        let queue = (setup_at plan i).queue in record {
          node = refl;
          frames = record {
            first = queue;
            later = [];
            others = [];
            of_one = sym (append-nil queue);
            of_other = sym (append-nil queue);
            later_ready = All-nil (λ (q : Queued). silence_end plan from ≤ tick_of (setup_at plan i).clock q.ready);
            others_ready = All-nil (λ (q : Queued). silence_end plan from ≤ tick_of (setup_at plan i).clock q.ready);
          };
        }

    ends : silence_end plan from ≤ plan.end
    ends = let last = calm.1.pause.inside in omega arith

    goes_on : ShowsLaw → AreContents plan → GoesOnFrom f plan plan from
    goes_on shows contents = record {
      up_to = record { cable = refl; disturbances = refl; count = refl; nodes = same_node; ends = ends; later = ends };
      runs = record { checked = checked; frames = contents };
      senders = sends;
      inside = outside;
      passed = (shows plan (clocks_of plan) from steady checked calm.0 calm.1).0;
    }

    clean_itself : ShowsLaw → AreContents plan → IsCleanAfter plan from (silence_end plan from)
    clean_itself shows contents = clean_each plan (goes_on shows contents)

-- What the line says is so.
module _ (places : PlaceLaws) (paced : PaceLaw) (shows : ShowsLaw) (speak : SpeaksLaw) (tick : ℕ) (bus : Bus) (line : List ℕ) where
  by_found : (paces : List Pace) → length paces ≡ length bus.plan.nodes → IsChecked bus.plan
      → Found bus.plan line (is_cleaned bus.deviations bus.plan (family_of bus.plan paces)) → NamesCleanTick (family_of bus.plan paces) bus.plan line
  by_found paces same checked found =
      let passed = passed_by bus.deviations bus.plan (family_of bus.plan paces) found.tested in record {
        from = found.from;
        said = found.is;
        own = clean_itself places paced bus.deviations bus.plan paces checked same passed found.from found.calm speak shows;
        each = clean_each places paced bus.deviations bus.plan paces checked same passed found.from found.calm speak;
      }

  pub names_clean_tick : (f : Buses) → IsSilenceLine tick bus line → SaysCleanFrom line → IsFamilyOf ThisPlan bus f → IsChecked bus.plan
      → length bus.deviations ≡ length bus.plan.nodes → NamesCleanTick f bus.plan line
  names_clean_tick f is says family checked count =
      let paces = family.0 in
      let found : Found bus.plan line (is_cleaned bus.deviations bus.plan (family_of bus.plan paces)) =
      by_line tick bus line says (family_of bus.plan paces) (ap (option_map (family_of bus.plan)) family.1) (nat_lt 0 (length bus.plan.disturbances)) is in
      subst (λ (g : Buses). NamesCleanTick g bus.plan line) (sym family.2)
      (by_found paces (paces-length bus.deviations paces family.1 ∙ count) checked found)
