-- The nodes of a family's plan that don't only listen, and one that does after them, as stations; and what the tests of the plan say of them.
use Rattle.std.proofs.Common.{◌≡◌, ◌≢◌, ◌∙◌, inl, inr, refl, sym, ap, ap₂, subst, ℕ, suc, ◌+◌, ◌*◌, ◌<◌, ◌≤◌, List, [], ◌∷◌, length, Bool, true, false, cond, not, ◌&&◌, ◌||◌, Option, Some, None, arith}
use Rattle.std.specs.Prelude.{◌==◌, nat_le, nat_lt}
use Rattle.std.specs.Int.{abs_diff}
use Rattle.std.specs.Option.{is_some}
use Rattle.std.proofs.lemmas.Bool.{and_left, and_parts, cases_lt, eq-eqb, eqb-true, false_from_ne_true, leb-true, ltb-false, ne_eqb, not-false, not-true, or_parts}
use Rattle.std.proofs.lemmas.List.Elements.{All-get_or}
use Rattle.std.proofs.Math.Nat.{mul-le-mul_right}
use Rattle.wl_level.specs.Places.{first_place}
use Rattle.wl_level.proofs.Callers.{first_none}
use Rattle.wl_clock.specs.Timing.{IsRate, IsTiming, tick_of}
use Rattle.wl_segments.specs.Lengths.{AreLengths, Lengths, bit_quanta, sample_at}
use Rattle.wl_topology.specs.Delays.{delay_between, delay_of, place_at, propagation_of}
use Rattle.wl_topology.specs.Driven.{any_below}
use Rattle.wl_topology.specs.Limits.{never}
use Rattle.wl_topology.proofs.Callers.{any_one}
use Rattle.wl_frame.specs.Grammar.{Content}
use Rattle.wl_node.specs.declared.setup.NodeSetup.{NodeSetup}
use Rattle.wl_node.specs.declared.setup.Queued.{Queued}
use Rattle.wl_plan.specs.declared.plan.Plan.{Plan}
use Rattle.wl_plan.specs.PlanLine.{line_of, no_setup, setup_at}
use Rattle.wl_plan.specs.Sound.{IsCausal}
use Rattle.wl_phase.specs.Clocks.{HasRate, IsSteady, Steady, steady_tick, steady_timing}
use Rattle.wl_phase.specs.Ways.{ByTheBook}
use Rattle.wl_phase.proofs.Callers.{rate_tick, tick_up}
use Rattle.wl_wire.specs.InStep.{AreSoundFrames, Has}
use Rattle.wl_bound.specs.Conditions.{plain}
use Rattle.wl_bound.specs.Covered.{finds_one_busy, leaves}
use Rattle.wl_bound.specs.Families.{Buses, delay_in, lengths_in, member_at, only_listens, sends_in, units}
use Rattle.wl_bound.specs.Rooms.{comes_early, gathering, least_chase, left_over, plain_bus}
use Rattle.wl_bound.specs.Terms.{drift}
use Rattle.wl_bound.specs.Verdicts.{acknowledges, at_node, has_frames, idle_at, is_ready_from, is_unacknowledged, listener_sends, sends_something}
use Rattle.wl_bound.specs.declared.verdict.Outside.TheVariants.{ListenerSends, NobodyAcknowledges}
use Rattle.wl_buses.specs.BothProofs.Queues.{decides_at, queued_contents, wakes_at}
use Rattle.wl_buses.specs.OneFrame.Answers.{gathered}
use Rattle.wl_buses.specs.OneFrame.Bounds.{HasStations, bus_way}
use Rattle.wl_buses.specs.OneFrame.Plans.{IsPlanOf}
use Rattle.wl_buses.specs.OneFrame.Stations.{AreOnALine, Stations}
use Rattle.wl_buses.specs.OneListener.Beside.{with_listener}
use Rattle.wl_buses.specs.FirstFrame.FirstFrames.{AreIdleWhenReady, HasFrames, queues_of, waiting_of}
use Rattle.wl_buses.specs.FirstFrame.FirstStarts.{Waiting, due_first, eleventh, has_first}
use Rattle.wl_buses.specs.FamilyPlans.FamilyStations.{stations_of}
use Rattle.wl_buses.proofs.Callers.{decided_after, has_is, is_empty, neither, no_cause, none_below, whole_begins}
use Rattle.wl_listeners.specs.BusParts.{LeavesRoomToHear, OnlyOthersSend, bus_part, then_node}
use Rattle.wl_listeners.specs.Heard.{IsListenerAt}
use Rattle.wl_listeners.specs.Listeners.{IsNoneOf, IsOneOf}
use Rattle.wl_proved.specs.Listened.{IsPlanWithListeners, IsSpeakingPart, hear_all, is_deaf, is_deaf_to, is_unready}
use Rattle.wl_proved.proofs.Paced.{book_at, clocks_of, nothing_at, paces_at, rate_at}

nothing : {A : Type 0} (o : Option A) → is_some o ≡ false → o ≡ None
nothing None e = refl
nothing (Some x) e = cc

from_left : (v w : Bool) → (v && w) ≡ false → w ≡ true → v ≡ false
from_left true w e f = cc
from_left false w e f = refl

-- a first frame that is ready from a tick on
ready_after : (setup : NodeSetup) (q : List Queued) (t : ℕ) → nat_lt 0 (length q) ≡ true → is_ready_from setup q t ≡ true → t ≤ tick_of setup.clock (wakes_at setup q)
ready_after setup [] t e h = cc
ready_after setup (x ∷ more) t e h = ltb-false (tick_of setup.clock x.ready) t (not-true (nat_lt (tick_of setup.clock x.ready) t) h)

-- what the tests of a plan say of each node
module _ (f : Buses) (plan : Plan) (of : IsPlanWithListeners f plan) where
  abbrev pub clocks : ℕ → Steady
  clocks = clocks_of plan

  covered : ((length plan.disturbances == 0) ≡ true) × (not (any_below (length plan.nodes) (is_unready plan)) ≡ true)
  covered = and_parts (length plan.disturbances == 0) (not (any_below (length plan.nodes) (is_unready plan))) of.covered

  pub calm : plan.disturbances ≡ []
  calm = is_empty plan.disturbances (let none = eqb-true (length plan.disturbances) 0 covered.0 in omega arith)

  ready : (j : ℕ) → j < length plan.nodes → (leaves plan j ≡ false) × (finds_one_busy plan j ≡ false)
  ready j inside = or_parts (leaves plan j) (finds_one_busy plan j) (none_below (length plan.nodes) (is_unready plan) (not-true _ covered.1) j inside)

  stays : (j : ℕ) → j < length plan.nodes → (setup_at plan j).until ≡ None
  stays j inside = nothing (setup_at plan j).until (ready j inside).0

  -- node j is idle when the first frame of node k becomes ready
  idle : (j k : ℕ) → j < length plan.nodes → k < length plan.nodes → j ≢ k → is_ready_from (setup_at plan k) (setup_at plan k).queue (idle_at (setup_at plan j)) ≡ true
  idle j k nj nk other =
      let test = is_ready_from (setup_at plan k) (setup_at plan k).queue (idle_at (setup_at plan j)) in
      let busy = none_below (length plan.nodes) (λ m. not (m == k) && not (is_ready_from (setup_at plan k) (setup_at plan k).queue (idle_at (setup_at plan m)))) (ready k nk).1 j nj in
      let apart : not (j == k) ≡ true = ap not (ne_eqb j k other) in
      not-false test (ap (λ v. v && not test) (sym apart) ∙ busy)

  outside : (at_node ListenerSends (first_place (listener_sends plan) (length plan.nodes)) ≡ None)
      × (at_node NobodyAcknowledges (first_place (is_unacknowledged plan) (length plan.nodes)) ≡ None)
  outside =
      let few = no_cause (nat_lt (length plan.nodes) 2) _ _ of.inside in
      let empty = no_cause (not (any_below (length plan.nodes) (sends_something plan))) _ _ few.1 in
      let listeners = neither _ _ empty.1 in
      neither _ _ listeners.0

  mute : (j : ℕ) → j < length plan.nodes → listener_sends plan j ≡ false
  mute j inside = first_none (listener_sends plan) (length plan.nodes) (nothing_at ListenerSends _ outside.0) j inside

  -- a node with frames doesn't only listen, and some other one doesn't
  speaks : (j : ℕ) → j < length plan.nodes → has_frames (setup_at plan j) ≡ true → only_listens plan.topology j ≡ false
  speaks j inside has = from_left (only_listens plan.topology j) (sends_something plan j) (mute j inside) has

  answered : (j : ℕ) → j < length plan.nodes → has_frames (setup_at plan j) ≡ true → (m : ℕ) × (m < length plan.nodes) × (m ≢ j) × (only_listens plan.topology m ≡ false)
  answered j inside has =
      let none = first_none (is_unacknowledged plan) (length plan.nodes) (nothing_at NobodyAcknowledges _ outside.1) j inside in
      let quiet : not (any_below (length plan.nodes) (acknowledges plan j)) ≡ false = ap (λ v. v && not (any_below (length plan.nodes) (acknowledges plan j))) (sym has) ∙ none in
      let m = any_one (length plan.nodes) (acknowledges plan j) (not-false _ quiet) in
      let parts = and_parts (not (m.0 == j)) (not (only_listens plan.topology m.0)) m.2 in
      (m.0, m.1, (λ same. (let e = eq-eqb m.0 j same in let g : not (m.0 == j) ≡ false = ap not e in let h = parts.0 in cc)), not-true (only_listens plan.topology m.0) parts.1)

  no_queue : (j : ℕ) → j < length plan.nodes → only_listens plan.topology j ≡ true → (setup_at plan j).queue ≡ []
  no_queue j inside listens =
      is_empty (setup_at plan j).queue (ltb-false 0 (length (setup_at plan j).queue) (ap (λ v. v && sends_something plan j) (sym listens) ∙ mute j inside))

  steady : (j : ℕ) → j < length plan.nodes → IsSteady (clocks j)
  steady j inside =
      let timing = subst IsTiming (rate_at f plan of.runs.checked j inside (paces_at f plan of.pace j inside)).timing (All-get_or (λ node. IsTiming node.clock) plan.nodes j no_setup inside of.runs.checked.clocks) in
      let rate = All-get_or IsRate (steady_timing (clocks j)).rates 0 (record { from = 0; num = 1; den = 1 }) (omega arith) timing.rates in
      record { divides = rate.divides; not_fast = rate.not_fast }

  lengths_are : (j : ℕ) → j < length plan.nodes → lengths_in f plain j ≡ (setup_at plan j).segments
  unfolding lengths_in
  lengths_are j inside = of.segments j inside

  by_the_book : (j : ℕ) → j < length plan.nodes → ByTheBook (setup_at plan j).segments
  by_the_book j inside = record {
    lengths = All-get_or (λ node. AreLengths node.segments) plan.nodes j no_setup inside of.runs.checked.segments;
    book = book_at plan of.inside j inside;
  }

  delays_are : (j k : ℕ) → delay_in f plain j k ≡ propagation_of plan.topology j k * units plain
  unfolding delay_in
  delays_are j k = let e = ap (λ cable. propagation_of cable j k) of.cable in omega arith

  sends_are : (j : ℕ) → sends_in f plain j ≡ (member_at f j).sends
  unfolding sends_in
  sends_are j = refl

  listens_is : (j : ℕ) → only_listens f.cable j ≡ only_listens plan.topology j
  listens_is j = ap (λ cable. only_listens cable j) (sym of.cable)

  -- a clock's ticks, and its eleventh sample before the start of a first frame is due
  module _ (causal : IsCausal (line_of plan)) where
    tick_is : (j m : ℕ) → j < length plan.nodes → tick_of (setup_at plan j).clock m ≡ steady_tick (clocks j) m
    tick_is j m inside = rate_tick (rate_at f plan of.runs.checked j inside (paces_at f plan of.pace j inside)) m

    abbrev l_of : ℕ → Lengths
    l_of j = (setup_at plan j).segments

    abbrev wakes : ℕ → ℕ
    wakes j = wakes_at (setup_at plan j) (setup_at plan j).queue

    abbrev tenth : ℕ → ℕ
    tenth j = 10 * bit_quanta (l_of j) + sample_at (l_of j)

    long : (j : ℕ) → j < length plan.nodes → (0 < bit_quanta (l_of j)) × (sample_at (l_of j) < bit_quanta (l_of j))
    long j inside =
        let low = (by_the_book j inside).lengths.low in
        let two = (by_the_book j inside).lengths.ps2_low in
        (omega arith, omega arith)

    before_due : (j k : ℕ) → j < length plan.nodes → k < length plan.nodes → j ≢ k → has_frames (setup_at plan k) ≡ true
        → steady_tick (clocks j) (tenth j) < steady_tick (clocks k) (suc (decides_at (l_of k) (wakes k)) * bit_quanta (l_of k))
    before_due j k nj nk other has =
        let h = ready_after (setup_at plan k) (setup_at plan k).queue (idle_at (setup_at plan j)) has (idle j k nj nk other) in
        let a = tick_is j (11 * bit_quanta (l_of j)) nj in
        let b = tick_is k (wakes k) nk in
        let short = (long j nj).1 in
        let shorter = (long k nk).1 in
        let next = causal.clocks j (tenth j) nj in
        let c = tick_is j (tenth j) nj in
        let d = tick_is j (suc (tenth j)) nj in
        let more = tick_up (clocks j) (steady j nj).divides (suc (tenth j)) (11 * bit_quanta (l_of j)) (omega arith) in
        let decided = decided_after (l_of k) (wakes k) (long k nk).0 in
        let bit : suc (decides_at (l_of k) (wakes k)) * bit_quanta (l_of k) ≡ decides_at (l_of k) (wakes k) * bit_quanta (l_of k) + bit_quanta (l_of k) = omega arith in
        let last = tick_up (clocks k) (steady k nk).divides (wakes k) (suc (decides_at (l_of k) (wakes k)) * bit_quanta (l_of k)) (omega arith) in
        omega arith

-- the other plan's nodes and a listener after them
module _ (f : Buses) (plan other : Plan) (at : ℕ → ℕ) (i : ℕ) (of : IsPlanWithListeners f plan) (part : IsSpeakingPart other plan at) (hear : hear_all f ≡ true)
    (here : i < length plan.nodes) (listens : only_listens plan.topology i ≡ true) where
  abbrev n : ℕ
  n = length other.nodes

  abbrev node : ℕ → ℕ
  node = then_node at n i

  abbrev wayless : Stations
  wayless = record {
    count = n;
    clocks = λ k. clocks f plan of (node k);
    lengths = λ k. lengths_in f plain (node k);
    delay = λ k m. propagation_of plan.topology (node k) (node m);
    may_send = λ k. sends_in f plain (node k);
    way = λ k m. 0;
  }

  abbrev pub beside : Stations
  beside = record wayless { way = bus_way (with_listener wayless) }

  last_is : node n ≡ i
  last_is = ap (λ b. cond b i (at n)) (eq-eqb n n refl)

  node_is : (k : ℕ) → k < n → node k ≡ at k
  node_is k less = ap (λ b. cond b i (at k)) (ne_eqb k n (λ e. omega arith))

  there : (k : ℕ) → k < n → at k < length plan.nodes
  there k less = part.without.nodes.inside k less

  within : (k : ℕ) → k < suc n → node k < length plan.nodes
  within k less = elim (cases_lt k n) [
    | inl below ↦ (let e = node_is k below in let l = there k below in omega arith)
    | inr last ↦ (let same : n ≡ k = omega arith in subst (λ m. node m < length plan.nodes) same (let e = last_is in omega arith))
  ]

  same_setup : (k : ℕ) → k < n → setup_at other k ≡ setup_at plan (at k)
  same_setup k less = part.without.nodes.setups k less

  none : IsNoneOf other at i
  none k less same =
      let quiet = part.speaks k less in
      let loud : (place_at other.topology k).listens ≡ true = ap (λ p. p.listens) (part.without.nodes.places k less) ∙ ap (only_listens plan.topology) same ∙ listens in
      cc

  one_of : (j : ℕ) → j < length plan.nodes → only_listens plan.topology j ≡ false → IsOneOf other at j
  one_of j inside quiet = elim (part.without.lacks j inside) [
    | inl is ↦ is
    | inr lacks ↦ (let loud = lacks.1 in cc)
  ]

  deaf : (j : ℕ) → j < length plan.nodes → only_listens plan.topology j ≡ true
      → ((member_at f j).sends ≡ false) × (any_below (length f.members) (is_deaf_to (plain_bus f) j) ≡ false)
  deaf j inside loud =
      let e = of.members in
      let none = none_below (length f.members) (is_deaf f) (not-true _ hear) j (omega arith) in
      let either = (member_at f j).sends || any_below (length f.members) (is_deaf_to (plain_bus f) j) in
      or_parts (member_at f j).sends (any_below (length f.members) (is_deaf_to (plain_bus f) j)) (ap (λ v. v && either) (sym (listens_is f plan of j ∙ loud)) ∙ none)

  pub only : OnlyOthersSend (plain_bus f) other at
  only k less sends =
      let inside : k < length plan.nodes = (let e = of.members in omega arith) in
      one_of k inside (false_from_ne_true (only_listens plan.topology k) (λ loud. (let mute = (deaf k inside loud).0 in let e = sends_are f plan of k in cc)))

  gathered_is : (j k : ℕ) → gathered (plain_bus f) (least_chase (plain_bus f)) j k ≡ gathering (plain_bus f) j k
  unfolding gathering
  gathered_is j k = refl

  left_is : (j : ℕ) → left_over (plain_bus f) (gathered (plain_bus f) (least_chase (plain_bus f))) j ≡ left_over (plain_bus f) (gathering (plain_bus f)) j
  unfolding gathering
  left_is j = refl

  -- what is taken beside node k, and the time that there is
  abbrev taken : ℕ → ℕ
  taken k = (plain_bus f).delay i k + (plain_bus f).delay k i + comes_early (plain_bus f) k i + 11 * drift (plain_bus f) k i

  abbrev there_is : ℕ
  there_is = sample_at ((plain_bus f).lengths i) * (plain_bus f).shortest i

  pub hears : LeavesRoomToHear (plain_bus f) (least_chase (plain_bus f)) i
  hears k less apart =
      let far = none_below (length f.members) (is_deaf_to (plain_bus f) i) (deaf i here listens).1 k less in
      let other_one : not (k == i) ≡ true = ap not (ne_eqb k i apart) in
      let fits = leb-true (taken k) there_is (not-false (nat_le (taken k) there_is) (ap (λ v. v && not (nat_le (taken k) there_is)) (sym other_one) ∙ far)) in
      let e = gathered_is k i in
      let l = left_is k in
      omega arith

  pub is_bus : HasStations (bus_part (plain_bus f) node (suc n)) (with_listener beside)
  is_bus = record {
    nodes = refl;
    some = omega arith;
    slowest = λ k less. (paces_at f plan of.pace (node k) (within k less)).slowest;
    fastest = λ k less. (paces_at f plan of.pace (node k) (within k less)).fastest;
    lengths = λ k. refl;
    delays = λ k m nk nm. delays_are f plan of (node k) (node m);
    ways = λ k m nk nm. refl;
    sends = λ k less. refl;
    answers = λ k less may.
        (listens_is f plan of (node k) ∙ false_from_ne_true (only_listens plan.topology (node k))
        (λ loud. (let mute = (deaf (node k) (within k less) loud).0 in let e = sends_are f plan of (node k) in cc)));
  }

  place : (k : ℕ) → k < suc n → node k < length plan.topology.places
  place k less = let l = within k less in let e = of.runs.checked.placed in omega arith

  -- how far along the cable from one of them to another
  abbrev along : ℕ → ℕ → ℕ
  along a b = abs_diff (place_at plan.topology (node a)).x (place_at plan.topology (node b)).x

  detour : (a b c : ℕ) → beside.delay a c + beside.delay b b ≤ beside.delay a b + beside.delay b c
  detour a b c =
      let here : along b b ≡ 0 = omega arith in
      let none : along b b * plan.topology.per ≡ 0 * plan.topology.per = ap (λ m. m * plan.topology.per) here in
      let way : along a c * plan.topology.per ≤ (along a b + along b c) * plan.topology.per = mul-le-mul_right plan.topology.per (omega arith) in
      let sum : (along a b + along b c) * plan.topology.per ≡ along a b * plan.topology.per + along b c * plan.topology.per = omega arith in
      omega arith

  pub line : AreOnALine (with_listener beside)
  line = record {
    steady = λ k less. steady f plan of (node k) (within k less);
    book = λ k less. subst ByTheBook (sym (lengths_are f plan of (node k) (within k less))) (by_the_book f plan of (node k) (within k less));
    later = λ k m nk nm. (let some = of.runs.checked.cable.positive (node k) (node m) (place k nk) (place m nm) in omega arith);
    detours = λ a b c na nb nc. detour a b c;
  }

  delay_is : (k m : ℕ) → k < n → m < n → beside.delay k m ≡ delay_of other.topology k m
  delay_is k m nk nm =
      ap₂ (propagation_of plan.topology) (node_is k nk) (node_is m nm)
      ∙ ap (λ per. delay_between per (place_at plan.topology (at k)) (place_at plan.topology (at m))) (sym part.without.nodes.cable)
      ∙ ap₂ (delay_between other.topology.per) (sym (part.without.nodes.places k nk)) (sym (part.without.nodes.places m nm))
      ∙ sym (ap (λ v. cond v never (propagation_of other.topology k m)) (and_left ((place_at other.topology k).listens) (not (k == m)) (part.speaks k nk)))

  pub is_plan : IsPlanOf other beside
  is_plan = record {
    checked = part.checked;
    count = refl;
    rates = λ k less.
        subst (λ j. HasRate (setup_at other k).clock (clocks f plan of j)) (sym (node_is k less))
        (subst (λ x. HasRate x.clock (clocks f plan of (at k))) (sym (same_setup k less)) (rate_at f plan of.runs.checked (at k) (there k less) (paces_at f plan of.pace (at k) (there k less))));
    lengths = λ k less. ap (lengths_in f plain) (node_is k less) ∙ lengths_are f plan of (at k) (there k less) ∙ ap (λ x. x.segments) (sym (same_setup k less));
    book = λ k less. ap (λ x. x.segments.sync) (same_setup k less) ∙ book_at plan of.inside (at k) (there k less);
    delays = delay_is;
    stays = λ k less. ap (λ x. x.until) (same_setup k less) ∙ stays f plan of (at k) (there k less);
    speaks = part.speaks;
  }

  pub idle_each : AreIdleWhenReady other beside
  idle_each k m nk nm apart =
      ap₂ (λ x y. is_ready_from y y.queue (idle_at x)) (same_setup k nk) (same_setup m nm)
      ∙ idle f plan of (at k) (at m) (there k nk) (there m nm) (λ same. apart (part.without.nodes.once k m nk nm same))

  queue_is : (k : ℕ) → k < n → queues_of other k ≡ queues_of plan (at k)
  queue_is k less = ap (λ x. queued_contents x.queue) (same_setup k less)

  -- frames of the whole plan
  module _ (had : HasFrames plan (queues_of plan) (stations_of f plan (clocks f plan of))) where
    sender : IsOneOf other at had.some.0
    sender = one_of had.some.0 had.some.1 (speaks f plan of had.some.0 had.some.1 had.some.2)

    pub two : 1 < n
    two =
        let m = answered f plan of had.some.0 had.some.1 had.some.2 in
        let b = one_of m.0 m.1 m.3 in
        let apart : sender.0 ≢ b.0 = λ same. m.2 (sym b.2 ∙ ap at (sym same) ∙ sender.2) in
        let la = sender.1 in
        let lb = b.1 in
        more sender.0 b.0 apart la lb
      where
        more : (a b : ℕ) → a ≢ b → a < n → b < n → 1 < n
        more a b apart la lb = elim (cases_lt a b) [
          | inl less ↦ omega arith
          | inr least ↦ elim (cases_lt b a) [
            | inl less ↦ omega arith
            | inr most ↦ absurd (apart (omega arith))
          ]
        ]

    moved : (k : ℕ) (c : Content) → k < n → Has (queues_of other) k c → Has (queues_of plan) (at k) c
    moved k c less has = subst (λ q. Has (λ j. q) k c) (queue_is k less) has

    sound : AreSoundFrames n (queues_of other)
    sound = record {
      two = two;
      content = λ k c less has. had.frames.content (at k) c (there k less) (moved k c less has);
      apart = λ k m a b nk nm other_one one two_.
          had.frames.apart (at k) (at m) a b (there k nk) (there m nm) (λ same. other_one (part.without.nodes.once k m nk nm same)) (moved k a nk one) (moved m b nm two_);
    }

    pub has_frames_of : HasFrames other (queues_of other) beside
    has_frames_of = record {
      begin = λ k. whole_begins (setup_at other k);
      frames = sound;
      may = λ k less has.
          ap (sends_in f plain) (node_is k less) ∙ sends_are f plan of (at k) ∙ of.senders (at k) (there k less) (ap has_frames (sym (same_setup k less)) ∙ has);
      some = (sender.0, sender.1, ap has_frames (same_setup sender.0 sender.1 ∙ ap (setup_at plan) sender.2) ∙ had.some.2);
    }

  -- the listener after them
  module _ (causal : IsCausal (line_of plan)) where
    abbrev w : Waiting
    w = waiting_of other (queues_of other) beside

    lengths_of : (k : ℕ) → k < n → beside.lengths k ≡ (setup_at other k).segments
    lengths_of k less = is_plan.lengths k less

    some_quanta : (k : ℕ) → k < n → 0 < bit_quanta (setup_at other k).segments
    some_quanta k less =
        (let e : bit_quanta (setup_at other k).segments ≡ bit_quanta (setup_at plan (at k)).segments = ap (λ x. bit_quanta x.segments) (same_setup k less) in
        let l = (long f plan of causal (at k) (there k less)).0 in omega arith)

    first_has : (k : ℕ) → k < n → has_first w k ≡ true → has_frames (setup_at plan (at k)) ≡ true
    first_has k less has =
        ap has_frames (sym (same_setup k less))
        ∙ sym (has_is (setup_at other) (queues_of other) beside lengths_of some_quanta (λ m. whole_begins (setup_at other m)) k less) ∙ has

    idle_first : (k : ℕ) → k < n → has_first w k ≡ true
        → steady_tick (beside.clocks n) (eleventh w n) < steady_tick (beside.clocks k) (due_first w k) + beside.delay k n
    idle_first k less has =
        let apart : i ≢ at k = λ same. none k less (sym same) in
        let before = before_due f plan of causal i (at k) here (there k less) apart (first_has k less has) in
        let a : steady_tick (beside.clocks n) (eleventh w n)
        ≡ steady_tick (clocks f plan of i) (10 * bit_quanta (setup_at plan i).segments + sample_at (setup_at plan i).segments) =
        ap₂ (λ j l. steady_tick (clocks f plan of j) (10 * bit_quanta l + sample_at l)) last_is (ap (lengths_in f plain) last_is ∙ lengths_are f plan of i here) in
        let b : steady_tick (beside.clocks k) (due_first w k)
        ≡ steady_tick (clocks f plan of (at k)) (suc (decides_at (setup_at plan (at k)).segments (wakes_at (setup_at plan (at k)) (setup_at plan (at k)).queue)) * bit_quanta (setup_at plan (at k)).segments) =
        ap₂ (λ j l. steady_tick (clocks f plan of j) (suc (w.decides k) * bit_quanta l)) (node_is k less) (ap (lengths_in f plain) (node_is k less) ∙ lengths_are f plan of (at k) (there k less))
        ∙ ap (λ x. steady_tick (clocks f plan of (at k)) (suc (decides_at x.segments (wakes_at x x.queue)) * bit_quanta (setup_at plan (at k)).segments)) (same_setup k less) in
        omega arith

    pub is_listener : IsListenerAt plan other at i beside
    is_listener = record {
      inside = here;
      none = none;
      listens = listens;
      rate = subst (λ j. HasRate (setup_at plan i).clock (clocks f plan of j)) (sym last_is) (rate_at f plan of.runs.checked i here (paces_at f plan of.pace i here));
      segments = sym (ap (lengths_in f plain) last_is ∙ lengths_are f plan of i here);
      queue = no_queue f plan of i here listens;
      stays = stays f plan of i here;
      undisturbed = calm f plan of;
      ways = λ k less. ap₂ (propagation_of plan.topology) (node_is k less) last_is;
      loop = ap₂ (propagation_of plan.topology) last_is last_is;
      idle = idle_first;
    }
