-- A node of a plan that only listens is the last one of a part of its line: that of the others and of it alone.
use Rattle.std.proofs.Common.{◌≡◌, ◌≢◌, ◌∙◌, inl, inr, refl, sym, ap, subst, cond, ℕ, suc, ◌+◌, ◌*◌, ◌<◌, ◌≤◌, ◌&&◌, ◌==◌, not, true, false, [], length, None, arith}
use Rattle.std.specs.Prelude.{nat_lt, slice_get}
use Rattle.std.specs.List.{list_any}
use Rattle.std.proofs.lemmas.Bool.{and_right, cases_eq, cases_lt, eq-eqb, le-ltb, lt-ltb}
use Rattle.std.proofs.lemmas.List.{get_or_past}
use Rattle.std.proofs.lemmas.Option.{none-some, slice_get_past}
use Rattle.wl_level.specs.Levels.{is_dominant}
use Rattle.wl_segments.specs.Lengths.{bit_quanta, sample_at}
use Rattle.wl_clock.specs.Timing.{tick_of}
use Rattle.wl_topology.specs.Delays.{delay_of, place_at, propagation_of}
use Rattle.wl_topology.specs.Driven.{DrivenLaws}
use Rattle.wl_topology.specs.Limits.{never}
use Rattle.wl_frame.specs.Grammar.{Content}
use Rattle.wl_node.specs.declared.setup.NodeSetup.{NodeSetup}
use Rattle.wl_node.specs.History.{counters_of, error_count, staying_history}
use Rattle.wl_node.proofs.Callers.{stays_on}
use Rattle.wl_phase.specs.Clocks.{steady_tick}
use Rattle.wl_phase.proofs.Callers.{rate_tick}
use Rattle.wl_plan.specs.declared.plan.Plan.{Plan}
use Rattle.wl_plan.specs.Checked.{IsChecked}
use Rattle.wl_plan.specs.Line.{Line}
use Rattle.wl_plan.specs.PlanLine.{disturbed, is_at, line_of, no_setup, setup_at}
use Rattle.wl_plan.specs.Simulation.{AreInside, history, level, seen}
use Rattle.wl_plan.specs.SimulationLaws.{SimulationLaws}
use Rattle.wl_plan.specs.Sound.{IsCausal}
use Rattle.wl_wire.specs.InStep.{Has}
use Rattle.wl_buses.specs.BothProofs.Queues.{head_at, queued_contents}
use Rattle.wl_buses.specs.OneFrame.Plans.{IsPlanOf}
use Rattle.wl_buses.specs.OneFrame.Stations.{Stations}
use Rattle.wl_buses.specs.FirstFrame.FirstFrames.{queues_of, waiting_of}
use Rattle.wl_buses.specs.FirstFrame.FirstStarts.{AreIdle, HandTheFirst, Waiting, has_first}
use Rattle.wl_buses.specs.CleanPlans.Clean.{AllGetThrough, plan_history}
use Rattle.wl_buses.specs.HeardFrames.Joined.{JoinsFrames}
use Rattle.wl_buses.specs.HeardFrames.Listening.{IsListenerOf, OthersDrive, ReceivesEach}
use Rattle.wl_buses.specs.OneListener.Frames.{waiting_with}
use Rattle.wl_buses.specs.OneListener.Muted.{farther, muted, muted_way}
use Rattle.wl_buses.proofs.Callers.{head_none}
use Rattle.wl_listeners.specs.Heard.{HearsAll, IsListenerAt}
use Rattle.wl_listeners.specs.Listeners.{IsWithoutListeners}
use Rattle.wl_listeners.specs.Parts.{IsPart}
use Rattle.wl_listeners.proofs.Listeners.{ends_before, never_comes, without_listeners}
use Rattle.wl_listeners.proofs.Parts.{same_level, same_quanta, same_seen}

-- the places of the others, and that of node i after them
abbrev pub with_one : (count : ℕ) (at : ℕ → ℕ) (i : ℕ) → ℕ → ℕ
with_one count at i k = cond (nat_lt k count) (at k) i

abbrev pub line_with_one : (plan : Plan) (count : ℕ) (at : ℕ → ℕ) (i : ℕ) → Line
line_with_one plan count at i = record {
  nodes = suc count;
  instant = λ k n. (line_of plan).instant (with_one count at i k) n;
  drives = λ k levels. (line_of plan).drives (with_one count at i k) levels;
  quiet = λ k levels. (line_of plan).quiet (with_one count at i k) levels;
  delay = λ j k. (line_of plan).delay (with_one count at i j) (with_one count at i k);
  disturbed = λ k t. (line_of plan).disturbed (with_one count at i k) t;
  stop = (line_of plan).stop;
}

module _ (laws : DrivenLaws) (sim : SimulationLaws) (plan other : Plan) (at : ℕ → ℕ) (i : ℕ) (s : Stations) (checked : IsChecked plan) (causal : IsCausal (line_of plan)) (without : IsWithoutListeners other plan at)
    (of : IsPlanOf other s) (idle : AreIdle (waiting_of other (queues_of other) s)) (hands : HandTheFirst (waiting_of other (queues_of other) s) (setup_at other)) (is : IsListenerAt plan other at i s)
    (all : AllGetThrough other s) where
  abbrev pub to : ℕ → ℕ
  to = with_one s.count at i

  abbrev pub part : Line
  part = line_with_one plan s.count at i

  low_to : (k : ℕ) → k < s.count → to k ≡ at k
  low_to k low = ap (λ b. cond b (at k) i) (lt-ltb k s.count low)

  past_to : (k : ℕ) → s.count ≤ k → to k ≡ i
  past_to k past = ap (λ b. cond b (at k) i) (le-ltb k s.count past)

  inside_to : (k : ℕ) → k < suc s.count → to k < length plan.nodes
  inside_to k inside = elim (cases_lt k s.count) [
    | inl low ↦ (let e = low_to k low in let n = of.count in let h = without.nodes.inside k (omega arith) in omega arith)
    | inr past ↦ (let e = past_to k past in let h = is.inside in omega arith)
  ]

  causal_part : IsCausal part
  causal_part = record {
    delays = λ j k nj nk. causal.delays (to j) (to k) (inside_to j nj) (inside_to k nk);
    clocks = λ k n nk. causal.clocks (to k) n (inside_to k nk);
    quiet_stays = λ k levels more nk few. causal.quiet_stays (to k) levels more (inside_to k nk) few;
    begins = λ k nk. causal.begins (to k) (inside_to k nk);
  }

  is_part : (until : ℕ) → IsPart part (line_of plan) to until
  is_part until = record {
    inside = inside_to;
    instants = λ k n nk. refl;
    drives = λ k levels nk. refl;
    delays = λ j k nj nk. refl;
    disturbed = λ k t nk. refl;
    stop = refl;
    others = λ k nk. elim (without.lacks k nk) [
      | inl there ↦
          inl (let n = of.count in let low : there.0 < s.count = (let h = there.1 in omega arith) in (there.0, omega arith, low_to there.0 low ∙ there.2))
      | inr lacking ↦ elim (cases_eq k i) [
        | inl own ↦ inl (s.count, omega arith, past_to s.count (omega arith) ∙ sym own)
        | inr apart ↦
            inr (λ j t nj early before come.
            (let away : k ≢ to j = elim (cases_lt j s.count) [
              | inl low ↦ (λ e. lacking.0 j (let n = of.count in omega arith) (sym (low_to j low) ∙ sym e))
              | inr past ↦ (λ e. apart (e ∙ past_to j past))
            ] in
            let e : delay_of plan.topology k (to j) ≡ never = never_comes plan k (to j) away lacking.1 in
            let end = ends_before plan checked in
            absurd (omega arith)))
      ]
    ];
  }

  -- the others drive what is expected in all frames
  pub others_drive : OthersDrive part s all.bus.frames all.bus.count
  others_drive j t low before =
      (let n = of.count in
      let end = without.nodes.end in
      let here : level part j t ≡ level (line_of plan) (to j) t = same_level laws sim part (line_of plan) to (suc t) causal (is_part (suc t)) j t (omega arith) (omega arith) in
      let there : level (line_of other) j t ≡ level (line_of plan) (at j) t =
      same_level laws sim (line_of other) (line_of plan) at (suc t) causal (without_listeners plan other at checked without (suc t)) j t (omega arith) (omega arith) in
      here ∙ ap (λ k. level (line_of plan) k t) (low_to j low) ∙ sym there ∙ all.goes.drives j t (omega arith) (omega arith))

  abbrev pub own : NodeSetup
  own = setup_at plan i

  abbrev pub setups : ℕ → NodeSetup
  setups k = cond (nat_lt k s.count) (setup_at other k) own

  low_setup : (k : ℕ) → k < s.count → setups k ≡ setup_at other k
  low_setup k low = ap (λ b. cond b (setup_at other k) own) (lt-ltb k s.count low)

  past_setup : (k : ℕ) → s.count ≤ k → setups k ≡ own
  past_setup k past = ap (λ b. cond b (setup_at other k) own) (le-ltb k s.count past)

  abbrev pub w : Waiting
  w = waiting_of other (queues_of other) s

  -- the listener has no frames, in neither plan
  none_there : setup_at other s.count ≡ no_setup
  none_there = (let n = of.count in get_or_past other.nodes s.count no_setup (omega arith))

  no_frames : w.frames s.count ≡ []
  no_frames = ap (λ u. queued_contents u.queue) none_there

  none_has : (c : Content) → Has w.frames s.count c → ⊥
  none_has c has = none-some c (sym (slice_get_past (w.frames s.count) has.0 (let e = ap length no_frames in omega arith)) ∙ has.1)

  not_first : has_first w s.count ≡ true → ⊥
  not_first e = (let low = idle.inside s.count e in omega arith)

  last_is : (k : ℕ) → k < suc s.count → s.count ≤ k → k ≡ s.count
  last_is k inside past = omega arith

  pub idle_with : AreIdle (waiting_with s w)
  idle_with = record {
    frames = record {
      two = (let h = idle.frames.two in omega arith);
      content = λ k c inside has. elim (cases_lt k s.count) [
        | inl low ↦ idle.frames.content k c low has
        | inr past ↦ absurd (none_has c (subst (λ j. Has w.frames j c) (last_is k inside past) has))
      ];
      apart = λ j k a b nj nk other_one has_a has_b. elim (cases_lt j s.count) [
        | inl low ↦ elim (cases_lt k s.count) [
          | inl also ↦ idle.frames.apart j k a b low also other_one has_a has_b
          | inr past ↦ absurd (none_has b (subst (λ v. Has w.frames v b) (last_is k nk past) has_b))
        ]
        | inr past ↦ absurd (none_has a (subst (λ v. Has w.frames v a) (last_is j nj past) has_a))
      ];
    };
    inside = λ k e. (let low = idle.inside k e in omega arith);
    may = idle.may;
    some = idle.some;
    later = idle.later;
    idle = λ j k inside apart has. elim (cases_lt j s.count) [
      | inl low ↦ idle.idle j k low apart has
      | inr past ↦
          (let e = last_is j inside past in
          subst (λ v. steady_tick (s.clocks v) (10 * bit_quanta (s.lengths v) + sample_at (s.lengths v)) < steady_tick (s.clocks k) (suc (w.decides k) * bit_quanta (s.lengths k)) + s.delay k v) (sym e)
          (is.idle k (idle.inside k has) has))
    ];
  }

  hands_with : HandTheFirst (waiting_with s w) setups
  hands_with = record {
    none = λ k q inside e. elim (cases_lt k s.count) [
      | inl low ↦ subst (λ u. head_at u u.queue q ≡ None) (sym (low_setup k low)) (hands.none k q low e)
      | inr past ↦ subst (λ u. head_at u u.queue q ≡ None) (sym (past_setup k past)) (no_head q)
    ];
    unready = λ k n inside ten early. elim (cases_lt k s.count) [
      | inl low ↦ subst (λ u. head_at u u.queue (n * bit_quanta (s.lengths k) + sample_at (s.lengths k)) ≡ None) (sym (low_setup k low)) (hands.unready k n low ten early)
      | inr past ↦ subst (λ u. head_at u u.queue (n * bit_quanta (s.lengths k) + sample_at (s.lengths k)) ≡ None) (sym (past_setup k past)) (no_head (n * bit_quanta (s.lengths k) + sample_at (s.lengths k)))
    ];
    ready = λ k inside e. elim (cases_lt k s.count) [
      | inl low ↦
          subst (λ u. head_at u u.queue (w.decides k * bit_quanta (s.lengths k) + sample_at (s.lengths k)) ≡ slice_get (w.frames k) (w.which k)) (sym (low_setup k low)) (hands.ready k low e)
      | inr past ↦ absurd (not_first (subst (λ v. has_first w v ≡ true) (last_is k inside past) e))
    ];
  }
    where
      no_head : (q : ℕ) → head_at own own.queue q ≡ None
      no_head q = ap (λ u. head_at own u q) is.queue ∙ head_none own q

  module _ (far : ℕ) where
    -- it is handed the same, whoever hears it
    pub hands_muted : HandTheFirst (waiting_with (muted s far) w) setups
    hands_muted = record { none = hands_with.none; unready = hands_with.unready; ready = hands_with.ready }

    no_more : (k : ℕ) → farther s far k s.count ≡ 0
    no_more k = ap (λ b. cond (k == s.count && not b) far 0) (eq-eqb s.count s.count refl) ∙ ap (λ b. cond b far 0) (and_right (k == s.count) false refl)

    delay_is : (k : ℕ) → k < suc s.count → delay_of plan.topology (to k) (to s.count) ≡ s.delay k s.count + farther s far k s.count
    delay_is k inside =
        (let none = no_more k in
        let last = past_to s.count (omega arith) in
        let plain : delay_of plan.topology (to k) (to s.count) ≡ s.delay k s.count = elim (cases_lt k s.count) [
          | inl low ↦
              (let n = of.count in
              let speaks : (place_at plan.topology (at k)).listens ≡ false = ap (λ p. p.listens) (sym (without.nodes.places k (omega arith))) ∙ of.speaks k low in
              ap (λ j. delay_of plan.topology j (to s.count)) (low_to k low) ∙ ap (delay_of plan.topology (at k)) last
              ∙ ap (λ b. cond (b && not (at k == i)) never (propagation_of plan.topology (at k) i)) speaks ∙ sym (is.ways k low))
          | inr past ↦
              (let e = last_is k inside past in
              ap (λ j. delay_of plan.topology j (to s.count)) (past_to k past) ∙ ap (delay_of plan.topology i) last
              ∙ ap (λ b. cond ((place_at plan.topology i).listens && not b) never (propagation_of plan.topology i i)) (eq-eqb i i refl)
              ∙ ap (λ b. cond b never (propagation_of plan.topology i i)) (and_right (place_at plan.topology i).listens false refl)
              ∙ sym is.loop ∙ ap (λ j. s.delay j s.count) (sym e))
        ] in
        omega arith)

    pub listener : IsListenerOf part (setups s.count) (muted s far)
    listener =
        (let e = past_to s.count (omega arith) in
        let f = past_setup s.count (omega arith) in
        record {
          causal = causal_part;
          nodes = refl;
          drives = λ levels.
              ap (λ j. (line_of plan).drives j levels) e ∙ ap (λ h. is_dominant h.drive) (stays_on own levels is.stays) ∙ sym (ap (λ u. is_dominant (staying_history u levels).drive) f);
          ticks = λ k. ap (λ j. tick_of (setup_at plan j).clock k) e ∙ rate_tick is.rate k;
          segments = ap (λ u. u.segments) f ∙ is.segments;
          queue = ap (λ u. u.queue) f ∙ is.queue;
          delays = delay_is;
          undisturbed = λ t. ap (λ j. disturbed plan j t) e ∙ ap (list_any (is_at plan i t)) is.undisturbed;
        })

    -- what it has seen by its quanta in the part, it has in the plan
    seen_is : (k : ℕ) → AreInside part s.count k → seen part s.count k ≡ seen (line_of plan) i k
    seen_is k inside =
        (let e = past_to s.count (omega arith) in
        same_quanta sim part (line_of plan) s.count i k causal_part causal (omega arith) is.inside (λ n. ap (λ j. tick_of (setup_at plan j).clock n) e) refl
        (λ t. same_seen laws sim part (line_of plan) to t causal (is_part t) s.count t (omega arith) (omega arith) ∙ ap (λ j. (history (line_of plan) t).seen j) e) inside)

    inside_part : (k : ℕ) → AreInside (line_of plan) i k → AreInside part s.count k
    inside_part k inside j less = (let h = inside j less in let e : tick_of (setup_at plan (to s.count)).clock j ≡ tick_of (setup_at plan i).clock j = ap (λ n. tick_of (setup_at plan n).clock j) (past_to s.count (omega arith)) in omega arith)

    history_is : (k : ℕ) → AreInside (line_of plan) i k → plan_history plan i k ≡ staying_history (setups s.count) (seen part s.count k)
    history_is k inside =
        stays_on own (seen (line_of plan) i k) is.stays ∙ ap (staying_history own) (sym (seen_is k (inside_part k inside)))
        ∙ ap (λ u. staying_history u (seen part s.count k)) (sym (past_setup s.count (omega arith)))

    pub hears_all : (chase : ℕ → ℕ)
        (joins : JoinsFrames s (muted s far).delay (muted s far).way (muted_way s far) w all.bus.frames all.bus.count chase all.bus.by.content)
        → ReceivesEach part (setups s.count) (muted s far) joins.joined all.bus.count all.bus.by.content → HearsAll plan other i s chase all
    hears_all chase joins each = record {
      far = far;
      joins = joins;
      fine = λ k inside. ap error_count (history_is k inside) ∙ each.fine k (inside_part k inside);
      counters = λ k inside. ap counters_of (history_is k inside) ∙ each.counters k (inside_part k inside);
      received = λ k inside. (let r = each.received k (inside_part k inside) in (r.0, r.1, ap (λ h. h.frames) (history_is k inside) ∙ r.2));
      in_time = λ k n inside less late. subst (λ h. n < length h.frames) (sym (history_is k inside)) (each.in_time k n (inside_part k inside) less late);
    }
