-- The nodes that power up in a silence wait for a first frame.
use Rattle.std.proofs.Common.{◌≡◌, ◌≢◌, ◌∙◌, inl, inr, refl, sym, ap, subst, ℕ, suc, ◌+◌, ◌-◌, ◌*◌, ◌<◌, ◌≤◌, true, false, List, [], ◌∷◌, ◌++◌, length, Some, None, arith, append-nil}
use Rattle.std.specs.Prelude.{map, nat_lt, slice_get}
use Rattle.std.proofs.lemmas.Bool.{cases_eq, cases_lt, lt-ltb}
use Rattle.std.proofs.lemmas.List.{length-map}
use Rattle.wl_level.specs.Levels.{is_dominant}
use Rattle.wl_segments.specs.Lengths.{bit_quanta, sample_at}
use Rattle.wl_frame.specs.Grammar.{Content}
use Rattle.wl_node.specs.declared.setup.NodeSetup.{NodeSetup}
use Rattle.wl_node.specs.declared.setup.Queued.{Queued}
use Rattle.wl_node.specs.History.{staying_history, unsent_of}
use Rattle.wl_node.specs.Queues.{head_by, unsent_by}
use Rattle.wl_node.proofs.Callers.{history_first}
use Rattle.wl_phase.specs.Clocks.{steady_tick}
use Rattle.wl_phase.proofs.Callers.{tick_from}
use Rattle.wl_plan.specs.Line.{Line}
use Rattle.wl_plan.specs.Sound.{IsCausal}
use Rattle.wl_wire.specs.InStep.{Has}
use Rattle.wl_buses.specs.BothProofs.Queues.{decides_at, queued_contents, wakes_at}
use Rattle.wl_buses.specs.OneFrame.Lines.{IsLineOf}
use Rattle.wl_buses.specs.OneFrame.Stations.{AreStations, Stations}
use Rattle.wl_buses.specs.FirstFrame.FirstStarts.{AreIdle, Waiting, due_first, eleventh, has_first}
use Rattle.wl_buses.specs.CleanLines.Lines.{IsPoweredUp, line_history, waiting_with}
use Rattle.wl_buses.proofs.Callers.{decided_after, hands, has_is, head_late, is_empty, left_none, none_first, unsent_in, whole_begins}
use Rattle.wl_silence.specs.Restarts.{ready_since}
use Rattle.wl_silence.specs.Silences.{HaveFramesLeft, IsLineOfSince, IsSilentFor, eleventh_of, fresh_line, fresh_setups, fresh_stations, after_eleventh, joins}
use Rattle.wl_silence.proofs.Queues.{head_since}
use Rattle.wl_silence.proofs.Lines as lines
use Rattle.wl_silence.proofs.Lines.{SilentLaws, history_is}

pub contents_since : (p : ℕ) (q : List Queued) → queued_contents (map (ready_since p) q) ≡ queued_contents q
contents_since p [] = refl
contents_since p (x ∷ more) = ap (λ l. x.frame ∷ l) (contents_since p more)

module _ (laws : SilentLaws) (l : Line) (setups : ℕ → NodeSetup) (s : Stations) (from until : ℕ) (first : ℕ → ℕ) (of : IsLineOfSince l setups s from) (is : IsSilentFor l setups from until first) (are : AreStations s) where
  abbrev R : ℕ → NodeSetup
  R = fresh_setups l setups first

  abbrev L : Line
  L = fresh_line l setups first

  abbrev s' : Stations
  s' = fresh_stations l setups first s

  abbrev w : Waiting
  w = waiting_with R s'

  abbrev at : ℕ → ℕ
  at i = joins l setups first i

  node : (i : ℕ) → i < s.count → i < l.nodes
  node i inside = let e = of.nodes in omega arith

  pub causal : IsCausal L
  causal = record {
    delays = of.causal.delays;
    clocks = λ i k inside. subst (λ n. l.instant i (at i + k) < l.instant i n) (let e : suc (at i + k) ≡ at i + suc k = omega arith in e) (of.causal.clocks i (at i + k) inside);
    quiet_stays = λ i levels more inside few. ap (λ m. is_dominant (staying_history (R i) (levels ++ m)).drive) (is_empty more few) ∙ ap (λ m. is_dominant (staying_history (R i) m).drive) (append-nil levels);
    begins = λ i inside. ap (λ h. is_dominant h.drive) (history_first (R i));
  }

  pub line : IsLineOf L R s'
  line = record {
    causal = causal;
    nodes = of.nodes;
    drives = λ i levels inside. refl;
    ticks = λ i k inside. of.ticks i (at i + k) inside ∙ sym (tick_from (s.clocks i) (at i) k);
    segments = of.segments;
    delays = of.delays;
    undisturbed = λ i t inside. refl;
  }

  lengths : (i : ℕ) → i < s'.count → s'.lengths i ≡ (R i).segments
  lengths i inside = sym (of.segments i (node i inside))

  some_bit : (i : ℕ) → i < s'.count → 0 < bit_quanta (R i).segments
  some_bit i inside = let h = (lines.book laws l setups s from until first of is are i (node i inside)).lengths.low in omega arith

  has_is' : (i : ℕ) → i < s'.count → has_first w i ≡ nat_lt 0 (length (R i).queue)
  has_is' i inside = has_is R (λ i. queued_contents (R i).queue) s' lengths some_bit (λ i. whole_begins (R i)) i inside

  has_none : (i : ℕ) → (setups i).queue ≡ [] → has_first w i ≡ false
  has_none i e =
      none_first R (λ i. queued_contents (R i).queue) s' lengths some_bit (λ i. whole_begins (R i)) i
      (ap (map (ready_since (at i))) (ap (λ q. unsent_by (setups i).order q (line_history l setups i (after_eleventh l setups first i)).frames) e ∙ left_none (setups i).order (line_history l setups i (after_eleventh l setups first i)).frames))

  module _ (left : HaveFramesLeft l setups s first) where
    inside_is : (i : ℕ) → has_first w i ≡ true → i < s'.count
    inside_is i e = elim (cases_lt i s.count) [
      | inl inside ↦ inside
      | inr past ↦ (let f = has_none i (left.none i past) in cc)
    ]

    may : (i : ℕ) → has_first w i ≡ true → s'.may_send i ≡ true
    may i e = elim (cases_lt 0 (length (setups i).queue)) [
      | inl some ↦ left.may i (inside_is i e) some
      | inr none ↦ (let f = has_none i (is_empty (setups i).queue none) in cc)
    ]

    own : (k : ℕ) (c : Content) → Has w.frames k c → Has (λ i. queued_contents (setups i).queue) k c
    own k c (n, e) =
        unsent_in (setups k) (line_history l setups k (after_eleventh l setups first k)).frames n c
        (ap (λ f. slice_get f n) (sym (contents_since (at k) (unsent_of (setups k) (line_history l setups k (after_eleventh l setups first k))))) ∙ e)

    -- a node of these decides no earlier than at the end of the silence
    module _ (k : ℕ) (inside : k < l.nodes) (counted : k < s'.count) (has : has_first w k ≡ true) where
      abbrev setup : NodeSetup
      setup = setups k

      abbrev B : ℕ
      B = bit_quanta setup.segments

      abbrev S : ℕ
      S = sample_at setup.segments

      abbrev d : ℕ
      d = decides_at setup.segments (wakes_at (R k) (R k).queue)

      abbrev unsent : List Queued
      unsent = lines.unsent laws l setups s from until first of is are k inside

      queue_is : unsent_of setup (line_history l setups k (after_eleventh l setups first k)) ≡ unsent
      queue_is = ap (unsent_of setup) (history_is l setups k (after_eleventh l setups first k))

      some_left : 0 < length (R k).queue
      some_left = elim (cases_lt 0 (length (R k).queue)) [
        | inl some ↦ some
        | inr none ↦ (let e = ap (λ q. nat_lt 0 (length q)) (is_empty (R k).queue none) in let f = has_is' k counted in cc)
      ]

      handed_some : (c : Content) × (head_by setup.order unsent (at k + (d * B + S)) ≡ Some c)
      handed_some =
          let x = head_late (R k) (R k).queue (d * B + S) some_left (decided_after setup.segments (wakes_at (R k) (R k).queue) (some_bit k counted)) in
          (x.frame, ap (λ u. head_by setup.order u (at k + (d * B + S))) (sym queue_is) ∙ sym (head_since (at k) setup.order (unsent_of setup (line_history l setups k (after_eleventh l setups first k))) (d * B + S)) ∙ x.is)

      not_none : head_by setup.order unsent (at k + (d * B + S)) ≡ None → ⊥
      not_none e = let f = handed_some.1 in cc

      not_before : l.instant k (at k + suc d * B) < until → ⊥
      not_before less = elim (cases_eq d 10) [
        | inl ten ↦ not_none (ap (λ n. head_by setup.order unsent (at k + (n * B + S))) ten ∙ lines.none_at_end laws l setups s from until first of is are k inside)
        | inr more ↦
            (let e : suc d ≡ 12 + (d - 11) = omega (arith, more) in
            let f : 11 + (d - 11) ≡ d = omega (arith, more) in
            not_none (ap (λ n. head_by setup.order unsent (at k + (n * B + S))) (sym f)
            ∙ lines.none_ready laws l setups s from until first of is are k inside (d - 11) (subst (λ n. l.instant k (at k + n * B) < until) e less)))
      ]

      pub due : until ≤ l.instant k (at k + suc d * B)
      due = elim (cases_lt (l.instant k (at k + suc d * B)) until) [
        | inl less ↦ absurd (not_before less)
        | inr more ↦ more
      ]

    tick_is : (i k : ℕ) → i < l.nodes → steady_tick (s'.clocks i) k ≡ l.instant i (at i + k)
    tick_is i k inside = tick_from (s.clocks i) (at i) k ∙ sym (of.ticks i (at i + k) inside)

    idle_before : (i k : ℕ) → i < s'.count → i ≢ k → has_first w k ≡ true → steady_tick (s'.clocks i) (eleventh w i) < steady_tick (s'.clocks k) (due_first w k) + s'.delay k i
    idle_before i k counted apart has =
        let inside = node i counted in
        let there = inside_is k has in
        let late = due k (node k there) there has in
        let a = tick_is i (eleventh w i) inside in
        let b = tick_is k (due_first w k) (node k there) in
        let e : eleventh w i ≡ eleventh_of (setups i).segments = ap eleventh_of (sym (of.segments i inside)) in
        let f : due_first w k ≡ suc (w.decides k) * bit_quanta (setups k).segments = ap (λ m. suc (w.decides k) * bit_quanta m) (sym (of.segments k (node k there))) in
        let g = ap (λ n. l.instant i (at i + n)) e in
        let h = ap (λ n. l.instant k (at k + n)) f in
        let early = lines.early_end laws l setups s from until first of is are i inside in
        omega arith

    pub idle : AreIdle w
    idle = record {
      frames = record {
        two = left.frames.two;
        content = λ k c less has. left.frames.content k c less (own k c has);
        apart = λ j k a b lj lk apart hj hk. left.frames.apart j k a b lj lk apart (own j a hj) (own k b hk);
      };
      inside = inside_is;
      may = may;
      some = (
        left.some.0,
        has_is' left.some.0 left.some.1
            ∙ lt-ltb 0 (length (R left.some.0).queue) (let h = left.some.2 in let e = length-map (unsent_of (setups left.some.0) (line_history l setups left.some.0 (after_eleventh l setups first left.some.0))) (ready_since (at left.some.0)) in omega arith),
      );
      later = λ i. omega arith;
      idle = idle_before;
    }

    pub powered_up : IsPoweredUp L R w
    powered_up = record {
      line = line;
      idle = idle;
      hands = hands R (λ i. queued_contents (R i).queue) s' lengths some_bit (λ i. whole_begins (R i));
      queues = λ i. refl;
    }
