-- The next rest of a bus with one sender, after one frame, and the frames that have passed by then.
use Rattle.std.proofs.Common.{◌≡◌, ◌≢◌, ◌∙◌, inl, inr, refl, sym, ap, subst, ℕ, suc, ◌+◌, ◌-◌, ◌*◌, ◌<◌, ◌≤◌, List, [], ◌∷◌, ◌++◌, length, Bool, true, false, cond, arith}
use Rattle.std.proofs.lemmas.Bool.{cases_lt, cases_eq, le-leb, lt-leb}
use Rattle.std.proofs.Math.Bridge.{le_prop}
use Rattle.std.proofs.Math.Nat.{mul-le-mul_right}
use Rattle.wl_level.specs.declared.Level.{Level}
use Rattle.wl_level.specs.Levels.{level_of}
use Rattle.wl_segments.specs.Lengths.{sample_at, bit_quanta}
use Rattle.wl_frame.specs.Grammar.{Content}
use Rattle.wl_node.specs.declared.setup.Passed.{Passed}
use Rattle.wl_buses.specs.BothProofs.Queues.{unsent_after}
use Rattle.wl_buses.proofs.BothProofs.Heads.{IsHandedBy}
use Rattle.wl_phase.specs.Clocks.{steady_tick}
use Rattle.wl_plan.specs.Line.{Line}
use Rattle.wl_plan.specs.Simulation.{level}
use Rattle.wl_buses.specs.BothProofs.Levels.{levels_before}
use Rattle.wl_buses.specs.BothProofs.Expected.{levels_found}
use Rattle.wl_buses.specs.OneSender.OneSender.{SenderBus, IsBus, IsListener, IsInStepWithAll, lengths_of}
use Rattle.wl_buses.specs.OneSender.Through.{EndsInSlots}
use Rattle.wl_buses.proofs.OneSender.Alone.{sent, sent_after}
use Rattle.wl_buses.proofs.OneSender.Choosing.{StayLaws}
use Rattle.wl_buses.proofs.BothProofs.Expecting.{LastQuantum, last_quantum, levels_same}
use Rattle.wl_buses.proofs.OneSender.Passing.{IsPassed, one_passed, still_passed}
use Rattle.wl_buses.proofs.OneSender.Planned as planned
use Rattle.wl_buses.proofs.OneSender.Planned.{Laws}
use Rattle.wl_buses.proofs.OneSender.Replies as replies
use Rattle.wl_buses.proofs.OneSender.Replies.{lasts, lasts_no_more}
use Rattle.wl_buses.proofs.OneSender.Resting as resting
use Rattle.wl_buses.proofs.OneSender.Resting.{Rests, RestsAt, SendsNext}
use Rattle.wl_buses.proofs.OneSender.Silence.{Waits, silent_same}
use Rattle.wl_buses.proofs.OneSender.Speaking as speaking
use Rattle.wl_buses.proofs.OneSender.Tails.{kept, receiving_enough, received_passed, sent_passed}
use Rattle.wl_buses.proofs.OneSender.Through as through

module _ (laws : Laws) (stay : StayLaws) (b : SenderBus) (is : IsBus b) (meets : IsInStepWithAll b) (slots : EndsInSlots b) (t : ℕ) (rest : Rests laws.clocks b is t)
    (frame : Content) (y : List Level) (from m : ℕ) (sends : SendsNext laws.clocks b is t rest frame y from m)
    (one : ℕ) (f : through.IsFirst laws stay b is meets slots t rest frame y from m sends one) (at_slot : through.SlotSample laws stay b is meets slots t rest frame y from m sends one f) where
  abbrev l : Line
  l = b.line

  abbrev a : ℕ
  a = b.sender

  abbrev last : ℕ
  last = length y

  abbrev S : ℕ → ℕ
  S v = sample_at (lengths_of b v)

  abbrev B : ℕ → ℕ
  B v = bit_quanta (lengths_of b v)

  abbrev tick : ℕ → ℕ → ℕ
  tick v k = steady_tick (b.clocks v) k

  abbrev base : ℕ → ℕ
  base n = from + n * B a

  abbrev begins : ℕ → ℕ
  begins n = tick a (base n)

  abbrev q : ℕ
  q = at_slot.quantum

  abbrev next_rest : ℕ
  next_rest = through.next_rest laws stay b is meets slots t rest frame y from m sends one f at_slot

  abbrev up : (v : ℕ) → v < l.nodes → (k n : ℕ) → k ≤ n → tick v k ≤ tick v n
  up = resting.up laws.clocks b is

  abbrev rises : (v k : ℕ) → v < l.nodes → tick v k < tick v (suc k)
  rises = through.rises laws stay b is meets slots t rest frame y from m sends

  abbrev begins_later : (n k : ℕ) → n ≤ k → begins n ≤ begins k
  begins_later = speaking.begins_later laws.clocks laws.frame b is meets t rest frame y from m sends

  abbrev IsPlanned : ℕ → Type 0
  IsPlanned = replies.IsPlanned laws stay b is meets slots t rest frame y from m sends

  abbrev plan_of : (j : ℕ) → IsListener b j → IsPlanned j
  plan_of = replies.plan_of laws stay b is meets slots t rest frame y from m sends

  abbrev begin : ℕ → ℕ
  begin = replies.begin laws stay b is meets slots t rest frame y from m sends

  abbrev end : ℕ → ℕ
  end = replies.end laws stay b is meets slots t rest frame y from m sends

  abbrev drove : ℕ → ℕ → Bool
  drove = replies.drove laws stay b is meets slots t rest frame y from m sends

  abbrev drove_old : (v u : ℕ) → u < t → drove v u ≡ level l v u
  drove_old = replies.drove_old laws stay b is meets slots t rest frame y from m sends

  abbrev drove_sender : (u : ℕ) → t ≤ u → drove a u ≡ sent y begins begins_later u
  drove_sender = replies.drove_sender laws stay b is meets slots t rest frame y from m sends

  abbrev drove_other : (v u : ℕ) → v ≢ a → t ≤ u → drove v u ≡ lasts (begin v) (end v) u
  drove_other = replies.drove_other laws stay b is meets slots t rest frame y from m sends

  abbrev lv : ℕ → ℕ → Level
  lv v = levels_found l drove v

  abbrev AllOver : (v x : ℕ) → Type 0
  AllOver = replies.AllOver laws stay b is meets slots t rest frame y from m sends

  abbrev sample : (j : ℕ) → IsPlanned j → ℕ
  sample = replies.sample laws stay b is meets slots t rest frame y from m sends

  abbrev after : (j : ℕ) → (p : IsPlanned j) → Waits (sample j p + (lengths_of b j).ps2) (S j) (B j)
  after = replies.after laws stay b is meets slots t rest frame y from m sends

  abbrev after_own : Waits (q + (lengths_of b a).ps2) (S a) (B a)
  after_own = through.after_own laws stay b is meets slots t rest frame y from m sends one f at_slot

  abbrev sent_frames : List Passed
  sent_frames = planned.sent_frames laws b is meets t rest frame y from m sends

  module _ (in_time : next_rest ≤ l.stop) where
    -- what has been found by then is so
    same_then : (v k : ℕ) → (inside : v < l.nodes) → ((n : ℕ) → n < k → tick v n < next_rest)
        → levels_before (lv v) k ≡ levels_before (resting.actual laws.clocks b is v) k
    same_then i k inside before = levels_same (lv i) (resting.actual laws.clocks b is i) k (λ n less.
        ap level_of (laws.simulation.found_same l drove (level l) i (l.instant i n) (λ j inside_j come.
        (let e = is.ticks i n inside in
        let soon = before n less in
        sym ((through.agree laws stay b is meets slots t rest frame y from m sends one f at_slot) j (l.instant i n - l.delay j i) inside_j (omega arith))))))

    own_rests : RestsAt laws.clocks b is next_rest a is.sender
    own_rests =
        let some = (is.book a is.sender).lengths.low in
        let before : (k : ℕ) → k < q + 5 * B a → tick a k < next_rest =
        λ k less. (let next = rises a k is.sender in let rise = up a is.sender (suc k) (q + 5 * B a) less in omega arith) in
        record {
          start = q + 5 * B a;
          before = before;
          after = omega arith;
          base = q + (lengths_of b a).ps2;
          waits = after_own;
          state =
              silent_same laws.clocks (b.setups a) (is.book a is.sender) (lv a) (resting.actual laws.clocks b is a) (q + (lengths_of b a).ps2) after_own (q + 5 * B a)
              (same_then a (q + 5 * B a) is.sender before) ((through.rests_own laws stay b is meets slots t rest frame y from m sends one f at_slot) (q + 5 * B a) (omega arith) (omega arith));
        }

    other_rests : (j : ℕ) → (p : IsPlanned j) → RestsAt laws.clocks b is next_rest j p.nat.heard.listener.0
    other_rests j p =
        let inside = p.nat.heard.listener.0 in
        let late = (through.late_listener laws stay b is meets slots t rest frame y from m sends one f at_slot) j p in
        let zero_is = is.ticks j 0 inside in
        let first_up = up j p.nat.heard.listener.0 0 (sample j p + B j) (omega arith) in
        let r : LastQuantum l is.causal j (next_rest - 1) = last_quantum l is.causal j (next_rest - 1) inside (omega arith) in
        let begun = r.begun in
        let next = r.next in
        let begun_is = is.ticks j r.quantum inside in
        let next_is = is.ticks j (suc r.quantum) inside in
        let before : (k : ℕ) → k < suc r.quantum → tick j k < next_rest = λ k less. (let rise = up j p.nat.heard.listener.0 k r.quantum (omega arith) in omega arith) in
        let past : suc (sample j p + B j) ≤ suc r.quantum = elim (cases_lt (sample j p + B j) (suc r.quantum)) [
          | inl less ↦ less
          | inr more ↦ (let rise = up j p.nat.heard.listener.0 (suc r.quantum) (sample j p + B j) more in absurd (omega arith))
        ] in
        record {
          start = suc r.quantum;
          before = before;
          after = omega arith;
          base = sample j p + (lengths_of b j).ps2;
          waits = after j p;
          state =
              silent_same laws.clocks (b.setups j) (is.book j p.nat.heard.listener.0) (lv j) (resting.actual laws.clocks b is j) (sample j p + (lengths_of b j).ps2) (after j p) (suc r.quantum)
              (same_then j (suc r.quantum) p.nat.heard.listener.0 before) (replies.rests_from laws stay b is meets slots t rest frame y from m sends j p (suc r.quantum) past);
        }

    -- all is over at each node then
    over_then : (i : ℕ) → i < l.nodes → AllOver i next_rest
    over_then i inside = elim (cases_eq i a) [
      | inl here ↦
          subst (λ n. AllOver n next_rest) (sym here) ((through.over_own laws stay b is meets slots t rest frame y from m sends one f at_slot) (q + 5 * B a) (omega arith))
      | inr apart ↦
          (let p = plan_of i (inside, apart) in
          let late = (through.late_listener laws stay b is meets slots t rest frame y from m sends one f at_slot) i p in
          let o = replies.over_by laws stay b is meets slots t rest frame y from m sends i p (sample i p + B i) (omega arith) in
          record {
            bits = (let e = o.bits in omega arith);
            answers = λ j r. (let e = o.answers j r in omega arith);
          })
    ]

    pub quiet_then : (i j u : ℕ) → i < l.nodes → j < l.nodes → u < next_rest → next_rest ≤ u + l.delay i j → level l i u ≡ false
    quiet_then i j u ni nj early come =
        let o = over_then j nj in
        let later = next_late in
        (through.agree laws stay b is meets slots t rest frame y from m sends one f at_slot) i u ni (omega arith)
        ∙ elim (cases_lt u t) [
          | inl old ↦ drove_old i u old ∙ rest.quiet i j u ni nj old (omega arith)
          | inr late ↦ elim (cases_eq i a) [
            | inl here ↦
                (let e = o.bits in
                let d : l.delay i j ≡ l.delay a j = ap (λ n. l.delay n j) here in
                subst (λ n. drove n u ≡ false) (sym here) (drove_sender u late ∙ sent_after y begins begins_later u (omega arith)))
            | inr apart ↦
                (let p = plan_of i (ni, apart) in
                let e = o.answers i p in
                drove_other i u apart late ∙ lasts_no_more (begin i) (end i) u (omega arith))
          ]
        ]
      where
        next_late : t ≤ next_rest
        next_late =
            let e = speaking.rest_before laws.clocks laws.frame b is meets t rest frame y from m sends in
            let low = through.q_late laws stay b is meets slots t rest frame y from m sends one f at_slot in
            let rise = up a is.sender (base 0) (q + 5 * B a) (let bits : 0 * B a ≤ last * B a = mul-le-mul_right (B a) (omega arith) in omega arith) in
            omega arith

    -- with one frame more
    pub record NextNode (v : ℕ) (inside : v < l.nodes) : Type 0 where
      pub rests : RestsAt laws.clocks b is next_rest v inside
      pub gone : (v ≢ a) → (p : IsPlanned v) × (rests.waits.passed ≡ (after v p).passed)
      pub own_gone : v ≡ a → rests.waits.passed ≡ after_own.passed
      pub base_is : (v ≢ a) → (p : IsPlanned v) × (rests.base ≡ sample v p + (lengths_of b v).ps2)
      pub own_base : v ≡ a → rests.base ≡ q + (lengths_of b a).ps2
      pub own_start : v ≡ a → rests.start ≡ q + 5 * B a
      pub spaced : v ≢ a → (k : ℕ) → 10 ≤ k
          → tick v (rests.base + (rests.waits.enough - 1) * B v + S v) < tick a (q + (lengths_of b a).ps2 + suc k * B a) + l.delay a v

    own_next : NextNode a is.sender
    unfolding own_rests
    own_next = record {
      rests = own_rests;
      gone = λ e. absurd (e refl);
      own_gone = λ e. refl;
      base_is = λ e. absurd (e refl);
      own_base = λ e. refl;
      own_start = λ e. refl;
      spaced = λ e. absurd (e refl);
    }

    other_next : (j : ℕ) → (p : IsPlanned j) → NextNode j p.nat.heard.listener.0
    unfolding other_rests
    other_next j p = record {
      rests = other_rests j p;
      gone = λ e. (p, refl);
      base_is = λ e. (p, refl);
      own_gone = λ e. absurd (p.nat.heard.listener.1 e);
      own_base = λ e. absurd (p.nat.heard.listener.1 e);
      own_start = λ e. absurd (p.nat.heard.listener.1 e);
      spaced = λ e k many.
          (let h = (through.spaced_next laws stay b is meets slots t rest frame y from m sends one f at_slot) j p k many in
          let enough = receiving_enough laws.frame frame sends.content y sends.stuffs (sample j p + (lengths_of b j).ps2) (S j) (B j) (planned.frames_of laws b is meets t rest frame y from m sends j p.nat.heard.listener) in
          subst (λ n. tick j (sample j p + (lengths_of b j).ps2 + (n - 1) * B j + S j) < tick a (q + (lengths_of b a).ps2 + suc k * B a) + l.delay a j) (sym enough) h);
    }

    pub next_node : (v : ℕ) → (inside : v < l.nodes) → NextNode v inside
    next_node v inside = elim (cases_eq v a) [
      | inl here ↦ subst (λ n. (h : n < l.nodes) → NextNode n h) (sym here) (λ h. subst (NextNode a) (le_prop is.sender h) own_next) inside
      | inr apart ↦ (let p = plan_of v (inside, apart) in subst (NextNode v) (le_prop p.nat.heard.listener.0 inside) (other_next v p))
    ]

  -- the frames that have passed by then
  module _ (line : List Content) (n : ℕ) (all : length line ≡ n) (sent_so_far : IsPassed (b.setups a) line true n sent_frames)
      (received_so_far : (j : ℕ) → (p : IsListener b j) → IsPassed (b.setups a) line false n (planned.frames_of laws b is meets t rest frame y from m sends j p)) where
    one_more : (sent : Bool) (quantum : ℕ) (gone : List Passed) → (sent ≡ true → IsHandedBy (b.setups a) (unsent_after (b.setups a) gone) frame) → IsPassed (b.setups a) line sent n gone
        → IsPassed (b.setups a) (line ++ frame ∷ []) sent (suc n) (gone ++ record { sent = sent; quantum = quantum; frame = frame } ∷ [])
    one_more sent quantum gone handed was = one_passed (b.setups a) line frame sent n quantum gone all handed was

    own_handed : IsHandedBy (b.setups a) (unsent_after (b.setups a) sent_frames) frame
    own_handed = ((rest.node a is.sender).base + m * B a + S a, sends.decides.ready)

    not_own : {A : Type 0} → false ≡ true → A
    not_own e = cc

    -- what the sender has sent
    abbrev pub own_frame : Passed
    own_frame = record { sent = true; quantum = q + (lengths_of b a).ps2 + 7 * B a + S a; frame = frame }

    pub own_more : (c : ℕ) → 7 < c → after_own.passed c ≡ sent_frames ++ own_frame ∷ []
    own_more c over =
        sent_passed laws.frame frame sends.content y sends.stuffs (q + (lengths_of b a).ps2) (S a) (B a) sent_frames c
        ∙ ap (λ w. cond w sent_frames (sent_frames ++ kept laws.frame frame sends.content y sends.stuffs (q + (lengths_of b a).ps2) (S a) (B a) sent_frames true 7)) (lt-leb c 7 over)

    pub own_late : (c : ℕ) → 7 < c → IsPassed (b.setups a) (line ++ frame ∷ []) true (suc n) (after_own.passed c)
    own_late c over =
        subst (IsPassed (b.setups a) (line ++ frame ∷ []) true (suc n)) (sym (own_more c over)) (one_more true (q + (lengths_of b a).ps2 + 7 * B a + S a) sent_frames (λ own. own_handed) sent_so_far)

    pub own_early : (c : ℕ) → c ≤ 7 → IsPassed (b.setups a) (line ++ frame ∷ []) true n (after_own.passed c)
    own_early c early =
        subst (IsPassed (b.setups a) (line ++ frame ∷ []) true n) (sym (sent_passed laws.frame frame sends.content y sends.stuffs (q + (lengths_of b a).ps2) (S a) (B a) sent_frames c
        ∙ ap (λ w. cond w sent_frames (sent_frames ++ kept laws.frame frame sends.content y sends.stuffs (q + (lengths_of b a).ps2) (S a) (B a) sent_frames true 7)) (le-leb c 7 early)))
        (still_passed (b.setups a) line (frame ∷ []) true n sent_frames sent_so_far)

    module _ (j : ℕ) (p : IsPlanned j) where
      pub other_late : (c : ℕ) → 6 < c → IsPassed (b.setups a) (line ++ frame ∷ []) false (suc n) ((after j p).passed c)
      other_late c over =
          subst (IsPassed (b.setups a) (line ++ frame ∷ []) false (suc n))
          (sym (received_passed laws.frame frame sends.content y sends.stuffs (sample j p + (lengths_of b j).ps2) (S j) (B j) (planned.frames_of laws b is meets t rest frame y from m sends j p.nat.heard.listener) c
          ∙ ap (λ w. cond w (planned.frames_of laws b is meets t rest frame y from m sends j p.nat.heard.listener) (planned.frames_of laws b is meets t rest frame y from m sends j p.nat.heard.listener
          ++ kept laws.frame frame sends.content y sends.stuffs (sample j p + (lengths_of b j).ps2) (S j) (B j) (planned.frames_of laws b is meets t rest frame y from m sends j p.nat.heard.listener) false 6)) (lt-leb c 6 over)))
          (one_more false (sample j p + (lengths_of b j).ps2 + 6 * B j + S j) (planned.frames_of laws b is meets t rest frame y from m sends j p.nat.heard.listener)
          (λ own. not_own own) (received_so_far j p.nat.heard.listener))

      pub other_early : (c : ℕ) → c ≤ 6 → IsPassed (b.setups a) (line ++ frame ∷ []) false n ((after j p).passed c)
      other_early c early =
          subst (IsPassed (b.setups a) (line ++ frame ∷ []) false n)
          (sym (received_passed laws.frame frame sends.content y sends.stuffs (sample j p + (lengths_of b j).ps2) (S j) (B j) (planned.frames_of laws b is meets t rest frame y from m sends j p.nat.heard.listener) c
          ∙ ap (λ w. cond w (planned.frames_of laws b is meets t rest frame y from m sends j p.nat.heard.listener) (planned.frames_of laws b is meets t rest frame y from m sends j p.nat.heard.listener
          ++ kept laws.frame frame sends.content y sends.stuffs (sample j p + (lengths_of b j).ps2) (S j) (B j) (planned.frames_of laws b is meets t rest frame y from m sends j p.nat.heard.listener) false 6)) (le-leb c 6 early)))
          (still_passed (b.setups a) line (frame ∷ []) false n (planned.frames_of laws b is meets t rest frame y from m sends j p.nat.heard.listener) (received_so_far j p.nat.heard.listener))
