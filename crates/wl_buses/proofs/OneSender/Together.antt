-- A bus with one sender from the power-up of all nodes to the acknowledgement of its first frame.
use Rattle.std.proofs.Common.{◌≡◌, ◌≢◌, ◌∙◌, ◌⊎◌, inl, inr, refl, sym, ap, subst, ℕ, suc, ◌+◌, ◌-◌, ◌*◌, ◌<◌, ◌≤◌, List, [], ◌∷◌, ◌++◌, length, Bool, true, false, cond, Some, None, ◌||◌, arith}
use Rattle.std.specs.Prelude.{◌==◌}
use Rattle.std.proofs.Math.Nat.{mul-le-mul_left, lt_of_mul-lt-mul_left}
use Rattle.std.proofs.lemmas.Bool.{cases_lt, cases_eq, eq-eqb, ne_eqb}
use Rattle.wl_level.specs.declared.Level.{Level}
use Rattle.wl_level.specs.declared.Level.TheVariants.{Dominant, Recessive}
use Rattle.wl_level.specs.Levels.{is_dominant, level_of}
use Rattle.wl_segments.specs.Lengths.{sample_at, bit_quanta}
use Rattle.wl_machine.specs.Stretch.Sort.{Framing}
use Rattle.wl_sync.specs.declared.Seen.{Seen}
use Rattle.wl_sync.specs.Running.{clock_after}
use Rattle.wl_frame.specs.Laws.{up_to_ack}
use Rattle.wl_machine.specs.Judged.{awaits_start, stretch_of}
use Rattle.wl_machine.specs.States.{stretch_by}
use Rattle.wl_node.specs.declared.setup.Passed.{Passed}
use Rattle.wl_node.specs.History.{staying_history, error_count}
use Rattle.wl_buses.specs.BothProofs.Queues.{head_at}
use Rattle.wl_buses.proofs.BothProofs.Heads.{unsent_first}
use Rattle.wl_phase.specs.Clocks.{Finds, instant, steady_tick}
use Rattle.wl_phase.proofs.Callers.{floor_low, floor_high}
use Rattle.wl_phase.specs.Answer.{HearsAnswer, answer_begin, own_sample}
use Rattle.wl_plan.specs.Line.{Line}
use Rattle.wl_plan.specs.Simulation.{level, seen, ran}
use Rattle.wl_buses.specs.BothProofs.Levels.{levels_before}
use Rattle.wl_buses.specs.BothProofs.Expected.{IsExpected, levels_found}
use Rattle.wl_buses.specs.OneSender.OneSender.{SenderBus, IsBus, IsListener, SendsFirst, IsInStepWithAll, EndsAfterSlot, IsAtStretch, IsAcknowledged, lengths_of, listener_of, sender_of}
use Rattle.wl_buses.proofs.OneSender.Answering as answering
use Rattle.wl_buses.proofs.BothProofs.Expecting as expecting
use Rattle.wl_buses.proofs.BothProofs.Expecting.{levels_same, seen_by_quanta, seen_is}
use Rattle.wl_buses.proofs.OneSender.Frames as frames
use Rattle.wl_buses.proofs.OneSender.Leasts.{least, least_most, least_each, least_from, least_is}
use Rattle.wl_buses.proofs.OneSender.Nodes.{Does, IsGoing, node, sees_at, seen_are, does_same, going_same}
use Rattle.wl_buses.proofs.OneSender.Planned as planned
use Rattle.wl_buses.proofs.OneSender.Planned.{Laws, IsHeard}
use Rattle.wl_buses.proofs.OneSender.Resting.{Rests, SendsNext, rests_first}
use Rattle.wl_buses.proofs.OneSender.Silence.{integrating}
use Rattle.wl_buses.proofs.OneSender.Speaking as speaking
use Rattle.wl_buses.proofs.OneSender.Speaking.{comes_back}
use Rattle.wl_buses.proofs.OneSender.Alone.{sent_before}
use Rattle.wl_buses.proofs.OneSender.Slots.{slot_sampled}
use Rattle.wl_buses.proofs.BothProofs.Small.{zero_first}
use Rattle.wl_buses.proofs.OneSender.Listeners.{Numbers, number_is, number_of, other_is}

module _ (laws : Laws) (b : SenderBus) (is : IsBus b) (sends : SendsFirst b) (meets : IsInStepWithAll b) (ends : EndsAfterSlot b) where
  abbrev pub l : Line
  l = b.line

  abbrev pub a : ℕ
  a = b.sender

  abbrev last : ℕ
  last = length b.stuffed

  abbrev rest : Rests laws.clocks b is 0
  rest = rests_first laws.clocks b is

  abbrev from : ℕ
  from = suc b.decides * bit_quanta (lengths_of b b.sender)

  pub first_frame : SendsNext laws.clocks b is 0 (rests_first laws.clocks b is) b.frame b.stuffed (suc b.decides * bit_quanta (lengths_of b b.sender)) b.decides
  unfolding rests_first integrating
  first_frame = record {
    content = sends.content;
    stuffs = sends.stuffs;
    decides = record {
      idle = sends.idle;
      ready = ap (λ u. head_at (b.setups b.sender) u (0 + b.decides * bit_quanta (lengths_of b b.sender) + sample_at (lengths_of b b.sender))) (unsent_first (b.setups b.sender))
          ∙ ap (head_at (b.setups b.sender) (b.setups b.sender).queue) (zero_first (b.decides * bit_quanta (lengths_of b b.sender)) (sample_at (lengths_of b b.sender))) ∙ sends.ready;
      unready = λ n many less.
          ap (λ u. head_at (b.setups b.sender) u (0 + n * bit_quanta (lengths_of b b.sender) + sample_at (lengths_of b b.sender))) (unsent_first (b.setups b.sender))
          ∙ ap (head_at (b.setups b.sender) (b.setups b.sender).queue) (zero_first (n * bit_quanta (lengths_of b b.sender)) (sample_at (lengths_of b b.sender))) ∙ sends.unready n many less;
    };
    from_is = omega arith;
    alone = sends.alone;
    spaced = λ j p.
        (let e = sends.others j p in
        let none : suc b.decides * bit_quanta (lengths_of b b.sender) + 0 * bit_quanta (lengths_of b b.sender) ≡ suc b.decides * bit_quanta (lengths_of b b.sender) = omega arith in
        let here = ap (steady_tick (b.clocks b.sender)) none in
        let ten = ap (steady_tick (b.clocks j)) (zero_first (10 * bit_quanta (lengths_of b j)) (sample_at (lengths_of b j))) in
        omega arith);
  }

  abbrev tick : ℕ → ℕ → ℕ
  tick i k = planned.tick laws b is meets 0 rest b.frame b.stuffed from b.decides first_frame i k

  abbrev up : (i : ℕ) → i < l.nodes → (k n : ℕ) → k ≤ n → tick i k ≤ tick i n
  up = planned.up laws b is meets 0 rest b.frame b.stuffed from b.decides first_frame

  abbrev Heard : ℕ → Type 0
  Heard = IsHeard laws b is meets 0 rest b.frame b.stuffed from b.decides first_frame

  abbrev begins : ℕ → ℕ
  begins = planned.begins laws b is meets 0 rest b.frame b.stuffed from b.decides first_frame

  abbrev begins_later : (n k : ℕ) → n ≤ k → begins n ≤ begins k
  begins_later = speaking.begins_later laws.clocks laws.frame b is meets 0 rest b.frame b.stuffed from b.decides first_frame

  -- all are at rest from the first quantum on
  starts_first : (i : ℕ) → (inside : i < l.nodes) → ((rests_first laws.clocks b is).node i inside).start ≡ 0
  unfolding rests_first integrating
  starts_first i inside = refl

  begun_first : (i : ℕ) → (h : Heard i) → (k : ℕ) → (rest.node i h.listener.0).start ≤ k
  begun_first i h k = let e = starts_first i h.listener.0 in omega arith

  abbrev drove : ℕ → ℕ → Bool
  drove = planned.drove laws b is meets 0 rest b.frame b.stuffed from b.decides first_frame

  -- when each listener begins its acknowledgement, if no other one moves it
  abbrev reply_begins : Numbers b
  reply_begins j p = tick j (planned.answer laws b is meets 0 rest b.frame b.stuffed from b.decides first_frame j (planned.heard_by laws b is meets 0 rest b.frame b.stuffed from b.decides first_frame j p))

  pub begin : ℕ → ℕ
  begin j = number_of b reply_begins l.stop j

  pub record BeginsReply (j : ℕ) : Type 0 where
    pub heard : Heard j
    pub begin_is : begin j ≡ tick j (planned.answer laws b is meets 0 rest b.frame b.stuffed from b.decides first_frame j heard)

  pub reply_of : (j : ℕ) → IsListener b j → BeginsReply j
  unfolding begin
  reply_of j p =
      let n = number_is b j p in
      record { heard = planned.heard_by laws b is meets 0 rest b.frame b.stuffed from b.decides first_frame j n.0; begin_is = n.1 reply_begins l.stop }

  begin_sender : begin a ≡ l.stop
  unfolding begin
  begin_sender = other_is b reply_begins l.stop a (λ p. p.1 refl)

  cases_node : (i : ℕ) → i < l.nodes → (i ≡ a) ⊎ BeginsReply i
  cases_node i inside = elim (cases_eq i a) [ inl here ↦ inl here | inr apart ↦ inr (reply_of i (inside, apart)) ]

  -- how far it is to another node
  gap : ℕ → ℕ → ℕ
  gap i j = cond (i == j) 0 (l.delay i j)

  gap_self : (i j : ℕ) → i ≡ j → gap i j ≡ 0
  unfolding gap
  gap_self i j e = rw (eq-eqb i j e) refl

  gap_other : (i j : ℕ) → i ≢ j → gap i j ≡ l.delay i j
  unfolding gap
  gap_other i j e = rw (ne_eqb i j e) refl

  triangle : (k i j : ℕ) → k < l.nodes → i < l.nodes → j < l.nodes → gap k j ≤ gap k i + l.delay i j
  triangle k i j kn in_ jn = elim (cases_eq k j) [
    | inl same ↦ (let e = gap_self k j same in omega arith)
    | inr apart ↦
        (let e = gap_other k j apart in
        elim (cases_eq k i) [
          | inl here ↦ (let f : l.delay k j ≡ l.delay i j = ap (λ n. l.delay n j) here in omega arith)
          | inr other ↦ (let f = gap_other k i other in let far = is.detours k i j kn in_ jn in omega arith)
        ])
  ]

  -- up to when each node is where the sender alone puts it
  pub until : ℕ → ℕ
  until j = least l.stop (λ i. begin i + gap i j) l.nodes

  until_each : (i j : ℕ) → i < l.nodes → until j ≤ begin i + gap i j
  unfolding until
  until_each i j inside = least_each l.stop (λ i. begin i + gap i j) l.nodes i inside

  until_stop : (j : ℕ) → until j ≤ l.stop
  unfolding until
  until_stop j = least_most l.stop (λ i. begin i + gap i j) l.nodes

  until_from : (j low : ℕ) → low ≤ l.stop → ((i : ℕ) → i < l.nodes → low ≤ begin i + gap i j) → low ≤ until j
  unfolding until
  until_from j low h each = least_from l.stop (λ i. begin i + gap i j) l.nodes low h each

  until_is : (j : ℕ) → (until j ≡ l.stop) ⊎ ((i : ℕ) × (i < l.nodes) × (until j ≡ begin i + gap i j))
  unfolding until
  until_is j = least_is l.stop (λ i. begin i + gap i j) l.nodes

  -- the sample of the ACK slot, if nothing moves it
  abbrev pub slot_tick : ℕ
  slot_tick = tick a (own_sample (sender_of b) (lengths_of b a) (suc last))

  slot_inside : slot_tick < l.stop
  slot_inside =
      let rise = up a is.sender (own_sample (sender_of b) (lengths_of b a) (suc last)) (own_sample (sender_of b) (lengths_of b a) (suc last) + (lengths_of b a).sjw) (omega arith) in
      let e = ends.sender in
      omega arith

  comes_by : (i : ℕ) → (p : BeginsReply i) → begin i + l.delay i a ≤ slot_tick
  comes_by i p = let e = p.begin_is in let f = (planned.answered laws b is meets 0 rest b.frame b.stuffed from b.decides first_frame i p.heard).before in omega arith

  begin_inside : (i : ℕ) → BeginsReply i → begin i < l.stop
  begin_inside i p = let e = comes_by i p in let f = slot_inside in omega arith

  pub sender_until : until a ≤ slot_tick
  sender_until =
      let other = is.other in
      let p = reply_of other.0 other.1 in
      let e = until_each other.0 a other.1.0 in
      let f = gap_other other.0 a other.1.1 in
      let g = comes_by other.0 p in
      omega arith

  -- the acknowledgement that reaches the sender first
  pub record IsFirst (i : ℕ) : Type 0 where
    pub inside : i < l.nodes
    pub apart : i ≢ a
    pub plan : BeginsReply i
    pub comes : until a ≡ begin i + l.delay i a

  first : (i : ℕ) × IsFirst i
  first = elim (until_is a) [
    | inl none ↦ (let e = sender_until in let f = slot_inside in absurd (omega arith))
    | inr found ↦ (found.0, by found.0 found.1 found.2)
  ]
    where
      by : (i : ℕ) → i < l.nodes → until a ≡ begin i + gap i a → IsFirst i
      by i inside e = elim (cases_eq i a) [
        | inl here ↦ (let f : begin i ≡ begin a = ap begin here in let g = begin_sender in let h = sender_until in let k = slot_inside in absurd (omega arith))
        | inr apart ↦ (let g = gap_other i a apart in record { inside = inside; apart = apart; plan = reply_of i (inside, apart); comes = omega arith })
      ]

  near : (i j : ℕ) → i < l.nodes → j < l.nodes → until j ≤ until i + l.delay i j
  near i j in_ jn = elim (until_is i) [
    | inl e ↦ (let f = until_stop j in omega arith)
    | inr found ↦ (let e = found.2 in let f = until_each found.0 j found.1 in let g = triangle found.0 i j found.1 in_ jn in omega arith)
  ]

  -- it is what all drive up to then
  expected : IsExpected l until drove
  expected = record { near = near; inside = λ i inside. until_stop i; before = before; drives = drives }
    where
      before : (i t : ℕ) → i < l.nodes → t < until i → t < l.instant i 0 → drove i t ≡ false
      before i t inside soon early = elim (cases_eq i a) [
        | inl here ↦
            (let e = is.ticks i 0 inside in
            let f : tick i 0 ≡ tick a 0 = ap (λ n. tick n 0) here in
            let rise = up a is.sender 0 (planned.base laws b is meets 0 rest b.frame b.stuffed from b.decides first_frame 0) (omega arith) in
            planned.sender_sends laws b is meets 0 rest b.frame b.stuffed from b.decides first_frame i t here (omega arith) ∙ sent_before b.stuffed begins begins_later t (omega arith))
        | inr apart ↦ planned.others_silent laws b is meets 0 rest b.frame b.stuffed from b.decides first_frame i t apart (omega arith)
      ]

      drives : (i k t : ℕ) → i < l.nodes → t < until i → l.instant i k ≤ t → t < l.instant i (suc k) → drove i t ≡ l.drives i (levels_before (levels_found l drove i) (suc k))
      drives i k t inside soon low high = elim (cases_node i inside) [
        | inl here ↦ subst (λ n. drove n t ≡ l.drives n (levels_before (levels_found l drove n) (suc k))) (sym here) (by_sender here)
        | inr p ↦ by_other p
      ]
        where
          by_sender : i ≡ a → drove a t ≡ l.drives a (levels_before (levels_found l drove a) (suc k))
          by_sender here =
              let e = is.ticks i k inside in
              let f = is.ticks i (suc k) inside in
              let g : until i ≡ until a = ap until here in
              let h : tick i k ≡ tick a k = ap (λ n. tick n k) here in
              let m : tick i (suc k) ≡ tick a (suc k) = ap (λ n. tick n (suc k)) here in
              planned.sender_drives laws b is meets 0 rest b.frame b.stuffed from b.decides first_frame (until a) sender_until k t (omega arith) (omega arith) (omega arith) (omega arith)
              ∙ sym (is.drives a (levels_before (levels_found l drove a) (suc k)) is.sender)

          by_other : BeginsReply i → drove i t ≡ l.drives i (levels_before (levels_found l drove i) (suc k))
          by_other p =
              let e = is.ticks i k inside in
              let f = until_each i i inside in
              let g = gap_self i i refl in
              let h = p.begin_is in
              let before : k < planned.answer laws b is meets 0 rest b.frame b.stuffed from b.decides first_frame i p.heard = elim (cases_lt k (planned.answer laws b is meets 0 rest b.frame b.stuffed from b.decides first_frame i p.heard)) [
                | inl less ↦ less
                | inr more ↦ (let rise = up i inside (planned.answer laws b is meets 0 rest b.frame b.stuffed from b.decides first_frame i p.heard) k more in absurd (omega arith))
              ] in
              planned.others_silent laws b is meets 0 rest b.frame b.stuffed from b.decides first_frame i t p.heard.listener.1 (omega arith)
              ∙ sym (is.drives i (levels_before (levels_found l drove i) (suc k)) inside ∙ ap is_dominant (planned.silent laws b is meets 0 rest b.frame b.stuffed from b.decides first_frame i p.heard (suc k) (begun_first i p.heard (suc k)) before).2.drives)

  abbrev driven_there : (i t : ℕ) → i < l.nodes → t < until i → level l i t ≡ drove i t
  driven_there = expecting.driven_is laws.simulation l until drove is.causal expected

  -- each listener samples the CRC delimiter before that
  sampled_before : (j : ℕ) → j < l.nodes → (p : BeginsReply j) → tick j p.heard.quantum < until j
  sampled_before j inside p =
      let answer = planned.answer laws b is meets 0 rest b.frame b.stuffed from b.decides first_frame j p.heard in
      let low = (is.book j inside).lengths.ps2_low in
      let next = is.causal.clocks j p.heard.quantum inside in
      let e = is.ticks j p.heard.quantum inside in
      let f = is.ticks j (suc p.heard.quantum) inside in
      let rise = up j inside (suc p.heard.quantum) (planned.answer laws b is meets 0 rest b.frame b.stuffed from b.decides first_frame j p.heard) (omega arith) in
      let g = p.begin_is in
      let h = begin_inside j p in
      until_from j (suc (tick j p.heard.quantum)) (omega arith) (λ i less. each i less)
    where
      each : (i : ℕ) → i < l.nodes → suc (tick j p.heard.quantum) ≤ begin i + gap i j
      each i less = elim (cases_eq i j) [
        | inl here ↦
            (let low = (is.book j inside).lengths.ps2_low in
            let next = is.causal.clocks j p.heard.quantum inside in
            let e = is.ticks j p.heard.quantum inside in
            let f = is.ticks j (suc p.heard.quantum) inside in
            let rise = up j inside (suc p.heard.quantum) (planned.answer laws b is meets 0 rest b.frame b.stuffed from b.decides first_frame j p.heard) (omega arith) in
            let g = p.begin_is in
            let same : begin i ≡ begin j = ap begin here in
            omega arith)
        | inr apart ↦ elim (cases_node i less) [
          | inl sender ↦
              (let h = begin_inside j p in
              let g = p.begin_is in
              let rise = up j inside p.heard.quantum (planned.answer laws b is meets 0 rest b.frame b.stuffed from b.decides first_frame j p.heard) (omega arith) in
              let same : begin i ≡ begin a = ap begin sender in
              let stop = begin_sender in
              omega arith)
          | inr q ↦
              (let far = gap_other i j apart in
              let g = q.begin_is in
              let after = planned.answers_after laws b is meets 0 rest b.frame b.stuffed from b.decides first_frame i j q.heard p.heard apart in
              omega arith)
        ]
      ]

  -- so it has the frame
  pub received : (j : ℕ) → IsListener b j → IsAtStretch b j (stretch_by (Framing None) (b.stuffed ++ Recessive ∷ []))
  received j listener =
      let p = reply_of j listener in
      let inside = listener.0 in
      let before : (k : ℕ) → k < suc p.heard.quantum → l.instant j k < until j =
      λ k less. (let e = is.ticks j k inside in let rise = up j inside k p.heard.quantum (omega arith) in let f = sampled_before j inside p in omega arith) in
      let same : seen l j (suc p.heard.quantum) ≡ levels_before (levels_found l drove j) (suc p.heard.quantum) =
      seen_is laws.simulation l until drove is.causal expected j (suc p.heard.quantum) inside before in
      let place = planned.place laws b is meets 0 rest b.frame b.stuffed from b.decides first_frame j p.heard in
      record {
        quanta = suc p.heard.quantum;
        inside = λ k less. (let e = before k less in let f = until_stop j in omega arith);
        stretch =
            ap (λ v. stretch_of (staying_history (b.setups j) v).inputs) same ∙ place.1.does.stretch
            ∙ ap (stretch_by (Framing None)) (frames.own_delimited laws.frame b.frame first_frame.content b.stuffed first_frame.stuffs);
        fine = ap (λ v. error_count (staying_history (b.setups j) v)) same ∙ place.1.does.errors;
      }

  -- a node finds what another one drives
  found_dominant : (i k j : ℕ) → j < l.nodes → l.delay j i ≤ l.instant i k → level l j (l.instant i k - l.delay j i) ≡ true → levels_found l (level l) i k ≡ Dominant
  found_dominant i k j less come e =
      ap (λ v. level_of (v || l.disturbed i (l.instant i k))) (laws.lines.dominant_from l.nodes l.delay (level l) j i (l.instant i k) less come e)

  -- the node that acknowledges first
  module _ (i : ℕ) (f : IsFirst i) where
    abbrev h : Heard i
    h = f.plan.heard

    abbrev there_is : i < l.nodes
    there_is = h.listener.0

    abbrev gone : List Passed
    gone = planned.frames_of laws b is meets 0 rest b.frame b.stuffed from b.decides first_frame i h.listener

    abbrev sent_frames : List Passed
    sent_frames = planned.sent_frames laws b is meets 0 rest b.frame b.stuffed from b.decides first_frame

    abbrev answer : ℕ
    answer = planned.answer laws b is meets 0 rest b.frame b.stuffed from b.decides first_frame i h

    abbrev actual : ℕ → Level
    actual k = levels_found l (level l) i k

    begins_at : begin i ≡ tick i answer
    begins_at = f.plan.begin_is

    -- nothing reaches it by then
    no_other : (k : ℕ) → k < l.nodes → k ≢ i → begin i < begin k + gap k i
    no_other k less apart = elim (cases_node k less) [
      | inl sender ↦
          (let e : begin k ≡ begin a = ap begin sender in
          let g = begin_sender in
          let m = begin_inside i f.plan in
          omega arith)
      | inr q ↦
          (let e = until_each k a less in
          let far = gap_other k a q.heard.listener.1 in
          let comes = f.comes in
          let here = gap_other k i apart in
          let way = is.detours k i a less there_is is.sender in
          omega arith)
    ]

    reaches : (k : ℕ) → k < l.nodes → begin i < until k + l.delay k i
    reaches k less = elim (until_is k) [
      | inl e ↦ (let m = begin_inside i f.plan in omega arith)
      | inr found ↦ elim (cases_eq found.0 i) [
        | inl here ↦
            (let e = found.2 in
            let same : begin found.0 ≡ begin i = ap begin here in
            let some = is.causal.delays k i less there_is in
            omega arith)
        | inr apart ↦
            (let e = found.2 in
            let g = no_other found.0 found.1 apart in
            let t = triangle found.0 k i found.1 less there_is in
            omega arith)
      ]
    ]

    same_level : (k : ℕ) → k ≤ answer → actual k ≡ levels_found l drove i k
    same_level k few =
        ap level_of (laws.simulation.found_same l (level l) drove i (l.instant i k) (λ j less come.
        (let e = is.ticks i k there_is in
        let rise = up i there_is k answer few in
        let g = begins_at in
        let m = reaches j less in
        driven_there j (l.instant i k - l.delay j i) less (omega arith))))

    same_levels : (k : ℕ) → k ≤ suc answer → levels_before (levels_found l drove i) k ≡ levels_before actual k
    same_levels k few = levels_same (levels_found l drove i) actual k (λ j less. sym (same_level j (omega arith)))

    place : (longer : ℕ) × IsGoing laws.clocks (b.setups i) (is.book i there_is) actual gone (suc h.quantum) (suc (sample_at (lengths_of b i))) longer false
        (planned.Heard laws b is meets 0 rest b.frame b.stuffed from b.decides first_frame i h (suc last)) Recessive
    place =
        let p = planned.place laws b is meets 0 rest b.frame b.stuffed from b.decides first_frame i h in (
          p.0,
          going_same laws.clocks (b.setups i) (is.book i there_is) (levels_found l drove i) actual (suc h.quantum) (same_levels (suc h.quantum) (omega arith))
              (suc (sample_at (lengths_of b i))) p.0 false (planned.Heard laws b is meets 0 rest b.frame b.stuffed from b.decides first_frame i h (suc last)) Recessive p.1,
        )

    quiet : (k : ℕ) → h.quantum < k → k ≤ answer → actual k ≡ Recessive
    quiet k low high = same_level k high ∙ planned.quiet laws b is meets 0 rest b.frame b.stuffed from b.decides first_frame i h k low high

    abbrev drives_at : ℕ → Level
    drives_at k = (node laws.clocks (b.setups i) (is.book i there_is) actual k).drive

    -- its level on the line, while it drives dominant
    level_there : (p t : ℕ) → ((q : ℕ) → 1 ≤ q → q ≤ p → drives_at (answer + q) ≡ Dominant) → begin i ≤ t → t < tick i (answer + p) → level l i t ≡ true
    level_there p t drives low high =
        let r = ran l i (suc t) in
        let above : answer < ran l i (suc t) = elim (cases_lt answer (ran l i (suc t))) [
          | inl less ↦ less
          | inr more ↦
              (let rise = up i there_is (ran l i (suc t)) answer more in
              let e = is.ticks i (ran l i (suc t)) there_is in
              let g = begins_at in
              let m = begin_inside i f.plan in
              elim (laws.simulation.ran_all l i (suc t) is.causal there_is) [
                | inl all ↦ absurd (omega arith)
                | inr over ↦ absurd (omega arith)
              ])
        ] in
        let below : ran l i (suc t) ≤ answer + p = elim (cases_lt (answer + p) (ran l i (suc t))) [
          | inl far ↦
              (let g = laws.simulation.ran_before l i (suc t) (answer + p) is.causal there_is far in
              let e = is.ticks i (answer + p) there_is in
              absurd (omega arith))
          | inr close ↦ close
        ] in
        let here : answer + (ran l i (suc t) - answer) ≡ ran l i (suc t) = omega arith in
        let dominant : drives_at (ran l i (suc t)) ≡ Dominant = subst (λ k. drives_at k ≡ Dominant) here (drives (ran l i (suc t) - answer) (omega arith) (omega arith)) in
        laws.simulation.level_is l i t is.causal there_is ∙ ap (l.drives i) (seen_by_quanta l i (ran l i (suc t)))
        ∙ is.drives i (levels_before actual (ran l i (suc t))) there_is ∙ ap is_dominant dominant

    own : (p : ℕ) → sample_at (lengths_of b i) ≤ p → p < bit_quanta (lengths_of b i) → ((q : ℕ) → 1 ≤ q → q ≤ p → drives_at (answer + q) ≡ Dominant) → actual (answer + p) ≡ Dominant
    own p low high drives =
        let e = is.ticks i (answer + p) there_is in
        let g = begins_at in
        let loop = comes_back (b.clocks i) (is.steady i there_is) answer (sample_at (lengths_of b i)) (l.delay i i) (meets.loops i h.listener) in
        let rise = up i there_is (answer + sample_at (lengths_of b i)) (answer + p) (omega arith) in
        let some = is.causal.delays i i there_is there_is in
        let back : level l i (l.instant i (answer + p) - l.delay i i) ≡ true =
        level_there p (l.instant i (answer + p) - l.delay i i) drives (omega arith) (omega arith) in
        found_dominant i (answer + p) i there_is (omega arith) back

    acts : (q : ℕ) → 1 ≤ q → q ≤ bit_quanta (lengths_of b i) → drives_at (answer + q) ≡ Dominant
    acts =
        answering.answer_drive laws.clocks laws.frame (b.setups i) (is.book i there_is) actual b.frame first_frame.content b.stuffed first_frame.stuffs gone h.quantum place.0 place.1 quiet own

    -- and it samples that
    answered : IsAtStretch b i (stretch_by (Framing None) (up_to_ack b.stuffed))
    answered =
        let few = (is.book i there_is).lengths.ps2_low in
        let done =
        answering.answers laws.clocks laws.frame (b.setups i) (is.book i there_is) actual b.frame first_frame.content b.stuffed first_frame.stuffs gone h.quantum place.0 place.1 quiet own 0
        (omega arith) in
        let quanta = answer + (suc (sample_at (lengths_of b i)) + 0) in
        let same : seen l i (answer + (suc (sample_at (lengths_of b i)) + 0)) ≡ levels_before actual (answer + (suc (sample_at (lengths_of b i)) + 0)) =
        seen_by_quanta l i (answer + (suc (sample_at (lengths_of b i)) + 0)) in
        record {
          quanta = answer + (suc (sample_at (lengths_of b i)) + 0);
          inside = λ k less.
              (let e = is.ticks i k there_is in
              let rise = up i there_is k (answer + sample_at (lengths_of b i)) (omega arith) in
              let last_one = sample_inside in
              omega arith);
          stretch =
              ap (λ v. stretch_of (staying_history (b.setups i) v).inputs) same ∙ done.going.does.stretch
              ∙ ap (stretch_by (Framing None)) (frames.own_all laws.frame b.frame first_frame.content b.stuffed first_frame.stuffs);
          fine = ap (λ v. error_count (staying_history (b.setups i) v)) same ∙ done.going.does.errors;
        }
      where
        sample_inside : tick i (answer + sample_at (lengths_of b i)) < l.stop
        sample_inside =
            let comes_in = comes_by i f.plan in
            let some = is.causal.delays i a there_is is.sender in
            let g = begins_at in
            let c = b.clocks i in
            let low = floor_low (b.clocks i) (answer + sample_at (lengths_of b i)) in
            let high = floor_high (b.clocks i) answer (is.steady i there_is).divides in
            let more : instant (b.clocks i) (answer + sample_at (lengths_of b i)) ≡ instant (b.clocks i) answer + sample_at (lengths_of b i) * (b.clocks i).num = omega arith in
            let end = ends.others i h.listener in
            let early : (b.clocks i).den * suc (tick i answer) ≤ (b.clocks i).den * slot_tick = mul-le-mul_left (b.clocks i).den (let n : suc (tick i answer) ≤ slot_tick = omega arith in n) in
            let m : (b.clocks i).den * tick i (answer + sample_at (lengths_of b i)) < (b.clocks i).den * l.stop = omega arith in
            lt_of_mul-lt-mul_left (b.clocks i).den m

    -- the sender finds nothing up to it
    abbrev own_levels : ℕ → Level
    own_levels k = levels_found l (level l) a k

    abbrev own_seen : ℕ → Seen
    own_seen = sees_at laws.clocks (b.setups a) (is.book a is.sender) own_levels

    abbrev delimiter : ℕ
    delimiter = own_sample (sender_of b) (lengths_of b a) last

    sender_same : (k : ℕ) → tick a k < until a → own_levels k ≡ levels_found l drove a k
    sender_same k soon =
        ap level_of (laws.simulation.found_same l (level l) drove a (l.instant a k) (λ j less come.
        (let e = is.ticks a k is.sender in
        let m = near j a less is.sender in
        driven_there j (l.instant a k - l.delay j a) less (omega arith))))

    sender_lists : (k : ℕ) → ((q : ℕ) → q < k → tick a q < until a) → levels_before (levels_found l drove a) k ≡ levels_before own_levels k
    sender_lists k soon = levels_same (levels_found l drove a) own_levels k (λ q less. sym (sender_same q (soon q less)))

    comes : until a ≡ answer_begin (listener_of b i) (l.delay i a) h.quantum
    comes = let e = f.comes in let g = begins_at in omega arith

    delimiter_soon : (q : ℕ) → q < suc delimiter → tick a q < until a
    delimiter_soon q less =
        let e = comes in
        let after = (planned.answered laws b is meets 0 rest b.frame b.stuffed from b.decides first_frame i h).after in
        let rise = up a is.sender q delimiter (omega arith) in
        omega arith

    -- where it is when it finds the acknowledgement
    waits : (k : ℕ) → Finds (b.clocks a) k (answer_begin (listener_of b i) (l.delay i a) h.quantum)
        → Does laws.clocks (b.setups a) (is.book a is.sender) own_levels sent_frames k (planned.Frame laws b is meets 0 rest b.frame b.stuffed from b.decides first_frame (suc last)) Recessive
    waits k finds =
        let e = comes in
        let answered = planned.answered laws b is meets 0 rest b.frame b.stuffed from b.decides first_frame i h in
        let after = answered.after in
        let before = answered.before in
        let seen_it = finds.seen in
        let low : delimiter < k = elim (cases_lt delimiter k) [
          | inl less ↦ less
          | inr more ↦ (let rise = up a is.sender k delimiter more in absurd (omega arith))
        ] in
        let high : k ≤ own_sample (sender_of b) (lengths_of b a) (suc last) = elim (cases_lt (own_sample (sender_of b) (lengths_of b a) (suc last)) k) [
          | inl less ↦ (let unseen = finds.unseen (own_sample (sender_of b) (lengths_of b a) (suc last)) less in absurd (omega arith))
          | inr more ↦ more
        ] in
        does_same laws.clocks (b.setups a) (is.book a is.sender) (levels_found l drove a) own_levels k (sender_lists k (λ q less. (let unseen = finds.unseen q less in omega arith)))
        (planned.Frame laws b is meets 0 rest b.frame b.stuffed from b.decides first_frame (suc last)) Recessive (planned.delimited laws b is meets 0 rest b.frame b.stuffed from b.decides first_frame k low high)

    hears : HearsAnswer (sender_of b) (lengths_of b a) (listener_of b i) (l.delay i a) last h.quantum own_seen
    hears = record {
      clock =
          ap (clock_after (lengths_of b a)) (sym (seen_are laws.clocks (b.setups a) (is.book a is.sender) own_levels (suc delimiter)))
          ∙ ap (λ ls. clock_after (lengths_of b a) (staying_history (b.setups a) ls).seen) (sym (sender_lists (suc delimiter) delimiter_soon))
          ∙ speaking.delimited_clock laws.clocks laws.frame b is meets 0 rest b.frame b.stuffed from b.decides first_frame (levels_found l drove a)
          (planned.own laws b is meets 0 rest b.frame b.stuffed from b.decides first_frame);
      silent = λ k low soon.
          (let e = comes in
          let come = speaking.loop laws.clocks laws.frame b is meets 0 rest b.frame b.stuffed from b.decides first_frame last in
          let rise = up a is.sender delimiter k (omega arith) in
          sender_same k (omega arith) ∙ planned.finds_late laws b is meets 0 rest b.frame b.stuffed from b.decides first_frame a is.sender k (let e = starts_first a is.sender in omega arith) (omega arith));
      there = λ k low soon.
          (let e = is.ticks a k is.sender in
          let g = begins_at in
          found_dominant a k i there_is (omega arith)
          (level_there (bit_quanta (lengths_of b i)) (l.instant a k - l.delay i a) acts (omega arith) (omega arith)));
      awaits = λ k finds. ap awaits_start (waits k finds).stretch
          ∙ ap (λ n. n == 0) (frames.own_length laws.frame b.frame first_frame.content b.stuffed first_frame.stuffs (suc last) (omega arith)) ∙ ne_eqb (suc last) 0 (λ e. omega arith);
      driving = λ k finds. ap is_dominant (waits k finds).drives;
    }

    sent : IsAtStretch b a (stretch_by (Framing (Some b.frame)) (up_to_ack b.stuffed))
    sent =
        let m = planned.samples_answer laws b is meets 0 rest b.frame b.stuffed from b.decides first_frame i h own_seen hears in
        let start = does_same laws.clocks (b.setups a) (is.book a is.sender) (levels_found l drove a) own_levels (suc delimiter) (sender_lists (suc delimiter) delimiter_soon)
        (planned.Frame laws b is meets 0 rest b.frame b.stuffed from b.decides first_frame (suc last)) Recessive
        (planned.delimited laws b is meets 0 rest b.frame b.stuffed from b.decides first_frame (suc delimiter) (omega arith) (let low = (is.book a is.sender).lengths.low in omega arith)) in
        let done = slot_sampled laws.clocks laws.frame (b.setups a) (is.book a is.sender) own_levels b.frame first_frame.content b.stuffed first_frame.stuffs laws.listens.ways sent_frames delimiter m.0 start m.2 in
        let same : seen l a (suc m.0) ≡ levels_before own_levels (suc m.0) = seen_by_quanta l a (suc m.0) in
        record {
          quanta = suc m.0;
          inside = λ k less.
              (let e = is.ticks a k is.sender in
              let few = m.1 in
              let rise = up a is.sender k (own_sample (sender_of b) (lengths_of b a) (suc last) + (lengths_of b a).sjw) (omega arith) in
              let end = ends.sender in
              omega arith);
          stretch =
              ap (λ v. stretch_of (staying_history (b.setups a) v).inputs) same ∙ done.stretch
              ∙ ap (stretch_by (Framing (Some b.frame))) (frames.own_all laws.frame b.frame first_frame.content b.stuffed first_frame.stuffs);
          fine = ap (λ v. error_count (staying_history (b.setups a) v)) same ∙ done.errors;
        }

  pub acknowledged : IsAcknowledged b
  acknowledged = record {
    received = received;
    sent = sent first.0 first.1;
    answered = (first.0, first.1.plan.heard.listener, answered first.0 first.1);
  }
