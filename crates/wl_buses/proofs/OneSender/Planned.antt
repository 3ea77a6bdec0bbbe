-- What all nodes of a bus with one sender do from its rest up to the first acknowledgement: the sender alone drives, and each other node samples its bits.
use Rattle.std.proofs.Common.{◌≡◌, ◌≢◌, ◌∙◌, inl, inr, refl, sym, ap, subst, ℕ, suc, ◌+◌, ◌-◌, ◌*◌, ◌<◌, ◌≤◌, List, [], length, min, Bool, true, false, Some, None, ◌∷◌, ◌++◌, ◌||◌, arith}
use Rattle.std.proofs.Math.Nat.{mul-le-mul_right}
use Rattle.std.proofs.lemmas.Bool.{cases_lt, cases_eq}
use Rattle.std.proofs.Math.Bool.{or-false}
use Rattle.wl_level.specs.declared.Level.{Level}
use Rattle.wl_level.specs.declared.Level.TheVariants.{Dominant, Recessive}
use Rattle.wl_level.specs.Levels.{is_dominant, level_of}
use Rattle.wl_level.specs.Places.{at}
use Rattle.wl_topology.specs.Driven.{driven, DrivenLaws}
use Rattle.wl_segments.specs.Lengths.{Lengths, sample_at, bit_quanta}
use Rattle.wl_sync.specs.declared.Seen.{Seen}
use Rattle.wl_frame.specs.Grammar.{Content}
use Rattle.wl_frame.specs.Laws.{up_to_ack}
use Rattle.wl_machine.specs.Stretch.{Stretch}
use Rattle.wl_machine.specs.Stretch.Sort.{Framing}
use Rattle.wl_machine.specs.States.{stretch_by}
use Rattle.wl_node.specs.declared.setup.Passed.{Passed}
use Rattle.wl_buses.specs.BothProofs.Queues.{head_at}
use Rattle.wl_buses.proofs.BothProofs.Heads.{head_none}
use Rattle.wl_phase.specs.Clocks.{IsSteady, Finds, steady_tick}
use Rattle.wl_phase.specs.Ways.{ByTheBook}
use Rattle.wl_phase.specs.InStep.{Sender, Listener, ClocksAreNear, SamplesBit, arrival}
use Rattle.wl_phase.specs.Answer.{ComesInTime, ComesAfterSample, HearsAnswer, IsAnswered, SamplesNext, answer_begin, own_sample}
use Rattle.wl_plan.specs.Line.{Line, found}
use Rattle.wl_plan.specs.Simulation.{level}
use Rattle.wl_plan.specs.SimulationLaws.{SimulationLaws}
use Rattle.wl_buses.specs.BothProofs.Expected.{levels_found}
use Rattle.wl_buses.specs.OneSender.OneSender.{SenderBus, IsBus, IsListener, IsInStepWithAll, lengths_of, listener_of}
use Rattle.wl_buses.proofs.OneSender.Drove as all_drove
use Rattle.wl_buses.proofs.OneSender.Alone.{sent, sent_before, drove_by, drove_sender, drove_other, finds_bit, finds_none}
use Rattle.wl_buses.proofs.OneSender.Answering as answering
use Rattle.wl_buses.proofs.BothProofs.Expecting.{LastQuantum, last_quantum}
use Rattle.wl_buses.proofs.OneSender.Frames as frames
use Rattle.wl_buses.proofs.OneSender.Frames.{FrameGoes}
use Rattle.wl_buses.proofs.OneSender.Nodes.{ClockGoes, IsGoing, Does, node}
use Rattle.wl_buses.proofs.OneSender.Receiving as receiving
use Rattle.wl_buses.proofs.OneSender.Receiving.{ListenGoes}
use Rattle.wl_buses.proofs.OneSender.Resting as resting
use Rattle.wl_buses.proofs.OneSender.Resting.{Rests, RestsAt, SendsNext}
use Rattle.wl_buses.proofs.OneSender.Silence.{CountsTo, IsSilentAt, counted, counts_to, ten_counted, left_none, silent_at, silent_same, waiting_awaits, waiting_drives}
use Rattle.wl_buses.proofs.OneSender.Speaking as speaking
use Rattle.wl_buses.proofs.OneSender.Speaking.{HearsOwn}
use Rattle.wl_buses.proofs.BothProofs.Small.{level_same}

-- the laws of the crates below
pub record Laws : Type 0 where
  pub clocks : ClockGoes
  pub frame : FrameGoes
  pub listens : ListenGoes
  pub lines : DrivenLaws
  pub simulation : SimulationLaws
  pub in_time : (s : Sender) (own : Lengths) (j : Listener) (seen : ℕ → Seen) (found back d k : ℕ) → IsSteady s.clock → IsSteady j.clock → ByTheBook own → ByTheBook j.lengths
      → s.bit_quanta ≡ bit_quanta own → ClocksAreNear s j → ComesInTime s own j back → SamplesBit s j seen found d k → IsAnswered s own j back d k
  pub apart : (s : Sender) (i j : Listener) (seen other_seen : ℕ → Seen) (found other_found between d k n : ℕ) → IsSteady s.clock → IsSteady i.clock → IsSteady j.clock
      → ComesAfterSample s i j between → SamplesBit s i seen found d k → SamplesBit s j other_seen other_found d n → steady_tick j.clock n < answer_begin i between k
  pub answer : (s : Sender) (own : Lengths) (j : Listener) (seen sender_seen : ℕ → Seen) (found back d k : ℕ) → IsSteady s.clock → IsSteady j.clock → ByTheBook own
      → ByTheBook j.lengths → s.bit_quanta ≡ bit_quanta own → ClocksAreNear s j → ComesInTime s own j back → SamplesBit s j seen found d k
      → HearsAnswer s own j back d k sender_seen
      → (m : ℕ) × (m ≤ own_sample s own (suc d) + own.sjw) × SamplesNext own sender_seen (own_sample s own d) m Dominant

module _ (laws : Laws) (b : SenderBus) (is : IsBus b) (meets : IsInStepWithAll b) (t : ℕ) (rest : Rests laws.clocks b is t)
    (frame : Content) (y : List Level) (from m : ℕ) (sends : SendsNext laws.clocks b is t rest frame y from m) where
  abbrev pub l : Line
  l = b.line

  abbrev pub a : ℕ
  a = b.sender

  abbrev pub last : ℕ
  last = length y

  abbrev pub line : List Level
  line = up_to_ack y

  abbrev pub s : Sender
  s = record { clock = b.clocks a; bit_quanta = bit_quanta (lengths_of b a); from = from; bits = y ++ Recessive ∷ [] }

  abbrev pub S : ℕ → ℕ
  S i = sample_at (lengths_of b i)

  abbrev pub B : ℕ → ℕ
  B i = bit_quanta (lengths_of b i)

  abbrev pub tick : ℕ → ℕ → ℕ
  tick i k = steady_tick (b.clocks i) k

  abbrev pub base : ℕ → ℕ
  base n = from + n * B a

  abbrev pub begins : ℕ → ℕ
  begins n = tick a (base n)

  abbrev pub up : (i : ℕ) → i < l.nodes → (k n : ℕ) → k ≤ n → tick i k ≤ tick i n
  up = resting.up laws.clocks b is

  abbrev begins_later : (n k : ℕ) → n ≤ k → begins n ≤ begins k
  begins_later = speaking.begins_later laws.clocks laws.frame b is meets t rest frame y from m sends

  abbrev begins_from : begins 0 ≡ tick a from
  begins_from = speaking.begins_from laws.clocks laws.frame b is meets t rest frame y from m sends

  abbrev rest_before : t ≤ begins 0
  rest_before = speaking.rest_before laws.clocks laws.frame b is meets t rest frame y from m sends

  abbrev some_delay : (i : ℕ) → i < l.nodes → 1 ≤ l.delay a i
  some_delay = speaking.some_delay laws.clocks laws.frame b is meets t rest frame y from m sends

  abbrev actual : ℕ → ℕ → Level
  actual = resting.actual laws.clocks b is

  -- from then on the sender alone drives
  abbrev alone : ℕ → ℕ → Bool
  alone = drove_by y begins begins_later a

  abbrev pub drove : ℕ → ℕ → Bool
  drove = all_drove.drove b t alone

  abbrev pub drove_old : (i u : ℕ) → u < t → drove i u ≡ level l i u
  drove_old = all_drove.drove_old b t alone

  abbrev drove_new : (i u : ℕ) → t ≤ u → drove i u ≡ alone i u
  drove_new = all_drove.drove_new b t alone

  pub others_silent : (i u : ℕ) → i ≢ a → t ≤ u → drove i u ≡ false
  others_silent i u apart late = drove_new i u late ∙ drove_other y begins begins_later a i u apart

  pub sender_sends : (i u : ℕ) → i ≡ a → t ≤ u → drove i u ≡ sent y begins begins_later u
  sender_sends i u here late = drove_new i u late ∙ ap (λ n. alone n u) here ∙ drove_sender y begins begins_later a u

  alone_silent : (i u : ℕ) → u < t → alone i u ≡ false
  alone_silent i u less = elim (cases_eq i a) [
    | inl here ↦
        (let late = rest_before in
        subst (λ n. alone n u ≡ false) (sym here) (drove_sender y begins begins_later a u ∙ sent_before y begins begins_later u (omega arith)))
    | inr apart ↦ drove_other y begins begins_later a i u apart
  ]

  abbrev pub levels : ℕ → ℕ → Level
  levels i = levels_found l drove i

  module _ (i : ℕ) (inside : i < l.nodes) where
    abbrev pub at_rest : RestsAt laws.clocks b is t i inside
    at_rest = rest.node i inside

    -- before then it sees what it sees
    pub first : IsSilentAt laws.clocks (b.setups i) (is.book i inside) (levels i) at_rest.base at_rest.waits at_rest.start
    first =
        silent_same laws.clocks (b.setups i) (is.book i inside) (actual i) (levels i) at_rest.base at_rest.waits at_rest.start
        (all_drove.lists_old b t alone laws.clocks laws.simulation laws.lines is rest i inside at_rest.start (omega arith)) at_rest.state

    -- and from then on what the sender drives
    level_new : (k : ℕ) → at_rest.start ≤ k → found l drove i (l.instant i k) ≡ found l alone i (l.instant i k)
    level_new k late =
        laws.simulation.found_same l drove alone i (l.instant i k) (λ j inside_j come.
        (let e = is.ticks i k inside in
        let after = at_rest.after in
        let rise = up i inside at_rest.start k late in
        elim (cases_lt (l.instant i k - l.delay j i) t) [
          | inl early ↦
              drove_old j (l.instant i k - l.delay j i) early ∙ rest.quiet j i (l.instant i k - l.delay j i) inside_j inside early (omega arith)
              ∙ sym (alone_silent j (l.instant i k - l.delay j i) early)
          | inr come_late ↦ drove_new j (l.instant i k - l.delay j i) come_late
        ]))

    undisturbed : (k : ℕ) → at_rest.start ≤ k → (v : Bool) → driven l.nodes l.delay alone i (l.instant i k) ≡ v → levels i k ≡ level_of v
    undisturbed k late v e =
        ap level_of (level_new k late ∙ ap (λ d. driven l.nodes l.delay alone i (l.instant i k) || d) (is.undisturbed i (l.instant i k) inside)
        ∙ or-false (driven l.nodes l.delay alone i (l.instant i k)) ∙ e)

    -- a node finds the bit that has arrived
    pub finds_one : (k n : ℕ) → at_rest.start ≤ k → n ≤ last → begins n + l.delay a i ≤ tick i k → tick i k < begins (suc n) + l.delay a i → levels i k ≡ at line n
    finds_one k n late h low high =
        let e = is.ticks i k inside in
        undisturbed k late (is_dominant (at y n)) (finds_bit y begins begins_later laws.lines l.nodes l.delay a i (l.instant i k) is.sender n (omega arith) (omega arith))
        ∙ level_same (at y n) ∙ sym (frames.line_is laws.frame frame sends.content y sends.stuffs n h)

    pub finds_early : (k : ℕ) → at_rest.start ≤ k → tick i k < begins 0 + l.delay a i → levels i k ≡ Recessive
    finds_early k late early =
        let e = is.ticks i k inside in
        undisturbed k late false (finds_none y begins begins_later laws.lines l.nodes l.delay a i (l.instant i k) is.sender (inl (omega arith)))

    pub finds_late : (k : ℕ) → at_rest.start ≤ k → begins last + l.delay a i ≤ tick i k → levels i k ≡ Recessive
    finds_late k from_then late =
        let e = is.ticks i k inside in
        undisturbed k from_then false (finds_none y begins begins_later laws.lines l.nodes l.delay a i (l.instant i k) is.sender (inr (omega arith)))

  -- the sender hears itself
  pub own : HearsOwn laws.clocks laws.frame b is meets t rest frame y from m sends (levels a)
  own = record {
    first = first a is.sender;
    early = finds_early a is.sender;
    one = λ k n late soon h low high. finds_one a is.sender k n late h low high;
  }

  -- another node hears it
  abbrev pub frames_of : (j : ℕ) → (p : IsListener b j) → List Passed
  frames_of j p = (rest.node j p.0).waits.passed 10

  abbrev pub seen_by : (j : ℕ) → IsListener b j → ℕ → Seen
  seen_by j p =
      receiving.seen laws.clocks laws.frame (b.setups j) (is.book j p.0) (levels j) frame sends.content y sends.stuffs laws.listens (b.clocks a) (B a) from (b.clocks j) (l.delay a j) (frames_of j p)

  abbrev HearsIt : (j : ℕ) → (p : IsListener b j) → ℕ → Type 0
  HearsIt j p =
      receiving.HearsSender laws.clocks laws.frame (b.setups j) (is.book j p.0) (levels j) frame sends.content y sends.stuffs laws.listens (b.clocks a) (B a) from (b.clocks j) (l.delay a j) (frames_of j p)

  pub record IsHeard (j : ℕ) : Type 0 where
    pub listener : IsListener b j
    pub found : ℕ
    pub late : (rest.node j listener.0).start ≤ found
    pub ten : (rest.node j listener.0).base + 9 * B j + S j < found
    pub waits : (k : ℕ) → (rest.node j listener.0).start ≤ k → k ≤ found
        → IsSilentAt laws.clocks (b.setups j) (is.book j listener.0) (levels j) (rest.node j listener.0).base (rest.node j listener.0).waits k
    pub hears : HearsIt j listener found
    pub quantum : ℕ
    pub sampled : SamplesBit s (listener_of b j) (seen_by j listener) found last quantum

  pub heard_by : (j : ℕ) → IsListener b j → IsHeard j
  heard_by j listener =
      let inside = listener.0 in
      let r = rest.node j listener.0 in
      let spaced = sends.spaced j listener in
      let d = some_delay j inside in
      let begin = begins_from in
      let here = rest_before in
      let zero_is = is.ticks j 0 inside in
      let first_up = up j inside 0 (r.base + (r.waits.enough - 1) * B j + S j) (omega arith) in
      let q : LastQuantum l is.causal j (arrival s (listener_of b j) 0 - 1) = last_quantum l is.causal j (arrival s (listener_of b j) 0 - 1) inside (omega arith) in
      let begun_is = is.ticks j q.quantum inside in
      let next_is = is.ticks j (suc q.quantum) inside in
      let low = q.begun in
      let high = q.next in
      let finds : Finds (b.clocks j) (suc q.quantum) (arrival s (listener_of b j) 0) =
      record { unseen = λ i below. (let rise = up j inside i q.quantum (omega arith) in omega arith); seen = omega arith } in
      let past : r.base + (r.waits.enough - 1) * B j + S j < suc q.quantum = elim (cases_lt (r.base + (r.waits.enough - 1) * B j + S j) (suc q.quantum)) [
        | inl less ↦ less
        | inr more ↦ (let rise = up j inside (suc q.quantum) (r.base + (r.waits.enough - 1) * B j + S j) more in let seen = finds.seen in absurd (omega arith))
      ] in
      let late : r.start ≤ suc q.quantum = elim (cases_lt (suc q.quantum) r.start) [
        | inl less ↦ (let before = r.before (suc q.quantum) less in let seen = finds.seen in absurd (omega arith))
        | inr more ↦ more
      ] in
      let silent : (k : ℕ) → r.start ≤ k → k ≤ suc q.quantum → IsSilentAt laws.clocks (b.setups j) (is.book j listener.0) (levels j) r.base r.waits k =
      λ k low high.
      silent_at laws.clocks (b.setups j) (is.book j listener.0) (levels j) r.base r.waits r.start (suc q.quantum)
      (λ i begun less. finds_early j inside i begun (finds.unseen i less))
      (λ c many begun less. ap (λ v. head_at (b.setups j) v (r.base + c * B j + S j)) (left_none (b.setups j) (r.waits.passed 10) (sends.alone j listener)) ∙ head_none (b.setups j) (r.base + c * B j + S j))
      (first j inside) k low high in
      let there = silent (suc q.quantum) late (omega arith) in
      let many = r.waits.many in
      let count : r.waits.enough ≤ there.count =
      (let c = counted laws.clocks (b.setups j) (is.book j listener.0) (levels j) r.base r.waits (suc q.quantum) (r.waits.enough - 1) there past in omega arith) in
      let ten : min there.count 10 ≡ 10 = omega arith in
      let h : HearsIt j listener (suc q.quantum) =
      record {
        sender = is.steady a is.sender;
        listener = is.steady j inside;
        near = meets.near j listener;
        none = sends.alone j listener;
        p = there.p;
        stretch = there.stretch;
        going = subst (λ n. IsGoing laws.clocks (b.setups j) (is.book j listener.0) (levels j) (r.waits.passed n) (suc q.quantum) there.p 0 true there.stretch Recessive) ten there.going;
        drives = waiting_drives r.base (S j) (B j) r.waits there.count there.stretch there.waiting;
        awaits = waiting_awaits r.base (S j) (B j) r.waits there.count there.stretch there.waiting count;
        sample = there.sample;
        level = there.level;
        later = omega arith;
        heard = λ k n few low high.
            (let rise : suc q.quantum ≤ k = elim (cases_lt k (suc q.quantum)) [
              | inl less ↦ (let unseen = finds.unseen k less in let mono = begins_later 0 n (omega arith) in absurd (omega arith))
              | inr more ↦ more
            ] in
            finds_one j inside k n (omega arith) few low high);
        finds = finds;
      } in
      let k = receiving.each_sample laws.clocks laws.frame (b.setups j) (is.book j inside) (levels j) frame sends.content y sends.stuffs laws.listens
      (b.clocks a) (B a) from (b.clocks j) (l.delay a j) (frames_of j listener) (suc q.quantum) h last (omega arith) in
      record { listener = listener; found = suc q.quantum; late = late; ten = (let bits : 9 * B j ≤ (r.waits.enough - 1) * B j = mul-le-mul_right (B j) (omega arith) in omega arith); waits = silent; hears = h; quantum = k.0; sampled = k.1 }

  module _ (j : ℕ) (h : IsHeard j) where
    abbrev inside : j < l.nodes
    inside = h.listener.0

    abbrev pub book_j : ByTheBook (lengths_of b j)
    book_j = is.book j h.listener.0

    abbrev pub Heard : ℕ → Stretch
    Heard n = stretch_by (Framing None) (frames.own laws.frame frame sends.content y sends.stuffs n)

    -- the quantum with which its acknowledgement begins
    abbrev pub answer : ℕ
    answer = h.quantum + (lengths_of b j).ps2

    pub quantum_late : (rest.node j h.listener.0).start ≤ h.quantum
    quantum_late = let e = h.sampled.after in let f = h.late in omega arith

    pub quiet : (i : ℕ) → h.quantum < i → i ≤ answer → levels j i ≡ Recessive
    quiet i low high =
        let begun = h.sampled.begun in
        let rise = up j inside h.quantum i (omega arith) in
        let late = quantum_late in
        finds_late j inside i (omega arith) (omega arith)

    pub place : (longer : ℕ) × IsGoing laws.clocks (b.setups j) (is.book j h.listener.0) (levels j) (frames_of j h.listener) (suc h.quantum) (suc (S j)) longer false (Heard (suc last)) Recessive
    place =
        let p = receiving.delimiter_place laws.clocks laws.frame (b.setups j) (is.book j h.listener.0) (levels j) frame sends.content y sends.stuffs laws.listens
        (b.clocks a) (B a) from (b.clocks j) (l.delay a j) (frames_of j h.listener) h.found h.hears h.quantum h.sampled in (
          p.0,
          record {
            place = p.1;
            does = receiving.delimiter_by laws.clocks laws.frame (b.setups j) (is.book j h.listener.0) (levels j) frame sends.content y sends.stuffs laws.listens
                (b.clocks a) (B a) from (b.clocks j) (l.delay a j) (frames_of j h.listener) h.found h.hears h.quantum h.sampled;
          },
        )

    -- up to it it drives recessive, and finds no error
    pub silent : (i : ℕ) → (rest.node j h.listener.0).start ≤ i → i ≤ answer
        → (c : ℕ) × (u : Stretch) × Does laws.clocks (b.setups j) (is.book j h.listener.0) (levels j) ((rest.node j h.listener.0).waits.passed (min c 10)) i u Recessive
        × CountsTo (rest.node j h.listener.0).base (S j) (B j) i c
    silent i low high = elim (cases_lt h.quantum i) [
      | inl past ↦
          (let p = S j + (i - h.quantum) in
          let here : h.quantum + (S j + (i - h.quantum) - S j) ≡ i = omega arith in (
            10,
            Heard (suc last),
            subst (λ k. Does laws.clocks (b.setups j) (is.book j h.listener.0) (levels j) (frames_of j h.listener) k (Heard (suc last)) Recessive) here
                (answering.rests laws.clocks laws.frame (b.setups j) (is.book j h.listener.0) (levels j) frame sends.content y sends.stuffs (frames_of j h.listener) h.quantum place.0 place.1 quiet
                (S j + (i - h.quantum)) (omega arith) (omega arith)).does,
            ten_counted (rest.node j h.listener.0).base (S j) (B j) i (let e = h.ten in let f = h.sampled.after in omega arith),
          ))
      | inr up_to ↦ elim (cases_lt i h.found) [
        | inl early ↦ (let w = h.waits i low (omega arith) in
            (w.count, w.stretch, w.going.does, counts_to laws.clocks (b.setups j) (is.book j h.listener.0) (levels j) (rest.node j h.listener.0).base (rest.node j h.listener.0).waits i w))
        | inr late ↦
            (let d = receiving.silent_up_to laws.clocks laws.frame (b.setups j) (is.book j h.listener.0) (levels j) frame sends.content y sends.stuffs laws.listens
            (b.clocks a) (B a) from (b.clocks j) (l.delay a j) (frames_of j h.listener) h.found h.hears h.quantum h.sampled i late up_to in
            (10, d.0, d.1, ten_counted (rest.node j h.listener.0).base (S j) (B j) i (let e = h.ten in omega arith)))
      ]
    ]

    pub answered : IsAnswered s (lengths_of b a) (listener_of b j) (l.delay j a) last h.quantum
    answered =
        laws.in_time s (lengths_of b a) (listener_of b j) (seen_by j h.listener)
        h.found (l.delay j a) last h.quantum (is.steady a is.sender) (is.steady j inside) (is.book a is.sender) (is.book j inside) refl (meets.near j h.listener) (meets.answers j h.listener) h.sampled

  -- it reaches no other node before that one's sample of the CRC delimiter
  pub answers_after : (i j : ℕ) → (p : IsHeard i) → (q : IsHeard j) → i ≢ j → tick j q.quantum < tick i (answer i p) + l.delay i j
  answers_after i j p q apart =
      laws.apart s (listener_of b i) (listener_of b j) (seen_by i p.listener) (seen_by j q.listener)
      p.found q.found (l.delay i j) last p.quantum q.quantum (is.steady a is.sender) (is.steady i p.listener.0) (is.steady j q.listener.0)
      (meets.apart i j p.listener q.listener apart) p.sampled q.sampled

  -- and the sender samples one that comes alone
  pub samples_answer : (j : ℕ) → (p : IsHeard j) → (sender_seen : ℕ → Seen) → HearsAnswer s (lengths_of b a) (listener_of b j) (l.delay j a) last p.quantum sender_seen
      → (n : ℕ) × (n ≤ own_sample s (lengths_of b a) (suc last) + (lengths_of b a).sjw) × SamplesNext (lengths_of b a) sender_seen (own_sample s (lengths_of b a) last) n Dominant
  samples_answer j p sender_seen hears_it =
      laws.answer s (lengths_of b a) (listener_of b j) (seen_by j p.listener)
      sender_seen p.found (l.delay j a) last p.quantum (is.steady a is.sender) (is.steady j p.listener.0) (is.book a is.sender) (is.book j p.listener.0) refl
      (meets.near j p.listener) (meets.answers j p.listener) p.sampled hears_it

  abbrev pub Frame : ℕ → Stretch
  Frame n = stretch_by (Framing (Some frame)) (frames.own laws.frame frame sends.content y sends.stuffs n)

  abbrev pub sent_frames : List Passed
  sent_frames = (rest.node a is.sender).waits.passed 10

  -- the sender hears nothing in the ACK slot by itself
  slot_quiet : (p : ℕ) → p < S a → levels a (base (suc last) + p) ≡ Recessive
  slot_quiet p less =
      let come = speaking.loop laws.clocks laws.frame b is meets t rest frame y from m sends last in
      let few = (is.book a is.sender).lengths.ps2_low in
      let far = up a is.sender (base last + S a) (base (suc last) + p) (omega arith) in
      let soon = speaking.start_before laws.clocks laws.frame b is meets t rest frame y from m sends in
      finds_late a is.sender (base (suc last) + p) (omega arith) (omega arith)

  -- between its samples of the CRC delimiter and of the ACK slot, as long as it hears nothing
  pub delimited : (k : ℕ) → own_sample s (lengths_of b a) last < k → k ≤ own_sample s (lengths_of b a) (suc last)
      → Does laws.clocks (b.setups a) (is.book a is.sender) (levels a) sent_frames k (Frame (suc last)) Recessive
  delimited k low high =
      speaking.delimited laws.clocks laws.frame b is meets t rest frame y from m sends (levels a) own (S a) (omega arith) slot_quiet k low high

  -- what the sender drives by its quanta, up to its sample of the ACK slot
  module _ (until : ℕ) (soon : until ≤ tick a (own_sample s (lengths_of b a) (suc last))) where
    pub sender_drives : (k u : ℕ) → t ≤ u → u < until → tick a k ≤ u → u < tick a (suc k)
        → drove a u ≡ is_dominant (node laws.clocks (b.setups a) (is.book a is.sender) (levels a) (suc k)).drive
    sender_drives k u late before_it low high =
        let r = rest.node a is.sender in
        let begun : r.start ≤ suc k = elim (cases_lt (suc k) r.start) [
          | inl less ↦ (let before = r.before (suc k) less in absurd (omega arith))
          | inr more ↦ more
        ] in
        let less : k < base (suc last) + S a = elim (cases_lt k (base (suc last) + S a)) [
          | inl few ↦ few
          | inr many ↦ (let rise = up a is.sender (base (suc last) + S a) k many in absurd (omega arith))
        ] in
        sender_sends a u refl late
        ∙ speaking.drives_bits laws.clocks laws.frame b is meets t rest frame y from m sends (levels a) own (S a) (omega arith) slot_quiet k u begun less low high
