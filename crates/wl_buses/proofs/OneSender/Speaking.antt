-- The sender of a bus from its rest to its sample of the ACK slot, if it hears itself alone up to the slot.
use Rattle.std.proofs.Common.{◌≡◌, ◌∙◌, ◌⊎◌, inl, inr, refl, sym, ap, subst, ℕ, zero, suc, ◌+◌, ◌-◌, ◌*◌, ◌<◌, ◌≤◌, List, [], ◌∷◌, ◌++◌, length, min, true, Some, arith}
use Rattle.std.proofs.lemmas.Bool.{cases_lt}
use Rattle.std.proofs.Math.Nat.{mul-le-mul_left, mul-le-mul_right, le_of_mul-le-mul_left, lt_of_mul-lt-mul_left}
use Rattle.std.proofs.lemmas.List.{get_or_past}
use Rattle.wl_level.specs.declared.Level.{Level}
use Rattle.wl_level.specs.declared.Level.TheVariants.{Recessive}
use Rattle.wl_level.specs.Levels.{is_dominant}
use Rattle.wl_level.specs.Places.{at, before}
use Rattle.wl_segments.specs.Lengths.{sample_at, bit_quanta}
use Rattle.wl_sync.specs.Skips.{steady_clock}
use Rattle.wl_frame.specs.Grammar.{Content}
use Rattle.wl_frame.specs.Laws.{up_to_ack}
use Rattle.wl_machine.specs.Stretch.{Stretch}
use Rattle.wl_machine.specs.Stretch.Sort.{Framing}
use Rattle.wl_machine.specs.Judged.{drive_of}
use Rattle.wl_machine.specs.States.{stretch_by}
use Rattle.wl_node.specs.declared.setup.Passed.{Passed}
use Rattle.wl_phase.specs.Clocks.{Steady, IsSteady, steady_tick, instant}
use Rattle.wl_phase.specs.Ways.{ByTheBook}
use Rattle.wl_phase.specs.InStep.{Sender}
use Rattle.wl_phase.specs.Answer.{own_sample}
use Rattle.wl_phase.proofs.Callers.{floor_low, floor_high}
use Rattle.wl_plan.specs.Line.{Line}
use Rattle.wl_buses.specs.OneSender.OneSender.{SenderBus, IsBus, IsInStepWithAll, lengths_of}
use Rattle.wl_buses.proofs.OneSender.Alone.{sent, sent_bit, sent_before, sent_after}
use Rattle.wl_buses.proofs.OneSender.Frames as frames
use Rattle.wl_buses.proofs.OneSender.Frames.{FrameGoes}
use Rattle.wl_buses.proofs.OneSender.Leasts.{split}
use Rattle.wl_buses.proofs.OneSender.Nodes.{ClockGoes, Does, clock_at, node}
use Rattle.wl_buses.proofs.OneSender.Bits.{at_place}
use Rattle.wl_buses.proofs.OneSender.Resting as resting
use Rattle.wl_buses.proofs.OneSender.Resting.{Rests, RestsAt, SendsNext}
use Rattle.wl_buses.proofs.OneSender.Sending as sending
use Rattle.wl_buses.proofs.OneSender.Silence.{CountsTo, IsSilentAt, about, idle_still}

-- a level that comes back by the sample
module _ (c : Steady) (is : IsSteady c) where
  pub comes_back : (k n delay : ℕ) → c.den * delay ≤ n * c.num → steady_tick c k + delay ≤ steady_tick c (k + n)
  comes_back k n delay h =
      let low = floor_low c k in
      let high = floor_high c (k + n) is.divides in
      let more : instant c (k + n) ≡ instant c k + n * c.num = omega arith in
      let m : c.den * (steady_tick c k + delay) < c.den * suc (steady_tick c (k + n)) = omega arith in
      let less = lt_of_mul-lt-mul_left c.den m in
      omega arith

module _ (clocks : ClockGoes) (goes : FrameGoes) (b : SenderBus) (is : IsBus b) (meets : IsInStepWithAll b) (t : ℕ) (rest : Rests clocks b is t)
    (frame : Content) (y : List Level) (from m : ℕ) (sends : SendsNext clocks b is t rest frame y from m) where
  abbrev pub l : Line
  l = b.line

  abbrev pub a : ℕ
  a = b.sender

  abbrev pub last : ℕ
  last = length y

  abbrev pub line : List Level
  line = up_to_ack y

  abbrev pub s : Sender
  s = record { clock = b.clocks a; bit_quanta = bit_quanta (lengths_of b a); from = from; bits = y ++ Recessive ∷ [] }

  abbrev pub S : ℕ → ℕ
  S i = sample_at (lengths_of b i)

  abbrev pub B : ℕ → ℕ
  B i = bit_quanta (lengths_of b i)

  abbrev pub tick : ℕ → ℕ → ℕ
  tick i k = steady_tick (b.clocks i) k

  abbrev up : (i : ℕ) → i < l.nodes → (k n : ℕ) → k ≤ n → tick i k ≤ tick i n
  up = resting.up clocks b is

  abbrev pub at_rest : RestsAt clocks b is t a is.sender
  at_rest = rest.node a is.sender

  abbrev pub passed : List Passed
  passed = at_rest.waits.passed 10

  -- the quantum of the sender's bit, and its tick
  abbrev pub base : ℕ → ℕ
  base n = from + n * B a

  abbrev pub begins : ℕ → ℕ
  begins n = tick a (base n)

  pub begins_later : (n k : ℕ) → n ≤ k → begins n ≤ begins k
  begins_later n k h = up a is.sender (base n) (base k) (let e : n * B a ≤ k * B a = mul-le-mul_right (B a) h in omega arith)

  pub start_soon : at_rest.start ≤ at_rest.base + m * B a + S a
  start_soon =
      let soon = rest.soon in
      let many : 10 * B a ≤ m * B a = mul-le-mul_right (B a) sends.decides.idle in
      omega arith

  pub start_before : at_rest.start ≤ from
  start_before =
      let soon = start_soon in
      let e = sends.from_is in
      let f : suc m * B a ≡ m * B a + B a = omega arith in
      omega arith

  -- the frame begins later
  pub rest_before : t ≤ begins 0
  rest_before =
      let soon = start_before in
      let rise = up a is.sender at_rest.start (base 0) (omega arith) in
      let after = at_rest.after in
      omega arith

  pub begins_from : begins 0 ≡ tick a from
  begins_from = let e : base 0 ≡ from = omega arith in ap (tick a) e

  -- the sender's book
  abbrev pub book_a : ByTheBook (lengths_of b a)
  book_a = is.book a is.sender

  -- what it drives comes back to it by the sample, since even what another one sends back does
  own_loop : (b.clocks a).den * l.delay a a ≤ S a * (b.clocks a).num
  own_loop =
      let j = is.other.0 in
      let late = (meets.answers is.other.0 is.other.1).late in
      let way = is.detours a is.other.0 a is.sender is.other.1.0 is.sender in
      let some = (is.steady is.other.0 is.other.1.0).divides in
      let far : (b.clocks a).den * l.delay a a ≤ (b.clocks a).den * (l.delay a is.other.0 + l.delay is.other.0 a) = mul-le-mul_left (b.clocks a).den (let h = way in omega arith) in
      let m : (b.clocks is.other.0).den * ((b.clocks a).den * (l.delay a is.other.0 + l.delay is.other.0 a)) ≤ (b.clocks is.other.0).den * (S a * (b.clocks a).num) = omega arith in
      let near = le_of_mul-le-mul_left m some in
      omega arith

  pub loop : (n : ℕ) → begins n + l.delay a a ≤ tick a (base n + S a)
  loop n = comes_back (b.clocks a) (is.steady a is.sender) (base n) (S a) (l.delay a a) own_loop

  pub some_delay : (i : ℕ) → i < l.nodes → 1 ≤ l.delay a i
  some_delay i inside = is.causal.delays a i is.sender inside

  abbrev pub Frame : ℕ → Stretch
  Frame n = stretch_by (Framing (Some frame)) (frames.own goes frame sends.content y sends.stuffs n)

  -- These are levels that it finds: silence up to its start of frame, and each bit up to the slot, from when it has come back.
  pub record HearsOwn (lv : ℕ → Level) : Type 0 where
    pub first : IsSilentAt clocks (b.setups a) book_a lv at_rest.base at_rest.waits at_rest.start
    pub early : (k : ℕ) → at_rest.start ≤ k → tick a k < begins 0 + l.delay a a → lv k ≡ Recessive
    pub one : (k n : ℕ) → at_rest.start ≤ k → k ≤ base (suc last) → n ≤ last → begins n + l.delay a a ≤ tick a k → tick a k < begins (suc n) + l.delay a a → lv k ≡ at line n

  module _ (lv : ℕ → Level) (own : HearsOwn lv) where
    abbrev pub Hears : Type 0
    Hears = sending.HearsItself clocks goes (b.setups a) book_a lv frame sends.content y sends.stuffs from passed

    in_frame : (n p : ℕ) → n ≤ last → p ≤ B a → at_rest.start ≤ base n + p
    in_frame n p h few = let e = start_before in omega arith

    up_to_slot : (n p : ℕ) → n ≤ last → p ≤ B a → base n + p ≤ base (suc last)
    up_to_slot n p h few = let e : suc n * B a ≤ suc last * B a = mul-le-mul_right (B a) (omega arith) in let f : suc n * B a ≡ n * B a + B a = omega arith in omega arith

    pub hears : Hears
    hears = record {
      silent = (let d = some_delay a is.sender in let e = begins_from in own.early from start_before (omega arith));
      settled = λ n p h low high.
          (let come = loop n in
          let rise = up a is.sender (base n + S a) (base n + p) (omega arith) in
          let next = up a is.sender (base n + p) (base (suc n)) (omega arith) in
          let d = some_delay a is.sender in
          own.one (base n + p) n (in_frame n p h high) (up_to_slot n p h high) h (omega arith) (omega arith));
      early = early;
    }
      where
        early : (n p : ℕ) → n ≤ last → p < S a → (lv (base n + p) ≡ at line n) ⊎ ((q : ℕ) → q ≤ p → lv (base n + q) ≡ before line n)
        early n p h low = elim (cases_lt (tick a (base n + p)) (begins n + l.delay a a)) [
          | inl before_it ↦ inr (old n p h before_it low)
          | inr come ↦
              (let few = book_a.lengths.ps2_low in
              let next = up a is.sender (base n + p) (base (suc n)) (omega arith) in
              let d = some_delay a is.sender in
              inl (own.one (base n + p) n (in_frame n p h (omega arith)) (up_to_slot n p h (omega arith)) h come (omega arith)))
        ]
          where
            old : (n p : ℕ) → n ≤ last → tick a (base n + p) < begins n + l.delay a a → p < S a → (q : ℕ) → q ≤ p → lv (base n + q) ≡ before line n
            old zero p h before_it low q few =
                let past = book_a.lengths.ps2_low in
                let rise = up a is.sender (base 0 + q) (base 0 + p) (omega arith) in
                own.early (base 0 + q) (in_frame 0 q h (omega arith)) (omega arith)
            old (suc n) p h before_it low q few =
                let come = loop n in
                let past = book_a.lengths.ps2_low in
                let rise = up a is.sender (base n + S a) (base (suc n) + q) (omega arith) in
                let stay = up a is.sender (base (suc n) + q) (base (suc n) + p) (omega arith) in
                own.one (base (suc n) + q) n (in_frame (suc n) q h (omega arith)) (up_to_slot (suc n) q h (omega arith)) (omega arith) (omega arith) (omega arith)

    silent_up_to : (k : ℕ) → at_rest.start ≤ k → k ≤ at_rest.base + suc m * B a → lv k ≡ Recessive
    silent_up_to k late h =
        let e = sends.from_is in
        let rise = up a is.sender k (base 0) (omega arith) in
        let d = some_delay a is.sender in
        own.early k late (omega arith)

    pub begun : sending.Going clocks goes (b.setups a) book_a lv frame sends.content y sends.stuffs from passed from (B a) 0 true (Frame 0) Recessive
    begun =
        at_place clocks (b.setups a) book_a lv (at_rest.base + suc m * B a) from (B a) (B a) 0 true (Frame 0) Recessive (sym sends.from_is) refl
        (about clocks (b.setups a) book_a lv at_rest.base at_rest.waits frame m at_rest.start sends.decides start_soon silent_up_to own.first)

    pub still : (k : ℕ) → at_rest.start ≤ k → k ≤ from → (c : ℕ) × (u : Stretch) × Does clocks (b.setups a) book_a lv (at_rest.waits.passed (min c 10)) k u Recessive
        × CountsTo at_rest.base (S a) (B a) k c
    still k late h =
        let e = sends.from_is in
        idle_still clocks (b.setups a) book_a lv at_rest.base at_rest.waits frame m at_rest.start sends.decides start_soon silent_up_to own.first k late (omega arith)

    -- in its frame it has no error
    pub speaks : (k : ℕ) → from < k → k ≤ base (suc last) → (n : ℕ) × (v : Level) × Does clocks (b.setups a) book_a lv passed k (Frame n) v
    speaks k low high =
        let many = book_a.lengths.low in
        let r = split (k - suc from) (B a) (omega arith) in
        let inside = r.2 in
        let cut = r.3 in
        let here : base r.0 + suc r.1 ≡ k = omega arith in
        let up_to : r.0 ≤ last = elim (cases_lt last r.0) [
          | inl past ↦ (let e : suc last * B a ≤ r.0 * B a = mul-le-mul_right (B a) past in absurd (omega arith))
          | inr fits ↦ fits
        ] in
        let bit = sending.each_bit clocks goes (b.setups a) book_a lv frame sends.content y sends.stuffs from passed begun hears r.0 up_to in
        elim (cases_lt (S a) (suc r.1)) [
          | inl late ↦ (suc r.0, drive_of (Frame r.0), subst (λ i. Does clocks (b.setups a) book_a lv passed i (Frame (suc r.0)) (drive_of (Frame r.0))) here (bit.after (suc r.1) late (omega arith)).does)
          | inr early ↦ (r.0, drive_of (Frame r.0), subst (λ i. Does clocks (b.setups a) book_a lv passed i (Frame r.0) (drive_of (Frame r.0))) here (bit.before (suc r.1) (omega arith) early).does)
        ]

    -- its clock after the sample of the CRC delimiter
    pub delimited_clock : clock_at clocks (b.setups a) book_a lv (suc (own_sample s (lengths_of b a) last)) ≡ steady_clock (lengths_of b a)
    delimited_clock = sending.delimited clocks goes (b.setups a) book_a lv frame sends.content y sends.stuffs from passed begun hears

    -- in the ACK slot, as long as it hears nothing
    module _ (most : ℕ) (inside : most ≤ S a) (quiet : (p : ℕ) → p < most → lv (base (suc last) + p) ≡ Recessive) where
      pub slot : (p : ℕ) → 1 ≤ p → p ≤ most → Does clocks (b.setups a) book_a lv passed (base (suc last) + p) (Frame (suc last)) Recessive
      slot p low high =
          (sending.slot clocks goes (b.setups a) book_a lv frame sends.content y sends.stuffs from passed begun hears most inside quiet p low high).does

      -- the sender between its samples of the CRC delimiter and of the ACK slot, as long as it hears nothing
      pub delimited : (k : ℕ) → own_sample s (lengths_of b a) last < k → k ≤ base (suc last) + most → Does clocks (b.setups a) book_a lv passed k (Frame (suc last)) Recessive
      delimited k low high =
          let drives : drive_of (Frame last) ≡ Recessive = frames.sender_drives goes frame sends.content y sends.stuffs last (omega arith) ∙ get_or_past y last Recessive (omega arith) in
          elim (cases_lt (base (suc last)) k) [
            | inl late ↦
                (let place : base (suc last) + (k - base (suc last)) ≡ k = omega arith in
                subst (λ i. Does clocks (b.setups a) book_a lv passed i (Frame (suc last)) Recessive) place (slot (k - base (suc last)) (omega arith) (omega arith)))
            | inr same_bit ↦
                (let place : base last + (k - base last) ≡ k = omega arith in
                let d = ((sending.each_bit clocks goes (b.setups a) book_a lv frame sends.content y sends.stuffs from passed begun hears last (omega arith)).after
                (k - base last) (omega arith) (omega arith)).does in
                subst (λ i. Does clocks (b.setups a) book_a lv passed i (Frame (suc last)) Recessive) place
                (subst (λ v. Does clocks (b.setups a) book_a lv passed (base last + (k - base last)) (Frame (suc last)) v) drives d))
          ]

      -- what it drives by its quanta up to there
      pub drives_bits : (k u : ℕ) → at_rest.start ≤ suc k → k < base (suc last) + most → tick a k ≤ u → u < tick a (suc k)
          → sent y begins begins_later u ≡ is_dominant (node clocks (b.setups a) book_a lv (suc k)).drive
      drives_bits k u late soon low high = elim (cases_lt k from) [
        | inl idle ↦
            (let rise = up a is.sender (suc k) (base 0) (omega arith) in
            sent_before y begins begins_later u (omega arith) ∙ sym (ap is_dominant (still (suc k) late idle).2.drives))
        | inr sending_now ↦
            (let low8 = book_a.lengths.low in
            let r = split (k - from) (B a) (omega arith) in
            let inside_it = r.2 in
            let cut = r.3 in
            let here : base r.0 + r.1 ≡ k = omega arith in
            in_bits r.0 r.1 inside_it here)
      ]
        where
          in_bits : (c p : ℕ) → p < B a → base c + p ≡ k → sent y begins begins_later u ≡ is_dominant (node clocks (b.setups a) book_a lv (suc k)).drive
          in_bits c p inside_it here = elim (cases_lt last c) [
            | inl past ↦
                (let few = book_a.lengths.ps2_low in
                let slot_is : c ≡ suc last = elim (cases_lt (suc last) c) [
                  | inl far ↦ (let e : suc (suc last) * B a ≤ c * B a = mul-le-mul_right (B a) far in let f : suc (suc last) * B a ≡ suc last * B a + B a = omega arith in absurd (omega arith))
                  | inr near ↦ omega arith
                ] in
                let same : c * B a ≡ suc last * B a = ap (λ n. n * B a) slot_is in
                let place : base (suc last) + suc p ≡ suc k = omega arith in
                let over = begins_later last (suc last) (omega arith) in
                let begun_by = up a is.sender (base (suc last)) k (omega arith) in
                sent_after y begins begins_later u (omega arith)
                ∙ sym (ap is_dominant (ap (λ i. (node clocks (b.setups a) book_a lv i).drive) (sym place) ∙ (slot (suc p) (omega arith) (omega arith)).drives)))
            | inr up_to ↦
                (let place : base c + suc p ≡ suc k = omega arith in
                let begun_by = up a is.sender (base c) k (omega arith) in
                let next = up a is.sender (suc k) (base (suc c)) (omega arith) in
                sent_bit y begins begins_later u c (omega arith) (omega arith)
                ∙ sym (ap is_dominant (ap (λ i. (node clocks (b.setups a) book_a lv i).drive) (sym place)
                ∙ sending.bit_drive clocks goes (b.setups a) book_a lv frame sends.content y sends.stuffs from passed begun hears c (suc p) up_to (omega arith) (omega arith))))
          ]
