-- A node that receives, from a start of frame that it awaits to its acknowledgement.
use Rattle.std.proofs.Common.{◌≡◌, ◌∙◌, ◌⊎◌, inl, inr, refl, sym, ap, subst, ℕ, zero, suc, ◌+◌, ◌-◌, ◌*◌, ◌<◌, ◌≤◌, List, [], ◌∷◌, ◌++◌, length, take, true, false, cond, None, arith, append-nil, append_assoc, length-append}
use Rattle.std.specs.Prelude.{◌==◌}
use Rattle.std.proofs.Math.Nat.{mul-le-mul_left, mul-le-mul_right}
use Rattle.std.proofs.lemmas.Bool.{cases_lt, ne_eqb}
use Rattle.std.proofs.lemmas.List.{take_more, length-take-le}
use Rattle.std.proofs.Math.Seq.{take-append_seam}
use Rattle.wl_level.specs.declared.Level.{Level}
use Rattle.wl_level.specs.declared.Level.TheVariants.{Dominant, Recessive}
use Rattle.wl_level.specs.Levels.{is_dominant}
use Rattle.wl_level.specs.Places.{at}
use Rattle.wl_level.proofs.Callers.{at_front, length_more}
use Rattle.wl_segments.specs.Lengths.{sample_at, bit_quanta}
use Rattle.wl_sync.specs.declared.Beat.{Beat}
use Rattle.wl_sync.specs.declared.Beat.TheVariants.{Plain, Sample, Start}
use Rattle.wl_sync.specs.declared.Seen.{Seen}
use Rattle.wl_sync.specs.Bits.{beat_of, sync_of}
use Rattle.wl_sync.specs.Skips.{moved_place}
use Rattle.wl_sync.specs.Steps.{end_of, running_first, running_on, running_sync}
use Rattle.wl_confine.specs.declared.Happened.TheVariants.{Nothing}
use Rattle.wl_frame.specs.Stuffing.{Stuffs}
use Rattle.wl_frame.specs.Grammar.{Content, IsContent, bits_of}
use Rattle.wl_frame.specs.Laws.{up_to_ack}
use Rattle.wl_machine.specs.Stretch.{Stretch, begins}
use Rattle.wl_machine.specs.Stretch.Sort.{Framing}
use Rattle.wl_machine.specs.Judged.{judged, awaits_start, drive_of}
use Rattle.wl_machine.specs.States.{stretch_by}
use Rattle.wl_node.specs.declared.setup.NodeSetup.{NodeSetup}
use Rattle.wl_node.specs.declared.setup.Passed.{Passed}
use Rattle.wl_phase.specs.Clocks.{Steady, IsSteady, Finds, steady_tick}
use Rattle.wl_phase.specs.Ways.{ByTheBook, WayLaws}
use Rattle.wl_phase.specs.InStep.{Sender, Listener, Listens, IsListening, ClocksAreNear, SamplesBit, arrival, seen_before, sampled_by, samples_from, bit_parts, quantum_parts, tick_parts, quantum_instant}
use Rattle.wl_phase.proofs.Callers.{answer_not, bit_next, none_is, quantum_more, sync_is, unarrived_low, unarrived_from, zero_is}
use Rattle.wl_buses.proofs.OneSender.Frames as frames
use Rattle.wl_buses.proofs.OneSender.Frames.{FrameGoes}
use Rattle.wl_buses.proofs.OneSender.Gliding.{IsAt, syncs_hard}
use Rattle.wl_buses.proofs.OneSender.Nodes.{beat_same, ClockGoes, IsGoing, Does, Takes, node, clock_at, sees_at, beat_at, seen_are, valid_at, clock_next, does_plain, does_start, does_sample}
use Rattle.wl_buses.proofs.OneSender.Silence.{AwaitsFrame, given, head_none, takes_on, takes_new}

-- the laws of the crate below, of listeners
pub record ListenGoes : Type 0 where
  pub ways : WayLaws
  pub samples : (s : Sender) (j : Listener) (seen : ℕ → Seen) (found : ℕ) → IsSteady s.clock → IsSteady j.clock → ByTheBook j.lengths → ClocksAreNear s j
      → Listens s j seen found → (x y rest : List Level) → Stuffs y x → s.bits ++ rest ≡ up_to_ack y
      → (b : ℕ) → b < length s.bits → (k : ℕ) × SamplesBit s j seen found b k

-- a list that is longer by one at its end
snoc_same : (a b : List Level) (x z : Level) → a ++ x ∷ [] ≡ b ++ z ∷ [] → (a ≡ b) × (x ≡ z)
snoc_same [] [] x z e = (refl, head_same x z [] [] e)
  where
    head_same : (x z : Level) (a b : List Level) → x ∷ a ≡ z ∷ b → x ≡ z
    head_same x z a b e = cc
snoc_same [] (w ∷ b) x z e = absurd (let f = ap length e in let g = length_more b z in omega arith)
snoc_same (v ∷ a) [] x z e = absurd (let f = ap length e in let g = length_more a x in omega arith)
snoc_same (v ∷ a) (w ∷ b) x z e =
    let r = snoc_same a b x z (tail_same v w (a ++ x ∷ []) (b ++ z ∷ []) e) in
    (ap (λ u. u ∷ a) (head_same v w (a ++ x ∷ []) (b ++ z ∷ []) e) ∙ ap (λ u. w ∷ u) r.0, r.1)
  where
    head_same : (x z : Level) (a b : List Level) → x ∷ a ≡ z ∷ b → x ≡ z
    head_same x z a b e = cc

    tail_same : (x z : Level) (a b : List Level) → x ∷ a ≡ z ∷ b → a ≡ b
    tail_same x z a b e = cc

pub one_level : (a b : Level) → Sample a ≡ Sample b → a ≡ b
one_level a b e = cc

take_of_take : (n m : ℕ) (xs : List Level) → n ≤ m → take n (take m xs) ≡ take n xs
take_of_take zero m xs h = refl
take_of_take (suc n) zero xs h = absurd (omega arith)
take_of_take (suc n) (suc m) [] h = refl
take_of_take (suc n) (suc m) (x ∷ xs) h = ap (λ v. x ∷ v) (take_of_take n m xs (omega arith))

pub cases_beat : (b : Beat) → (b ≡ Plain) ⊎ ((b ≡ Start) ⊎ ((v : Level) × (b ≡ Sample v)))
cases_beat Plain = inl refl
cases_beat Start = inr (inl refl)
cases_beat (Sample v) = inr (inr (v, refl))

-- the rest of a bit that was sampled is PHASE_SEG2
module _ (clocks : ClockGoes) (setup : NodeSetup) (book : ByTheBook setup.segments) (levels : ℕ → Level) (ways : WayLaws) where
  pub sampled_level : (k : ℕ) (v : Level) → beat_at clocks setup book levels k ≡ Sample v → levels k ≡ v
  sampled_level k v e =
      let past = (node clocks setup book levels k).seen in
      let x = sees_at clocks setup book levels k in
      let o = ways.only setup.segments past (sees_at clocks setup book levels k) v book e in
      one_level (levels k) v (sym (ways.sample setup.segments past (sees_at clocks setup book levels k) book o.0 o.1) ∙ e)

  pub sampled_place : (k : ℕ) (v : Level) → beat_at clocks setup book levels k ≡ Sample v
      → (longer : ℕ) × IsAt (clock_at clocks setup book levels (suc k)) (suc (sample_at setup.segments)) longer false
  sampled_place k value beat =
      let past = (node clocks setup book levels k).seen in
      let x = sees_at clocks setup book levels k in
      let o = ways.only setup.segments past (sees_at clocks setup book levels k) value book beat in
      let r = clock_at clocks setup book levels k in
      let v = valid_at clocks setup book levels k in
      let sync : running_sync r (sees_at clocks setup book levels k) ≡ false =
      answer_not r (sees_at clocks setup book levels k) v (sym (sync_is clocks.goes setup.segments book past (sees_at clocks setup book levels k)) ∙ o.0) in
      let here : r.quanta ≡ moved_place r = zero_is r v o.1 in
      let shorter : r.shorter ≡ 0 = v.unshortened (omega arith) in
      let low = book.lengths.ps2_low in
      let begun = v.begun in
      let after : clock_at clocks setup book levels (suc k) ≡ running_on r (levels k) =
      clock_next clocks setup book levels k ∙ none_is r (sees_at clocks setup book levels k) book.book sync
      ∙ ap (λ b. cond b (running_first r (levels k)) (running_on r (levels k))) (ne_eqb r.quanta (end_of r) (λ e. omega arith)) in (
        r.longer,
        subst (λ t. IsAt t (suc (sample_at setup.segments)) r.longer false) (sym after) (record {
          quanta = omega arith;
          longer_is = refl;
          shorter = shorter;
          nominal = λ few. absurd (omega arith);
          low = omega arith;
          high = omega arith;
          unsynced = λ e. cc;
        }),
      )

module _ (clocks : ClockGoes) (goes : FrameGoes) (setup : NodeSetup) (book : ByTheBook setup.segments) (levels : ℕ → Level)
    (head : Content) (c : IsContent head) (y : List Level) (is : Stuffs y (bits_of head)) (laws : ListenGoes)
    (sender_clock : Steady) (sender_bit from : ℕ) (clock : Steady) (delay : ℕ) (passed : List Passed) where
  abbrev S : ℕ
  S = sample_at setup.segments

  abbrev B : ℕ
  B = bit_quanta setup.segments

  abbrev last : ℕ
  last = length y

  abbrev line : List Level
  line = up_to_ack y

  abbrev pub s : Sender
  s = record { clock = sender_clock; bit_quanta = sender_bit; from = from; bits = y ++ Recessive ∷ [] }

  abbrev pub j : Listener
  j = record { clock = clock; lengths = setup.segments; delay = delay }

  abbrev pub Doing : (k : ℕ) (t : Stretch) (drive : Level) → Type 0
  Doing = Does clocks setup book levels passed

  abbrev pub seen : ℕ → Seen
  seen = sees_at clocks setup book levels

  -- a receiver that has this many bits
  abbrev pub Heard : ℕ → Stretch
  Heard n = stretch_by (Framing None) (frames.own goes head c y is n)

  -- It awaits a start of frame on a silent line, has no frame of its own, and hears the sender alone.
  pub record HearsSender (found : ℕ) : Type 0 where
    pub sender : IsSteady sender_clock
    pub listener : IsSteady clock
    pub near : ClocksAreNear s j
    pub none : setup.queue ≡ []
    pub p : ℕ
    pub stretch : Stretch
    pub going : IsGoing clocks setup book levels passed found p 0 true stretch Recessive
    pub drives : drive_of stretch ≡ Recessive
    pub awaits : AwaitsFrame stretch
    pub sample : (clock_at clocks setup book levels found).sample ≡ Recessive
    pub later : 0 < found
    pub level : (clock_at clocks setup book levels found).level ≡ Recessive
    pub heard : (k b : ℕ) → b ≤ last → arrival s j b ≤ steady_tick clock k → steady_tick clock k < arrival s j (suc b) → levels k ≡ at line b
    pub finds : Finds clock found (arrival s j 0)

  module _ (found : ℕ) (hears : HearsSender found) where
    bits_length : length s.bits ≡ suc last
    bits_length = length_more y Recessive ∙ (let e : last + 1 ≡ suc last = omega arith in e)

    bits_at : (b : ℕ) → b ≤ last → at s.bits b ≡ at line b
    bits_at b h = sym (at_front s.bits (Dominant ∷ []) b (let e = bits_length in omega arith))

    -- the start of frame
    long_bit : quantum_parts s j + tick_parts s j ≤ bit_parts s j
    long_bit =
        let a = hears.near.sample in
        let b = book.lengths.prop_low in
        let d = book.lengths.ps1_low in
        let few : sender_clock.den * clock.den ≤ sender_clock.den * clock.num = mul-le-mul_left sender_clock.den hears.listener.not_fast in
        let all : B * quantum_parts s j ≡ sample_at setup.segments * quantum_parts s j + setup.segments.ps2 * quantum_parts s j = omega arith in
        let many : 3 * quantum_parts s j ≤ sample_at setup.segments * quantum_parts s j = mul-le-mul_right (quantum_parts s j) (omega arith) in
        let early : 2 * quantum_parts s j ≤ setup.segments.ps2 * quantum_parts s j = mul-le-mul_right (quantum_parts s j) book.lengths.ps2_low in
        let ten : 10 * B * quantum_parts s j ≡ 10 * (B * quantum_parts s j) = omega arith in
        omega arith

    found_lasts : steady_tick clock found < arrival s j 1
    found_lasts =
        let ds = hears.sender.divides in
        let dj = hears.listener.divides in
        let later = hears.later in
        let low = unarrived_low s j ds dj 0 (found - 1) (hears.finds.unseen (found - 1) (omega arith)) in
        let one : found - 1 + 1 ≡ found = omega arith in
        let more : quantum_instant s j found ≡ quantum_instant s j (found - 1) + 1 * quantum_parts s j =
        ap (quantum_instant s j) (sym one) ∙ quantum_more s j ds dj (found - 1) 1 in
        let next = bit_next s j ds dj 0 in
        let long = long_bit in
        unarrived_from s j ds dj 1 found (omega arith)

    first_level : levels found ≡ Dominant
    first_level =
        hears.heard found 0 (omega arith) hears.finds.seen found_lasts
        ∙ frames.line_front goes head c y is 0 (frames.some_bits goes head c y is) ∙ frames.begins_dominant goes head c y is

    -- what it is at, with so many bits
    abbrev IsReceiving : (k n : ℕ) → Type 0
    IsReceiving k n = ((n ≡ 0) × Doing k hears.stretch Recessive) ⊎ ((0 < n) × Doing k (Heard n) Recessive)

    stays : (k n : ℕ) → n ≤ last → ((beat_at clocks setup book levels k ≡ Plain) ⊎ (beat_at clocks setup book levels k ≡ Start)) → IsReceiving k n → IsReceiving (suc k) n
    stays k n few (inl e) (inl g) = inl (g.0, does_plain clocks setup book levels k hears.stretch Recessive e g.1)
    stays k n few (inl e) (inr g) = inr (g.0, does_plain clocks setup book levels k (Heard n) Recessive e g.1)
    stays k n few (inr e) (inl g) = inl (g.0, subst (λ v. Doing (suc k) hears.stretch v) hears.drives (does_start clocks setup book levels k hears.stretch Recessive e g.1))
    stays k n few (inr e) (inr g) =
        inr (g.0, subst (λ v. Doing (suc k) (Heard n) v) (frames.receiver_is_silent goes head c y is n few) (does_start clocks setup book levels k (Heard n) Recessive e g.1))

    level_is : (k : ℕ) (v : Level) → beat_at clocks setup book levels k ≡ Sample v → levels k ≡ v
    level_is = sampled_level clocks setup book levels laws.ways

    samples : (k n : ℕ) (v : Level) → n ≤ last → beat_at clocks setup book levels k ≡ Sample v → v ≡ at line n → IsReceiving k n → Doing (suc k) (Heard (suc n)) Recessive
    samples k n v few e is_bit (inl g) =
        let zero_is : n ≡ 0 = g.0 in
        let now : levels k ≡ Dominant = level_is k v e ∙ is_bit ∙ ap (at line) zero_is ∙ frames.line_front goes head c y is 0 (frames.some_bits goes head c y is) ∙ frames.begins_dominant goes head c y is in
        let new : judged hears.stretch (given clocks setup book levels k) ≡ begins Nothing (Framing None) (Dominant ∷ []) =
        hears.awaits.takes (given clocks setup book levels k) now (head_none clocks setup book levels k hears.none) in
        let own : Heard (suc n) ≡ stretch_by (Framing None) (Dominant ∷ []) =
        ap (λ i. Heard (suc i)) zero_is
        ∙ ap (stretch_by (Framing None)) (frames.own_more goes head c y is 0 (omega arith)
        ∙ ap (λ l. l ∷ []) (frames.line_front goes head c y is 0 (frames.some_bits goes head c y is) ∙ frames.begins_dominant goes head c y is)) in
        subst (λ t. Doing (suc k) t Recessive) (sym own)
        (does_sample clocks setup book levels k hears.stretch (stretch_by (Framing None) (Dominant ∷ [])) Recessive v e g.1
        (takes_new clocks setup book levels k hears.stretch (stretch_by (Framing None) (Dominant ∷ [])) new))
    samples k n v few e is_bit (inr g) =
        let now : levels k ≡ at line n = level_is k v e ∙ is_bit in
        does_sample clocks setup book levels k (Heard n) (Heard (suc n)) Recessive v e g.1
        (subst (λ t. Takes clocks setup book levels k (Heard n) t)
        (ap (λ l. stretch_by (Framing None) (frames.own goes head c y is n ++ l ∷ [])) now
        ∙ ap (stretch_by (Framing None)) (sym (frames.own_more goes head c y is n (omega arith))))
        (takes_on clocks setup book levels k (Heard n) (frames.receiver_goes_on goes head c y is n (given clocks setup book levels k) few now)))

    taken_length : (n : ℕ) → n ≤ last → length (take n s.bits) ≡ n
    taken_length n h = length-take-le n s.bits (let e = bits_length in omega arith)

    one_more : (i n : ℕ) → n ≤ last → (v : Level) → beat_at clocks setup book levels (found + i) ≡ Sample v
        → samples_from setup.segments seen found (suc i) ≡ take n s.bits
        → ((q : ℕ) → q ≤ last → samples_from setup.segments seen found i ≡ take q s.bits → IsReceiving (found + i) q) → IsReceiving (suc (found + i)) n
    one_more i n few v is_beat e old =
        let longer : samples_from setup.segments seen found i ++ v ∷ [] ≡ take n s.bits =
        ap (λ u. samples_from setup.segments seen found i ++ u) (sym (ap sampled_by (beat_same clocks setup book levels (found + i) ∙ is_beat))) ∙ e in
        let some : 0 < n = (let a = ap length longer in let b = length_more (samples_from setup.segments seen found i) v in let d = taken_length n few in omega arith) in
        let one : n - 1 + 1 ≡ n = omega arith in
        let cut : take n s.bits ≡ take (n - 1) s.bits ++ at s.bits (n - 1) ∷ [] =
        ap (λ q. take q s.bits) (sym one) ∙ take_more s.bits (n - 1) Recessive (let a = bits_length in omega arith) in
        let parts = snoc_same (samples_from setup.segments seen found i) (take (n - 1) s.bits) v (at s.bits (n - 1)) (longer ∙ cut) in
        let before = old (n - 1) (omega arith) parts.0 in
        let d = samples (found + i) (n - 1) v (omega arith) is_beat (parts.1 ∙ bits_at (n - 1) (omega arith)) before in
        let suc_is : suc (n - 1) ≡ n = omega arith in
        inr (some, subst (λ q. Doing (suc (found + i)) (Heard q) Recessive) suc_is d)

    receiving : (i n : ℕ) → n ≤ last → samples_from setup.segments seen found i ≡ take n s.bits → IsReceiving (found + i) n
    receiving zero n few e =
        let none : n ≡ 0 = sym (taken_length n few) ∙ ap length (sym e) in
        let place : found ≡ found + 0 = omega arith in
        inl (none, subst (λ k. Doing k hears.stretch Recessive) place hears.going.does)
    receiving (suc i) n few e =
        let k = found + i in
        let place : suc (found + i) ≡ found + suc i = omega arith in
        subst (λ q. IsReceiving q n) place
        (elim (cases_beat (beat_at clocks setup book levels (found + i))) [
          | inl plain ↦ stays (found + i) n few (inl plain) (receiving i n few (unsampled Plain plain refl))
          | inr other ↦ elim other [
            | inl start ↦ stays (found + i) n few (inr start) (receiving i n few (unsampled Start start refl))
            | inr sampled ↦ one_more i n few sampled.0 sampled.1 e (λ q h f. receiving i q h f)
          ]
        ])
      where
        unsampled : (b : Beat) → beat_at clocks setup book levels (found + i) ≡ b → sampled_by b ≡ [] → samples_from setup.segments seen found i ≡ take n s.bits
        unsampled b is_beat none =
            sym (append-nil (samples_from setup.segments seen found i))
            ∙ ap (λ v. samples_from setup.segments seen found i ++ v) (sym (ap sampled_by (beat_same clocks setup book levels (found + i) ∙ is_beat) ∙ none)) ∙ e

    -- so it listens
    listening : (k n : ℕ) → IsListening s j seen found k n → 0 < n → Doing k (Heard n) Recessive
    listening k n on some = elim (cases_lt k found) [
      | inl early ↦
          (let none : k - found ≡ 0 = omega arith in
          let e : samples_from setup.segments seen found 0 ≡ take n s.bits = ap (samples_from setup.segments seen found) (sym none) ∙ on.samples in
          let more = on.more in
          let a = ap length e in
          let b = taken_length n (let d = bits_length in omega arith) in
          absurd (omega arith))
      | inr late ↦
          (let place : found + (k - found) ≡ k = omega arith in
          let more = on.more in
          by k n some (subst (λ q. IsReceiving q n) place (receiving (k - found) n (let d = bits_length in omega arith) on.samples)))
    ]
      where
        by : (k n : ℕ) → 0 < n → IsReceiving k n → Doing k (Heard n) Recessive
        by k n some (inl g) = let z : n ≡ 0 = g.0 in absurd (omega arith)
        by k n some (inr g) = g.1

    pub listens : Listens s j seen found
    listens = record {
      level = λ k b n on less begun lasts. hears.heard k b (let e = bits_length in omega arith) begun lasts ∙ sym (bits_at b (let e = bits_length in omega arith));
      finds = hears.finds;
      later = hears.later;
      hard =
          ap (λ v. sync_of setup.segments v (seen found)) (sym (seen_are clocks setup book levels found))
          ∙ sync_is clocks.goes setup.segments book (node clocks setup book levels found).seen (seen found)
          ∙ syncs_hard (clock_at clocks setup book levels found) (seen found) book.book (valid_at clocks setup book levels found).begun first_level
          (ap awaits_start hears.going.does.stretch ∙ hears.awaits.awaits) (ap is_dominant hears.going.does.drives) hears.level hears.sample
          (hears.going.place.unsynced refl);
      awaits = λ k n on some. (let more = on.more in
          ap awaits_start (listening k n on some).stretch
          ∙ ap (λ i. i == 0) (frames.own_length goes head c y is n (let e = bits_length in omega arith)) ∙ ne_eqb n 0 (λ e. omega arith));
      driving = λ k n on some. ap is_dominant (listening k n on some).drives;
    }

    pub each_sample : (b : ℕ) → b ≤ last → (k : ℕ) × SamplesBit s j seen found b k
    each_sample b h =
        laws.samples s j seen found hears.sender hears.listener book hears.near listens (bits_of head) y (Dominant ∷ []) is refl b (let e = bits_length in omega arith)

    -- a front of what was sampled
    more_samples : (i e : ℕ) → (more : List Level) × (samples_from setup.segments seen found (i + e) ≡ samples_from setup.segments seen found i ++ more)
    more_samples i zero =
        let place : i + 0 ≡ i = omega arith in
        ([], ap (samples_from setup.segments seen found) place ∙ sym (append-nil (samples_from setup.segments seen found i)))
    more_samples i (suc e) =
        let r = more_samples i e in
        let place : i + suc e ≡ suc (i + e) = omega arith in
        let x = sampled_by (beat_of setup.segments (seen_before seen (found + (i + e))) (seen (found + (i + e)))) in (
          r.0 ++ x,
          ap (samples_from setup.segments seen found) place ∙ ap (λ v. v ++ x) r.1 ∙ append_assoc (samples_from setup.segments seen found i) r.0 x,
        )

    front_samples : (i e : ℕ) → samples_from setup.segments seen found (i + e) ≡ take last s.bits
        → (n : ℕ) × (n ≤ last) × (samples_from setup.segments seen found i ≡ take n s.bits)
    front_samples i e all =
        let r = more_samples i e in
        let xs = samples_from setup.segments seen found i in
        let cut : take last s.bits ≡ xs ++ r.0 = sym all ∙ r.1 in
        let fits : length xs ≤ last =
        (let a = length-append xs r.0 in let b = ap length cut in let d = taken_length last (omega arith) in omega arith) in (
          length xs,
          fits,
          sym (take-append_seam xs r.0) ∙ ap (take (length xs)) (sym cut) ∙ take_of_take (length xs) last s.bits fits,
        )

    -- up to then it drives recessive
    pub silent_up_to : (k : ℕ) → SamplesBit s j seen found last k → (i : ℕ) → found ≤ i → i ≤ k → (t : Stretch) × Doing i t Recessive
    silent_up_to k sampled i late h =
        let place = sampled.place in
        let all : samples_from setup.segments seen found ((i - found) + (k - i)) ≡ take last s.bits =
        ap (samples_from setup.segments seen found) (let e : (i - found) + (k - i) ≡ sampled.quanta = omega arith in e) ∙ sampled.before in
        let front = front_samples (i - found) (k - i) all in
        let here : found + (i - found) ≡ i = omega arith in
        drive_of_it (subst (λ q. IsReceiving q front.0) here (receiving (i - found) front.0 front.1 front.2))
      where
        drive_of_it : {n : ℕ} → IsReceiving i n → (t : Stretch) × Doing i t Recessive
        drive_of_it (inl g) = (hears.stretch, g.1)
        drive_of_it {n = n} (inr g) = (Heard n, g.1)

    -- it has sampled the CRC delimiter
    pub delimiter_by : (k : ℕ) → SamplesBit s j seen found last k → Doing (suc k) (Heard (suc last)) Recessive
    delimiter_by k sampled =
        let place = sampled.place in
        let beat : beat_at clocks setup book levels k ≡ Sample (at s.bits last) = sym (beat_same clocks setup book levels k) ∙ sampled.level in
        samples k last (at s.bits last) (omega arith) beat (bits_at last (omega arith))
        (subst (λ q. IsReceiving q last) place (receiving sampled.quanta last (omega arith) sampled.before))

    -- and the rest of that bit is PHASE_SEG2
    pub delimiter_place : (k : ℕ) → SamplesBit s j seen found last k → (longer : ℕ) × IsAt (clock_at clocks setup book levels (suc k)) (suc S) longer false
    delimiter_place k sampled = sampled_place clocks setup book levels laws.ways k (at s.bits last) (sym (beat_same clocks setup book levels k) ∙ sampled.level)
