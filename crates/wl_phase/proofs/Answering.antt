-- The instants of an acknowledgement beside those of the sender's quanta.
use Rattle.std.proofs.Common.{◌≡◌, ◌∙◌, inl, inr, ap, ℕ, zero, suc, ◌+◌, ◌-◌, ◌*◌, ◌<◌, ◌≤◌, arith}
use Rattle.std.proofs.lemmas.Bool.{cases_lt}
use Rattle.std.proofs.Math.Nat.{mul-le-mul_left, mul-le-mul_right, lt_of_mul-lt-mul_left}
use Rattle.wl_segments.specs.Lengths.{Lengths, sample_at, bit_quanta}
use Rattle.wl_sync.specs.declared.Seen.{Seen}
use Rattle.wl_phase.specs.Clocks.{Finds, steady_tick, instant}
use Rattle.wl_phase.specs.Ways.{ByTheBook}
use Rattle.wl_phase.specs.InStep.{Sender, Listener, ClocksAreNear, SamplesBit, bit_parts, quantum_parts, tick_parts, bit_instant, quantum_instant, slower_parts, faster_parts}
use Rattle.wl_phase.specs.Answer.{ComesInTime, EndsInTime, IsAnswered, answer_begin, answer_end, moved_sample, own_sample, own_parts}
use Rattle.wl_phase.proofs.Floors.{floor_low, floor_high}
use Rattle.wl_phase.proofs.Instants.{tick_later, quantum_more}

module _ (s : Sender) (j : Listener) (ds : 0 < s.clock.den) (dj : 0 < j.clock.den) where
  abbrev T : ℕ
  T = tick_parts s j

  -- a quantum of the sender, and its tick
  pub own_instant : ℕ → ℕ
  own_instant i = j.clock.den * instant s.clock i

  own_more : (i n : ℕ) → own_instant (i + n) ≡ own_instant i + n * own_parts s j
  unfolding own_instant
  own_more i n = omega arith

  own_low : (i : ℕ) → T * steady_tick s.clock i ≤ own_instant i
  unfolding own_instant
  own_low i =
      let low = floor_low s.clock i in
      let m : j.clock.den * (s.clock.den * steady_tick s.clock i) ≤ j.clock.den * instant s.clock i = mul-le-mul_left j.clock.den low in
      omega arith

  own_high : (i : ℕ) → own_instant i < T * steady_tick s.clock i + T
  unfolding own_instant
  own_high i =
      let high = floor_high s.clock i ds in
      let m : j.clock.den * suc (instant s.clock i) ≤ j.clock.den * (s.clock.den * steady_tick s.clock i + s.clock.den) = mul-le-mul_left j.clock.den high in
      omega arith

  -- a quantum of the listener
  their_low : (k : ℕ) → T * steady_tick j.clock k ≤ quantum_instant s j k
  their_low k =
      let low = floor_low j.clock k in
      let m : s.clock.den * (j.clock.den * steady_tick j.clock k) ≤ s.clock.den * instant j.clock k = mul-le-mul_left s.clock.den low in
      omega arith

  their_high : (k : ℕ) → quantum_instant s j k < T * steady_tick j.clock k + T
  their_high k =
      let high = floor_high j.clock k dj in
      let m : s.clock.den * suc (instant j.clock k) ≤ s.clock.den * (j.clock.den * steady_tick j.clock k + j.clock.den) = mul-le-mul_left s.clock.den high in
      omega arith

  -- a listener's quantum that reaches the sender by one of the sender's, and one that does not
  pub reaches : (k back i : ℕ) → quantum_instant s j k + back * T ≤ own_instant i → steady_tick j.clock k + back ≤ steady_tick s.clock i
  reaches k back i h =
      let low = their_low k in
      let high = own_high i in
      let m : T * (steady_tick j.clock k + back) < T * suc (steady_tick s.clock i) = omega arith in
      let n = lt_of_mul-lt-mul_left T m in
      omega arith

  pub comes_after : (k back i : ℕ) → own_instant i + T ≤ quantum_instant s j k + back * T → steady_tick s.clock i < steady_tick j.clock k + back
  comes_after k back i h =
      let low = own_low i in
      let high = their_high k in
      let m : T * suc (steady_tick s.clock i) < T * suc (steady_tick j.clock k + back) = omega arith in
      let n = lt_of_mul-lt-mul_left T m in
      omega arith

  -- of a quantum of the sender that comes before it
  pub was_after : (k back i : ℕ) → steady_tick s.clock i < steady_tick j.clock k + back → own_instant i < quantum_instant s j k + back * T
  was_after k back i h =
      let low = their_low k in
      let high = own_high i in
      let m : T * suc (steady_tick s.clock i) ≤ T * (steady_tick j.clock k + back) = mul-le-mul_left T h in
      omega arith

  -- a bit of the sender reaches the listener a delay after it begins
  there : (b : ℕ) → bit_instant s j b ≡ own_instant (s.from + b * s.bit_quanta) + j.delay * T
  unfolding own_instant
  there b = omega arith

  bit_is : (own : Lengths) → s.bit_quanta ≡ bit_quanta own → bit_parts s j ≡ sample_at own * own_parts s j + own.ps2 * own_parts s j
  bit_is own e =
      let same : bit_parts s j ≡ j.clock.den * (bit_quanta own * s.clock.num) = ap (λ n. j.clock.den * (n * s.clock.num)) e in
      let all : j.clock.den * ((sample_at own + own.ps2) * s.clock.num) ≡ sample_at own * (j.clock.den * s.clock.num) + own.ps2 * (j.clock.den * s.clock.num) = omega arith in
      same ∙ all

  next_bit : (b : ℕ) → own_instant (s.from + suc b * s.bit_quanta) ≡ own_instant (s.from + b * s.bit_quanta) + bit_parts s j
  unfolding own_instant
  next_bit b = omega arith

-- a difference of naturals and its multiples, ten at most
pub few_of : (m d : ℕ) → m ≤ 10 → m * d ≤ 10 * d
few_of m d h = mul-le-mul_right d h

module _ (s : Sender) (own : Lengths) (j : Listener) (seen : ℕ → Seen) (found back d k : ℕ) (ds : 0 < s.clock.den) (dj : 0 < j.clock.den)
    (same : s.bit_quanta ≡ bit_quanta own)
    (long : s.clock.den ≤ s.clock.num) (book : ByTheBook own) (their_book : ByTheBook j.lengths) (near : ClocksAreNear s j) (time : ComesInTime s own j back) (is : SamplesBit s j seen found d k) where
  abbrev A : ℕ
  A = bit_parts s j

  abbrev q : ℕ
  q = quantum_parts s j

  abbrev Q : ℕ
  Q = own_parts s j

  -- place 0 of bit d of the sender
  abbrev place : ℕ
  place = own_instant s j ds dj (s.from + d * s.bit_quanta)

  -- the listener's next bit
  begin_at : quantum_instant s j (k + j.lengths.ps2) ≡ quantum_instant s j k + j.lengths.ps2 * q
  begin_at = quantum_more s j ds dj k j.lengths.ps2

  end_at : quantum_instant s j (k + j.lengths.ps2 + bit_quanta j.lengths) ≡ quantum_instant s j (k + j.lengths.ps2) + bit_quanta j.lengths * q
  end_at = quantum_more s j ds dj (k + j.lengths.ps2) (bit_quanta j.lengths)

  way_is : (j.delay + back) * tick_parts s j ≡ j.delay * tick_parts s j + back * tick_parts s j
  way_is = omega arith

  whole : bit_quanta j.lengths * q ≡ sample_at j.lengths * q + j.lengths.ps2 * q
  whole = omega arith

  more_slower : suc is.since * slower_parts s j ≡ is.since * slower_parts s j + slower_parts s j
  more_slower = omega arith

  more_faster : suc is.since * faster_parts s j ≡ is.since * faster_parts s j + faster_parts s j
  more_faster = omega arith

  -- it begins no later than ten bits' drift after the sender's next bit reaches the listener, and not much before
  begins_by : quantum_instant s j (k + j.lengths.ps2) < place + A + j.delay * tick_parts s j + 10 * faster_parts s j
  begins_by =
      let early = is.early in
      let begin = begin_at in
      let all = whole in
      let there_is = there s j ds dj d in
      let more = more_faster in
      let few = few_of (suc is.since) (faster_parts s j) (let f = is.few in omega arith) in
      omega arith

  begins_from : place + A + j.delay * tick_parts s j < quantum_instant s j (k + j.lengths.ps2) + q + tick_parts s j + 10 * slower_parts s j
  begins_from =
      let late = is.late in
      let begin = begin_at in
      let all = whole in
      let there_is = there s j ds dj d in
      let more = more_slower in
      let few = few_of (suc is.since) (slower_parts s j) (let f = is.few in omega arith) in
      omega arith

  sample_of : own_instant s j ds dj (own_sample s own d) ≡ place + sample_at own * Q
  sample_of = own_more s j ds dj (s.from + d * s.bit_quanta) (sample_at own)

  next_sample_of : own_instant s j ds dj (own_sample s own (suc d)) ≡ place + A + sample_at own * Q
  next_sample_of =
      own_more s j ds dj (s.from + suc d * s.bit_quanta) (sample_at own) ∙ ap (λ n. n + sample_at own * Q) (next_bit s j ds dj d)

  comes_later : steady_tick s.clock (own_sample s own d) < answer_begin j back k
  comes_later =
      comes_after s j ds dj (k + j.lengths.ps2) back (own_sample s own d)
      (let h = begins_from in
      let early = time.early in
      let at = sample_of in
      let all = bit_is s j ds dj own same in
      let way = way_is in
      omega arith)

  comes_by : answer_begin j back k ≤ steady_tick s.clock (own_sample s own (suc d))
  comes_by =
      reaches s j ds dj (k + j.lengths.ps2) back (own_sample s own (suc d))
      (let h = begins_by in
      let late = time.late in
      let at = next_sample_of in
      let way = way_is in
      omega arith)

  -- A bit of the listener, and PHASE_SEG2 of the sender, take a tick more than a bit of the sender: one has 8 quanta at least, and the other 17 before
  -- PHASE_SEG2 at most.
  short : A + tick_parts s j ≤ bit_quanta j.lengths * q + own.ps2 * Q
  short =
      let few : tick_parts s j ≤ Q = tick_short in
      let jump = time.jump in
      let second = book.lengths.ps2_low in
      let less : own.sjw * Q ≤ 10 * (own.ps2 - 1) * Q = mul-le-mul_right Q book.lengths.sjw_ps2 in
      let ten : 10 * (own.ps2 - 1) * Q ≡ 10 * ((own.ps2 - 1) * Q) = omega arith in
      let one : own.ps2 ≡ suc (own.ps2 - 1) = omega arith in
      let all : own.ps2 * Q ≡ (own.ps2 - 1) * Q + Q = ap (λ n. n * Q) one ∙ (let x : suc (own.ps2 - 1) * Q ≡ (own.ps2 - 1) * Q + Q = omega arith in x) in
      omega arith
    where
      tick_short : tick_parts s j ≤ Q
      tick_short = let h : s.clock.den * j.clock.den ≤ s.clock.num * j.clock.den = mul-le-mul_right j.clock.den long in omega arith

  -- the sender's quanta up to a sample's place after one that comes before the answer
  lasts_after : (n i : ℕ) → steady_tick s.clock n < answer_begin j back k → i ≤ n + sample_at own → steady_tick s.clock i < answer_end j back k
  lasts_after n i unseen less =
      let before = was_after s j ds dj (k + j.lengths.ps2) back n unseen in
      let e : i + (n + sample_at own - i) ≡ n + sample_at own = omega arith in
      let up = own_more s j ds dj i (n + sample_at own - i) in
      let all = own_more s j ds dj n (sample_at own) in
      let one : own_instant s j ds dj (i + (n + sample_at own - i)) ≡ own_instant s j ds dj (n + sample_at own) = ap (own_instant s j ds dj) e in
      let end = end_at in
      let brief = short in
      let bit = bit_is s j ds dj own same in
      comes_after s j ds dj (k + j.lengths.ps2 + bit_quanta j.lengths) back i (omega arith)

  lasts_for : (n i : ℕ) → Finds s.clock n (answer_begin j back k) → i < n + sample_at own → steady_tick s.clock i < answer_end j back k
  lasts_for zero i finds less =
      let later = comes_later in
      let here = finds.seen in
      let e : 0 + own_sample s own d ≡ own_sample s own d = omega arith in
      let up = tick_later s.clock 0 (own_sample s own d) ds in
      let same_tick : steady_tick s.clock (0 + own_sample s own d) ≡ steady_tick s.clock (own_sample s own d) = ap (steady_tick s.clock) e in
      absurd (omega arith)
  lasts_for (suc n) i finds less = lasts_after n i (finds.unseen n (omega arith)) (omega arith)

  lasts_before : (i : ℕ) → i + own.sjw ≤ own_sample s own (suc d) → steady_tick s.clock i < answer_end j back k
  lasts_before i less =
      let h = begins_from in
      let early = time.early in
      let jump = time.jump in
      let way = way_is in
      let end = end_at in
      let at = next_sample_of in
      let e : i + (own_sample s own (suc d) - i) ≡ own_sample s own (suc d) = omega arith in
      let up = own_more s j ds dj i (own_sample s own (suc d) - i) in
      let one : own_instant s j ds dj (i + (own_sample s own (suc d) - i)) ≡ own_instant s j ds dj (own_sample s own (suc d)) = ap (own_instant s j ds dj) e in
      let far : own.sjw * Q ≤ (own_sample s own (suc d) - i) * Q = mul-le-mul_right Q (let g : own.sjw ≤ own_sample s own (suc d) - i = omega arith in g) in
      let bit = bit_is s j ds dj own same in
      comes_after s j ds dj (k + j.lengths.ps2 + bit_quanta j.lengths) back i (omega arith)

  pub answered : IsAnswered s own j back d k
  answered = record { after = comes_later; before = comes_by; lasts = lasts_for; lasts_early = lasts_before }

  -- the end, beside the sample after the one that it moves
  after_next : own_instant s j ds dj (own_sample s own (suc (suc d))) ≡ place + A + A + sample_at own * Q
  after_next =
      own_more s j ds dj (s.from + suc (suc d) * s.bit_quanta) (sample_at own)
      ∙ ap (λ n. n + sample_at own * Q) (next_bit s j ds dj (suc d) ∙ ap (λ n. n + A) (next_bit s j ds dj d))

  pub ends_late : EndsInTime s own j back → answer_end j back k ≤ steady_tick s.clock (own_sample s own (suc (suc d)))
  ends_late ends =
      reaches s j ds dj (k + j.lengths.ps2 + bit_quanta j.lengths) back (own_sample s own (suc (suc d)))
      (let h = begins_by in
      let end = end_at in
      let at = after_next in
      let way = way_is in
      omega arith)

  -- a bit after the quantum that finds it, and the way to a sample less a quantum
  ends_early : EndsInTime s own j back → (n : ℕ) → Finds s.clock n (answer_begin j back k) → answer_end j back k ≤ steady_tick s.clock (n + (sample_at own - 1) + bit_quanta own)
  ends_early ends n finds =
      reaches s j ds dj (k + j.lengths.ps2 + bit_quanta j.lengths) back (n + (sample_at own - 1) + bit_quanta own)
      (let here = comes_with n finds.seen in
      let end = end_at in
      let all = own_more s j ds dj n (sample_at own - 1) in
      let more = own_more s j ds dj (n + (sample_at own - 1)) (bit_quanta own) in
      let bit = bit_is s j ds dj own same in
      let both : bit_quanta own * Q ≡ sample_at own * Q + own.ps2 * Q = omega arith in
      let few : tick_parts s j ≤ Q = (let h : s.clock.den * j.clock.den ≤ s.clock.num * j.clock.den = mul-le-mul_right j.clock.den long in omega arith) in
      let a = book.lengths.prop_low in
      let b = book.lengths.ps1_low in
      let three : 3 * Q ≤ sample_at own * Q = mul-le-mul_right Q (let h : 3 ≤ sample_at own = omega arith in h) in
      let less : (sample_at own - 1) * Q + Q ≡ sample_at own * Q = one_less (sample_at own) Q (omega arith) in
      let e = ends in
      omega arith)
    where
      comes_with : (n : ℕ) → answer_begin j back k ≤ steady_tick s.clock n → quantum_instant s j (k + j.lengths.ps2) + back * tick_parts s j < own_instant s j ds dj n + tick_parts s j
      comes_with n h =
          let high = their_high s j ds dj (k + j.lengths.ps2) in
          let low = own_low s j ds dj n in
          let m : tick_parts s j * (steady_tick j.clock (k + j.lengths.ps2) + back) ≤ tick_parts s j * steady_tick s.clock n = mul-le-mul_left (tick_parts s j) h in
          omega arith

      one_less : (n q : ℕ) → 1 ≤ n → (n - 1) * q + q ≡ n * q
      one_less n q h = let e : n - 1 + 1 ≡ n = omega arith in let f : (n - 1 + 1) * q ≡ n * q = ap (λ m. m * q) e in omega arith

  pub over : EndsInTime s own j back → (n : ℕ) → Finds s.clock n (answer_begin j back k) → n ≤ own_sample s own (suc d)
      → answer_end j back k ≤ steady_tick s.clock (moved_sample own (own_sample s own d) n + bit_quanta own)
  over ends n finds inside =
      let next : own_sample s own (suc d) ≡ own_sample s own d + bit_quanta own = omega arith in
      let after : own_sample s own (suc (suc d)) ≡ own_sample s own d + bit_quanta own + bit_quanta own = omega arith in
      elim (cases_lt (sample_at own - 1) (own_sample s own d + bit_quanta own - n)) [
        | inl early ↦
            (let h = ends_early ends n finds in
            let m : n + (sample_at own - 1) + bit_quanta own + (moved_sample own (own_sample s own d) n - (n + (sample_at own - 1)))
            ≡ moved_sample own (own_sample s own d) n + bit_quanta own = omega arith in
            let up = tick_later s.clock (n + (sample_at own - 1) + bit_quanta own) (moved_sample own (own_sample s own d) n - (n + (sample_at own - 1))) ds in
            let e : steady_tick s.clock (n + (sample_at own - 1) + bit_quanta own + (moved_sample own (own_sample s own d) n - (n + (sample_at own - 1))))
            ≡ steady_tick s.clock (moved_sample own (own_sample s own d) n + bit_quanta own) = ap (steady_tick s.clock) m in
            omega arith)
        | inr late ↦
            (let h = ends_late ends in
            let low = book.lengths.sjw_low in
            let m : own_sample s own (suc (suc d)) + (moved_sample own (own_sample s own d) n - own_sample s own (suc d)) ≡ moved_sample own (own_sample s own d) n + bit_quanta own = omega arith in
            let up = tick_later s.clock (own_sample s own (suc (suc d))) (moved_sample own (own_sample s own d) n - own_sample s own (suc d)) ds in
            let e : steady_tick s.clock (own_sample s own (suc (suc d)) + (moved_sample own (own_sample s own d) n - own_sample s own (suc d)))
            ≡ steady_tick s.clock (moved_sample own (own_sample s own d) n + bit_quanta own) = ap (steady_tick s.clock) m in
            omega arith)
      ]
