-- An acknowledgement beside the bits of another listener.
use Rattle.std.proofs.Common.{◌≡◌, refl, ap, ℕ, suc, ◌+◌, ◌-◌, ◌*◌, ◌<◌, ◌≤◌, arith}
use Rattle.std.proofs.Math.Nat.{lt_of_mul-lt-mul_left}
use Rattle.wl_segments.specs.Lengths.{sample_at, bit_quanta}
use Rattle.wl_sync.specs.declared.Seen.{Seen}
use Rattle.wl_phase.specs.Clocks.{steady_tick, instant}
use Rattle.wl_phase.specs.InStep.{Sender, Listener, SamplesBit, bit_parts, quantum_parts, tick_parts, bit_instant}
use Rattle.wl_phase.specs.Answer.{ComesAfterSample, EndsBeforeSample, answer_begin, answer_end, longer_parts}
use Rattle.wl_phase.proofs.Sharing.{drift_shared, same_since, tick_by, tick_from}

module _ (s : Sender) (i j : Listener) (seen other_seen : ℕ → Seen) (found other_found between d k n : ℕ)
    (ds : 0 < s.clock.den) (di : 0 < i.clock.den) (dj : 0 < j.clock.den)
    (first : SamplesBit s i seen found d k) (second : SamplesBit s j other_seen other_found d n) where
  -- the parts of the three clocks
  abbrev M : ℕ
  M = s.clock.den * (i.clock.den * j.clock.den)

  -- a bit of either, and one of the sender
  abbrev P : ℕ
  P = j.clock.den * (bit_quanta i.lengths * quantum_parts s i)

  abbrev Q : ℕ
  Q = i.clock.den * (bit_quanta j.lengths * quantum_parts s j)

  abbrev W : ℕ
  W = s.bit_quanta * (s.clock.num * (i.clock.den * j.clock.den))

  -- where the sender's bit begins
  abbrev X : ℕ
  X = i.clock.den * (j.clock.den * instant s.clock (s.from + d * s.bit_quanta))

  abbrev since : second.since ≡ first.since
  since = same_since s i j seen other_seen found other_found d k n first second

  first_bit : j.clock.den * bit_instant s i d ≡ X + M * i.delay
  first_bit = omega arith

  second_bit : i.clock.den * bit_instant s j d ≡ X + M * j.delay
  second_bit = omega arith

  -- a quantum of either, by the parts of all three
  module _ (more : ℕ) where
    first_by : M * steady_tick i.clock (k + more) + j.clock.den + first.since * W
        ≤ X + M * i.delay + j.clock.den * (sample_at i.lengths * quantum_parts s i) + j.clock.den * (more * quantum_parts s i) + first.since * P
    first_by =
        let h = tick_by s i j.clock.den seen found d k ds di first first.since refl more in
        let a : j.clock.den * (tick_parts s i * steady_tick i.clock (k + more)) ≡ M * steady_tick i.clock (k + more) = omega arith in
        let w : first.since * (j.clock.den * bit_parts s i) ≡ first.since * W = omega arith in
        let b = first_bit in
        omega arith

    pub first_from : X + M * i.delay + j.clock.den * (sample_at i.lengths * quantum_parts s i) + j.clock.den * (more * quantum_parts s i) + first.since * P + j.clock.den
        ≤ M * steady_tick i.clock (k + more) + 2 * M + j.clock.den * quantum_parts s i + first.since * W
    first_from =
        let h = tick_from s i j.clock.den seen found d k ds di first first.since refl more in
        let a : j.clock.den * (tick_parts s i * steady_tick i.clock (k + more)) ≡ M * steady_tick i.clock (k + more) = omega arith in
        let t : j.clock.den * tick_parts s i ≡ M = omega arith in
        let w : first.since * (j.clock.den * bit_parts s i) ≡ first.since * W = omega arith in
        let b = first_bit in
        omega arith

    pub second_by : M * steady_tick j.clock (n + more) + i.clock.den + first.since * W
        ≤ X + M * j.delay + i.clock.den * (sample_at j.lengths * quantum_parts s j) + i.clock.den * (more * quantum_parts s j) + first.since * Q
    second_by =
        let h = tick_by s j i.clock.den other_seen other_found d n ds dj second first.since since more in
        let a : i.clock.den * (tick_parts s j * steady_tick j.clock (n + more)) ≡ M * steady_tick j.clock (n + more) = omega arith in
        let w : first.since * (i.clock.den * bit_parts s j) ≡ first.since * W = omega arith in
        let b = second_bit in
        omega arith

    second_from : X + M * j.delay + i.clock.den * (sample_at j.lengths * quantum_parts s j) + i.clock.den * (more * quantum_parts s j) + first.since * Q + i.clock.den
        ≤ M * steady_tick j.clock (n + more) + 2 * M + i.clock.den * quantum_parts s j + first.since * W
    second_from =
        let h = tick_from s j i.clock.den other_seen other_found d n ds dj second first.since since more in
        let a : i.clock.den * (tick_parts s j * steady_tick j.clock (n + more)) ≡ M * steady_tick j.clock (n + more) = omega arith in
        let t : i.clock.den * tick_parts s j ≡ M = omega arith in
        let w : first.since * (i.clock.den * bit_parts s j) ≡ first.since * W = omega arith in
        let b = second_bit in
        omega arith

  -- a bit of listener i after its sample, and its own
  begin_parts : j.clock.den * (sample_at i.lengths * quantum_parts s i) + j.clock.den * (i.lengths.ps2 * quantum_parts s i) ≡ P
  begin_parts = omega arith

  way_parts : j.clock.den * ((i.delay + between) * tick_parts s i) ≡ M * i.delay + M * between
  way_parts = omega arith

  -- it comes after the sample of the other one
  pub after_each : ComesAfterSample s i j between → steady_tick j.clock n < answer_begin i between k
  after_each apart =
      let here : n + 0 ≡ n = omega arith in
      let a = ap (λ m. M * steady_tick j.clock m) here in
      let none : i.clock.den * (0 * quantum_parts s j) ≡ 0 = omega arith in
      let high = second_by 0 in
      let low = first_from i.lengths.ps2 in
      let drift = drift_shared first.since Q P first.few in
      let longer : longer_parts s j i ≡ Q - P = refl in
      let begin = begin_parts in
      let way = way_parts in
      let left : j.clock.den * (quantum_parts s i + 2 * tick_parts s i) + 9 * longer_parts s j i + i.clock.den * (sample_at j.lengths * quantum_parts s j + j.delay * tick_parts s j)
      ≡ j.clock.den * quantum_parts s i + 2 * M + 9 * (Q - P) + i.clock.den * (sample_at j.lengths * quantum_parts s j) + M * j.delay = omega arith in
      let right : j.clock.den * (bit_quanta i.lengths * quantum_parts s i + (i.delay + between) * tick_parts s i) ≡ P + M * i.delay + M * between = omega arith in
      let h = apart in
      let m : M * steady_tick j.clock n < M * (steady_tick i.clock (k + i.lengths.ps2) + between) = omega arith in
      lt_of_mul-lt-mul_left M m

  -- and it is over by the other one's sample of the ACK delimiter
  pub ends_by : EndsBeforeSample s i j between → answer_end i between k ≤ steady_tick j.clock (n + 2 * bit_quanta j.lengths)
  ends_by apart =
      let here : k + (i.lengths.ps2 + bit_quanta i.lengths) ≡ k + i.lengths.ps2 + bit_quanta i.lengths = omega arith in
      let a = ap (λ m. M * steady_tick i.clock m) here in
      let high = first_by (i.lengths.ps2 + bit_quanta i.lengths) in
      let low = second_from (2 * bit_quanta j.lengths) in
      let drift = drift_shared first.since P Q first.few in
      let end : j.clock.den * (sample_at i.lengths * quantum_parts s i) + j.clock.den * ((i.lengths.ps2 + bit_quanta i.lengths) * quantum_parts s i) ≡ 2 * P = omega arith in
      let left : j.clock.den * (2 * bit_quanta i.lengths * quantum_parts s i + (i.delay + between) * tick_parts s i) + 9 * longer_parts s i j + i.clock.den * (quantum_parts s j + tick_parts s j)
      ≡ 2 * P + M * i.delay + M * between + 9 * (P - Q) + i.clock.den * quantum_parts s j + M = omega arith in
      let right : i.clock.den * ((sample_at j.lengths + 2 * bit_quanta j.lengths) * quantum_parts s j + j.delay * tick_parts s j)
      ≡ i.clock.den * (sample_at j.lengths * quantum_parts s j) + i.clock.den * (2 * bit_quanta j.lengths * quantum_parts s j) + M * j.delay = omega arith in
      let h = apart in
      let m : M * (steady_tick i.clock (k + i.lengths.ps2 + bit_quanta i.lengths) + between) < M * suc (steady_tick j.clock (n + 2 * bit_quanta j.lengths)) = omega arith in
      let less = lt_of_mul-lt-mul_left M m in
      omega arith
