-- The end of an acknowledgement at a node that another one has moved, and the bits after it.
use Rattle.std.proofs.Common.{◌≡◌, refl, ap, ℕ, suc, ◌+◌, ◌-◌, ◌*◌, ◌<◌, ◌≤◌, arith}
use Rattle.std.proofs.Math.Nat.{mul-le-mul_left, mul-le-mul_right, lt_of_mul-lt-mul_left}
use Rattle.wl_segments.specs.Lengths.{Lengths, sample_at, bit_quanta}
use Rattle.wl_sync.specs.declared.Seen.{Seen}
use Rattle.wl_phase.specs.Clocks.{Steady, steady_tick, instant}
use Rattle.wl_phase.specs.Ways.{ByTheBook}
use Rattle.wl_phase.specs.InStep.{Sender, Listener, ClocksAreNear, SamplesBit, bit_parts, quantum_parts, tick_parts, bit_instant, faster_parts}
use Rattle.wl_phase.specs.Answer.{EndsAfterMove, answer_begin, answer_end}
use Rattle.wl_phase.proofs.Early.{lasts_least, lasts_most}
use Rattle.wl_phase.proofs.Sharing.{drift_shared, same_since, tick_by, tick_from}

-- The acknowledgement of j at a node that the one of i has moved.
module _ (s : Sender) (i j : Listener) (c : Steady) (l : Lengths) (seen other_seen : ℕ → Seen) (found other_found from_i from_j d k n : ℕ)
    (ds : 0 < s.clock.den) (di : 0 < i.clock.den) (dj : 0 < j.clock.den) (dc : 0 < c.den)
    (first : SamplesBit s i seen found d k) (second : SamplesBit s j other_seen other_found d n) (ends : EndsAfterMove s i j c l from_i from_j) where
  abbrev M : ℕ
  M = s.clock.den * (i.clock.den * (j.clock.den * c.den))

  abbrev P : ℕ
  P = j.clock.den * c.den * (bit_quanta i.lengths * quantum_parts s i)

  abbrev Q : ℕ
  Q = i.clock.den * c.den * (bit_quanta j.lengths * quantum_parts s j)

  abbrev W : ℕ
  W = s.bit_quanta * (s.clock.num * (i.clock.den * (j.clock.den * c.den)))

  abbrev X : ℕ
  X = i.clock.den * (j.clock.den * (c.den * instant s.clock (s.from + d * s.bit_quanta)))

  abbrev N : ℕ
  N = sample_at l - 1 + bit_quanta l

  abbrev since : second.since ≡ first.since
  since = same_since s i j seen other_seen found other_found d k n first second

  -- where the first one begins, and the other ends
  first_begins : X + M * i.delay + P + first.since * P + j.clock.den * c.den
      ≤ M * steady_tick i.clock (k + i.lengths.ps2) + 2 * M + j.clock.den * c.den * quantum_parts s i + first.since * W
  first_begins =
      let h = tick_from s i (j.clock.den * c.den) seen found d k ds di first first.since refl i.lengths.ps2 in
      let a : j.clock.den * c.den * (tick_parts s i * steady_tick i.clock (k + i.lengths.ps2)) ≡ M * steady_tick i.clock (k + i.lengths.ps2) = omega arith in
      let t : j.clock.den * c.den * tick_parts s i ≡ M = omega arith in
      let w : first.since * (j.clock.den * c.den * bit_parts s i) ≡ first.since * W = omega arith in
      let b : j.clock.den * c.den * bit_instant s i d ≡ X + M * i.delay = omega arith in
      let e : j.clock.den * c.den * (sample_at i.lengths * quantum_parts s i) + j.clock.den * c.den * (i.lengths.ps2 * quantum_parts s i) ≡ P = omega arith in
      omega arith

  other_ends : M * steady_tick j.clock (n + j.lengths.ps2 + bit_quanta j.lengths) + i.clock.den * c.den + first.since * W ≤ X + M * j.delay + 2 * Q + first.since * Q
  other_ends =
      let here : n + (j.lengths.ps2 + bit_quanta j.lengths) ≡ n + j.lengths.ps2 + bit_quanta j.lengths = omega arith in
      let same = ap (λ m. M * steady_tick j.clock m) here in
      let h = tick_by s j (i.clock.den * c.den) other_seen other_found d n ds dj second first.since since (j.lengths.ps2 + bit_quanta j.lengths) in
      let a : i.clock.den * c.den * (tick_parts s j * steady_tick j.clock (n + (j.lengths.ps2 + bit_quanta j.lengths))) ≡ M * steady_tick j.clock (n + (j.lengths.ps2 + bit_quanta j.lengths)) = omega arith in
      let w : first.since * (i.clock.den * c.den * bit_parts s j) ≡ first.since * W = omega arith in
      let b : i.clock.den * c.den * bit_instant s j d ≡ X + M * j.delay = omega arith in
      let e : i.clock.den * c.den * (sample_at j.lengths * quantum_parts s j) + i.clock.den * c.den * ((j.lengths.ps2 + bit_quanta j.lengths) * quantum_parts s j) ≡ 2 * Q = omega arith in
      omega arith

  pub over_others : (x : ℕ) → answer_begin i from_i k ≤ steady_tick c x → answer_end j from_j n ≤ steady_tick c (x + (sample_at l - 1) + bit_quanta l)
  over_others x begun =
      let e : x + N ≡ x + (sample_at l - 1) + bit_quanta l = omega arith in
      let same = ap (steady_tick c) e in
      let o = s.clock.den * (i.clock.den * j.clock.den) in
      let least = lasts_least c (s.clock.den * (i.clock.den * j.clock.den)) x N dc in
      let a : s.clock.den * (i.clock.den * j.clock.den) * (c.den * steady_tick c x) ≡ M * steady_tick c x = omega arith in
      let b : s.clock.den * (i.clock.den * j.clock.den) * (c.den * steady_tick c (x + N)) ≡ M * steady_tick c (x + N) = omega arith in
      let t : s.clock.den * (i.clock.den * j.clock.den) * c.den ≡ M = omega arith in
      let z : s.clock.den * (i.clock.den * j.clock.den) * (N * c.num) ≡ N * (s.clock.den * i.clock.den * j.clock.den * c.num) = omega arith in
      let begin : M * (steady_tick i.clock (k + i.lengths.ps2) + from_i) ≤ M * steady_tick c x = mul-le-mul_left M begun in
      let cut : M * (steady_tick i.clock (k + i.lengths.ps2) + from_i) ≡ M * steady_tick i.clock (k + i.lengths.ps2) + M * from_i = omega arith in
      let low = first_begins in
      let high = other_ends in
      let drift = drift_shared first.since Q P first.few in
      let h = ends in
      let some : i.clock.den * 1 ≤ i.clock.den * c.den = mul-le-mul_left i.clock.den dc in
      let left : j.clock.den * c.den * (quantum_parts s i + 2 * tick_parts s i) + i.clock.den * c.den * (2 * bit_quanta j.lengths * quantum_parts s j + (j.delay + from_j) * tick_parts s j)
      ≡ j.clock.den * c.den * quantum_parts s i + 2 * M + 2 * Q + M * j.delay + M * from_j = omega arith in
      let right : j.clock.den * c.den * (bit_quanta i.lengths * quantum_parts s i + (i.delay + from_i) * tick_parts s i) ≡ P + M * i.delay + M * from_i = omega arith in
      let all : M * steady_tick j.clock (n + j.lengths.ps2 + bit_quanta j.lengths) + M * from_j < M * steady_tick c (x + N) + M = omega arith in
      let m : M * (steady_tick j.clock (n + j.lengths.ps2 + bit_quanta j.lengths) + from_j) < M * suc (steady_tick c (x + N)) = omega arith in
      let less = lt_of_mul-lt-mul_left M m in
      omega arith

-- So many bits after its end, beside those of the sender.
pub bits_after : (s : Sender) (j : Listener) (back k x c : ℕ) → 0 < s.clock.den → 0 < j.clock.den → ByTheBook j.lengths → ClocksAreNear s j → 1 ≤ back → c ≤ 9
    → answer_end j back k ≤ steady_tick s.clock x → steady_tick j.clock (k + (2 + c) * bit_quanta j.lengths) ≤ steady_tick s.clock (x + suc c * s.bit_quanta)
bits_after s j back k x c ds dj book near some few over =
    let e : k + j.lengths.ps2 + bit_quanta j.lengths + (sample_at j.lengths + c * bit_quanta j.lengths) ≡ k + (2 + c) * bit_quanta j.lengths = omega arith in
    let same = ap (steady_tick j.clock) e in
    let most = lasts_most j.clock s.clock.den (k + j.lengths.ps2 + bit_quanta j.lengths) (sample_at j.lengths + c * bit_quanta j.lengths) dj in
    let least = lasts_least s.clock j.clock.den x (suc c * s.bit_quanta) ds in
    let near_it = near.sample in
    let ten : 10 * bit_quanta j.lengths * quantum_parts s j ≡ 10 * (bit_quanta j.lengths * quantum_parts s j) = omega arith in
    let whole : bit_quanta j.lengths * quantum_parts s j ≡ sample_at j.lengths * quantum_parts s j + j.lengths.ps2 * quantum_parts s j = omega arith in
    let longer : c * (bit_quanta j.lengths * quantum_parts s j) ≤ c * (bit_parts s j + faster_parts s j) = mul-le-mul_left c (omega arith) in
    let cut : c * (bit_parts s j + faster_parts s j) ≡ c * bit_parts s j + c * faster_parts s j = omega arith in
    let nine : c * faster_parts s j ≤ 9 * faster_parts s j = mul-le-mul_right (faster_parts s j) few in
    let two : 2 * quantum_parts s j ≤ j.lengths.ps2 * quantum_parts s j = mul-le-mul_right (quantum_parts s j) book.lengths.ps2_low in
    let fits : sample_at j.lengths * quantum_parts s j + c * (bit_quanta j.lengths * quantum_parts s j) ≤ suc c * bit_parts s j = room near_it ten whole longer cut nine in
    let a : s.clock.den * ((sample_at j.lengths + c * bit_quanta j.lengths) * j.clock.num) ≡ sample_at j.lengths * quantum_parts s j + c * (bit_quanta j.lengths * quantum_parts s j) = omega arith in
    let b : j.clock.den * (suc c * s.bit_quanta * s.clock.num) ≡ suc c * bit_parts s j = omega arith in
    let end : tick_parts s j * (steady_tick j.clock (k + j.lengths.ps2 + bit_quanta j.lengths) + back) ≤ tick_parts s j * steady_tick s.clock x = mul-le-mul_left (tick_parts s j) over in
    let one : tick_parts s j * 1 ≤ tick_parts s j * back = mul-le-mul_left (tick_parts s j) some in
    let m : tick_parts s j * steady_tick j.clock (k + j.lengths.ps2 + bit_quanta j.lengths + (sample_at j.lengths + c * bit_quanta j.lengths))
    < tick_parts s j * suc (steady_tick s.clock (x + suc c * s.bit_quanta)) = omega arith in
    let less = lt_of_mul-lt-mul_left (tick_parts s j) m in
    omega arith
  where
    room : 10 * bit_quanta j.lengths * quantum_parts s j + tick_parts s j ≤ 10 * bit_parts s j + j.lengths.ps2 * quantum_parts s j
        → 10 * bit_quanta j.lengths * quantum_parts s j ≡ 10 * (bit_quanta j.lengths * quantum_parts s j)
        → bit_quanta j.lengths * quantum_parts s j ≡ sample_at j.lengths * quantum_parts s j + j.lengths.ps2 * quantum_parts s j
        → c * (bit_quanta j.lengths * quantum_parts s j) ≤ c * (bit_parts s j + faster_parts s j)
        → c * (bit_parts s j + faster_parts s j) ≡ c * bit_parts s j + c * faster_parts s j
        → c * faster_parts s j ≤ 9 * faster_parts s j
        → sample_at j.lengths * quantum_parts s j + c * (bit_quanta j.lengths * quantum_parts s j) ≤ suc c * bit_parts s j
    room near_it ten whole longer cut nine =
        let all : suc c * bit_parts s j ≡ c * bit_parts s j + bit_parts s j = omega arith in
        omega arith
