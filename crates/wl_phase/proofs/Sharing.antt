-- Two listeners that have sampled one bit: the same edge was the last one to either, and their bits since then are as many.
use Rattle.std.proofs.Common.{◌≡◌, sym, subst, inl, inr, ℕ, suc, ◌+◌, ◌-◌, ◌*◌, ◌<◌, ◌≤◌, arith}
use Rattle.std.proofs.lemmas.Bool.{cases_order}
use Rattle.std.proofs.Math.Nat.{mul-le-mul_left, mul-le-mul_right}
use Rattle.wl_segments.specs.Lengths.{sample_at, bit_quanta}
use Rattle.wl_sync.specs.declared.Seen.{Seen}
use Rattle.wl_phase.specs.Clocks.{steady_tick}
use Rattle.wl_phase.specs.InStep.{Sender, Listener, SamplesBit, bit_parts, quantum_parts, tick_parts, bit_instant, quantum_instant}
use Rattle.wl_phase.proofs.Instants.{quantum_low, quantum_high, quantum_more}

-- what so many bits drift
pub drift_shared : (m p q : ℕ) → m ≤ 9 → m * p ≤ m * q + 9 * (p - q)
drift_shared m p q few =
    let a : p ≤ q + (p - q) = omega arith in
    let b : m * p ≤ m * (q + (p - q)) = mul-le-mul_left m a in
    let c : m * (p - q) ≤ 9 * (p - q) = mul-le-mul_right (p - q) few in
    let e : m * (q + (p - q)) ≡ m * q + m * (p - q) = omega arith in
    omega arith

-- The last edge is the same.
pub same_since : (s : Sender) (i j : Listener) (seen other_seen : ℕ → Seen) (found other_found d k n : ℕ) (first : SamplesBit s i seen found d k) (second : SamplesBit s j other_seen other_found d n)
    → second.since ≡ first.since
same_since s i j seen other_seen found other_found d k n first second = elim (cases_order first.since second.since) [
  | inl same ↦ sym same
  | inr other ↦ elim other [
    | inl less ↦ (let a = first.some in let b = second.some in absurd (second.clear (d - first.since) (omega arith) (omega arith) first.edge))
    | inr more ↦ (let a = first.some in let b = second.some in absurd (first.clear (d - second.since) (omega arith) (omega arith) second.edge))
  ]
]

-- A quantum of a listener, in o times its parts of a tick.
module _ (s : Sender) (j : Listener) (o : ℕ) (seen : ℕ → Seen) (found d k : ℕ) (ds : 0 < s.clock.den) (dj : 0 < j.clock.den) (is : SamplesBit s j seen found d k)
    (m : ℕ) (since : is.since ≡ m) (more : ℕ) where
  abbrev q : ℕ
  q = quantum_parts s j

  abbrev bit : ℕ
  bit = bit_quanta j.lengths * quantum_parts s j

  ahead : quantum_instant s j k + m * bit_parts s j < bit_instant s j d + sample_at j.lengths * quantum_parts s j + m * bit
  ahead = subst (λ n. quantum_instant s j k + n * bit_parts s j < bit_instant s j d + sample_at j.lengths * quantum_parts s j + n * bit) since is.ahead

  behind : bit_instant s j d + sample_at j.lengths * quantum_parts s j + m * bit < quantum_instant s j k + quantum_parts s j + tick_parts s j + m * bit_parts s j
  behind = subst (λ n. bit_instant s j d + sample_at j.lengths * quantum_parts s j + n * bit < quantum_instant s j k + quantum_parts s j + tick_parts s j + n * bit_parts s j) since is.behind

  pub tick_by : o * (tick_parts s j * steady_tick j.clock (k + more)) + o + m * (o * bit_parts s j)
      ≤ o * bit_instant s j d + o * (sample_at j.lengths * q) + o * (more * q) + m * (o * bit)
  tick_by =
      let low = quantum_low s j ds dj (k + more) in
      let e = quantum_more s j ds dj k more in
      let h = ahead in
      let all : suc (tick_parts s j * steady_tick j.clock (k + more)) + m * bit_parts s j ≤ bit_instant s j d + sample_at j.lengths * q + more * q + m * bit = omega arith in
      let times : o * (suc (tick_parts s j * steady_tick j.clock (k + more)) + m * bit_parts s j) ≤ o * (bit_instant s j d + sample_at j.lengths * q + more * q + m * bit) =
      mul-le-mul_left o all in
      let left : o * (suc (tick_parts s j * steady_tick j.clock (k + more)) + m * bit_parts s j)
      ≡ o * (tick_parts s j * steady_tick j.clock (k + more)) + o + m * (o * bit_parts s j) = omega arith in
      let right : o * (bit_instant s j d + sample_at j.lengths * q + more * q + m * bit)
      ≡ o * bit_instant s j d + o * (sample_at j.lengths * q) + o * (more * q) + m * (o * bit) = omega arith in
      omega arith

  pub tick_from : o * bit_instant s j d + o * (sample_at j.lengths * q) + o * (more * q) + m * (o * bit) + o
      ≤ o * (tick_parts s j * steady_tick j.clock (k + more)) + 2 * (o * tick_parts s j) + o * q + m * (o * bit_parts s j)
  tick_from =
      let high = quantum_high s j ds dj (k + more) in
      let e = quantum_more s j ds dj k more in
      let h = behind in
      let all : suc (bit_instant s j d + sample_at j.lengths * q + more * q + m * bit)
      ≤ tick_parts s j * steady_tick j.clock (k + more) + 2 * tick_parts s j + q + m * bit_parts s j = omega arith in
      let times : o * suc (bit_instant s j d + sample_at j.lengths * q + more * q + m * bit)
      ≤ o * (tick_parts s j * steady_tick j.clock (k + more) + 2 * tick_parts s j + q + m * bit_parts s j) = mul-le-mul_left o all in
      let left : o * suc (bit_instant s j d + sample_at j.lengths * q + more * q + m * bit)
      ≡ o * bit_instant s j d + o * (sample_at j.lengths * q) + o * (more * q) + m * (o * bit) + o = omega arith in
      let right : o * (tick_parts s j * steady_tick j.clock (k + more) + 2 * tick_parts s j + q + m * bit_parts s j)
      ≡ o * (tick_parts s j * steady_tick j.clock (k + more)) + 2 * (o * tick_parts s j) + o * q + m * (o * bit_parts s j) = omega arith in
      omega arith
