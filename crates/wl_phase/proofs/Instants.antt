-- The instants of a sender's bits at a listener and of the listener's quanta, in the parts of a tick that both clocks have.
use Rattle.std.proofs.Common.{◌≡◌, ℕ, suc, ◌+◌, ◌*◌, ◌<◌, ◌≤◌, inl, inr, arith}
use Rattle.std.proofs.lemmas.Bool.{cases_lt}
use Rattle.std.proofs.Math.Nat.{mul-le-mul_left, lt_of_mul-lt-mul_left}
use Rattle.wl_phase.specs.Clocks.{Steady, steady_tick, instant}
use Rattle.wl_phase.specs.InStep.{Sender, Listener, arrival, bit_parts, quantum_parts, tick_parts, bit_instant, quantum_instant}
use Rattle.wl_phase.proofs.Floors.{floor_low, floor_high}

-- later quanta begin no earlier
pub tick_later : (c : Steady) (k n : ℕ) → 0 < c.den → steady_tick c k ≤ steady_tick c (k + n)
tick_later c k n d =
    let low = floor_low c k in
    let high = floor_high c (k + n) d in
    let more : instant c (k + n) ≡ instant c k + n * c.num = omega arith in
    let p : c.den * steady_tick c k < c.den * (steady_tick c (k + n) + 1) = omega arith in
    let q = lt_of_mul-lt-mul_left c.den p in
    omega arith

-- of three numbers, products in either order
product_swap : (a b c : ℕ) → a * (b * c) ≡ b * (a * c)
product_swap a b c = omega arith

module _ (s : Sender) (j : Listener) (ds : 0 < s.clock.den) (dj : 0 < j.clock.den) where
  pub bit_next : (b : ℕ) → bit_instant s j (suc b) ≡ bit_instant s j b + bit_parts s j
  bit_next b = omega arith

  pub quantum_more : (k n : ℕ) → quantum_instant s j (k + n) ≡ quantum_instant s j k + n * quantum_parts s j
  quantum_more k n = omega arith

  -- the bit's tick, in those parts
  bit_low : (b : ℕ) → tick_parts s j * arrival s j b ≤ bit_instant s j b
  bit_low b =
      let n = s.from + b * s.bit_quanta in
      let low = floor_low s.clock n in
      let m : j.clock.den * (s.clock.den * steady_tick s.clock n) ≤ j.clock.den * instant s.clock n = mul-le-mul_left j.clock.den low in
      omega arith

  pub bit_high : (b : ℕ) → bit_instant s j b < tick_parts s j * arrival s j b + tick_parts s j
  bit_high b =
      let n = s.from + b * s.bit_quanta in
      let high = floor_high s.clock n ds in
      let m : j.clock.den * suc (instant s.clock n) ≤ j.clock.den * (s.clock.den * steady_tick s.clock n + s.clock.den) = mul-le-mul_left j.clock.den high in
      omega arith

  pub quantum_low : (k : ℕ) → tick_parts s j * steady_tick j.clock k ≤ quantum_instant s j k
  quantum_low k =
      let low = floor_low j.clock k in
      let m : s.clock.den * (j.clock.den * steady_tick j.clock k) ≤ s.clock.den * instant j.clock k = mul-le-mul_left s.clock.den low in
      omega arith

  pub quantum_high : (k : ℕ) → quantum_instant s j k < tick_parts s j * steady_tick j.clock k + tick_parts s j
  quantum_high k =
      let high = floor_high j.clock k dj in
      let m : s.clock.den * suc (instant j.clock k) ≤ s.clock.den * (j.clock.den * steady_tick j.clock k + j.clock.den) = mul-le-mul_left s.clock.den high in
      omega arith

  -- a bit that has arrived when a quantum begins, and one that hasn't
  pub arrived_high : (b k : ℕ) → arrival s j b ≤ steady_tick j.clock k → bit_instant s j b < quantum_instant s j k + tick_parts s j
  arrived_high b k h =
      let high = bit_high b in
      let low = quantum_low k in
      let m : tick_parts s j * arrival s j b ≤ tick_parts s j * steady_tick j.clock k = mul-le-mul_left (tick_parts s j) h in
      omega arith

  pub unarrived_low : (b k : ℕ) → steady_tick j.clock k < arrival s j b → quantum_instant s j k < bit_instant s j b
  unarrived_low b k h =
      let high = quantum_high k in
      let low = bit_low b in
      let m : tick_parts s j * suc (steady_tick j.clock k) ≤ tick_parts s j * arrival s j b = mul-le-mul_left (tick_parts s j) h in
      omega arith

  pub arrived_from : (b k : ℕ) → bit_instant s j b ≤ quantum_instant s j k → arrival s j b ≤ steady_tick j.clock k
  arrived_from b k h = elim (cases_lt (steady_tick j.clock k) (arrival s j b)) [
    | inl less ↦ (let low = unarrived_low b k less in absurd (omega arith))
    | inr more ↦ more
  ]

  pub unarrived_from : (b k : ℕ) → quantum_instant s j k + tick_parts s j ≤ bit_instant s j b → steady_tick j.clock k < arrival s j b
  unarrived_from b k h = elim (cases_lt (steady_tick j.clock k) (arrival s j b)) [
    | inl less ↦ less
    | inr more ↦ (let high = arrived_high b k more in absurd (omega arith))
  ]
