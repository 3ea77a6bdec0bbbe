-- How far the bits of a sender lie from those of a listener, and what edges do to that. All lengths are in the same parts of a tick.
use Rattle.std.proofs.Common.{◌≡◌, ◌∙◌, ap, ℕ, suc, ◌+◌, ◌-◌, ◌*◌, ◌<◌, ◌≤◌, arith}
use Rattle.std.proofs.Math.Nat.{mul-le-mul_right}

-- A bit of the sender takes A, a quantum q and a tick T; a bit has B quanta and its sample place S, with P after it; the jump width is J quanta.
pub record AreLong (A q T B S P J : ℕ) : Type 0 where
  pub bit : B ≡ S + P
  pub sample : J + 2 ≤ S
  pub early : 2 ≤ P
  pub tick : T ≤ q
  pub slow : 10 * A ≤ 10 * (B * q) + J * q
  pub fast : 10 * (B * q) ≤ 10 * A + J * q
  pub before : 10 * (B * q) + T ≤ 10 * A + P * q

-- by how much a bit of the sender is longer than one of the listener, and shorter
abbrev pub slower : (A q B : ℕ) → ℕ
slower A q B = A - B * q

abbrev pub faster : (A q B : ℕ) → ℕ
faster A q B = B * q - A

-- A bit that begins at a lies near place 0 of the one whose sample begins at t: m bits after the last edge.
pub record IsNear (A q T B S : ℕ) (m a t : ℕ) : Type 0 where
  pub early : t < a + S * q + m * faster A q B
  pub late : a + S * q < t + q + T + m * slower A q B
  pub ahead : t + m * A < a + S * q + m * (B * q)
  pub behind : a + S * q + m * (B * q) < t + q + T + m * A

module _ {A q T B S P J : ℕ} (is : AreLong A q T B S P J) where
  -- what ten bits drift
  ten_slower : 10 * slower A q B ≤ J * q
  ten_slower = let h = is.slow in omega arith

  ten_faster : 10 * faster A q B ≤ J * q
  ten_faster = let h = is.fast in omega arith

  two_quanta : 2 * q ≤ P * q
  two_quanta = mul-le-mul_right q is.early

  ten_before : 10 * faster A q B + T ≤ P * q
  ten_before = let h = is.before in let t = is.tick in let two = two_quanta in omega arith

  pub few_slower : (m : ℕ) → m ≤ 10 → m * slower A q B ≤ J * q
  few_slower m h = let few : m * slower A q B ≤ 10 * slower A q B = mul-le-mul_right (slower A q B) h in let ten = ten_slower in omega arith

  pub few_faster : (m : ℕ) → m ≤ 10 → m * faster A q B ≤ J * q
  few_faster m h = let few : m * faster A q B ≤ 10 * faster A q B = mul-le-mul_right (faster A q B) h in let ten = ten_faster in omega arith

  pub sample_far : J * q + 2 * q ≤ S * q
  sample_far = let h : (J + 2) * q ≤ S * q = mul-le-mul_right q is.sample in omega arith

  bit_is : B * q ≡ S * q + P * q
  bit_is = ap (λ n. n * q) is.bit ∙ (let e : (S + P) * q ≡ S * q + P * q = omega arith in e)

  -- a bit has begun when its sample comes
  pub begun_then : (m a t : ℕ) → m ≤ 10 → IsNear A q T B S m a t → a ≤ t
  begun_then m a t h n =
      let late = n.late in
      let few = few_slower m h in
      let far = sample_far in
      let tick = is.tick in
      omega arith

  -- and the next one hasn't
  pub next_later : (m a t : ℕ) → m ≤ 9 → IsNear A q T B S m a t → t + T ≤ a + A
  next_later m a t h n =
      let early = n.early in
      let few : suc m * faster A q B ≤ 10 * faster A q B = mul-le-mul_right (faster A q B) (let g : suc m ≤ 10 = omega arith in g) in
      let one : suc m * faster A q B ≡ m * faster A q B + faster A q B = omega arith in
      let ten = ten_before in
      let bit = bit_is in
      omega arith

  -- nor has it a quantum after one before which the bit hadn't begun
  pub next_after : (a t : ℕ) → t < a + q → t + T ≤ a + A
  next_after a t h =
      let far = sample_far in
      let two = two_quanta in
      let bit = bit_is in
      let ten = ten_faster in
      let tick = is.tick in
      omega arith

  -- the next bit, one more after the last edge
  pub near_next : (m a t : ℕ) → IsNear A q T B S m a t → IsNear A q T B S (suc m) (a + A) (t + B * q)
  near_next m a t n =
      let early = n.early in
      let late = n.late in
      let e : suc m * faster A q B ≡ m * faster A q B + faster A q B = omega arith in
      let f : suc m * slower A q B ≡ m * slower A q B + slower A q B = omega arith in
      let ahead = n.ahead in
      let behind = n.behind in
      let g : suc m * A ≡ m * A + A = omega arith in
      let h : suc m * (B * q) ≡ m * (B * q) + B * q = omega arith in
      record { early = omega arith; late = omega arith; ahead = omega arith; behind = omega arith }

  -- An edge: the bit has begun by t, and hadn't a quantum before. Within the jump width the sample comes S - 1 quanta later.
  pub near_edge : (a t : ℕ) → t < a + q → a < t + T → IsNear A q T B S 0 a (t + S * q - q)
  near_edge a t below above = let far = sample_far in record { early = omega arith; late = omega arith; ahead = omega arith; behind = omega arith }

  -- an edge that is later, and one that is earlier: the sample moves from t by the jump width
  pub near_late : (m a t : ℕ) → m ≤ 10 → IsNear A q T B S m a t → t + J * q < a + S * q → IsNear A q T B S 0 a (t + J * q)
  near_late m a t h n far = let late = n.late in let few = few_slower m h in record { early = omega arith; late = omega arith; ahead = omega arith; behind = omega arith }

  pub near_early : (m a t u : ℕ) → m ≤ 10 → IsNear A q T B S m a t → u + J * q ≡ t → a + S * q < u + q + T → IsNear A q T B S 0 a u
  near_early m a t u h n e far = let early = n.early in let few = few_faster m h in record { early = omega arith; late = omega arith; ahead = omega arith; behind = omega arith }
