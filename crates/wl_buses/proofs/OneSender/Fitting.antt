-- From the inequalities over tolerances to those of the clocks.
use Rattle.std.proofs.Common.{◌≡◌, ◌≢◌, ◌∙◌, inl, inr, refl, ap, ℕ, ◌+◌, ◌-◌, ◌*◌, ◌<◌, ◌≤◌, arith}
use Rattle.std.proofs.lemmas.Bool.{cases_lt}
use Rattle.std.proofs.Math.Nat.{mul-le-mul_left, mul-le-mul_right, le_of_mul-le-mul_left}
use Rattle.wl_segments.specs.Lengths.{sample_at, bit_quanta}
use Rattle.wl_phase.specs.Answer.{ComesAfterSample, EndsAfterMove, EndsBeforeSample, FitsBit, longer_parts}
use Rattle.wl_buses.specs.OneSender.OneSender.{SenderBus, IsBus, IsListener, IsInStepWithAll, lengths_of, listener_of, sender_of}
use Rattle.wl_buses.specs.OneSender.Through.{EndsInSlots}
use Rattle.wl_buses.specs.OneSender.Tolerances.{Tolerance, IsWithinTolerance, FitClocks}

-- differences in other parts
minus_fits : (u m x y X Y : ℕ) → u * x ≤ m * X → m * Y ≤ u * y → u * (x - y) ≤ m * (X - Y)
minus_fits u m x y X Y high low = elim (cases_lt y x) [
  | inr none ↦ (let e : x - y ≡ 0 = omega arith in let f : u * (x - y) ≡ u * 0 = ap (λ n. u * n) e in omega arith)
  | inl some ↦
      (let e : y + (x - y) ≡ x = omega arith in
      let f : u * (y + (x - y)) ≡ u * x = ap (λ n. u * n) e in
      elim (cases_lt Y X) [
        | inr over ↦ (let g : m * X ≤ m * Y = mul-le-mul_left m over in omega arith)
        | inl under ↦ (let h : Y + (X - Y) ≡ X = omega arith in let g : m * (Y + (X - Y)) ≡ m * X = ap (λ n. m * n) h in omega arith)
      ])
]

-- the clocks of the sender and of a listener, by their tolerances
module _ (u ad an jd jn la ha lj hj : ℕ) (some : 0 < u) (a_low : la * ad ≤ u * an) (a_high : u * an ≤ ha * ad) (j_low : lj * jd ≤ u * jn) (j_high : u * jn ≤ hj * jd) where
  abbrev m : ℕ
  m = ad * jd

  pub bit_high : (B : ℕ) → u * (jd * (B * an)) ≤ ad * jd * (B * ha)
  bit_high B = let h : jd * B * (u * an) ≤ jd * B * (ha * ad) = mul-le-mul_left (jd * B) a_high in omega arith

  pub bit_low : (B : ℕ) → ad * jd * (B * la) ≤ u * (jd * (B * an))
  bit_low B = let h : jd * B * (la * ad) ≤ jd * B * (u * an) = mul-le-mul_left (jd * B) a_low in omega arith

  pub quanta_high : (n : ℕ) → u * (n * (ad * jn)) ≤ ad * jd * (n * hj)
  quanta_high n = let h : n * ad * (u * jn) ≤ n * ad * (hj * jd) = mul-le-mul_left (n * ad) j_high in omega arith

  pub quanta_low : (n : ℕ) → ad * jd * (n * lj) ≤ u * (n * (ad * jn))
  quanta_low n = let h : n * ad * (lj * jd) ≤ n * ad * (u * jn) = mul-le-mul_left (n * ad) j_low in omega arith

  pub slower_fits : (A B : ℕ) → u * (jd * (A * an) - B * (ad * jn)) ≤ ad * jd * (A * ha - B * lj)
  slower_fits A B = minus_fits u (ad * jd) (jd * (A * an)) (B * (ad * jn)) (A * ha) (B * lj) (bit_high A) (quanta_low B)

  pub faster_fits : (A B : ℕ) → u * (B * (ad * jn) - jd * (A * an)) ≤ ad * jd * (B * hj - A * la)
  faster_fits A B = minus_fits u (ad * jd) (B * (ad * jn)) (jd * (A * an)) (B * hj) (A * la) (quanta_high B) (bit_low A)

  pub slow_fits : (A B w : ℕ) → 10 * (A * ha) ≤ 10 * (B * lj) + w * lj → 10 * (jd * (A * an)) ≤ 10 * B * (ad * jn) + w * (ad * jn)
  slow_fits A B w h =
      let x = bit_high A in
      let y = quanta_low B in
      let z = quanta_low w in
      let g : ad * jd * (10 * (A * ha)) ≤ ad * jd * (10 * (B * lj) + w * lj) = mul-le-mul_left (ad * jd) h in
      let all : u * (10 * (jd * (A * an))) ≤ u * (10 * B * (ad * jn) + w * (ad * jn)) = omega arith in
      le_of_mul-le-mul_left all some

  -- what is left of ten bits
  pub rest_fits : (A B w v : ℕ) → w ≤ 10 * B → 10 * (B * hj) + v * u ≤ 10 * (A * la) + w * hj → 10 * B * (ad * jn) + v * (ad * jd) ≤ 10 * (jd * (A * an)) + w * (ad * jn)
  rest_fits A B w v few h =
      let x = bit_low A in
      let y = quanta_high (10 * B - w) in
      let e : 10 * B - w + w ≡ 10 * B = omega arith in
      let all_quanta : (10 * B - w + w) * (ad * jn) ≡ 10 * B * (ad * jn) = ap (λ n. n * (ad * jn)) e in
      let all_long : (10 * B - w + w) * hj ≡ 10 * B * hj = ap (λ n. n * hj) e in
      let less : (10 * B - w) * hj + v * u ≤ 10 * (A * la) = omega arith in
      let g : ad * jd * ((10 * B - w) * hj + v * u) ≤ ad * jd * (10 * (A * la)) = mul-le-mul_left (ad * jd) less in
      let all : u * ((10 * B - w) * (ad * jn) + v * (ad * jd)) ≤ u * (10 * (jd * (A * an))) = omega arith in
      let done = le_of_mul-le-mul_left all some in
      omega arith

  pub jump_fits : (A B w : ℕ) → w ≤ 10 * A → 10 * (A * ha) ≤ 10 * (B * lj) + w * ha → 10 * (jd * (A * an)) ≤ 10 * (B * (ad * jn)) + w * (jd * an)
  jump_fits A B w few h =
      let e : 10 * A - w + w ≡ 10 * A = omega arith in
      let x = bit_high (10 * A - w) in
      let y = quanta_low (10 * B) in
      let all_bits : (10 * A - w + w) * (jd * an) ≡ 10 * A * (jd * an) = ap (λ n. n * (jd * an)) e in
      let all_long : (10 * A - w + w) * ha ≡ 10 * A * ha = ap (λ n. n * ha) e in
      let less : (10 * A - w) * ha ≤ 10 * B * lj = omega arith in
      let g : ad * jd * ((10 * A - w) * ha) ≤ ad * jd * (10 * B * lj) = mul-le-mul_left (ad * jd) less in
      let all : u * ((10 * A - w) * (jd * an)) ≤ u * (10 * B * (ad * jn)) = omega arith in
      let done = le_of_mul-le-mul_left all some in
      omega arith

  -- there and back
  pub ends_fits : (A B S d n : ℕ) → d * u + n * (B * hj - A * la) ≤ S * la → d * (ad * jd) + n * (B * (ad * jn) - jd * (A * an)) ≤ S * (jd * an)
  ends_fits A B S d n h =
      let x = faster_fits A B in
      let nx : n * (u * (B * (ad * jn) - jd * (A * an))) ≤ n * (ad * jd * (B * hj - A * la)) = mul-le-mul_left n x in
      let y = bit_low S in
      let g : ad * jd * (d * u + n * (B * hj - A * la)) ≤ ad * jd * (S * la) = mul-le-mul_left (ad * jd) h in
      let all : u * (d * (ad * jd) + n * (B * (ad * jn) - jd * (A * an))) ≤ u * (S * (jd * an)) = omega arith in
      le_of_mul-le-mul_left all some

  -- not before a sample
  pub early_fits : (A B P d : ℕ) → hj + 2 * u + 10 * (A * ha - B * lj) ≤ P * la + d * u
      → ad * jn + 2 * (ad * jd) + 10 * (jd * (A * an) - B * (ad * jn)) ≤ P * (jd * an) + d * (ad * jd)
  early_fits A B P d h =
      let x = slower_fits A B in
      let y = quanta_high 1 in
      let z = bit_low P in
      let g : ad * jd * (hj + 2 * u + 10 * (A * ha - B * lj)) ≤ ad * jd * (P * la + d * u) = mul-le-mul_left (ad * jd) h in
      let all : u * (ad * jn + 2 * (ad * jd) + 10 * (jd * (A * an) - B * (ad * jn))) ≤ u * (P * (jd * an) + d * (ad * jd)) = omega arith in
      le_of_mul-le-mul_left all some

-- and those of two listeners: a tick takes M parts and u units, and a quantum of either p or q parts
module _ (u M p q li hi lj hj : ℕ) (some : 0 < u) (i_low : M * li ≤ u * p) (i_high : u * p ≤ M * hi) (j_low : M * lj ≤ u * q) (j_high : u * q ≤ M * hj) where
  i_most : (n : ℕ) → u * (n * p) ≤ M * (n * hi)
  i_most n = let h : n * (u * p) ≤ n * (M * hi) = mul-le-mul_left n i_high in omega arith

  i_least : (n : ℕ) → M * (n * li) ≤ u * (n * p)
  i_least n = let h : n * (M * li) ≤ n * (u * p) = mul-le-mul_left n i_low in omega arith

  j_most : (n : ℕ) → u * (n * q) ≤ M * (n * hj)
  j_most n = let h : n * (u * q) ≤ n * (M * hj) = mul-le-mul_left n j_high in omega arith

  j_least : (n : ℕ) → M * (n * lj) ≤ u * (n * q)
  j_least n = let h : n * (M * lj) ≤ n * (u * q) = mul-le-mul_left n j_low in omega arith

  -- by how much a bit of i is longer, and one of j
  i_longer : (A B : ℕ) → u * (A * p - B * q) ≤ M * (A * hi - B * lj)
  i_longer A B = minus_fits u M (A * p) (B * q) (A * hi) (B * lj) (i_most A) (j_least B)

  j_longer : (A B : ℕ) → u * (B * q - A * p) ≤ M * (B * hj - A * li)
  j_longer A B = minus_fits u M (B * q) (A * p) (B * hj) (A * li) (j_most B) (i_least A)

  -- the acknowledgement of i isn't early at j, with n quanta of j to spare
  pub apart_fits : (A B n f w : ℕ) → hi + 2 * u + 10 * (B * hj - A * li) + f * u ≤ n * lj + w * u → p + 2 * M + 10 * (B * q - A * p) + f * M ≤ n * q + w * M
  apart_fits A B n f w h =
      let x = i_most 1 in
      let y = j_longer A B in
      let z = j_least n in
      let g : M * (hi + 2 * u + 10 * (B * hj - A * li) + f * u) ≤ M * (n * lj + w * u) = mul-le-mul_left M h in
      let all : u * (p + 2 * M + 10 * (B * q - A * p) + f * M) ≤ u * (n * q + w * M) = omega arith in
      le_of_mul-le-mul_left all some

  -- and over by so many quanta of j
  pub ends_by_fits : (A B n f w : ℕ) → hj + u + 11 * (A * hi - B * lj) + w * u ≤ n * lj + f * u → q + M + 11 * (A * p - B * q) + w * M ≤ n * q + f * M
  ends_by_fits A B n f w h =
      let x = j_most 1 in
      let y = i_longer A B in
      let z = j_least n in
      let g : M * (hj + u + 11 * (A * hi - B * lj) + w * u) ≤ M * (n * lj + f * u) = mul-le-mul_left M h in
      let all : u * (q + M + 11 * (A * p - B * q) + w * M) ≤ u * (n * q + f * M) = omega arith in
      le_of_mul-le-mul_left all some

  -- it lasts until a sample, also one that the jump width puts off, and is over by the next one
  pub until_fits : (A B S P : ℕ) → B ≡ S + P → 10 * (B * hj - A * li) + u ≤ P * lj → S * q + M ≤ A * p
  until_fits A B S P e h =
      let y = j_longer A B in
      let z = j_least P in
      let g : M * (10 * (B * hj - A * li) + u) ≤ M * (P * lj) = mul-le-mul_left M h in
      let all : u * (B * q - A * p + M) ≤ u * (P * q) = omega arith in
      let done = le_of_mul-le-mul_left all some in
      let whole : B * q ≡ (S + P) * q = ap (λ n. n * q) e in
      let cut : (S + P) * q ≡ S * q + P * q = omega arith in
      omega arith

  pub far_fits : (A B J : ℕ) → 10 * (B * hj - A * li) ≤ J * lj → B * q ≤ A * p + J * q
  far_fits A B J h =
      let y = j_longer A B in
      let z = j_least J in
      let g : M * (10 * (B * hj - A * li)) ≤ M * (J * lj) = mul-le-mul_left M h in
      let all : u * (B * q - A * p) ≤ u * (J * q) = omega arith in
      let done = le_of_mul-le-mul_left all some in
      omega arith

  pub over_fits : (A B S : ℕ) → 1 ≤ S → hj + u + 11 * (A * hi - B * lj) ≤ S * lj → A * p + M ≤ (S - 1 + B) * q
  over_fits A B S few h =
      let x = j_most 1 in
      let y = i_longer A B in
      let z = j_least S in
      let g : M * (hj + u + 11 * (A * hi - B * lj)) ≤ M * (S * lj) = mul-le-mul_left M h in
      let all : u * (A * p - B * q + q + M) ≤ u * (S * q) = omega arith in
      let done = le_of_mul-le-mul_left all some in
      let one : S - 1 + 1 ≡ S = omega arith in
      let whole : (S - 1 + 1) * q ≡ S * q = ap (λ n. n * q) one in
      omega arith

-- and with those of a third node
module _ (u M p q r li hi lj hj lw hw : ℕ) (some : 0 < u) (i_low : M * li ≤ u * p) (i_high : u * p ≤ M * hi) (j_low : M * lj ≤ u * q) (j_high : u * q ≤ M * hj)
    (w_low : M * lw ≤ u * r) (w_high : u * r ≤ M * hw) where
  pub moved_fits : (A B C S f g : ℕ) → 1 ≤ S → 10 * (B * hj - A * li) + (B * hj - C * lw) + g * u + hi + 2 * u + hw ≤ f * u + S * lw
      → p + 2 * M + (2 * (B * q) + g * M) + 9 * (B * q - A * p) ≤ A * p + f * M + (S - 1 + C) * r
  moved_fits A B C S f g few h =
      let x = j_longer u M p q li hi lj hj some i_low i_high j_low j_high A B in
      let y = i_longer u M q r lj hj lw hw some j_low j_high w_low w_high B C in
      let z = j_least u M p r li hi lw hw some i_low i_high w_low w_high S in
      let k : M * (10 * (B * hj - A * li) + (B * hj - C * lw) + g * u + hi + 2 * u + hw) ≤ M * (f * u + S * lw) = mul-le-mul_left M h in
      let all : u * (10 * (B * q - A * p) + (B * q - C * r) + g * M + p + 2 * M + r) ≤ u * (f * M + S * r) = omega arith in
      let done = le_of_mul-le-mul_left all some in
      let one : S - 1 + 1 ≡ S = omega arith in
      let whole : (S - 1 + 1) * r ≡ S * r = ap (λ n. n * r) one in
      omega arith

module _ (t : Tolerance) (b : SenderBus) (is : IsBus b) (within : IsWithinTolerance t b) (fit : FitClocks t b) where
  abbrev a : ℕ
  a = b.sender

  abbrev A : ℕ
  A = bit_quanta (lengths_of b b.sender)

  abbrev u : ℕ
  u = t.units

  abbrev den : ℕ → ℕ
  den i = (b.clocks i).den

  abbrev num : ℕ → ℕ
  num i = (b.clocks i).num

  module _ (j : ℕ) (p : IsListener b j) where
    abbrev B : ℕ
    B = bit_quanta (lengths_of b j)

    slow_at : (A B w : ℕ) → 10 * (A * t.longest a) ≤ 10 * (B * t.shortest j) + w * t.shortest j
        → 10 * (den j * (A * num a)) ≤ 10 * B * (den a * num j) + w * (den a * num j)
    slow_at =
        slow_fits t.units (den a) (num a) (den j) (num j) (t.shortest a) (t.longest a) (t.shortest j) (t.longest j) within.some
        (within.fastest a is.sender) (within.slowest a is.sender) (within.fastest j p.0) (within.slowest j p.0)

    rest_at : (A B w v : ℕ) → w ≤ 10 * B → 10 * (B * t.longest j) + v * t.units ≤ 10 * (A * t.shortest a) + w * t.longest j
        → 10 * B * (den a * num j) + v * (den a * den j) ≤ 10 * (den j * (A * num a)) + w * (den a * num j)
    rest_at =
        rest_fits t.units (den a) (num a) (den j) (num j) (t.shortest a) (t.longest a) (t.shortest j) (t.longest j) within.some
        (within.fastest a is.sender) (within.slowest a is.sender) (within.fastest j p.0) (within.slowest j p.0)

    jump_at : (A B w : ℕ) → w ≤ 10 * A → 10 * (A * t.longest a) ≤ 10 * (B * t.shortest j) + w * t.longest a
        → 10 * (den j * (A * num a)) ≤ 10 * (B * (den a * num j)) + w * (den j * num a)
    jump_at =
        jump_fits t.units (den a) (num a) (den j) (num j) (t.shortest a) (t.longest a) (t.shortest j) (t.longest j) within.some
        (within.fastest a is.sender) (within.slowest a is.sender) (within.fastest j p.0) (within.slowest j p.0)

    ends_at : (A B S d n : ℕ) → d * t.units + n * (B * t.longest j - A * t.shortest a) ≤ S * t.shortest a
        → d * (den a * den j) + n * (B * (den a * num j) - den j * (A * num a)) ≤ S * (den j * num a)
    ends_at =
        ends_fits t.units (den a) (num a) (den j) (num j) (t.shortest a) (t.longest a) (t.shortest j) (t.longest j) within.some
        (within.fastest a is.sender) (within.slowest a is.sender) (within.fastest j p.0) (within.slowest j p.0)

  longer_is : (i j : ℕ) → longer_parts (sender_of b) (listener_of b j) (listener_of b i)
      ≡ bit_quanta (lengths_of b j) * (den i * (den a * num j)) - bit_quanta (lengths_of b i) * (den j * (den a * num i))
  longer_is i j =
      let x : den i * (bit_quanta (lengths_of b j) * (den a * num j)) ≡ bit_quanta (lengths_of b j) * (den i * (den a * num j)) = omega arith in
      let y : den j * (bit_quanta (lengths_of b i) * (den a * num i)) ≡ bit_quanta (lengths_of b i) * (den j * (den a * num i)) = omega arith in
      ap (λ n. n - den j * (bit_quanta (lengths_of b i) * (den a * num i))) x ∙ ap (λ n. bit_quanta (lengths_of b j) * (den i * (den a * num j)) - n) y

  longer_is_back : (i j : ℕ) → longer_parts (sender_of b) (listener_of b i) (listener_of b j)
      ≡ bit_quanta (lengths_of b i) * (den j * (den a * num i)) - bit_quanta (lengths_of b j) * (den i * (den a * num j))
  longer_is_back i j = longer_is j i

  -- quanta of two listeners, in the parts of a tick that their clocks and the sender's have
  module _ (i j : ℕ) (p : IsListener b i) (q : IsListener b j) where
    abbrev M : ℕ
    M = den a * den i * den j

    abbrev first : ℕ
    first = den j * (den a * num i)

    abbrev second : ℕ
    second = den i * (den a * num j)

    first_low : M * t.shortest i ≤ t.units * first
    first_low = let h : den a * den j * (t.shortest i * den i) ≤ den a * den j * (t.units * num i) = mul-le-mul_left (den a * den j) (within.fastest i p.0) in omega arith

    first_high : t.units * first ≤ M * t.longest i
    first_high = let h : den a * den j * (t.units * num i) ≤ den a * den j * (t.longest i * den i) = mul-le-mul_left (den a * den j) (within.slowest i p.0) in omega arith

    second_low : M * t.shortest j ≤ t.units * second
    second_low = let h : den a * den i * (t.shortest j * den j) ≤ den a * den i * (t.units * num j) = mul-le-mul_left (den a * den i) (within.fastest j q.0) in omega arith

    second_high : t.units * second ≤ M * t.longest j
    second_high = let h : den a * den i * (t.units * num j) ≤ den a * den i * (t.longest j * den j) = mul-le-mul_left (den a * den i) (within.slowest j q.0) in omega arith

    pub apart_at : (A B n f w : ℕ) → t.longest i + 2 * t.units + 10 * (B * t.longest j - A * t.shortest i) + f * t.units ≤ n * t.shortest j + w * t.units
        → first + 2 * M + 10 * (B * second - A * first) + f * M ≤ n * second + w * M
    apart_at =
        apart_fits t.units M first second (t.shortest i) (t.longest i) (t.shortest j) (t.longest j) within.some first_low first_high second_low second_high

    pub ends_by_at : (A B n f w : ℕ) → t.longest j + t.units + 11 * (A * t.longest i - B * t.shortest j) + w * t.units ≤ n * t.shortest j + f * t.units
        → second + M + 11 * (A * first - B * second) + w * M ≤ n * second + f * M
    ends_by_at =
        ends_by_fits t.units M first second (t.shortest i) (t.longest i) (t.shortest j) (t.longest j) within.some first_low first_high second_low second_high

    abbrev Bi : ℕ
    Bi = bit_quanta (lengths_of b i)

    abbrev Bj : ℕ
    Bj = bit_quanta (lengths_of b j)

    pub apart_from : i ≢ j → ComesAfterSample (sender_of b) (listener_of b i) (listener_of b j) (b.line.delay i j)
    apart_from apart =
        let h = apart_at (bit_quanta (lengths_of b i)) (bit_quanta (lengths_of b j)) (lengths_of b j).ps2 (b.line.delay a j) (b.line.delay a i + b.line.delay i j) (fit.apart i j p q apart) in
        let longer : longer_parts (sender_of b) (listener_of b j) (listener_of b i) ≡ Bj * second - Bi * first = longer_is i j in
        let whole : Bj * second ≡ sample_at (lengths_of b j) * second + (lengths_of b j).ps2 * second = omega arith in
        omega arith

    pub ends_before : i ≢ j → EndsBeforeSample (sender_of b) (listener_of b i) (listener_of b j) (b.line.delay i j)
    ends_before apart =
        let h = ends_by_at (bit_quanta (lengths_of b i)) (bit_quanta (lengths_of b j)) (sample_at (lengths_of b j)) (b.line.delay a j) (b.line.delay a i + b.line.delay i j) (fit.ends i j p q apart) in
        let longer : longer_parts (sender_of b) (listener_of b i) (listener_of b j) ≡ Bi * first - Bj * second = longer_is_back i j in
        omega arith

    -- it moves the other one
    module _ (apart : i ≢ j) where
      abbrev own : ℕ
      own = den j * num i

      abbrev other : ℕ
      other = den i * num j

      own_low : den i * den j * t.shortest i ≤ t.units * own
      own_low = let h : den j * (t.shortest i * den i) ≤ den j * (t.units * num i) = mul-le-mul_left (den j) (within.fastest i p.0) in omega arith

      own_high : t.units * own ≤ den i * den j * t.longest i
      own_high = let h : den j * (t.units * num i) ≤ den j * (t.longest i * den i) = mul-le-mul_left (den j) (within.slowest i p.0) in omega arith

      other_low : den i * den j * t.shortest j ≤ t.units * other
      other_low = let h : den i * (t.shortest j * den j) ≤ den i * (t.units * num j) = mul-le-mul_left (den i) (within.fastest j q.0) in omega arith

      other_high : t.units * other ≤ den i * den j * t.longest j
      other_high = let h : den i * (t.units * num j) ≤ den i * (t.longest j * den j) = mul-le-mul_left (den i) (within.slowest j q.0) in omega arith

      pub fits_bit : FitsBit (listener_of b i) (b.clocks j) (lengths_of b j)
      fits_bit =
          let prop = (is.book j q.0).lengths.prop_low in
          let x = until_fits t.units (den i * den j) own other (t.shortest i) (t.longest i) (t.shortest j) (t.longest j) within.some own_low own_high other_low other_high
          (bit_quanta (lengths_of b i)) (bit_quanta (lengths_of b j)) (sample_at (lengths_of b j)) (lengths_of b j).ps2 refl (fit.lasts i j p q apart) in
          let y = far_fits t.units (den i * den j) own other (t.shortest i) (t.longest i) (t.shortest j) (t.longest j) within.some own_low own_high other_low other_high
          (bit_quanta (lengths_of b i)) (bit_quanta (lengths_of b j)) (lengths_of b j).sjw (fit.jumps i j p q apart) in
          let ends = fit.ends i j p q apart in
          let way : b.line.delay a j * t.units ≤ (b.line.delay a i + b.line.delay i j) * t.units = mul-le-mul_right t.units (let h = is.detours a i j is.sender p.0 q.0 in omega arith) in
          let z = over_fits t.units (den i * den j) own other (t.shortest i) (t.longest i) (t.shortest j) (t.longest j) within.some own_low own_high other_low other_high
          (bit_quanta (lengths_of b i)) (bit_quanta (lengths_of b j)) (sample_at (lengths_of b j)) (omega arith) (omega arith) in
          record { until = omega arith; far = omega arith; over = omega arith }

      -- and with a third node
      module _ (w : ℕ) (there : w < b.line.nodes) (not_i : w ≢ i) (not_j : w ≢ j) where
        abbrev P : ℕ
        P = den j * den w * (den a * num i)

        abbrev Q : ℕ
        Q = den i * den w * (den a * num j)

        abbrev R : ℕ
        R = den a * den i * den j * num w

        abbrev all_parts : ℕ
        all_parts = den a * den i * den j * den w

        p_low : all_parts * t.shortest i ≤ t.units * P
        p_low = let h : den a * den j * den w * (t.shortest i * den i) ≤ den a * den j * den w * (t.units * num i) = mul-le-mul_left (den a * den j * den w) (within.fastest i p.0) in omega arith

        p_high : t.units * P ≤ all_parts * t.longest i
        p_high = let h : den a * den j * den w * (t.units * num i) ≤ den a * den j * den w * (t.longest i * den i) = mul-le-mul_left (den a * den j * den w) (within.slowest i p.0) in omega arith

        q_low : all_parts * t.shortest j ≤ t.units * Q
        q_low = let h : den a * den i * den w * (t.shortest j * den j) ≤ den a * den i * den w * (t.units * num j) = mul-le-mul_left (den a * den i * den w) (within.fastest j q.0) in omega arith

        q_high : t.units * Q ≤ all_parts * t.longest j
        q_high = let h : den a * den i * den w * (t.units * num j) ≤ den a * den i * den w * (t.longest j * den j) = mul-le-mul_left (den a * den i * den w) (within.slowest j q.0) in omega arith

        r_low : all_parts * t.shortest w ≤ t.units * R
        r_low = let h : den a * den i * den j * (t.shortest w * den w) ≤ den a * den i * den j * (t.units * num w) = mul-le-mul_left (den a * den i * den j) (within.fastest w there) in omega arith

        r_high : t.units * R ≤ all_parts * t.longest w
        r_high = let h : den a * den i * den j * (t.units * num w) ≤ den a * den i * den j * (t.longest w * den w) = mul-le-mul_left (den a * den i * den j) (within.slowest w there) in omega arith

        pub after_move : EndsAfterMove (sender_of b) (listener_of b i) (listener_of b j) (b.clocks w) (lengths_of b w) (b.line.delay i w) (b.line.delay j w)
        after_move =
            let prop = (is.book w there).lengths.prop_low in
            let h = moved_fits t.units all_parts P Q R (t.shortest i) (t.longest i) (t.shortest j) (t.longest j) (t.shortest w) (t.longest w) within.some p_low p_high q_low q_high r_low r_high
            (bit_quanta (lengths_of b i)) (bit_quanta (lengths_of b j)) (bit_quanta (lengths_of b w)) (sample_at (lengths_of b w)) (b.line.delay a i + b.line.delay i w) (b.line.delay a j + b.line.delay j w) (omega arith)
            (let m = fit.moved i j w p q apart there not_i not_j in omega arith) in
            let x : den i * den w * (bit_quanta (lengths_of b j) * (den a * num j)) ≡ bit_quanta (lengths_of b j) * Q = omega arith in
            let y : den j * den w * (bit_quanta (lengths_of b i) * (den a * num i)) ≡ bit_quanta (lengths_of b i) * P = omega arith in
            let longer : den i * den w * (bit_quanta (lengths_of b j) * (den a * num j)) - den j * den w * (bit_quanta (lengths_of b i) * (den a * num i))
            ≡ bit_quanta (lengths_of b j) * Q - bit_quanta (lengths_of b i) * P = ap (λ n. n - den j * den w * (bit_quanta (lengths_of b i) * (den a * num i))) x ∙ ap (λ n. bit_quanta (lengths_of b j) * Q - n) y in
            omega arith

  early_at : (A B P d j : ℕ) → IsListener b j → t.longest j + 2 * t.units + 10 * (A * t.longest a - B * t.shortest j) ≤ P * t.shortest a + d * t.units
      → den a * num j + 2 * (den a * den j) + 10 * (den j * (A * num a) - B * (den a * num j)) ≤ P * (den j * num a) + d * (den a * den j)
  early_at A B P d j p h =
      early_fits t.units (den a) (num a) (den j) (num j) (t.shortest a) (t.longest a) (t.shortest j) (t.longest j) within.some
      (within.fastest a is.sender) (within.slowest a is.sender) (within.fastest j p.0) (within.slowest j p.0) A B P d h

  pub ends_in_slots : EndsInSlots b
  ends_in_slots = record {
    ends_there = λ j p. ends_at j p (bit_quanta (lengths_of b b.sender)) (bit_quanta (lengths_of b j)) (sample_at (lengths_of b b.sender)) (b.line.delay b.sender j + b.line.delay j b.sender) 11 (fit.ends_there j p);
    ends = λ i j p q apart. ends_before i j p q apart;
    fits = λ i j p q apart. fits_bit i j p q apart;
    moved = λ i j w p q apart there not_i not_j. after_move i j p q apart w there not_i not_j;
  }

  pub in_step : IsInStepWithAll b
  in_step = record {
    near = λ j p. record {
      slow = slow_at j p (bit_quanta (lengths_of b b.sender)) (bit_quanta (lengths_of b j)) (lengths_of b j).sjw (fit.slow j p);
      fast =
          (let low = (is.book j p.0).lengths.sjw_half in
          let many = (is.book j p.0).lengths.low in
          let f = fit.fast j p in
          let h = rest_at j p (bit_quanta (lengths_of b b.sender)) (bit_quanta (lengths_of b j)) (lengths_of b j).sjw 0 (omega arith) (omega arith) in
          omega arith);
      sample =
          (let many = (is.book j p.0).lengths.low in
          let f = fit.sample j p in
          let h = rest_at j p (bit_quanta (lengths_of b b.sender)) (bit_quanta (lengths_of b j)) (lengths_of b j).ps2 1 (omega arith) (omega arith) in
          omega arith);
    };
    answers = λ j p. record {
      late = (let e = ends_at j p (bit_quanta (lengths_of b b.sender)) (bit_quanta (lengths_of b j)) (sample_at (lengths_of b b.sender)) (b.line.delay b.sender j + b.line.delay j b.sender) 11 (fit.ends_there j p) in omega arith);
      early = early_at (bit_quanta (lengths_of b b.sender)) (bit_quanta (lengths_of b j)) (lengths_of b b.sender).ps2 (b.line.delay b.sender j + b.line.delay j b.sender) j p (fit.after_sample j p);
      jump =
          (let low = (is.book a is.sender).lengths.sjw_half in
          let many = (is.book a is.sender).lengths.low in
          jump_at j p (bit_quanta (lengths_of b b.sender)) (bit_quanta (lengths_of b j)) (lengths_of b b.sender).sjw (omega arith) (fit.jump j p));
    };
    apart = λ i j p q apart. apart_from i j p q apart;
    loops = λ j p. loops_at j p;
  }
    where
      loops_at : (j : ℕ) → (p : IsListener b j) → den j * b.line.delay j j ≤ sample_at (lengths_of b j) * num j
      loops_at j p =
          let h : den j * (b.line.delay j j * t.units) ≤ den j * (sample_at (lengths_of b j) * t.shortest j) = mul-le-mul_left (den j) (fit.loops j p) in
          let low : sample_at (lengths_of b j) * (t.shortest j * den j) ≤ sample_at (lengths_of b j) * (t.units * num j) = mul-le-mul_left (sample_at (lengths_of b j)) (within.fastest j p.0) in
          let all : t.units * (den j * b.line.delay j j) ≤ t.units * (sample_at (lengths_of b j) * num j) = omega arith in
          le_of_mul-le-mul_left all within.some
