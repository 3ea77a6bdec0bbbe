-- Quanta of all stations in one measure of time.
use Rattle.std.proofs.Common.{◌≡◌, ◌∙◌, refl, ap, ℕ, zero, suc, ◌+◌, ◌-◌, ◌*◌, ◌<◌, ◌≤◌, cond, arith, inl, inr}
use Rattle.std.proofs.lemmas.Bool.{cases_eq, eq-eqb, ne_eqb}
use Rattle.std.proofs.Math.Nat.{le_of_mul-le-mul_left, mul-le-mul_left, mul-le-mul_right}
use Rattle.wl_phase.specs.Clocks.{instant, steady_tick}
use Rattle.wl_phase.proofs.Callers.{floor_high, floor_low}
use Rattle.wl_buses.specs.FrameTimes.Times.{ComesWithin, Times}
use Rattle.wl_buses.specs.OneFrame.Stations.{AreStations, Stations, shared_instant, shared_tick}
use Rattle.wl_buses.proofs.BoundedWaits.Parts.{part_at, parts_of, product_below, product_but}

positive_product : (f : ℕ → ℕ) (n : ℕ) → ((k : ℕ) → k < n → 0 < f k) → 0 < product_below f n
positive_product f zero some = omega arith
positive_product f (suc n) some =
    let old = positive_product f n (λ k below. some k (omega arith)) in
    let new = some n (omega arith) in
    let m : product_below f n * 1 ≤ product_below f n * f n = mul-le-mul_left (product_below f n) (let h : 1 ≤ f n = omega arith in h) in
    omega arith

but_past : (f : ℕ → ℕ) (i n : ℕ) → n ≤ i → product_but f i n ≡ product_below f n
but_past f i zero low = refl
but_past f i (suc n) low =
    ap (λ b. product_but f i n * cond b 1 (f n)) (ne_eqb i n (λ e. omega (arith, e))) ∙ ap (λ x. x * f n) (but_past f i n (omega arith))

all_is : (f : ℕ → ℕ) (i n : ℕ) → i < n → f i * product_but f i n ≡ product_below f n
all_is f i zero low = absurd (omega arith)
all_is f i (suc n) low = elim (cases_eq i n) [
  | inl same ↦
      (let here : product_but f i (suc n) ≡ product_but f i n * 1 = ap (λ b. product_but f i n * cond b 1 (f n)) (eq-eqb i n same) in
      let past : product_but f i n ≡ product_below f n = but_past f i n (omega arith) in
      let one : f i ≡ f n = ap f same in
      let sum : f i * product_but f i (suc n) ≡ f i * product_below f n = ap (λ x. f i * x) (here ∙ (let h : product_but f i n * 1 ≡ product_but f i n = omega arith in h) ∙ past) in
      sum ∙ ap (λ x. x * product_below f n) one ∙ (let h : f n * product_below f n ≡ product_below f n * f n = omega arith in h))
  | inr other ↦
      (let here : product_but f i (suc n) ≡ product_but f i n * f n = ap (λ b. product_but f i n * cond b 1 (f n)) (ne_eqb i n other) in
      let old = all_is f i n (omega (arith, other, low)) in
      ap (λ x. f i * x) here ∙ (let h : f i * (product_but f i n * f n) ≡ f i * product_but f i n * f n = omega arith in h) ∙ ap (λ x. x * f n) old)
]

-- from two clocks' own parts to those of all
turned : (u di dk ci ck p q x d : ℕ) → 0 < d → di * ci ≡ d → dk * ck ≡ d → u * (dk * p) ≤ u * (di * q) + x * (di * dk) → u * (ci * p) ≤ u * (ck * q) + x * d
turned u di dk ci ck p q x d some one two h =
    let m : (ci * ck) * (u * (dk * p)) ≤ (ci * ck) * (u * (di * q) + x * (di * dk)) = mul-le-mul_left (ci * ck) h in
    let a : (dk * ck) * (u * (ci * p)) ≡ d * (u * (ci * p)) = ap (λ y. y * (u * (ci * p))) two in
    let b : (di * ci) * (u * (ck * q)) ≡ d * (u * (ck * q)) = ap (λ y. y * (u * (ck * q))) one in
    let e : (di * ci) * ((dk * ck) * x) ≡ d * ((dk * ck) * x) = ap (λ y. y * ((dk * ck) * x)) one in
    let f : d * ((dk * ck) * x) ≡ d * (d * x) = ap (λ y. d * (y * x)) two in
    let all : d * (u * (ci * p)) ≤ d * (u * (ck * q) + x * d) = omega arith in
    le_of_mul-le-mul_left all some

module _ (s : Stations) (are : AreStations s) (t : Times) where
  abbrev den : ℕ → ℕ
  den k = (s.clocks k).den

  abbrev but : ℕ → ℕ
  but i = product_but (λ k. (s.clocks k).den) i s.count

  abbrev D : ℕ
  D = parts_of s

  pub some_parts : 0 < D
  some_parts = positive_product den s.count (λ k below. (are.line.steady k below).divides)

  pub whole : (i : ℕ) → i < s.count → (s.clocks i).den * but i ≡ D
  whole i inside = all_is den i s.count inside

  pub within_parts : (x i n k p : ℕ) → i < s.count → k < s.count → ComesWithin s t x i n k p → part_at s t i n ≤ part_at s t k p + x * D
  within_parts x i n k p inside there h =
      turned t.unit (s.clocks i).den (s.clocks k).den (but i) (but k) (instant (s.clocks i) n) (instant (s.clocks k) p) x D some_parts (whole i inside) (whole k there) h.within

  -- of instants in whole ticks
  exact : (i k q p d : ℕ) → i < s.count → k < s.count → steady_tick (s.clocks i) q < steady_tick (s.clocks k) p + d → ComesWithin s t (t.unit * d) i q k p
  exact i k q p d inside there h =
      let high = floor_high (s.clocks i) q (are.line.steady i inside).divides in
      let low = floor_low (s.clocks k) p in
      let a : (s.clocks k).den * suc (instant (s.clocks i) q) ≤ (s.clocks k).den * ((s.clocks i).den * steady_tick (s.clocks i) q + (s.clocks i).den) = mul-le-mul_left (s.clocks k).den high in
      let b : (s.clocks i).den * ((s.clocks k).den * steady_tick (s.clocks k) p) ≤ (s.clocks i).den * instant (s.clocks k) p = mul-le-mul_left (s.clocks i).den low in
      let m : (s.clocks k).den * (s.clocks i).den * suc (steady_tick (s.clocks i) q) ≤ (s.clocks k).den * (s.clocks i).den * (steady_tick (s.clocks k) p + d) = mul-le-mul_left ((s.clocks k).den * (s.clocks i).den) h in
      let sum : shared_instant s i k q ≤ shared_instant s k i p + d * shared_tick s i k = omega arith in
      record { within = (let n : t.unit * shared_instant s i k q ≤ t.unit * (shared_instant s k i p + d * shared_tick s i k) = mul-le-mul_left t.unit sum in omega arith) }

  pub near_parts : (i k q p d : ℕ) → i < s.count → k < s.count → steady_tick (s.clocks i) q < steady_tick (s.clocks k) p + d → part_at s t i q ≤ part_at s t k p + t.unit * d * D
  near_parts i k q p d inside there h = within_parts (t.unit * d) i q k p inside there (exact i k q p d inside there h)

  -- the other way round, but for a tick
  pub far_parts : (i k q p d : ℕ) → i < s.count → k < s.count → steady_tick (s.clocks k) p + d ≤ steady_tick (s.clocks i) q
      → part_at s t k p + t.unit * d * D ≤ part_at s t i q + t.unit * D
  far_parts i k q p d inside there h =
      let high = floor_high (s.clocks k) p (are.line.steady k there).divides in
      let low = floor_low (s.clocks i) q in
      let a : (s.clocks i).den * suc (instant (s.clocks k) p) ≤ (s.clocks i).den * ((s.clocks k).den * steady_tick (s.clocks k) p + (s.clocks k).den) = mul-le-mul_left (s.clocks i).den high in
      let b : (s.clocks k).den * ((s.clocks i).den * steady_tick (s.clocks i) q) ≤ (s.clocks k).den * instant (s.clocks i) q = mul-le-mul_left (s.clocks k).den low in
      let m : (s.clocks i).den * (s.clocks k).den * (steady_tick (s.clocks k) p + d) ≤ (s.clocks i).den * (s.clocks k).den * steady_tick (s.clocks i) q = mul-le-mul_left ((s.clocks i).den * (s.clocks k).den) h in
      let sum : (s.clocks i).den * instant (s.clocks k) p + d * ((s.clocks k).den * (s.clocks i).den) ≤ (s.clocks k).den * instant (s.clocks i) q + 1 * ((s.clocks k).den * (s.clocks i).den) = omega arith in
      let n : t.unit * ((s.clocks i).den * instant (s.clocks k) p + d * ((s.clocks k).den * (s.clocks i).den)) ≤ t.unit * ((s.clocks k).den * instant (s.clocks i) q + 1 * ((s.clocks k).den * (s.clocks i).den)) = mul-le-mul_left t.unit sum in
      two_sided t.unit (s.clocks k).den (s.clocks i).den (but k) (but i) (instant (s.clocks k) p) (instant (s.clocks i) q) (t.unit * d) t.unit D some_parts (whole k there) (whole i inside) (omega arith)
    where
      two_sided : (u dk di ck ci p q x y d : ℕ) → 0 < d → dk * ck ≡ d → di * ci ≡ d → u * (di * p) + x * (dk * di) ≤ u * (dk * q) + y * (dk * di) → u * (ck * p) + x * d ≤ u * (ci * q) + y * d
      two_sided u dk di ck ci p q x y d some one two h =
          (let m : (ck * ci) * (u * (di * p) + x * (dk * di)) ≤ (ck * ci) * (u * (dk * q) + y * (dk * di)) = mul-le-mul_left (ck * ci) h in
          let a : (di * ci) * (u * (ck * p)) ≡ d * (u * (ck * p)) = ap (λ z. z * (u * (ck * p))) two in
          let b : (dk * ck) * (u * (ci * q)) ≡ d * (u * (ci * q)) = ap (λ z. z * (u * (ci * q))) one in
          let e : (dk * ck) * ((di * ci) * x) ≡ d * ((di * ci) * x) = ap (λ z. z * ((di * ci) * x)) one in
          let f : d * ((di * ci) * x) ≡ d * (d * x) = ap (λ z. d * (z * x)) two in
          let g : (dk * ck) * ((di * ci) * y) ≡ d * ((di * ci) * y) = ap (λ z. z * ((di * ci) * y)) one in
          let k : d * ((di * ci) * y) ≡ d * (d * y) = ap (λ z. d * (z * y)) two in
          let all : d * (u * (ck * p) + x * d) ≤ d * (u * (ci * q) + y * d) = omega arith in
          le_of_mul-le-mul_left all some)

  -- quanta of one station
  pub quanta_on : (i n m : ℕ) → part_at s t i (n + m) ≡ part_at s t i n + t.unit * (m * (s.clocks i).num) * but i
  quanta_on i n m = omega arith

  pub parts_up : (i n m : ℕ) → n ≤ m → part_at s t i n ≤ part_at s t i m
  parts_up i n m h =
      let e : n + (m - n) ≡ m = omega arith in
      let f : part_at s t i (n + (m - n)) ≡ part_at s t i m = ap (part_at s t i) e in
      let g = quanta_on i n (m - n) in
      omega arith

  -- what takes a number of units at a station
  pub in_units : (i u x : ℕ) → i < s.count → u ≤ x * (s.clocks i).den → u * but i ≤ x * D
  in_units i u x inside h =
      let m : u * but i ≤ (x * (s.clocks i).den) * but i = mul-le-mul_right (but i) h in
      let e : x * ((s.clocks i).den * but i) ≡ x * D = ap (λ d. x * d) (whole i inside) in
      omega arith
