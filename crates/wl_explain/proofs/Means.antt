-- Quanta that begin before a tick, counted; and the mean of quanta of one rate.
use Rattle.std.proofs.Common.{◌≡◌, ℕ, zero, suc, ◌+◌, ◌-◌, ◌*◌, ◌/◌, ◌<◌, ◌≤◌, ◌∙◌, ◌⊎◌, inl, inr, sym, ap, refl, arith, nat_lt, min, Bool, true, [], ◌∷◌, All, IsTrue}
use Rattle.std.proofs.Math.Nat.{div-mul-le_self, lt-mul-div-succ, lt_of_mul-lt-mul_left, mul-le-mul_left, mul-lt-mul_of_pos_left, zero-mul, zero-div}
use Rattle.std.proofs.lemmas.Bool.{and_parts, cases_lt, eqb-true, lt-ltb, le-ltb}
use Rattle.std.specs.Prelude.{◌==◌}
use Rattle.wl_level.specs.Places.{count_places}
use Rattle.wl_clock.specs.declared.Rate.{Rate}
use Rattle.wl_clock.specs.Timing.{Timing, IsRate, IsTiming, in_order, tick_of}
use Rattle.wl_explain.specs.Figures.{may_take, mean_of, ticks_of}

-- where numbers grow, the first that is not below t is above k exactly where that of k is below t
pub below : (q : ℕ → ℕ) → ((j k : ℕ) → j < k → q j < q k) → (k t r : ℕ) → t ≤ q r → ((j : ℕ) → j < r → q j < t) → nat_lt k r ≡ nat_lt (q k) t
below q later k t r reached least =
    elim (cases_lt k r) [
      | inl more ↦ lt-ltb k r more ∙ sym (lt-ltb (q k) t (least k more))
      | inr few ↦ le-ltb k r few ∙ sym (le-ltb (q k) t (enough few (cases_lt r k)))
    ]
  where
    enough : r ≤ k → (r < k) ⊎ (k ≤ r) → t ≤ q k
    enough few (inl less) = (let e = later r k less in omega arith)
    enough few (inr same) = (let e : r ≡ k = omega arith in let f : q r ≡ q k = ap q e in omega arith)

-- places that pass a test up to r
pub counted : (test : ℕ → Bool) (r m : ℕ) → ((k : ℕ) → test k ≡ nat_lt k r) → count_places test m ≡ min m r
counted test r zero h = omega arith
counted test r (suc m) h =
    let e : count_places test m ≡ min m r = counted test r m h in
    elim (cases_lt m r) [
      | inl less ↦ rw (h m, lt-ltb m r less) (omega (arith, e, less))
      | inr more ↦ rw (h m, le-ltb m r more) (omega (arith, e, more))
    ]

lesser : (end most r : ℕ) → r ≤ end → min (min end most) r ≡ min r most
lesser end most r near = omega (arith, near)

-- numbers that grow, counted below t: the first that is not tells how many
pub counted_below : (q : ℕ → ℕ) → ((j k : ℕ) → j < k → q j < q k) → (t most r : ℕ) → t ≤ q r → ((j : ℕ) → j < r → q j < t) → r ≤ t
    → count_places (λ k. nat_lt (q k) t) (min t most) ≡ min r most
counted_below q later t most r reached least near =
    counted (λ k. nat_lt (q k) t) r (min t most) (λ k. sym (below q later k t r reached least)) ∙ lesser t most r near

-- two quotients by one number: n times the one, and m times the other
crossed_by : (n m num den a b : ℕ) → 0 < m → a * den ≤ m * num → n * num < den * (b + 1) → den * (n * a) < den * (m * (b + 1))
crossed_by n m num den a b some low high =
    let e : n * (a * den) ≤ n * (m * num) = mul-le-mul_left n low in
    let f : m * (n * num) < m * (den * (b + 1)) = mul-lt-mul_of_pos_left high some in
    omega (arith, e, f)

crossed : (n m num den : ℕ) → 0 < m → 0 < den → n * (m * num / den) < m * (n * num / den + 1)
crossed n m num den some divides =
    lt_of_mul-lt-mul_left den (crossed_by n m num den (m * num / den) (n * num / den) some (div-mul-le_self (m * num) den) (lt-mul-div-succ (n * num) divides))

-- so the ticks of n quanta of a rate leave room for what a million of them say
pub one_mean : (n num den : ℕ) → 0 < n → 0 < den → may_take n (1000000 * num / den) (n * num / den) ≡ true
one_mean n num den some divides =
    let below = lt-ltb (n * (1000000 * num / den)) (1000000 * (n * num / den + 1)) (crossed n 1000000 num den (omega arith) divides) in
    let above = lt-ltb (1000000 * (n * num / den)) (n * (1000000 * num / den + 1)) (crossed 1000000 n num den some divides) in
    rw (below, above) refl

-- the first quanta of a clock with one rate
from_first : (o f num den n : ℕ) → f ≡ 0 → (o + (n - f) * num / den) - (o + (0 - f) * num / den) ≡ n * num / den
from_first o f num den n e =
    let a : n - f ≡ n = omega (arith, e) in
    let b : 0 - f ≡ 0 = omega arith in
    rw (a, b, zero-mul num, zero-div den) (omega arith)

pub straight : (t : Timing) (r : Rate) → IsTiming t → t.rates ≡ r ∷ [] → (n : ℕ) → ticks_of t n ≡ n * r.num / r.den
unfolding tick_of
straight t r held one n =
    let order : IsTrue (in_order (r ∷ [])) = rw one at held.order in
    rw one (from_first t.offset r.from r.num r.den n (eqb-true r.from 0 (and_parts (r.from == 0) true order).0))

divides_of : (t : Timing) (r : Rate) → IsTiming t → t.rates ≡ r ∷ [] → 0 < r.den
divides_of t r held one =
    let rates : All IsRate (r ∷ []) = rw one at held.rates in
    (rates 0 r (omega arith)).divides

-- their mean is the rate
pub mean_of_one : (t : Timing) (r : Rate) → IsTiming t → t.rates ≡ r ∷ [] → (n : ℕ) → 0 < n → mean_of t n ≡ 1000000 * r.num / r.den
mean_of_one t r held one n some =
    rw (straight t r held one n, straight t r held one 1000000, one_mean n r.num r.den some (divides_of t r held one)) refl
