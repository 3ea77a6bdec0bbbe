-- How the ticks of stretches of quanta lie, each at a rate of its own: what one more quantum adds.
use Rattle.std.proofs.Common.{◌≡◌, ◌∙◌, sym, ap, ℕ, suc, ◌+◌, ◌-◌, ◌*◌, ◌/◌, ◌<◌, ◌≤◌, inl, inr, List, [], ◌∷◌, length, take, drop, slice_index_or, subst, All, IsTrue, refl, arith}
use Rattle.std.proofs.Math.Nat.{lt-div-mul-add, div-mul-le_self, div-le_of_le-mul, mul-le-mul_left, zero-mul, zero-div}
use Rattle.std.specs.Int.{div_ceil}
use Rattle.std.proofs.lemmas.Grind.{div_ceil_times}
use Rattle.std.proofs.lemmas.Nat.{div_below, le-div}
use Rattle.std.proofs.lemmas.List.{take_all}
use Rattle.std.proofs.lemmas.Bool.{cases_lt, le-leb, lt-leb, ltb-true, eqb-true, and_parts}
use Rattle.std.proofs.lemmas.Bool.{cond-true, cond-false}
use Rattle.std.specs.Prelude.{◌==◌}
use Rattle.wl_clock.specs.declared.Rate.{Rate}
use Rattle.wl_clock.specs.Timing.{IsRate, ticks_at_rate, ticks_after, ticks_over, begin_after, in_order, slowest_rate}

-- n divisors more raise a quotient by n at least
div_raised : (a b d n : ℕ) → 0 < d → n * d ≤ b → a / d + n ≤ (a + b) / d
div_raised a b d n h low =
    le-div (a / d + n) (a + b) d h (omega (arith, div-mul-le_self a d))

-- and by n at most, where no more than n are added
div_capped : (a b d n : ℕ) → 0 < d → b ≤ n * d → (a + b) / d ≤ a / d + n
div_capped a b d n h high =
    let below : (a + b) / d < a / d + n + 1 = div_below (a + b) d (a / d + n + 1) h (omega (arith, lt-div-mul-add {a = a} h)) in
    omega arith

-- ---- one rate

pub first_of : (r : Rate) (later : List Rate) → All IsRate (r ∷ later) → IsRate r
first_of r later h = h 0 r (omega arith)

pub others_of : (r : Rate) (later : List Rate) → All IsRate (r ∷ later) → All IsRate later
others_of r later h = λ k d b. h (suc k) d (omega arith)

-- one more quantum is num more of what is divided
one_more : (k f n : ℕ) → f ≤ k → (k + 1 - f) * n ≡ (k - f) * n + n
one_more k f n h = let e : k + 1 - f ≡ (k - f) + 1 = omega arith in ap (λ d. d * n) e ∙ omega arith

stretch_low : (r : Rate) → IsRate r → (k : ℕ) → r.from ≤ k → ticks_at_rate r k + 1 ≤ ticks_at_rate r (k + 1)
stretch_low r is k h =
    let raised = div_raised ((k - r.from) * r.num) r.num r.den 1 is.divides (let fast = is.not_fast in omega arith) in
    rw (one_more k r.from r.num h) raised

stretch_high : (r : Rate) → IsRate r → (k : ℕ) → r.from ≤ k → ticks_at_rate r (k + 1) ≤ ticks_at_rate r k + slowest_rate
stretch_high r is k h =
    let capped = div_capped ((k - r.from) * r.num) r.num r.den slowest_rate is.divides is.not_slow in
    rw (one_more k r.from r.num h) capped

-- quanta take the slowest rate each at most
pub stretch_near : (r : Rate) → IsRate r → (k : ℕ) → ticks_at_rate r k ≤ (k - r.from) * slowest_rate
stretch_near r is k =
    let most : (k - r.from) * r.num ≤ (k - r.from) * (slowest_rate * r.den) = mul-le-mul_left (k - r.from) is.not_slow in
    div-le_of_le-mul r.den (omega arith)

-- and one tick each at least
pub stretch_far : (r : Rate) → IsRate r → (k : ℕ) → k - r.from ≤ ticks_at_rate r k
stretch_far r is k = le-div (k - r.from) ((k - r.from) * r.num) r.den is.divides (mul-le-mul_left (k - r.from) is.not_fast)

pub stretch_grows : (r : Rate) → IsRate r → (j k : ℕ) → j ≤ k → ticks_at_rate r j ≤ ticks_at_rate r k
stretch_grows r is j k h =
    let less : j - r.from ≤ k - r.from = omega arith in
    let more = mul-le-mul_left r.num less in
    le-div (ticks_at_rate r j) ((k - r.from) * r.num) r.den is.divides (omega (arith, div-mul-le_self ((j - r.from) * r.num) r.den))

-- as many quanta as ticks are worth, rounded up, take so many ticks
pub stretch_reaches : (r : Rate) → IsRate r → (ticks q : ℕ) → q ≡ div_ceil (ticks * r.den) r.num → ticks ≤ ticks_at_rate r (r.from + q)
stretch_reaches r is ticks q e =
    let bounds = div_ceil_times (ticks * r.den) r.num (let a = is.divides in let b = is.not_fast in omega arith) in
    let same : (r.from + q) - r.from ≡ q = omega arith in
    let product : q * r.num ≡ div_ceil (ticks * r.den) r.num * r.num = ap (λ n. n * r.num) e in
    le-div ticks ((r.from + q - r.from) * r.num) r.den is.divides (rw same (omega (arith, bounds.0, product)))

-- no quantum, no tick
pub stretch_none : (r : Rate) (k : ℕ) → k ≤ r.from → ticks_at_rate r k ≡ 0
stretch_none r k h = let e : k - r.from ≡ 0 = omega arith in ap (λ d. d * r.num / r.den) e ∙ ap (λ n. n / r.den) (zero-mul r.num) ∙ zero-div r.den

-- ---- several rates

pub up_to_next : (r next : Rate) (rest : List Rate) (k : ℕ) → k ≤ next.from → ticks_after r (next ∷ rest) k ≡ ticks_at_rate r k
up_to_next r next rest k h = cond-true _ _ _ (le-leb k next.from h)

pub behind_next : (r next : Rate) (rest : List Rate) (k : ℕ) → next.from < k
    → ticks_after r (next ∷ rest) k ≡ ticks_at_rate r next.from + ticks_after next rest k
behind_next r next rest k h = cond-false _ _ _ (lt-leb k next.from h)

pub next_later : (from : ℕ) (next : Rate) (rest : List Rate) → IsTrue (begin_after from (next ∷ rest)) → from < next.from
next_later from next rest h = ltb-true _ _ (and_parts _ _ h).0

pub rest_later : (from : ℕ) (next : Rate) (rest : List Rate) → IsTrue (begin_after from (next ∷ rest)) → IsTrue (begin_after next.from rest)
rest_later from next rest h = (and_parts _ _ h).1

-- before its first quantum, and at it, a rate takes no tick
pub none_before : (r : Rate) (later : List Rate) → IsTrue (begin_after r.from later) → (k : ℕ) → k ≤ r.from → ticks_after r later k ≡ 0
none_before r [] order k h = stretch_none r k h
none_before r (next ∷ rest) order k h =
    let far = next_later r.from next rest order in
    up_to_next r next rest k (omega arith) ∙ stretch_none r k h

-- so that both rates tell the tick of the quantum at which they meet
from_next : (r next : Rate) (rest : List Rate) → IsTrue (begin_after r.from (next ∷ rest)) → (k : ℕ) → next.from ≤ k
    → ticks_after r (next ∷ rest) k ≡ ticks_at_rate r next.from + ticks_after next rest k
from_next r next rest order k h =
    elim (cases_lt next.from k) [
      | inl behind ↦ behind_next r next rest k behind
      | inr at ↦ (let e : k ≡ next.from = omega arith in
          let none = none_before next rest (rest_later r.from next rest order) k at in
          let here = up_to_next r next rest k at in
          let same : ticks_at_rate r k ≡ ticks_at_rate r next.from = ap (ticks_at_rate r) e in
          omega arith)
    ]

pub one_low : (r : Rate) (later : List Rate) → All IsRate (r ∷ later) → IsTrue (begin_after r.from later) → (k : ℕ) → r.from ≤ k
    → ticks_after r later k + 1 ≤ ticks_after r later (k + 1)
one_low r [] rates order k h = stretch_low r (first_of r [] rates) k h
one_low r (next ∷ rest) rates order k h =
    elim (cases_lt k next.from) [
      | inl before ↦ (let a = up_to_next r next rest k (omega arith) in
          let b = up_to_next r next rest (k + 1) (omega arith) in
          let low = stretch_low r (first_of r (next ∷ rest) rates) k h in
          omega arith)
      | inr there ↦ (let a = from_next r next rest order k there in
          let b = from_next r next rest order (k + 1) (omega arith) in
          let low = one_low next rest (others_of r (next ∷ rest) rates) (rest_later r.from next rest order) k there in
          omega arith)
    ]

pub one_high : (r : Rate) (later : List Rate) → All IsRate (r ∷ later) → IsTrue (begin_after r.from later) → (k : ℕ) → r.from ≤ k
    → ticks_after r later (k + 1) ≤ ticks_after r later k + slowest_rate
one_high r [] rates order k h = stretch_high r (first_of r [] rates) k h
one_high r (next ∷ rest) rates order k h =
    elim (cases_lt k next.from) [
      | inl before ↦ (let a = up_to_next r next rest k (omega arith) in
          let b = up_to_next r next rest (k + 1) (omega arith) in
          let high = stretch_high r (first_of r (next ∷ rest) rates) k h in
          omega arith)
      | inr there ↦ (let a = from_next r next rest order k there in
          let b = from_next r next rest order (k + 1) (omega arith) in
          let high = one_high next rest (others_of r (next ∷ rest) rates) (rest_later r.from next rest order) k there in
          omega arith)
    ]

-- ---- from quantum 0 on

pub over_low : (rates : List Rate) → All IsRate rates → 0 < length rates → IsTrue (in_order rates) → (k : ℕ)
    → ticks_over rates k + 1 ≤ ticks_over rates (k + 1)
over_low [] is some order k = absurd (omega arith)
over_low (r ∷ later) is some order k =
    let parts = and_parts (r.from == 0) (begin_after r.from later) order in
    let zeroth = eqb-true r.from 0 parts.0 in
    one_low r later is parts.1 k (omega arith)

pub over_high : (rates : List Rate) → All IsRate rates → 0 < length rates → IsTrue (in_order rates) → (k : ℕ)
    → ticks_over rates (k + 1) ≤ ticks_over rates k + slowest_rate
over_high [] is some order k = absurd (omega arith)
over_high (r ∷ later) is some order k =
    let parts = and_parts (r.from == 0) (begin_after r.from later) order in
    let zeroth = eqb-true r.from 0 parts.0 in
    one_high r later is parts.1 k (omega arith)

pub over_none : (rates : List Rate) → ticks_over rates 0 ≡ 0
over_none [] = refl
over_none (r ∷ []) = stretch_none r 0 (omega arith)
over_none (r ∷ next ∷ rest) = up_to_next r next rest 0 (omega arith) ∙ stretch_none r 0 (omega arith)

-- ---- the least quantum that begins so late

pub reached_behind : (r next : Rate) (rest : List Rate) → IsTrue (begin_after r.from (next ∷ rest)) → (ticks q : ℕ)
    → ticks_at_rate r next.from < ticks → ticks - ticks_at_rate r next.from ≤ ticks_after next rest q → ticks ≤ ticks_after r (next ∷ rest) q
reached_behind r next rest order ticks q passed reached =
    elim (cases_lt next.from q) [
      | inl behind ↦ (let e = behind_next r next rest q behind in omega arith)
      | inr before ↦ (let none = none_before next rest (rest_later r.from next rest order) q before in absurd (omega arith))
    ]

pub least_behind : (r next : Rate) (rest : List Rate) → IsRate r → IsTrue (begin_after r.from (next ∷ rest)) → (ticks q : ℕ)
    → ticks_at_rate r next.from < ticks → ((k : ℕ) → k < q → ticks_after next rest k < ticks - ticks_at_rate r next.from)
    → (k : ℕ) → k < q → ticks_after r (next ∷ rest) k < ticks
least_behind r next rest is order ticks q passed least k h =
    elim (cases_lt next.from k) [
      | inl behind ↦ (let e = behind_next r next rest k behind in let below = least k h in omega arith)
      | inr before ↦ (let e = up_to_next r next rest k before in let grows = stretch_grows r is k next.from before in omega arith)
    ]

-- ---- a list by its first rate and the others

-- what stands where there is no rate
abbrev pub no_rate : Rate
no_rate = record { from = 0; num = 0; den = 0 }

pub parts : (rates : List Rate) (d : Rate) → 1 ≤ length rates → rates ≡ slice_index_or rates 0 d ∷ take (length rates - 1) (drop 1 rates)
parts [] d some = absurd (omega arith)
parts (r ∷ later) d some = ap (λ xs. r ∷ xs) (sym (take_all (length (r ∷ later) - 1) later (omega arith)))

pub over_parts : (rates : List Rate) (d : Rate) → 1 ≤ length rates → (k : ℕ)
    → ticks_over rates k ≡ ticks_after (slice_index_or rates 0 d) (take (length rates - 1) (drop 1 rates)) k
over_parts rates d some k = ap (λ xs. ticks_over xs k) (parts rates d some)

pub are_parts : (rates : List Rate) (d : Rate) → 1 ≤ length rates → All IsRate rates
    → All IsRate (slice_index_or rates 0 d ∷ take (length rates - 1) (drop 1 rates))
are_parts rates d some is = subst (All IsRate) (parts rates d some) is

pub from_parts : (r : Rate) (later : List Rate) (d : Rate) → 1 ≤ length later → (k : ℕ)
    → ticks_after r later k ≡ ticks_after r (slice_index_or later 0 d ∷ take (length later - 1) (drop 1 later)) k
from_parts r later d some k = ap (λ xs. ticks_after r xs k) (parts later d some)

pub rest_rates : (r : Rate) (later : List Rate) (d : Rate) → 1 ≤ length later → All IsRate (r ∷ later)
    → All IsRate (slice_index_or later 0 d ∷ take (length later - 1) (drop 1 later))
rest_rates r later d some is = subst (All IsRate) (parts later d some) (others_of r later is)

pub rest_order : (from : ℕ) (later : List Rate) (d : Rate) → 1 ≤ length later → IsTrue (begin_after from later)
    → IsTrue (begin_after from (slice_index_or later 0 d ∷ take (length later - 1) (drop 1 later)))
rest_order from later d some order = subst (λ xs. IsTrue (begin_after from xs)) (parts later d some) order

pub order_behind : (from : ℕ) (later : List Rate) (d : Rate) → 1 ≤ length later → IsTrue (begin_after from later)
    → IsTrue (begin_after (slice_index_or later 0 d).from (take (length later - 1) (drop 1 later)))
order_behind from later d some order = rest_later from (slice_index_or later 0 d) (take (length later - 1) (drop 1 later)) (rest_order from later d some order)
