-- How the ticks of a clock lie.
use Rattle.std.proofs.Common.{◌≡◌, ◌∙◌, refl, sym, ap, subst, List, ◌∷◌, length, take, drop, slice_index_or, All, ℕ, zero, suc, ◌+◌, ◌-◌, ◌*◌, ◌<◌, ◌≤◌, arith}
use Rattle.wl_clock.specs.declared.Rate.{Rate}
use Rattle.wl_clock.specs.Timing.{Timing, IsRate, IsTiming, tick_of, ticks_at_rate, ticks_after, ticks_over, slowest_rate}
use Rattle.wl_clock.proofs.Runs.{over_low, over_high, over_none, over_parts, are_parts}

pub tick_is : (t : Timing) (k : ℕ) → tick_of t k ≡ t.offset + ticks_over t.rates k
unfolding tick_of
tick_is t k = refl

-- quantum 0 begins at the offset
pub tick_first : (t : Timing) → tick_of t 0 ≡ t.offset
tick_first t = let e = tick_is t 0 in let none = over_none t.rates in omega arith

one_more : (k n : ℕ) → k + suc n ≡ (k + n) + 1
one_more k n = omega arith

-- n quanta take n ticks at least
pub ticks_apart : (t : Timing) → IsTiming t → (k n : ℕ) → tick_of t k + n ≤ tick_of t (k + n)
ticks_apart t h k zero = let e : tick_of t (k + 0) ≡ tick_of t k = ap (tick_of t) (omega arith) in omega arith
ticks_apart t h k (suc n) =
    let below = ticks_apart t h k n in
    let low = over_low t.rates h.rates h.some h.order (k + n) in
    let a = tick_is t (k + n) in
    let b = tick_is t ((k + n) + 1) in
    let e : tick_of t (k + suc n) ≡ tick_of t ((k + n) + 1) = ap (tick_of t) (one_more k n) in
    omega arith

-- and n times the slowest rate at most
pub ticks_near : (t : Timing) → IsTiming t → (k n : ℕ) → tick_of t (k + n) ≤ tick_of t k + n * slowest_rate
ticks_near t h k zero = let e : tick_of t (k + 0) ≡ tick_of t k = ap (tick_of t) (omega arith) in omega arith
ticks_near t h k (suc n) =
    let below = ticks_near t h k n in
    let high = over_high t.rates h.rates h.some h.order (k + n) in
    let a = tick_is t (k + n) in
    let b = tick_is t ((k + n) + 1) in
    let e : tick_of t (k + suc n) ≡ tick_of t ((k + n) + 1) = ap (tick_of t) (one_more k n) in
    omega arith

pub ticks_later : (t : Timing) → IsTiming t → (j k : ℕ) → j < k → tick_of t j < tick_of t k
ticks_later t h j k less =
    let e : j + (k - j) ≡ k = omega arith in
    let apart = ticks_apart t h j (k - j) in
    let f : tick_of t (j + (k - j)) ≡ tick_of t k = ap (tick_of t) e in
    omega arith

-- so quantum k begins k times the slowest rate after the offset at most, and k ticks after it at least
pub tick_near : (t : Timing) → IsTiming t → (k : ℕ) → tick_of t k ≤ t.offset + k * slowest_rate
tick_near t h k =
    let near = ticks_near t h 0 k in
    let e : tick_of t (0 + k) ≡ tick_of t k = ap (tick_of t) (omega arith) in
    let first = tick_first t in
    omega arith

pub tick_far : (t : Timing) → IsTiming t → (k : ℕ) → t.offset + k ≤ tick_of t k
tick_far t h k =
    let far = ticks_apart t h 0 k in
    let e : tick_of t (0 + k) ≡ tick_of t k = ap (tick_of t) (omega arith) in
    let first = tick_first t in
    omega arith

-- the same over the first rate and the others
pub tick_parts : (t : Timing) → IsTiming t → (rates : List Rate) → rates ≡ t.rates → (d : Rate) (k : ℕ)
    → tick_of t k ≡ t.offset + ticks_after (slice_index_or rates 0 d) (take (length rates - 1) (drop 1 rates)) k
tick_parts t h rates e d k =
    let some : 1 ≤ length rates = subst (λ xs. 1 ≤ length xs) (sym e) h.some in
    let same = over_parts rates d some k in
    let there : ticks_over rates k ≡ ticks_over t.rates k = ap (λ xs. ticks_over xs k) e in
    let is = tick_is t k in
    omega arith

pub rates_parts : (t : Timing) → IsTiming t → (rates : List Rate) → rates ≡ t.rates → (d : Rate)
    → All IsRate (slice_index_or rates 0 d ∷ take (length rates - 1) (drop 1 rates))
rates_parts t h rates e d =
    let some : 1 ≤ length rates = subst (λ xs. 1 ≤ length xs) (sym e) h.some in
    are_parts rates d some (subst (All IsRate) (sym e) h.rates)

-- and where there is no other
pub tick_one : (t : Timing) → IsTiming t → (rates : List Rate) → rates ≡ t.rates → length rates ≡ 1 → (d : Rate) (k : ℕ)
    → tick_of t k ≡ t.offset + ticks_at_rate (slice_index_or rates 0 d) k
tick_one t h rates e one d k =
    tick_parts t h rates e d k ∙ ap (λ n. t.offset + ticks_after (slice_index_or rates 0 d) (take (n - 1) (drop 1 rates)) k) one
