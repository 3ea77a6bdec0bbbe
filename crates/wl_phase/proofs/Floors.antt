-- Where the ticks of a clock of one rate lie beside its instants.
use Rattle.std.proofs.Common.{◌≡◌, ◌∙◌, refl, ap, ℕ, ◌+◌, ◌-◌, ◌*◌, ◌/◌, ◌<◌, ◌≤◌, arith}
use Rattle.std.proofs.Math.Nat.{mul-div-le, lt-mul-div-succ, le-div_iff_mul-le, div-lt_iff_lt-mul}
use Rattle.wl_clock.specs.Timing.{Timing, tick_of}
use Rattle.wl_phase.specs.Clocks.{HasRate, Steady, clock_from, steady_tick, steady_timing, instant}

tick_is : (c : Steady) (k : ℕ) → steady_tick c k ≡ c.offset + (c.part + k * c.num) / c.den
unfolding steady_tick
tick_is c k = refl

-- the ticks of a timing are those of its clock
timing_is : (c : Steady) (k : ℕ) → c.part ≡ 0 → tick_of (steady_timing c) k ≡ steady_tick c k
unfolding tick_of steady_tick
timing_is c k e =
    let z : k - 0 ≡ k = omega arith in
    let h : k * c.num ≡ c.part + k * c.num = omega arith in
    ap (λ m. c.offset + m * c.num / c.den) z ∙ ap (λ n. c.offset + n / c.den) h

pub rate_tick : {t : Timing} {c : Steady} → HasRate t c → (k : ℕ) → tick_of t k ≡ steady_tick c k
rate_tick {t} {c} has k = let e = timing_is c k has.whole in let f = ap (λ x. tick_of x k) has.timing in cc

-- a clock from one of its quanta on
pub tick_from : (c : Steady) (p k : ℕ) → steady_tick (clock_from c p) k ≡ steady_tick c (p + k)
unfolding steady_tick
tick_from c p k = let e : c.part + p * c.num + k * c.num ≡ c.part + (p + k) * c.num = omega arith in ap (λ n. c.offset + n / c.den) e

pub floor_low : (c : Steady) (k : ℕ) → c.den * steady_tick c k ≤ instant c k
floor_low c k =
    let e : c.den * steady_tick c k ≡ c.den * (c.offset + (c.part + k * c.num) / c.den) = ap (λ n. c.den * n) (tick_is c k) in
    let h = mul-div-le (c.part + k * c.num) c.den in
    omega arith

pub floor_high : (c : Steady) (k : ℕ) → 0 < c.den → instant c k < c.den * steady_tick c k + c.den
floor_high c k d =
    let e : c.den * steady_tick c k ≡ c.den * (c.offset + (c.part + k * c.num) / c.den) = ap (λ n. c.den * n) (tick_is c k) in
    let h = lt-mul-div-succ (c.part + k * c.num) d in
    omega arith

pub instant_is : (c : Steady) (k : ℕ) → 0 < c.den → steady_tick c k ≡ instant c k / c.den
instant_is c k d =
    let low = floor_low c k in
    let high = floor_high c k d in
    let p : steady_tick c k * c.den ≤ instant c k = omega arith in
    let q : instant c k < (steady_tick c k + 1) * c.den = omega arith in
    let a : steady_tick c k ≤ instant c k / c.den = (le-div_iff_mul-le {k = c.den} {x = steady_tick c k} {y = instant c k} d).1 p in
    let b : instant c k / c.den < steady_tick c k + 1 = (div-lt_iff_lt-mul {k = c.den} {x = instant c k} {y = steady_tick c k + 1} d).1 q in
    omega arith

-- n quanta take n * num / den ticks, within one
pub quanta_low : (c : Steady) (k n : ℕ) → 0 < c.den → c.den * steady_tick c k + n * c.num < c.den * steady_tick c (k + n) + c.den
quanta_low c k n d = let low = floor_low c k in let high = floor_high c (k + n) d in omega arith

pub quanta_high : (c : Steady) (k n : ℕ) → 0 < c.den → c.den * steady_tick c (k + n) < c.den * steady_tick c k + n * c.num + c.den
quanta_high c k n d = let low = floor_low c (k + n) in let high = floor_high c k d in omega arith
