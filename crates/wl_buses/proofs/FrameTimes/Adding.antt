-- Times from one quantum to another add up.
use Rattle.std.proofs.Common.{◌≡◌, ℕ, ◌+◌, ◌-◌, ◌*◌, ◌/◌, ◌<◌, ◌≤◌, inl, inr, ap, arith}
use Rattle.std.proofs.lemmas.Bool.{cases_lt}
use Rattle.std.proofs.lemmas.Nat.{le-div}
use Rattle.std.proofs.Math.Nat.{le_of_mul-le-mul_left, mul-div-le, mul-le-mul_left}
use Rattle.wl_phase.specs.Clocks.{instant}
use Rattle.wl_buses.specs.OneFrame.Stations.{AreOnALine, Stations, shared_instant, shared_tick}
use Rattle.wl_buses.specs.FrameTimes.Times.{ComesWithin, Times, whole_instant}
use Rattle.wl_buses.proofs.FrameTimes.Places.{instant_up}

-- x is by at most one after y, and z by two after x: in the parts that two of three have
parts_add : (u d e f x y z one two : ℕ) → 0 < e → u * (d * x) ≤ u * (e * y) + one * (e * d) → u * (e * z) ≤ u * (f * x) + two * (f * e) → u * (d * z) ≤ u * (f * y) + (one + two) * (f * d)
parts_add u d e f x y z one two some first second =
    let a : f * (u * (d * x)) ≤ f * (u * (e * y) + one * (e * d)) = mul-le-mul_left f first in
    let b : d * (u * (e * z)) ≤ d * (u * (f * x) + two * (f * e)) = mul-le-mul_left d second in
    let all : e * (u * (d * z)) ≤ e * (u * (f * y) + (one + two) * (f * d)) = omega arith in
    le_of_mul-le-mul_left all some

pub added : (s : Stations) (t : Times) (one two i n j m k p : ℕ) → AreOnALine s → i < s.count → j < s.count → k < s.count → ComesWithin s t one j m k p → ComesWithin s t two i n j m
    → ComesWithin s t (one + two) i n k p
added s t one two i n j m k p line inside there first a b = record {
  within =
      (let some = (line.steady j there).divides in
      let c = a.within in
      let d = b.within in
      parts_add t.unit (s.clocks k).den (s.clocks j).den (s.clocks i).den (instant (s.clocks j) m) (instant (s.clocks k) p) (instant (s.clocks i) n) one two some (omega arith) (omega arith));
}

pub longer : (s : Stations) (t : Times) (less time i n k p : ℕ) → less ≤ time → ComesWithin s t less i n k p → ComesWithin s t time i n k p
longer s t less time i n k p low a = record {
  within = (let b = a.within in let m : shared_tick s i k * less ≤ shared_tick s i k * time = mul-le-mul_left (shared_tick s i k) low in omega arith);
}

pub sooner : (s : Stations) (t : Times) (time i n m k p : ℕ) → n ≤ m → ComesWithin s t time i m k p → ComesWithin s t time i n k p
sooner s t time i n m k p low a = record {
  within = (let b = a.within in let up : t.unit * shared_instant s i k n ≤ t.unit * shared_instant s i k m = mul-le-mul_left t.unit (instant_up s i k n m low) in omega arith);
}

-- two quotients, rounded down
floors_apart : (a b d e time : ℕ) → 0 < d → 0 < e → e * a ≤ d * b + time * (d * e) → a / d ≤ b / e + time
floors_apart a b d e time some_d some_e h =
    let floor : d * (a / d) ≤ a = mul-div-le a d in
    let wide : e * (d * (a / d)) ≤ e * a = mul-le-mul_left e floor in
    let both : d * (e * (a / d)) ≤ d * (b + time * e) = omega arith in
    let whole : e * (a / d) ≤ b + time * e = le_of_mul-le-mul_left both some_d in
    elim (cases_lt (a / d) time) [
      | inl short ↦ omega arith
      | inr long ↦
          (let part : time + (a / d - time) ≡ a / d = omega arith in
          let split : e * (time + (a / d - time)) ≡ e * (a / d) = ap (λ n. e * n) part in
          let low : (a / d - time) * e ≤ b = omega arith in
          let up : a / d - time ≤ b / e = le-div (a / d - time) b e some_e low in
          omega arith)
    ]

pub in_whole_units : (s : Stations) (t : Times) (time i n k p : ℕ) → AreOnALine s → i < s.count → k < s.count → ComesWithin s t time i n k p
    → whole_instant t (s.clocks i) n ≤ whole_instant t (s.clocks k) p + time
in_whole_units s t time i n k p line inside there a =
    let b = a.within in
    floors_apart (t.unit * instant (s.clocks i) n) (t.unit * instant (s.clocks k) p) (s.clocks i).den (s.clocks k).den time (line.steady i inside).divides (line.steady k there).divides (omega arith)

pub later_than : (s : Stations) (t : Times) (time i n q k p : ℕ) → AreOnALine s → i < s.count → k < s.count → ComesWithin s t time i n k p
    → whole_instant t (s.clocks k) p + time < whole_instant t (s.clocks i) q → n < q
later_than s t time i n q k p line inside there a late = elim (cases_lt n q) [
  | inl before ↦ before
  | inr by ↦ (let whole = in_whole_units s t time i q k p line inside there (sooner s t time i q n k p by a) in absurd (omega arith))
]
