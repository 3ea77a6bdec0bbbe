-- Laws of lists of ticks.
use Rattle.std.proofs.Common.{◌≡◌, ℕ, zero, suc, ◌+◌, ◌<◌, ◌≤◌, cond, inl, inr, List, [], ◌∷◌, ◌++◌, take, refl, ◌∙◌, ap, subst, arith, nat_lt, zero-add, Some, slice_get}
use Rattle.std.proofs.lemmas.Bool.{cases_lt, lt-ltb, le-ltb, cond-true, cond-false}
use Rattle.std.proofs.lemmas.List.Sums.{sum_by-append}
use Rattle.wl_record_core.specs.Truth.{count_below, IsIncreasing, AllAbove}
use Rattle.wl_record_core.specs.TableLaws.{TableLaws}

-- 1 for a tick below u
abbrev one : ℕ → ℕ → ℕ
one u t = cond (nat_lt t u) 1 0

one_in : (u t : ℕ) → t < u → one u t ≡ 1
one_in u t h = cond-true {A = ℕ} (nat_lt t u) 1 0 (lt-ltb t u h)

one_out : (u t : ℕ) → u ≤ t → one u t ≡ 0
one_out u t h = cond-false {A = ℕ} (nat_lt t u) 1 0 (le-ltb t u h)

-- the first tick, and the others
count_cons : (u x : ℕ) (xs : List ℕ) → count_below u (x ∷ xs) ≡ one u x + count_below u xs
count_cons u x xs = sum_by-append (one u) (x ∷ []) xs ∙ ap (λ n. n + count_below u xs) (zero-add (one u x))

count_snoc : (u t : ℕ) (xs : List ℕ) → count_below u (xs ++ t ∷ []) ≡ count_below u xs + one u t
count_snoc u t xs = sum_by-append (one u) xs (t ∷ []) ∙ ap (λ n. count_below u xs + n) (zero-add (one u t))

count_less : (t u : ℕ) (xs : List ℕ) → t ≤ u → count_below t xs ≤ count_below u xs
count_less t u [] h = omega arith
count_less t u (x ∷ xs) h =
    let e = count_cons t x xs in
    let f = count_cons u x xs in
    let g = count_less t u xs h in
    elim (cases_lt x t) [
      | inl a ↦ let p = one_in t x a in let q = one_in u x (omega arith) in omega arith
      | inr a ↦ let p = one_out t x a in omega arith
    ]

count_zero : (xs : List ℕ) → count_below 0 xs ≡ 0
count_zero [] = refl
count_zero (x ∷ xs) = let e = count_cons 0 x xs in let f = one_out 0 x (omega arith) in let g = count_zero xs in omega arith

above_less : (t u : ℕ) (xs : List ℕ) → t ≤ u → AllAbove u xs → AllAbove t xs
above_less t u [] h a = tt
above_less t u (x ∷ xs) h a = let b = a.0 in (omega arith, above_less t u xs h a.1)

count_none : (u : ℕ) (xs : List ℕ) → AllAbove u xs → count_below (suc u) xs ≡ 0
count_none u [] a = refl
count_none u (x ∷ xs) a =
    let b = a.0 in
    count_cons (suc u) x xs ∙ (let p = one_out (suc u) x (omega arith) in let q = count_none u xs a.1 in omega arith)

-- none is below what all are above
count_none_below : (u : ℕ) (xs : List ℕ) → AllAbove u xs → count_below u xs ≡ 0
count_none_below u xs a = let p = count_none u xs a in let q = count_less u (suc u) xs (omega arith) in omega arith

entry_is_step : (xs : List ℕ) (s t : ℕ) → IsIncreasing xs → slice_get xs s ≡ Some t → (count_below t xs ≡ s) × (count_below (suc t) xs ≡ suc s)
entry_is_step [] s t i h = cc
entry_is_step (x ∷ xs) zero t i h =
    let e : x ≡ t = cc in
    let above : AllAbove t xs = subst (λ v. AllAbove v xs) e i.0 in
    let p = count_cons t x xs in
    let q = count_cons (suc t) x xs in
    let a = one_out t x (omega arith) in
    let b = one_in (suc t) x (omega arith) in
    let c = count_none_below t xs above in
    let d = count_none t xs above in
    (omega arith, omega arith)
entry_is_step (x ∷ xs) (suc s) t i h =
    let r = entry_is_step xs s t i.1 h in
    let r0 = r.0 in
    let r1 = r.1 in
    let p = count_cons t x xs in
    let q = count_cons (suc t) x xs in
    let low : x < t = elim (cases_lt x t) [
      | inl l ↦ l
      | inr m ↦ absurd (let z = count_none x xs i.0 in let w = count_less (suc t) (suc x) xs (omega arith) in omega arith)
    ] in
    let a = one_in t x low in
    let b = one_in (suc t) x (omega arith) in
    (omega arith, omega arith)

entries_grow : (xs : List ℕ) (a b s t : ℕ) → IsIncreasing xs → slice_get xs a ≡ Some s → slice_get xs b ≡ Some t → a < b → s < t
entries_grow xs a b s t i h g less = elim (cases_lt s t) [
  | inl l ↦ l
  | inr m ↦ absurd (
      let p = entry_is_step xs a s i h in
      let q = entry_is_step xs b t i g in
      let p0 = p.0 in let q0 = q.0 in
      let w = count_less t s xs m in omega arith)
]

count_front : (xs : List ℕ) (u m : ℕ) → IsIncreasing xs → count_below u xs ≤ m → count_below u (take m xs) ≡ count_below u xs
count_front xs u zero i h = omega arith
count_front [] u (suc m) i h = refl
count_front (x ∷ xs) u (suc m) i h =
    let p = count_cons u x xs in
    let q = count_cons u x (take m xs) in
    elim (cases_lt x u) [
      | inl l ↦ let a = one_in u x l in let r = count_front xs u m i.1 (omega arith) in omega arith
      | inr g ↦
          let a = one_out u x g in
          let z = count_none_below u xs (above_less u x xs g i.0) in
          let r = count_front xs u m i.1 (omega arith) in omega arith
    ]

above_take : (m x : ℕ) (xs : List ℕ) → AllAbove x xs → AllAbove x (take m xs)
above_take zero x xs a = tt
above_take (suc m) x [] a = tt
above_take (suc m) x (y ∷ ys) a = (a.0, above_take m x ys a.1)

front_increases : (m : ℕ) (xs : List ℕ) → IsIncreasing xs → IsIncreasing (take m xs)
front_increases zero xs a = tt
front_increases (suc m) [] a = tt
front_increases (suc m) (y ∷ ys) a = (above_take m y ys a.0, front_increases m ys a.1)

pub table_laws : TableLaws
table_laws = record {
  count_first = λ u t ts h. (let e = count_cons u t ts in let o = one_in u t h in omega arith);
  skip_first = λ u t ts h. (let e = count_cons u t ts in let o = one_out u t h in omega arith);
  count_last = λ u t ts h. (let e = count_snoc u t ts in let o = one_in u t h in omega arith);
  skip_last = λ u t ts h. (let e = count_snoc u t ts in let o = one_out u t h in omega arith);
  count_zero = count_zero;
  count_less = count_less;
  count_none = count_none;
  entry_is_step = entry_is_step;
  entries_grow = entries_grow;
  count_front = count_front;
  front_increases = front_increases;
}
