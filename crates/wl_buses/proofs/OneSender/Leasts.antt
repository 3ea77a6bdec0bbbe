-- The least of some numbers.
use Rattle.std.proofs.Common.{◌≡◌, ◌⊎◌, inl, inr, refl, ℕ, zero, suc, ◌<◌, ◌≤◌, arith, min}
use Rattle.std.proofs.lemmas.Bool.{cases_lt, cases_eq}
use Rattle.std.proofs.Common.{sym, ap, ◌+◌, ◌*◌}

-- the least of a number and the first n of others
abbrev pub least : ℕ → (ℕ → ℕ) → ℕ → ℕ
least most f zero = most
least most f (suc n) = min (least most f n) (f n)

pub least_most : (most : ℕ) (f : ℕ → ℕ) (n : ℕ) → least most f n ≤ most
least_most most f zero = omega arith
least_most most f (suc n) = let e = least_most most f n in omega arith

pub least_each : (most : ℕ) (f : ℕ → ℕ) (n i : ℕ) → i < n → least most f n ≤ f i
least_each most f zero i less = absurd (omega arith)
least_each most f (suc n) i less = elim (cases_eq i n) [
  | inl here ↦ (let e : f n ≡ f i = ap f (sym here) in omega arith)
  | inr other ↦ (let e = least_each most f n i (omega arith) in omega arith)
]

pub least_from : (most : ℕ) (f : ℕ → ℕ) (n low : ℕ) → low ≤ most → ((i : ℕ) → i < n → low ≤ f i) → low ≤ least most f n
least_from most f zero low h each = h
least_from most f (suc n) low h each = let e = least_from most f n low h (λ i less. each i (omega arith)) in let g = each n (omega arith) in omega arith

pub least_is : (most : ℕ) (f : ℕ → ℕ) (n : ℕ) → (least most f n ≡ most) ⊎ ((i : ℕ) × (i < n) × (least most f n ≡ f i))
least_is most f zero = inl refl
least_is most f (suc n) = elim (cases_lt (f n) (least most f n)) [
  | inl less ↦ inr (n, omega arith, omega arith)
  | inr more ↦ elim (least_is most f n) [
    | inl e ↦ inl (omega arith)
    | inr r ↦ inr (r.0, (let a = r.1 in omega arith), (let e = r.2 in omega arith))
  ]
]

-- bits and places in them
pub split : (x B : ℕ) → 0 < B → (c : ℕ) × (p : ℕ) × (p < B) × (x ≡ c * B + p)
split zero B some = (0, 0, some, omega arith)
split (suc x) B some =
    let r = split x B some in
    let inside = r.2 in
    let e = r.3 in
    elim (cases_eq (suc r.1) B) [
      | inl over ↦ (suc r.0, 0, some, omega arith)
      | inr on ↦ (r.0, suc r.1, omega arith, omega arith)
    ]
