-- Edges in which a node catches up: no more of them if it is earlier by less, with a jump that is no shorter.
use Rattle.std.proofs.Common.{ℕ, ◌+◌, ◌-◌, ◌*◌, ◌<◌, ◌≤◌, ◌⊎◌, nat_le, min, Bool, true, false, cond, inl, inr, arith}
use Rattle.std.specs.Int.{div_ceil}
use Rattle.std.proofs.lemmas.Bool.{cases_lt, le-leb, lt-leb}
use Rattle.std.proofs.lemmas.Grind.{div_ceil_times}
use Rattle.std.proofs.Math.Nat.{mul-le-mul_right}
use Rattle.wl_bound.proofs.Harder.{ceil_le, ceil_within}

-- a quotient of more than 14
ceil_beyond : (x d : ℕ) → 0 < d → 14 * d < x → 14 < div_ceil x d
ceil_beyond x d some lt =
    elim (cases_lt 14 (div_ceil x d)) [
      | inl above ↦ above
      | inr within ↦
          (let upper = (div_ceil_times x d some).0 in
          let wide : div_ceil x d * d ≤ 14 * d = mul-le-mul_right d within in
          absurd (omega arith))
    ]

-- the edges that are not sparse, and all, by their numbers alone
unfoldable pub many_by : ℕ → ℕ → ℕ → ℕ
many_by x j l = cond (nat_le j 0) 74 (min 74 (div_ceil (x + 14 * l) j))

unfoldable pub edges_by : ℕ → ℕ → ℕ → ℕ → ℕ
edges_by e q j l = cond (nat_le e q) 0 (cond (nat_le (e - q) (14 * (j - l))) (div_ceil (e - q) (j - l)) (many_by (e - q) j l))

many_beyond : (y k m : ℕ) → 14 * (k - m) < y → 14 ≤ many_by y k m
unfolding many_by
many_beyond y k m lt =
    elim (cases_lt 0 k) [
      | inr none ↦ rw (le-leb k 0 none) (omega arith)
      | inl some ↦ rw (lt-leb k 0 some) (let more = ceil_beyond (y + 14 * m) k some (omega arith) in omega arith)
    ]

many_le : (x y j k l m : ℕ) → x ≤ y → k ≤ j → l ≤ m → many_by x j l ≤ many_by y k m
unfolding many_by
many_le x y j k l m hx hj hl =
    elim (cases_lt 0 k) [
      | inr none ↦ rw (le-leb k 0 none) (at_most (nat_le j 0) (div_ceil (x + 14 * l) j))
      | inl some ↦
          rw (lt-leb k 0 some, lt-leb j 0 (omega arith)) (let less = ceil_le (x + 14 * l) (y + 14 * m) j k some hj (omega arith) in omega arith)
    ]
  where
    at_most : (v : Bool) (n : ℕ) → cond v 74 (min 74 n) ≤ 74
    at_most true n = omega arith
    at_most false n = omega arith

pub edges_by_le : (e q j l f r k m : ℕ) → e ≤ f → r ≤ q → k ≤ j → l ≤ m → edges_by e q j l ≤ edges_by f r k m
unfolding edges_by
edges_by_le e q j l f r k m he hq hj hl =
    elim (cases_lt q e) [
      | inr soon ↦ rw (le-leb e q soon) (omega arith)
      | inl far ↦ rw (lt-leb e q far, lt-leb f r (omega arith)) (later far (cases_lt (14 * (j - l)) (e - q)) (cases_lt (14 * (k - m)) (f - r)))
    ]
  where
    later : q < e → (14 * (j - l) < e - q) ⊎ (e - q ≤ 14 * (j - l)) → (14 * (k - m) < f - r) ⊎ (f - r ≤ 14 * (k - m))
        → cond (nat_le (e - q) (14 * (j - l))) (div_ceil (e - q) (j - l)) (many_by (e - q) j l)
        ≤ cond (nat_le (f - r) (14 * (k - m))) (div_ceil (f - r) (k - m)) (many_by (f - r) k m)
    later far (inl dense) (inl other) =
        rw (lt-leb (e - q) (14 * (j - l)) dense, lt-leb (f - r) (14 * (k - m)) other) (many_le (e - q) (f - r) j k l m (omega arith) hj hl)
    later far (inl dense) (inr other) = absurd (omega arith)
    later far (inr sparse) (inl other) =
        rw (le-leb (e - q) (14 * (j - l)) sparse, lt-leb (f - r) (14 * (k - m)) other)
        (let few = ceil_within (e - q) (j - l) (omega arith) sparse in let more = many_beyond (f - r) k m other in omega arith)
    later far (inr sparse) (inr other) =
        rw (le-leb (e - q) (14 * (j - l)) sparse, le-leb (f - r) (14 * (k - m)) other)
        (ceil_le (e - q) (f - r) (j - l) (k - m) (omega arith) (omega arith) (omega arith))
