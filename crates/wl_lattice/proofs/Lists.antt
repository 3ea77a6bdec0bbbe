-- One place more of two lists of one length, joined in the first.
use Rattle.std.proofs.Common.{◌≡◌, ℕ, ◌<◌, ◌≤◌, List, [], ◌∷◌, ◌++◌, length, get_or, take, drop, set, replicate, refl, ap, arith}
use Prim.Native.Nat.{zero, suc}
use Rattle.wl_lattice.specs.Products.{joined_lists}

module _ {W : Type 0} (joined : W → W → W) where
  -- joined before i, and still to join from i on
  abbrev pub half_joined : ℕ → List W → List W → List W
  half_joined i xs ys = take i xs ++ joined_lists joined (drop i xs) (drop i ys)

  pub half_joined-set : (i : ℕ) (xs ys : List W) (d : W) → i < length xs → i < length ys
      → half_joined (suc i) (set xs i (joined (get_or xs i d) (get_or ys i d))) ys ≡ half_joined i xs ys
  half_joined-set i [] ys d p q = absurd (omega arith)
  half_joined-set i (x ∷ xs) [] d p q = absurd (omega arith)
  half_joined-set zero (x ∷ xs) (y ∷ ys) d p q = refl
  half_joined-set (suc i) (x ∷ xs) (y ∷ ys) d p q = ap (λ zs. x ∷ zs) (half_joined-set i xs ys d (omega arith) (omega arith))

  pub half_joined-end : (n : ℕ) (xs ys : List W) → length xs ≤ n → length xs ≡ length ys → half_joined n xs ys ≡ xs
  half_joined-end zero [] [] p q = refl
  half_joined-end (suc n) [] [] p q = refl
  half_joined-end n [] (y ∷ ys) p q = absurd (omega arith)
  half_joined-end n (x ∷ xs) [] p q = absurd (omega arith)
  half_joined-end zero (x ∷ xs) (y ∷ ys) p q = absurd (omega arith)
  half_joined-end (suc n) (x ∷ xs) (y ∷ ys) p q = ap (λ zs. x ∷ zs) (half_joined-end n xs ys (omega arith) (omega arith))

-- a list whose places all hold one value is copies of it
pub all_same : {W : Type 0} (w : W) (n : ℕ) (xs : List W) → length xs ≡ n → ((i : ℕ) → i < n → get_or xs i w ≡ w) → xs ≡ replicate n w
all_same w zero [] e h = refl
all_same w (suc n) [] e h = absurd (omega arith)
all_same w zero (x ∷ xs) e h = absurd (omega arith)
all_same w (suc n) (x ∷ xs) e h =
    let rest : (i : ℕ) → i < n → get_or xs i w ≡ w = λ i lt. h (suc i) (omega arith) in
    let tail : xs ≡ replicate n w = all_same w n xs (omega arith) rest in
    λ i. h zero (omega arith) i ∷ tail i
