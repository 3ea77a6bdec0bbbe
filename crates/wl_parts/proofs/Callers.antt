-- Slices of lists, for callers too.
use Rattle.std.proofs.Common.{◌≡◌, ◌∙◌, ◌-◌, ◌≤◌, min, ℕ, zero, suc, List, [], ◌∷◌, ◌++◌, length, take, drop, refl, sym, ap, arith}
use Rattle.std.proofs.lemmas.List.{take_all, length-take, length-drop}
use Rattle.std.proofs.Math.Seq.{drop-nil}
use Rattle.wl_parts.specs.Whole.{slice}

module _ {X : Type 0} where
  pub slice-nil : (lo hi : ℕ) → slice {X = X} lo hi [] ≡ []
  slice-nil lo hi = ap (drop lo) (take_all hi [] (omega arith)) ∙ drop-nil lo

  slice_none : (lo hi : ℕ) (xs : List X) → hi ≡ 0 → slice lo hi xs ≡ []
  slice_none lo hi xs none = ap (λ k. slice lo k xs) none ∙ drop-nil lo

  -- of two lists, one after the other
  pub slice-append : (lo hi : ℕ) (xs ys : List X) → slice lo hi (xs ++ ys) ≡ slice lo hi xs ++ slice (lo - length xs) (hi - length xs) ys
  slice-append lo hi [] ys =
      let low : lo ≡ lo - 0 = omega arith in
      let high : hi ≡ hi - 0 = omega arith in
      (λ i. slice (low i) (high i) ys) ∙ sym (ap (λ l. l ++ slice (lo - 0) (hi - 0) ys) (slice-nil lo hi))
  slice-append lo zero (x ∷ xs) ys =
      slice_none lo 0 (x ∷ (xs ++ ys)) refl
      ∙ sym (λ i. slice_none lo 0 (x ∷ xs) refl i ++ slice_none (lo - length (x ∷ xs)) (0 - length (x ∷ xs)) ys (omega arith) i)
  slice-append zero (suc hi) (x ∷ xs) ys =
      let low : 0 - length xs ≡ 0 - suc (length xs) = omega arith in
      let high : hi - length xs ≡ suc hi - suc (length xs) = omega arith in
      ap (λ l. x ∷ l) (slice-append 0 hi xs ys)
      ∙ (λ i. x ∷ (slice 0 hi xs ++ slice (low i) (high i) ys))
  slice-append (suc lo) (suc hi) (x ∷ xs) ys =
      let low : lo - length xs ≡ suc lo - suc (length xs) = omega arith in
      let high : hi - length xs ≡ suc hi - suc (length xs) = omega arith in
      slice-append lo hi xs ys
      ∙ (λ i. slice lo hi xs ++ slice (low i) (high i) ys)

  -- one slice and the next
  pub slice-join : (lo mid hi : ℕ) (xs : List X) → lo ≤ mid → mid ≤ hi → slice lo mid xs ++ slice mid hi xs ≡ slice lo hi xs
  slice-join lo mid hi [] low high = (λ i. slice-nil lo mid i ++ slice-nil mid hi i) ∙ sym (slice-nil lo hi)
  slice-join zero zero hi (x ∷ xs) low high = refl
  slice-join (suc lo) zero hi (x ∷ xs) low high = absurd (omega arith)
  slice-join lo (suc mid) zero (x ∷ xs) low high = absurd (omega arith)
  slice-join zero (suc mid) (suc hi) (x ∷ xs) low high = ap (λ l. x ∷ l) (slice-join 0 mid hi xs (omega arith) (omega arith))
  slice-join (suc lo) (suc mid) (suc hi) (x ∷ xs) low high = slice-join lo mid hi xs (omega arith) (omega arith)

  pub length-slice : (lo hi : ℕ) (xs : List X) → length (slice lo hi xs) ≡ min hi (length xs) - lo
  length-slice lo hi xs = length-drop lo (take hi xs) ∙ ap (λ n. n - lo) (length-take hi xs)

  pub slice_all : (hi : ℕ) (xs : List X) → length xs ≤ hi → slice 0 hi xs ≡ xs
  slice_all hi xs most = take_all hi xs most
