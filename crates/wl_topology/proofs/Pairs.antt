-- The first pair that passes, in a part of the list of all pairs and in the whole.
use Rattle.std.proofs.Common.{◌≡◌, ℕ, zero, suc, ◌+◌, ◌<◌, ◌≤◌, ◌∙◌, inl, inr, List, [], ◌∷◌, ◌++◌, find, Bool, true, false, cond, Option, Some, None, refl, sym, ap, subst, arith, add-one, length}
use Rattle.std.specs.Option.{option_or}
use Rattle.std.proofs.lemmas.Bool.{cases_lt, eqb-false, ltb-false, ne_eqb, le-ltb}
use Rattle.std.proofs.lemmas.List.Folds.{find-append}
use Rattle.std.proofs.Math.Nat.{pos_of_ne-zero}
use Rattle.wl_topology.specs.Limits.{most_places}
use Rattle.wl_topology.specs.Delays.{Cable, propagation_of, row, rows, pairs, is_zero, is_long, IsTopology}

none_left : (a b : Option (ℕ × ℕ)) → option_or a b ≡ None → a ≡ None
none_left None b h = refl
none_left (Some p) b h = cc

none_right : (a b : Option (ℕ × ℕ)) → option_or a b ≡ None → b ≡ None
none_right None b h = h
none_right (Some p) b h = cc

none_cond : (b : Bool) (p : ℕ × ℕ) → cond b (Some p) None ≡ None → b ≡ false
none_cond true p h = cc
none_cond false p h = refl

module _ (test : ℕ × ℕ → Bool) where
  found_front : (xs ys : List (ℕ × ℕ)) (p : ℕ × ℕ) → find test xs ≡ Some p → find test (xs ++ ys) ≡ Some p
  found_front xs ys p e = find-append test xs ys ∙ ap (λ o. option_or o (find test ys)) e

  -- the pairs of a row's front, and one more
  pub row_more : (i j : ℕ) → find test (row i j) ≡ None → find test (row i (j + 1)) ≡ cond (test (i, j)) (Some (i, j)) None
  row_more i j e =
      ap (λ n. find test (row i n)) (add-one j)
      ∙ find-append test (row i j) ((i, j) ∷ [])
      ∙ ap (λ o. option_or o (cond (test (i, j)) (Some (i, j)) None)) e

  pub rows_more : (n i : ℕ) → find test (rows n i) ≡ None → find test (rows n (i + 1)) ≡ find test (row i n)
  rows_more n i e =
      ap (λ m. find test (rows n m)) (add-one i)
      ∙ find-append test (rows n i) (row i n)
      ∙ ap (λ o. option_or o (find test (row i n))) e

  -- a pair found in a row's front is found in the row
  pub found_in_row : (i m n : ℕ) (p : ℕ × ℕ) → m ≤ n → find test (row i m) ≡ Some p → find test (row i n) ≡ Some p
  found_in_row i m zero p h e = let same : m ≡ 0 = omega arith in subst (λ k. find test (row i k) ≡ Some p) same e
  found_in_row i m (suc n) p h e =
      elim (cases_lt n m) [
        | inl past ↦ (let same : m ≡ suc n = omega arith in subst (λ k. find test (row i k) ≡ Some p) same e)
        | inr within ↦ found_front (row i n) ((i, n) ∷ []) p (found_in_row i m n p within e)
      ]

  -- and so of rows
  pub found_in_rows : (n i m : ℕ) (p : ℕ × ℕ) → i ≤ m → find test (rows n i) ≡ Some p → find test (rows n m) ≡ Some p
  found_in_rows n i zero p h e = let same : i ≡ 0 = omega arith in subst (λ k. find test (rows n k) ≡ Some p) same e
  found_in_rows n i (suc m) p h e =
      elim (cases_lt m i) [
        | inl past ↦ (let same : i ≡ suc m = omega arith in subst (λ k. find test (rows n k) ≡ Some p) same e)
        | inr within ↦ found_front (rows n m) (row m n) p (found_in_rows n i m p within e)
      ]

  -- where no pair of a row is found, each fails
  none_in_row : (i n j : ℕ) → j < n → find test (row i n) ≡ None → test (i, j) ≡ false
  none_in_row i zero j h e = absurd (omega arith)
  none_in_row i (suc n) j h e =
      let parts : option_or (find test (row i n)) (cond (test (i, n)) (Some (i, n)) None) ≡ None = sym (find-append test (row i n) ((i, n) ∷ [])) ∙ e in
      elim (cases_lt j n) [
        | inl before ↦ none_in_row i n j before (none_left _ _ parts)
        | inr last ↦ (let same : n ≡ j = omega arith in subst (λ k. test (i, k) ≡ false) same (none_cond _ _ (none_right _ _ parts)))
      ]

  pub none_in_rows : (n m i j : ℕ) → i < m → j < n → find test (rows n m) ≡ None → test (i, j) ≡ false
  none_in_rows n zero i j hi hj e = absurd (omega arith)
  none_in_rows n (suc m) i j hi hj e =
      let parts : option_or (find test (rows n m)) (find test (row m n)) ≡ None = sym (find-append test (rows n m) (row m n)) ∙ e in
      elim (cases_lt i m) [
        | inl before ↦ none_in_rows n m i j before hj (none_left _ _ parts)
        | inr last ↦ (let same : m ≡ i = omega arith in subst (λ k. test (k, j) ≡ false) same (none_in_row m n j hj (none_right _ _ parts)))
      ]

  -- and where each pair fails none is found
  none_of_row : (i n : ℕ) → ((j : ℕ) → j < n → test (i, j) ≡ false) → find test (row i n) ≡ None
  none_of_row i zero h = refl
  none_of_row i (suc n) h =
      find-append test (row i n) ((i, n) ∷ [])
      ∙ ap (λ o. option_or o (cond (test (i, n)) (Some (i, n)) None)) (none_of_row i n (λ j lt. h j (omega arith)))
      ∙ ap (λ b. cond b (Some (i, n)) None) (h n (omega arith))

  pub none_of_rows : (n m : ℕ) → ((i j : ℕ) → i < m → j < n → test (i, j) ≡ false) → find test (rows n m) ≡ None
  none_of_rows n zero h = refl
  none_of_rows n (suc m) h =
      find-append test (rows n m) (row m n)
      ∙ ap (λ o. option_or o (find test (row m n))) (none_of_rows n m (λ i j hi hj. h i j (omega arith) hj))
      ∙ none_of_row m n (λ j hj. h m j (omega arith) hj)

-- a cable in which no pair of nodes is refused
pub topology_from : (cable : Cable) → 1 ≤ length cable.places → length cable.places ≤ most_places
    → find (is_zero cable) (pairs cable) ≡ None → find (is_long cable) (pairs cable) ≡ None → IsTopology cable
topology_from cable some_node few_nodes zeros longs = record {
  some_node = some_node;
  few_nodes = few_nodes;
  positive = λ i j hi hj. pos_of_ne-zero (eqb-false (propagation_of cable i j) 0 (none_in_rows (is_zero cable) _ _ i j hi hj zeros));
  short = λ i j hi hj. ltb-false _ _ (none_in_rows (is_long cable) _ _ i j hi hj longs);
}

-- and the other way
pub no_zeros : (cable : Cable) → IsTopology cable → find (is_zero cable) (pairs cable) ≡ None
no_zeros cable h =
    none_of_rows (is_zero cable) (length cable.places) (length cable.places) (λ i j hi hj. ne_eqb (propagation_of cable i j) 0 (λ e. omega (arith, h.positive i j hi hj)))

pub no_longs : (cable : Cable) → IsTopology cable → find (is_long cable) (pairs cable) ≡ None
no_longs cable h = none_of_rows (is_long cable) _ _ (λ i j hi hj. le-ltb _ _ (h.short i j hi hj))
