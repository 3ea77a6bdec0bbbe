-- The entries of rows: they are in order, they have the words of the rows, and those of a node are its row's.
use Rattle.std.proofs.Common.{◌≡◌, ℕ, zero, suc, ◌-◌, ◌<◌, ◌≤◌, false, cond, inl, inr, List, [], ◌∷◌, None, Some, unwrap_or, refl, sym, ◌∙◌, ap, subst, arith, length}
use Rattle.std.specs.Prelude.{slice_index_or}
use Rattle.std.specs.List.{AllByRecursion}
use Rattle.std.specs.List.Sorted.{IsStrictlySortedBy}
use Rattle.std.specs.Map.{keys_of}
use Rattle.std.specs.declared.cmp.Ordering.TheVariants.{Less}
use Rattle.std.specs.BTreeMap.{is_at}
use Rattle.std.proofs.lemmas.Bool.{cases_eq, ne_eqb, eq-eqb}
use Rattle.std.proofs.lemmas.Bool.Decides.{nat_tests}
use Rattle.wl_replica.specs.Keys.{Key, key_cmp}
use Rattle.wl_replica.specs.Canonical.{of_node}
use Rattle.wl_replica.specs.Dense.{row_number, slot_number, row_entries, rows_entries}
use Rattle.wl_replica.proofs.KeptLemmas.{found}
use Rattle.wl_replica.proofs.WalkLemmas.{number_at_is, number_after}

pub less_in_row : (i m n : ℕ) → m < n → key_cmp (i, m) (i, n) ≡ Less
less_in_row i m n h = grind (arith, nat_tests)

pub less_by_node : (x y : Key) → x.0 < y.0 → key_cmp x y ≡ Less
less_by_node x y h = grind (arith, nat_tests)

pub other_node : (node n : ℕ) (k : Key) → ¬ (k.0 ≡ node) → is_at (key_cmp (node, n)) k ≡ false
other_node node n k h = grind (arith, nat_tests)

module _ {W : Type 0} (word : ℕ → W) where
  -- every key is of a node past this one
  abbrev pub Past : ℕ → List (Key × W) → Type 0
  Past i es = AllByRecursion (λ (y : Key). i < y.0) (keys_of es)

  pub past_row : (i j n : ℕ) (row : List ℕ) (es : List (Key × W)) → i < j → Past i es → Past i (row_entries word j n row es)
  past_row i j n [] es lt h = h
  past_row i j n (a ∷ row) es lt h = (lt, past_row i j (suc n) row es lt h)

  past_rows : (i j : ℕ) (rows : List (List ℕ)) → i < j → Past i (rows_entries word j rows)
  past_rows i j [] lt = tt
  past_rows i j (row ∷ rows) lt = past_row i j 0 row (rows_entries word (suc j) rows) lt (past_rows i (suc j) rows (omega arith))

  pub below_others : (x : Key) (es : List (Key × W)) → Past x.0 es → AllByRecursion (λ y. key_cmp x y ≡ Less) (keys_of es)
  below_others x [] h = tt
  below_others x (e ∷ es) h = (less_by_node x e.0 h.0, below_others x es h.1)

  below_row : (i m n : ℕ) (row : List ℕ) (es : List (Key × W)) → m < n → Past i es → AllByRecursion (λ y. key_cmp (i, m) y ≡ Less) (keys_of (row_entries word i n row es))
  below_row i m n [] es lt h = below_others (i, m) es h
  below_row i m n (a ∷ row) es lt h = (less_in_row i m n lt, below_row i m (suc n) row es (omega arith) h)

  row_sorted : (i n : ℕ) (row : List ℕ) (es : List (Key × W)) → Past i es → IsStrictlySortedBy key_cmp (keys_of es) → IsStrictlySortedBy key_cmp (keys_of (row_entries word i n row es))
  unfolding IsStrictlySortedBy
  row_sorted i n [] es h s = s
  row_sorted i n (a ∷ row) es h s = (below_row i n (suc n) row es (omega arith) h, row_sorted i (suc n) row es h s)

  pub rows_sorted : (i : ℕ) (rows : List (List ℕ)) → IsStrictlySortedBy key_cmp (keys_of (rows_entries word i rows))
  unfolding IsStrictlySortedBy
  rows_sorted i [] = tt
  rows_sorted i (row ∷ rows) = row_sorted i 0 row (rows_entries word (suc i) rows) (past_rows i (suc i) rows (omega arith)) (rows_sorted (suc i) rows)

  -- ---- what is found at a key
  pub found_past : (node n : ℕ) (es : List (Key × W)) → Past node es → found es (node, n) ≡ None
  found_past node n [] h = refl
  found_past node n (e ∷ es) h =
      let apart : ¬ (e.0.0 ≡ node) = λ e'. omega (arith, h.0, e') in
      ap (λ b. cond b (Some e.1) (found es (node, n))) (other_node node n e.0 apart) ∙ found_past node n es h.1

  pub found_other : (node n i m : ℕ) (row : List ℕ) (es : List (Key × W)) → ¬ (i ≡ node) → found (row_entries word i m row es) (node, n) ≡ found es (node, n)
  found_other node n i m [] es apart = refl
  found_other node n i m (a ∷ row) es apart =
      ap (λ b. cond b (Some (word a)) (found (row_entries word i (suc m) row es) (node, n))) (other_node node n (i, m) apart) ∙ found_other node n i (suc m) row es apart

  found_row : (i n m : ℕ) (row : List ℕ) (es : List (Key × W)) → Past i es → m ≤ n
      → unwrap_or (found (row_entries word i m row es) (i, n)) (word 0) ≡ word (row_number row (n - m))
  found_row i n m [] es h le = ap (λ o. unwrap_or o (word 0)) (found_past i n es h)
  found_row i n m (a ∷ row) es h le = elim (cases_eq m n) [
    | inl same ↦
        let here : n - m ≡ 0 = omega arith in
        ap (λ b. unwrap_or (cond b (Some (word a)) (found (row_entries word i (suc m) row es) (i, n))) (word 0)) (number_at_is i n (i, m) refl same)
        ∙ ap (λ k. word (row_number (a ∷ row) k)) (sym here)
    | inr other ↦
        let next : n - m ≡ suc (n - suc m) = omega arith in
        ap (λ b. unwrap_or (cond b (Some (word a)) (found (row_entries word i (suc m) row es) (i, n))) (word 0)) (number_after i n (i, m) (omega arith))
        ∙ (found_row i n (suc m) row es h (omega arith) ∙ ap (λ k. word (row_number (a ∷ row) k)) (sym next))
  ]

  found_rows : (node n i : ℕ) (rows : List (List ℕ)) → i ≤ node
      → unwrap_or (found (rows_entries word i rows) (node, n)) (word 0) ≡ word (row_number (slice_index_or rows (node - i) []) n)
  found_rows node n i [] le = refl
  found_rows node n i (row ∷ rows) le = elim (cases_eq i node) [
    | inl same ↦
        let here : node - i ≡ 0 = omega arith in
        let others = rows_entries word (suc i) rows in
        let none : n - 0 ≡ n = omega arith in
        subst (λ k. unwrap_or (found (row_entries word i 0 row others) (k, n)) (word 0) ≡ word (row_number (slice_index_or (row ∷ rows) (node - i) []) n)) same
        (found_row i n 0 row others (past_rows i (suc i) rows (omega arith)) (omega arith) ∙ (ap (λ k. word (row_number row k)) none
        ∙ ap (λ k. word (row_number (slice_index_or (row ∷ rows) k []) n)) (sym here)))
    | inr other ↦
        let next : node - i ≡ suc (node - suc i) = omega arith in
        ap (λ o. unwrap_or o (word 0)) (found_other node n i 0 row (rows_entries word (suc i) rows) other)
        ∙ (found_rows node n (suc i) rows (omega arith) ∙ ap (λ k. word (row_number (slice_index_or (row ∷ rows) k []) n)) (sym next))
  ]

  -- the word at a key is that of its number
  pub rows_have : (rows : List (List ℕ)) (q : Key) → unwrap_or (found (rows_entries word 0 rows) q) (word 0) ≡ word (slot_number rows q)
  rows_have rows q = let none : q.0 - 0 ≡ q.0 = omega arith in found_rows q.0 q.1 0 rows (omega arith) ∙ ap (λ k. word (row_number (slice_index_or rows k []) q.1)) none

  -- ---- the entries of a node
  pub none_past : (node : ℕ) (es : List (Key × W)) → Past node es → of_node node es ≡ []
  none_past node [] h = refl
  none_past node (e ∷ es) h =
      let apart : ¬ (e.0.0 ≡ node) = λ e'. omega (arith, h.0, e') in
      ap (λ b. cond b (e ∷ of_node node es) (of_node node es)) (ne_eqb e.0.0 node apart) ∙ none_past node es h.1

  node_row : (i n : ℕ) (row : List ℕ) (es : List (Key × W)) → Past i es → of_node i (row_entries word i n row es) ≡ row_entries word i n row []
  node_row i n [] es h = none_past i es h
  node_row i n (a ∷ row) es h =
      ap (λ b. cond b (((i, n), word a) ∷ of_node i (row_entries word i (suc n) row es)) (of_node i (row_entries word i (suc n) row es))) (eq-eqb i i refl)
      ∙ ap (λ fs. ((i, n), word a) ∷ fs) (node_row i (suc n) row es h)

  pub other_row : (node i n : ℕ) (row : List ℕ) (es : List (Key × W)) → ¬ (i ≡ node) → of_node node (row_entries word i n row es) ≡ of_node node es
  other_row node i n [] es apart = refl
  other_row node i n (a ∷ row) es apart =
      ap (λ b. cond b (((i, n), word a) ∷ of_node node (row_entries word i (suc n) row es)) (of_node node (row_entries word i (suc n) row es))) (ne_eqb i node apart)
      ∙ other_row node i (suc n) row es apart

  node_rows : (node i : ℕ) (rows : List (List ℕ)) → i ≤ node → of_node node (rows_entries word i rows) ≡ row_entries word node 0 (slice_index_or rows (node - i) []) []
  node_rows node i [] le = refl
  node_rows node i (row ∷ rows) le = elim (cases_eq i node) [
    | inl same ↦
        let here : node - i ≡ 0 = omega arith in
        let others = rows_entries word (suc i) rows in
        subst (λ k. of_node k (row_entries word i 0 row others) ≡ row_entries word k 0 (slice_index_or (row ∷ rows) (node - i) []) []) same
        (node_row i 0 row others (past_rows i (suc i) rows (omega arith)) ∙ ap (λ k. row_entries word i 0 (slice_index_or (row ∷ rows) k []) []) (sym here))
    | inr other ↦
        let next : node - i ≡ suc (node - suc i) = omega arith in
        other_row node i 0 row (rows_entries word (suc i) rows) other
        ∙ (node_rows node (suc i) rows (omega arith) ∙ ap (λ k. row_entries word node 0 (slice_index_or (row ∷ rows) k []) []) (sym next))
  ]

  -- the entries of a node are its row's
  pub of_node_rows : (node : ℕ) (rows : List (List ℕ)) → of_node node (rows_entries word 0 rows) ≡ row_entries word node 0 (slice_index_or rows node []) []
  of_node_rows node rows = let none : node - 0 ≡ node = omega arith in node_rows node 0 rows (omega arith) ∙ ap (λ k. row_entries word node 0 (slice_index_or rows k []) []) none

-- at a place within, it does not matter what else would be answered
pub same_within : {X : Type 0} (xs : List X) (i : ℕ) (d e : X) → i < length xs → slice_index_or xs i d ≡ slice_index_or xs i e
same_within [] i d e lt = absurd (omega arith)
same_within (x ∷ xs) zero d e lt = refl
same_within (x ∷ xs) (suc i) d e lt = same_within xs i d e (omega arith)
