-- Rows joined place by place, and one row among others.
use Rattle.std.proofs.Common.{◌≡◌, ℕ, ◌+◌, ◌<◌, ◌≤◌, ◌==◌, inl, inr, List, [], length, refl, sym, ◌∙◌, ap, subst, arith}
use Rattle.std.specs.Prelude.{slice_set}
use Rattle.std.proofs.lemmas.Bool.{cases_eq, cases_lt, cond-true, cond-false, eq-eqb, ne_eqb}
use Rattle.std.proofs.lemmas.List.{get_or-set_same, get_or-set_other, get_or_past, length-set}
use Rattle.wl_replica.specs.Keys.{Key}
use Rattle.wl_replica.specs.Dense.{row_number, slot_number, row_of, IsRowRaised, IsGrown}
use Rattle.wl_replica.proofs.DenseWalks.{number_past}

-- ---- one place of a row
module _ (joined : ℕ → ℕ → ℕ) (cur new : List ℕ) (place number : ℕ) (raised : IsRowRaised joined cur place number new) where
  pub raised_here : row_number new place ≡ joined (row_number cur place) number
  raised_here = raised place ∙ cond-true (place == place) (joined (row_number cur place) number) (row_number cur place) (eq-eqb place place refl)

  pub raised_other : (n : ℕ) → ¬ (n ≡ place) → row_number new n ≡ row_number cur n
  raised_other n apart = raised n ∙ cond-false (n == place) (joined (row_number cur n) number) (row_number cur n) (ne_eqb n place apart)

-- What a walk that joins one row into another has done below a place.
pub record IsJoinedTo (joined : ℕ → ℕ → ℕ) (old other cur : List ℕ) (place : ℕ) : Type 0 where
  pub same : length cur ≡ length old
  pub below : (n : ℕ) → n < place → row_number cur n ≡ joined (row_number old n) (row_number other n)
  pub from : (n : ℕ) → place ≤ n → row_number cur n ≡ row_number old n

module _ (joined : ℕ → ℕ → ℕ) (old other cur : List ℕ) (place : ℕ) (h : IsJoinedTo joined old other cur place) where
  pub one_place_more : (new : List ℕ) (number : ℕ) → number ≡ row_number other place → IsRowRaised joined cur place number new → length new ≡ length cur → IsJoinedTo joined old other new (place + 1)
  one_place_more new number is raised count = record {
    same = count ∙ h.same;
    below = λ n lt. elim (cases_eq n place) [
      | inl here ↦ subst (λ k. row_number new k ≡ joined (row_number old k) (row_number other k)) (sym here)
          (raised_here joined cur new place number raised ∙ (λ i. joined (h.from place (omega arith) i) (is i)))
      | inr apart ↦ raised_other joined cur new place number raised n apart ∙ h.below n (omega arith)
    ];
    from = λ n le. raised_other joined cur new place number raised n (λ same. omega (arith, same)) ∙ h.from n (omega arith);
  }

  pub all_places : ((a : ℕ) → joined a 0 ≡ a) → length other ≤ place → (n : ℕ) → row_number cur n ≡ joined (row_number old n) (row_number other n)
  all_places neutral le n = elim (cases_lt n place) [
    | inl lt ↦ h.below n lt
    | inr past ↦ h.from n past ∙ (sym (neutral (row_number old n)) ∙ ap (joined (row_number old n)) (sym (number_past other n (omega arith))))
  ]

-- ---- one row among others
module _ (rows : List (List ℕ)) (i : ℕ) (row : List ℕ) (lt : i < length rows) where
  pub set_here : row_of (slice_set rows i row) i ≡ row
  set_here = get_or-set_same rows i row [] lt

  pub set_other : (j : ℕ) → ¬ (j ≡ i) → row_of (slice_set rows i row) j ≡ row_of rows j
  set_other j apart = get_or-set_other rows i j row [] apart

  -- a row that is longer perhaps
  pub grown_one : length (row_of rows i) ≤ length row → ((n : ℕ) → row_number row n ≡ row_number (row_of rows i) n) → IsGrown rows (slice_set rows i row)
  grown_one longer same = record {
    count = length-set rows i row;
    same = λ q. elim (cases_eq q.0 i) [
      | inl here ↦ ap (λ r. row_number r q.1) (ap (λ k. row_of (slice_set rows i row) k) here ∙ set_here) ∙ (same q.1 ∙ ap (λ k. row_number (row_of rows k) q.1) (sym here))
      | inr apart ↦ ap (λ r. row_number r q.1) (set_other q.0 apart)
    ];
    longer = λ j. elim (cases_eq j i) [
      | inl here ↦ subst (λ k. length (row_of rows k) ≤ length (row_of (slice_set rows i row) k)) (sym here) (omega (arith, longer, ap (λ (r : List ℕ). length r) set_here))
      | inr apart ↦ omega (arith, ap (λ (r : List ℕ). length r) (set_other j apart))
    ];
  }

pub grown_none : (rows : List (List ℕ)) → IsGrown rows rows
grown_none rows = record { count = refl; same = λ q. refl; longer = λ i. omega arith }

pub grown_more : (a b c : List (List ℕ)) → IsGrown a b → IsGrown b c → IsGrown a c
grown_more a b c h k = record { count = k.count ∙ h.count; same = λ q. k.same q ∙ h.same q; longer = λ i. omega (arith, h.longer i, k.longer i) }

-- What a walk that joins rows into others has done below a node.
pub record AreJoinedTo (joined : ℕ → ℕ → ℕ) (old others cur : List (List ℕ)) (node : ℕ) : Type 0 where
  pub count : length cur ≡ length old
  pub below : (i n : ℕ) → i < node → row_number (row_of cur i) n ≡ joined (row_number (row_of old i) n) (row_number (row_of others i) n)
  pub from : (i : ℕ) → node ≤ i → row_of cur i ≡ row_of old i

module _ (joined : ℕ → ℕ → ℕ) (old others cur : List (List ℕ)) (node : ℕ) (h : AreJoinedTo joined old others cur node) where
  pub one_row_more : (mine other row : List ℕ) → node < length old → mine ≡ row_of cur node → other ≡ row_of others node
      → ((n : ℕ) → row_number row n ≡ joined (row_number mine n) (row_number other n)) → AreJoinedTo joined old others (slice_set cur node row) (node + 1)
  one_row_more mine other row lt is theirs all =
      let within : node < length cur = omega (arith, h.count) in
      record {
        count = length-set cur node row ∙ h.count;
        below = λ i n less. elim (cases_eq i node) [
          | inl here ↦ subst (λ k. row_number (row_of (slice_set cur node row) k) n ≡ joined (row_number (row_of old k) n) (row_number (row_of others k) n)) (sym here)
              (ap (λ r. row_number r n) (set_here cur node row within) ∙ (all n ∙ (λ j. joined (row_number ((is ∙ h.from node (omega arith)) j) n) (row_number (theirs j) n))))
          | inr apart ↦ ap (λ r. row_number r n) (set_other cur node row within i apart) ∙ h.below i n (omega arith)
        ];
        from = λ i le. set_other cur node row within i (λ same. omega (arith, same)) ∙ h.from i (omega arith);
      }

  pub all_rows : (nodes : ℕ) → ((a : ℕ) → joined a 0 ≡ a) → length old ≡ nodes → length others ≡ nodes → nodes ≤ node
      → (q : Key) → slot_number cur q ≡ joined (slot_number old q) (slot_number others q)
  all_rows nodes neutral mine theirs le q = elim (cases_lt q.0 node) [
    | inl lt ↦ h.below q.0 q.1 lt
    | inr past ↦ ap (λ r. row_number r q.1) (h.from q.0 past) ∙ (sym (neutral (slot_number old q)) ∙ ap (λ (r : List ℕ). joined (slot_number old q) (row_number r q.1)) (sym (get_or_past others q.0 [] (omega arith))))
  ]
