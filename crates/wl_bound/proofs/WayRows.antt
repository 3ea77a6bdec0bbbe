-- The table of ways, row by row: the place of nodes i and j is 64 i + j.
use Rattle.std.proofs.Common.{◌≡◌, ℕ, ◌+◌, ◌*◌, ◌<◌, ◌≤◌, inl, inr, List, length, slice_index_or, slice_set, sym, subst, arith}
use Rattle.std.proofs.lemmas.Bool.{cases_lt}
use Rattle.std.proofs.lemmas.List.{get_or-set_same, get_or-set_other}
use Rattle.wl_topology.specs.Limits.{most_places}
use Rattle.wl_bound.specs.Families.{Bus}
use Rattle.wl_bound.specs.Evaluated.{AreWaysOfBus, HasWaysOfNode}

-- one row
pub row_of : (n i : ℕ) (b : Bus) (ways : List ℕ) → AreWaysOfBus n b ways → i < n → HasWaysOfNode i b ways
row_of n i b ways rows below = record { nodes = rows.nodes; all = rows.all; row = λ j d. rows.each i j d below }

-- one place more of row i
pub put_next : {A : Type 0} (Q : ℕ → A → Type 0) (xs : List A) (i j n p : ℕ) (x : A) → length xs ≡ most_places * n → n ≤ most_places → i < n → j < n → p ≡ most_places * i + j → Q j x
    → ((k : ℕ) (d : A) → k < j → Q k (slice_index_or xs (most_places * i + k) d))
    → (k : ℕ) (d : A) → k < j + 1 → Q k (slice_index_or (slice_set xs p x) (most_places * i + k) d)
put_next Q xs i j n p x all few low short there here before k d below = elim (cases_lt k j) [
  | inl old ↦ subst (Q k) (sym (get_or-set_other xs p (most_places * i + k) x d (λ e. omega arith))) (before k d old)
  | inr new ↦
      (let e : j ≡ k = omega arith in
      let at : p ≡ most_places * i + k = omega arith in
      subst (λ q. Q k (slice_index_or (slice_set xs p x) q d)) at
      (subst (Q k) (sym (get_or-set_same xs p x d (omega arith))) (subst (λ m. Q m x) e here)))
]

-- the rows before it stay
pub put_apart : {A : Type 0} (Q : ℕ → ℕ → A → Type 0) (xs : List A) (i j n p : ℕ) (x : A) → n ≤ most_places → p ≡ most_places * i + j
    → ((a k : ℕ) (d : A) → a < i → k < n → Q a k (slice_index_or xs (most_places * a + k) d))
    → (a k : ℕ) (d : A) → a < i → k < n → Q a k (slice_index_or (slice_set xs p x) (most_places * a + k) d)
put_apart Q xs i j n p x few there before a k d above below =
    subst (Q a k) (sym (get_or-set_other xs p (most_places * a + k) x d (λ e. omega arith))) (before a k d above below)
