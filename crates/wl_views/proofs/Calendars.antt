-- The least number of a tree is at its root, and at a leaf.
use Rattle.std.proofs.Common.{◌≡◌, ◌∙◌, ◌≢◌, sym, subst, ap, arith, inl, inr, ℕ, zero, suc, ◌+◌, ◌-◌, ◌*◌, ◌/◌, ◌<◌, ◌≤◌, List, length-set, set, replicate, get_or-set_other, get_or-set_same}
use Rattle.std.specs.Prelude.{min}
use Rattle.std.proofs.lemmas.Bool.{cases_lt, cases_eq}
use Rattle.std.proofs.lemmas.List.{get_or-replicate, length-replicate}
use Rattle.wl_views.specs.Calendar.{IsTreeBut, date_at}

-- the root has none greater
pub root_least : (leaves : ℕ) (tree : List ℕ) → IsTreeBut leaves 0 tree → (n p : ℕ) → 1 ≤ p → p ≤ n → p < 2 * leaves → date_at tree 1 ≤ date_at tree p
root_least leaves tree is zero p some below inside = absurd (omega arith)
root_least leaves tree is (suc n) p some below inside = elim (cases_lt p 2) [
  | inl one ↦ (let e : p ≡ 1 = omega arith in subst (λ (k : ℕ). date_at tree 1 ≤ date_at tree k) (sym e) (omega arith))
  | inr more ↦
      (let up : date_at tree 1 ≤ date_at tree (p / 2) = root_least leaves tree is n (p / 2) (omega arith) (omega arith) (omega arith) in
      let here = is.each (p / 2) (omega arith) (omega arith) (omega arith) in
      elim (cases_eq (2 * (p / 2)) p) [
        | inl left ↦ (let e = ap (date_at tree) left in omega arith)
        | inr other ↦ (let right : 2 * (p / 2) + 1 ≡ p = omega arith in let e = ap (date_at tree) right in omega arith)
      ])
]

-- the number of each place is that of a leaf
pub some_leaf : (leaves : ℕ) (tree : List ℕ) → IsTreeBut leaves 0 tree → (n k : ℕ) → 1 ≤ k → k < 2 * leaves → 2 * leaves ≤ k + n
    → (i : ℕ) × (i < leaves) × (date_at tree (leaves + i) ≡ date_at tree k)
some_leaf leaves tree is zero k some inside far = absurd (omega arith)
some_leaf leaves tree is (suc n) k some inside far = elim (cases_lt k leaves) [
  | inr leaf ↦ (k - leaves, omega arith, ap (date_at tree) (omega arith))
  | inl inner ↦
      (let here = is.each k some inner (omega arith) in
      elim (cases_lt (date_at tree (2 * k + 1)) (date_at tree (2 * k))) [
        | inl right ↦
            (let found = some_leaf leaves tree is n (2 * k + 1) (omega arith) (omega arith) (omega arith) in
            (found.0, found.1, (let e = found.2 in omega arith)))
        | inr left ↦
            (let found = some_leaf leaves tree is n (2 * k) (omega arith) (omega arith) (omega arith) in
            (found.0, found.1, (let e = found.2 in omega arith)))
      ])
]

-- a tree of equal numbers
pub all_equal : (leaves n : ℕ) → leaves ≤ 64 → IsTreeBut leaves 0 (replicate 128 n)
all_equal leaves n few =
    let here : (k : ℕ) → k < 128 → date_at (replicate 128 n) k ≡ n = λ k b. get_or-replicate 128 k n 0 b in
    record {
      all = length-replicate 128 n;
      each = λ k some inner ne.
          let a = here k (omega arith) in
          let b = here (2 * k) (omega arith) in
          let c = here (2 * k + 1) (omega arith) in
          omega arith;
    }

-- one number more that is in order
pub settled : (leaves : ℕ) (tree : List ℕ) (at n : ℕ) → leaves ≤ 64 → 1 ≤ at → at < leaves → IsTreeBut leaves at tree
    → n ≡ min (date_at tree (2 * at)) (date_at tree (2 * at + 1)) → IsTreeBut leaves (at / 2) (set tree at n)
settled leaves tree at n few some inner is least =
    let long = is.all in
    let other : (k : ℕ) → k ≢ at → date_at (set tree at n) k ≡ date_at tree k = λ k ne. get_or-set_other tree at k n 0 ne in
    record {
      all = length-set tree at n ∙ is.all;
      each = λ k from inside ne.
          let left = other (2 * k) (omega arith) in
          let right = other (2 * k + 1) (omega arith) in
          elim (cases_eq k at) [
            | inl same ↦
                (let here : date_at (set tree at n) at ≡ n = get_or-set_same tree at n 0 (omega arith) in
                let e = ap (date_at (set tree at n)) same in
                let f = ap (λ (m : ℕ). date_at tree (2 * m)) same in
                let g = ap (λ (m : ℕ). date_at tree (2 * m + 1)) same in
                omega arith)
            | inr apart ↦ (let here = other k apart in let e = is.each k from inside apart in omega arith)
          ];
    }

-- the place above one whose number is another
pub moved : (leaves : ℕ) (tree : List ℕ) (at n : ℕ) → leaves ≤ at → at < 2 * leaves → IsTreeBut leaves 0 tree → IsTreeBut leaves (at / 2) (set tree at n)
moved leaves tree at n leaf inside is =
    let other : (k : ℕ) → k ≢ at → date_at (set tree at n) k ≡ date_at tree k = λ k ne. get_or-set_other tree at k n 0 ne in
    record {
      all = length-set tree at n ∙ is.all;
      each = λ k from inner ne.
          let here = other k (omega arith) in
          let left = other (2 * k) (omega arith) in
          let right = other (2 * k + 1) (omega arith) in
          let e = is.each k from inner (omega arith) in
          omega arith;
    }
