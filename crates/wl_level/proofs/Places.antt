-- What is at a place does not change when the list grows after it.
use Rattle.std.proofs.Common.{◌≡◌, ℕ, zero, suc, ◌+◌, ◌<◌, ◌≤◌, ◌∙◌, List, [], ◌∷◌, ◌++◌, length, Bool, true, false, cond, refl, ap, sym, arith, length-append, add-one, append_assoc, replicate}
use Rattle.std.proofs.lemmas.List.{replicate_more}
use Rattle.std.proofs.Math.ListN.{get_or-append}
use Rattle.std.proofs.Math.Seq.{get_or-append_seam}
use Rattle.wl_level.specs.declared.Level.{Level}
use Rattle.wl_level.specs.declared.Level.TheVariants.{Dominant, Recessive}
use Rattle.wl_level.specs.Levels.{same, is_dominant, opposite}
use Rattle.wl_level.specs.Places.{at, before, count_places, run_before, run_at_end, run_at}

pub length_more : {X : Type 0} (levels : List X) (x : X) → length (levels ++ x ∷ []) ≡ length levels + 1
length_more levels x = length-append levels (x ∷ [])

-- one of a repeated value more
pub snoc : {X : Type 0} (xs : List X) (x : X) (n : ℕ) → xs ++ replicate (suc n) x ≡ (xs ++ replicate n x) ++ x ∷ []
snoc xs x n =
    ap (λ k. xs ++ replicate k x) (sym (add-one n))
    ∙ ap (λ more. xs ++ more) (sym (replicate_more n x)) ∙ sym (append_assoc xs (replicate n x) (x ∷ []))

-- the new level is at the old end
pub at_new : (levels : List Level) (x : Level) → at (levels ++ x ∷ []) (length levels) ≡ x
at_new levels x = get_or-append_seam levels x [] Recessive

pub at_old : (levels : List Level) (x : Level) (k : ℕ) → k < length levels → at (levels ++ x ∷ []) k ≡ at levels k
at_old levels x k h = get_or-append levels (x ∷ []) Recessive k h

-- whatever follows
pub at_front : (levels more : List Level) (k : ℕ) → k < length levels → at (levels ++ more) k ≡ at levels k
at_front levels more k h = get_or-append levels more Recessive k h

pub before_front : (levels more : List Level) (k : ℕ) → k ≤ length levels → before (levels ++ more) k ≡ before levels k
before_front levels more zero h = refl
before_front levels more (suc k) h = at_front levels more k (omega arith)

pub before_old : (levels : List Level) (x : Level) (k : ℕ) → k ≤ length levels → before (levels ++ x ∷ []) k ≡ before levels k
before_old levels x k h = before_front levels (x ∷ []) k h

-- a count asks nothing at or above its bound
pub count_cong : (t u : ℕ → Bool) (n : ℕ) → ((k : ℕ) → k < n → t k ≡ u k) → count_places t n ≡ count_places u n
count_cong t u zero h = refl
count_cong t u (suc n) h =
    ap (λ c. c + cond (t n) 1 0) (count_cong t u n (λ k lt. h k (omega arith)))
    ∙ ap (λ b. count_places u n + cond b 1 0) (h n (omega arith))

pub count_le : (t : ℕ → Bool) (n : ℕ) → count_places t n ≤ n
count_le t zero = omega arith
count_le t (suc n) =
    let below : count_places t n ≤ n = count_le t n in
    elim (t n) as (λ b. count_places t n + cond b 1 0 ≤ suc n) [ true ↦ omega arith | false ↦ omega arith ]

-- a run before place n is that of the list's front
pub run_front : (level : Level) (levels more : List Level) (n : ℕ) → n ≤ length levels → run_before level (levels ++ more) n ≡ run_before level levels n
run_front level levels more zero h = refl
run_front level levels more (suc n) h =
    ap (λ a. cond (same a level) (suc (run_before level (levels ++ more) n)) 0) (at_front levels more n (omega arith))
    ∙ ap (λ r. cond (same (at levels n) level) (suc r) 0) (run_front level levels more n (omega arith))

pub run_old : (level : Level) (levels : List Level) (x : Level) (n : ℕ) → n ≤ length levels → run_before level (levels ++ x ∷ []) n ≡ run_before level levels n
run_old level levels x n h = run_front level levels (x ∷ []) n h

-- the run at the end, one level later
pub run_more : (level : Level) (levels : List Level) (x : Level) → run_at_end level (levels ++ x ∷ []) ≡ cond (same x level) (suc (run_at_end level levels)) 0
run_more level levels x =
    ap (run_before level (levels ++ x ∷ [])) (length_more levels x ∙ add-one (length levels))
    ∙ ap (λ a. cond (same a level) (suc (run_before level (levels ++ x ∷ []) (length levels))) 0) (at_new levels x)
    ∙ ap (λ r. cond (same x level) (suc r) 0) (run_old level levels x (length levels) (omega arith))

pub run_before_le : (level : Level) (levels : List Level) (n : ℕ) → run_before level levels n ≤ n
run_before_le level levels zero = omega arith
run_before_le level levels (suc n) =
    let below : run_before level levels n ≤ n = run_before_le level levels n in
    elim (same (at levels n) level) as (λ b. cond b (suc (run_before level levels n)) 0 ≤ suc n) [ true ↦ omega arith | false ↦ omega arith ]

-- a run of equal levels before place n is that of the list's front
pub run_at_front : (levels more : List Level) (n : ℕ) → n ≤ length levels → run_at (levels ++ more) n ≡ run_at levels n
run_at_front levels more zero h = refl
run_at_front levels more (suc zero) h = refl
run_at_front levels more (suc (suc n)) h =
    ap (λ a. cond (same a (at (levels ++ more) (suc n))) (suc (run_at (levels ++ more) (suc n))) 1) (at_front levels more n (omega arith))
    ∙ ap (λ a. cond (same (at levels n) a) (suc (run_at (levels ++ more) (suc n))) 1) (at_front levels more (suc n) (omega arith))
    ∙ ap (λ r. cond (same (at levels n) (at levels (suc n))) (suc r) 1) (run_at_front levels more (suc n) (omega arith))

-- at least one level is before a place that is not the first
pub run_positive : (levels : List Level) (n : ℕ) → 0 < run_at levels (suc n)
run_positive levels zero = omega arith
run_positive levels (suc n) =
    elim (same (at levels n) (at levels (suc n))) as (λ b. 0 < cond b (suc (run_at levels (suc n))) 1) [ true ↦ omega arith | false ↦ omega arith ]

pub run_le : (levels : List Level) (n : ℕ) → run_at levels n ≤ n
run_le levels zero = omega arith
run_le levels (suc zero) = omega arith
run_le levels (suc (suc n)) =
    let below : run_at levels (suc n) ≤ suc n = run_le levels (suc n) in
    elim (same (at levels n) (at levels (suc n))) as (λ b. cond b (suc (run_at levels (suc n))) 1 ≤ suc (suc n)) [ true ↦ omega arith | false ↦ omega arith ]

-- Levels are two.

pub same_self : (a : Level) → same a a ≡ true
same_self Dominant = refl
same_self Recessive = refl

pub same_equal : (a b : Level) → same a b ≡ true → a ≡ b
same_equal Dominant Dominant h = refl
same_equal Dominant Recessive h = cc
same_equal Recessive Dominant h = cc
same_equal Recessive Recessive h = refl

pub same_opposite : (a : Level) → same a (opposite a) ≡ false
same_opposite Dominant = refl
same_opposite Recessive = refl

pub other_level : (a b : Level) → same a b ≡ false → a ≡ opposite b
other_level Dominant Dominant h = cc
other_level Dominant Recessive h = refl
other_level Recessive Dominant h = refl
other_level Recessive Recessive h = cc

pub opposite_twice : (a : Level) → opposite (opposite a) ≡ a
opposite_twice Dominant = refl
opposite_twice Recessive = refl

pub recessive_from : (level : Level) → is_dominant level ≡ false → level ≡ Recessive
recessive_from Dominant h = cc
recessive_from Recessive h = refl

pub dominant_from : (level : Level) → is_dominant level ≡ true → level ≡ Dominant
dominant_from Dominant h = refl
dominant_from Recessive h = cc
