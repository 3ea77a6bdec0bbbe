-- The first place that passes a test.
use Rattle.std.proofs.Common.{◌≡◌, ℕ, zero, suc, ◌<◌, ◌≤◌, ◌∙◌, Bool, true, false, cond, not, ◌&&◌, Option, Some, None, is_some, inl, inr, ◌⊎◌, refl, sym, ap, subst, arith}
use Rattle.std.proofs.lemmas.Bool.{eq-eqb, ne_eqb, and_right, cases_lt}
use Rattle.wl_level.specs.Places.{or_at, first_place, is_found_at, IsFirstPlace}

-- it does not depend on the test at or above the bound
pub first_cong : (t u : ℕ → Bool) (n : ℕ) → ((k : ℕ) → k < n → t k ≡ u k) → first_place t n ≡ first_place u n
first_cong t u zero h = refl
first_cong t u (suc n) h =
    ap (λ o. or_at o (t n) n) (first_cong t u n (λ k lt. h k (omega arith)))
    ∙ ap (λ b. or_at (first_place u n) b n) (h n (omega arith))

pub or_at_not : (o : Option ℕ) (b : Bool) (n m : ℕ) → is_found_at o m ≡ false → n < m → is_found_at (or_at o b n) m ≡ false
or_at_not (Some k) b n m h lt = h
or_at_not None true n m h lt = ne_eqb n m (λ e. omega arith)
or_at_not None false n m h lt = refl

-- no place at or above the bound is found
pub first_not : (t : ℕ → Bool) (n m : ℕ) → n ≤ m → is_found_at (first_place t n) m ≡ false
first_not t zero m h = refl
first_not t (suc n) m h = or_at_not (first_place t n) (t n) n m (first_not t n m (omega arith)) (omega arith)

-- the place n is the first one where the test passes there, and nowhere below
pub or_at_here : (o : Option ℕ) (b : Bool) (n : ℕ) → is_found_at o n ≡ false → is_found_at (or_at o b n) n ≡ (b && not (is_some o))
or_at_here (Some k) b n h = h ∙ sym (and_right b false refl)
or_at_here None true n h = eq-eqb n n refl
or_at_here None false n h = refl

pub or_at_cond : (o : Option ℕ) (b : Bool) (n : ℕ) → or_at o b n ≡ cond (b && not (is_some o)) (Some n) o
or_at_cond (Some k) true n = refl
or_at_cond (Some k) false n = refl
or_at_cond None true n = refl
or_at_cond None false n = refl

-- what one more place adds
or_at_cases : (o : Option ℕ) (b : Bool) (n k : ℕ) → or_at o b n ≡ Some k → (o ≡ Some k) ⊎ ((o ≡ None) × (b ≡ true) × (n ≡ k))
or_at_cases (Some j) b n k h = inl h
or_at_cases None true n k h = inr (refl, refl, cc)
or_at_cases None false n k h = cc

or_at_none : (o : Option ℕ) (b : Bool) (n : ℕ) → or_at o b n ≡ None → (o ≡ None) × (b ≡ false)
or_at_none (Some j) b n h = cc
or_at_none None true n h = cc
or_at_none None false n h = (refl, refl)

-- where no place is found the test fails everywhere below the bound
pub first_none : (t : ℕ → Bool) (n : ℕ) → first_place t n ≡ None → (k : ℕ) → k < n → t k ≡ false
first_none t zero h k lt = absurd (omega arith)
first_none t (suc n) h k lt =
    let parts : (first_place t n ≡ None) × (t n ≡ false) = or_at_none (first_place t n) (t n) n h in
    elim (cases_below k n lt) [ inl below ↦ first_none t n parts.0 k below | inr here ↦ subst (λ m. t m ≡ false) (sym here) parts.1 ]
  where
    cases_below : (k n : ℕ) → k < suc n → (k < n) ⊎ (k ≡ n)
    cases_below k n h = elim (cases_lt k n) [ inl lt ↦ inl lt | inr ge ↦ inr (omega arith) ]

-- and the other way
pub none_first : (t : ℕ → Bool) (n : ℕ) → ((k : ℕ) → k < n → t k ≡ false) → first_place t n ≡ None
none_first t zero h = refl
none_first t (suc n) h =
    ap (λ o. or_at o (t n) n) (none_first t n (λ k lt. h k (omega arith)))
    ∙ ap (λ b. or_at None b n) (h n (omega arith))

-- the place that is found is the first
pub first_is : (t : ℕ → Bool) (n k : ℕ) → first_place t n ≡ Some k → IsFirstPlace t n k
first_is t zero k h = cc
first_is t (suc n) k h =
    elim (or_at_cases (first_place t n) (t n) n k h) [
      | inl e ↦ (let old : IsFirstPlace t n k = first_is t n k e in record { inside = omega (arith, old.inside); passes = old.passes; none_before = old.none_before })
      | inr w ↦ record {
        inside = omega (arith, w.2);
        passes = subst (λ m. t m ≡ true) w.2 w.1;
        none_before = λ j lt. first_none t n w.0 j (omega (arith, w.2));
      }
    ]

-- and the first place is found
pub first_found : (t : ℕ → Bool) (n k : ℕ) → IsFirstPlace t n k → first_place t n ≡ Some k
first_found t zero k h = absurd (omega (arith, h.inside))
first_found t (suc n) k h =
    elim (cases_lt k n) [
      | inl lt ↦ ap (λ o. or_at o (t n) n) (first_found t n k (record { inside = lt; passes = h.passes; none_before = h.none_before }))
      | inr ge ↦ (let here : n ≡ k = omega (arith, h.inside) in
          ap (λ o. or_at o (t n) n) (none_first t n (λ j lt. h.none_before j (omega arith)))
          ∙ ap (λ b. or_at None b n) (subst (λ m. t m ≡ true) (sym here) h.passes) ∙ ap Some here)
    ]
