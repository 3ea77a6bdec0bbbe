-- What the proofs of upper crates may use: that each level takes a tick, and that some number below n passes a test, or none does.
use Rattle.std.proofs.Common.{◌≡◌, ℕ, zero, suc, ◌+◌, ◌-◌, ◌<◌, ◌≤◌, ◌==◌, Bool, true, false, ◌&&◌, ◌||◌, not, length, inl, inr, refl, sym, ◌∙◌, ap, subst, arith, add-one, nat_le}
use Rattle.std.proofs.lemmas.Bool.{cases_lt, or_cases, or_left, or_right}
use Rattle.wl_topology.specs.Limits.{never}
use Rattle.wl_topology.specs.Delays.{Cable, IsTopology, place_at, propagation_of, delay_of}
use Rattle.wl_topology.specs.Driven.{any_below, driven}

-- what a node drives isn't found in the same tick
pub delay_positive : (cable : Cable) (i j : ℕ) → IsTopology cable → i < length cable.places → j < length cable.places → 1 ≤ delay_of cable i j
delay_positive cable i j is from to = by_test _ refl
  where
    by_test : (b : Bool) → ((place_at cable i).listens && not (i == j)) ≡ b → 1 ≤ delay_of cable i j
    by_test true e = let here : delay_of cable i j ≡ never = cc in omega (arith, here)
    by_test false e = let here : delay_of cable i j ≡ propagation_of cable i j = cc in omega (arith, here, is.positive i j from to)

-- one that passes is enough
pub any_from : (n i : ℕ) (p : ℕ → Bool) → i < n → p i ≡ true → any_below n p ≡ true
any_from zero i p b h = absurd (omega arith)
any_from (suc n) i p b h =
    elim (cases_lt i n) [
      | inl below ↦ or_left _ _ (any_from n i p below h)
      | inr last ↦ (let same : i ≡ n = omega arith in or_right _ _ (subst (λ m. p m ≡ true) same h))
    ]

-- and where some passes there is one
pub any_one : (n : ℕ) (p : ℕ → Bool) → any_below n p ≡ true → (i : ℕ) × (i < n) × (p i ≡ true)
any_one zero p h = cc
any_one (suc n) p h =
    elim (or_cases (any_below n p) (p n) h) [
      | inl below ↦ (let w : (i : ℕ) × (i < n) × (p i ≡ true) = any_one n p below in (w.0, omega (arith, w.1), w.2))
      | inr here ↦ (n, omega arith, here)
    ]

-- two tests that agree on each number
pub any_same : (n : ℕ) (p q : ℕ → Bool) → ((i : ℕ) → i < n → p i ≡ q i) → any_below n p ≡ any_below n q
any_same zero p q h = refl
any_same (suc n) p q h =
    let e = any_same n p q (λ i b. h i (omega arith)) in
    let e2 = h n (omega arith) in
    cc

-- none passes where each fails
pub any_none : (n : ℕ) (p : ℕ → Bool) → ((i : ℕ) → i < n → p i ≡ false) → any_below n p ≡ false
any_none zero p h = refl
any_none (suc n) p h =
    let e = any_none n p (λ i b. h i (omega arith)) in
    let e2 = h n (omega arith) in
    cc

-- one node more that drove nothing
pub driven_more : (n : ℕ) (delay : ℕ → ℕ → ℕ) (drove : ℕ → ℕ → Bool) (j t : ℕ) (v : Bool) → v ≡ (nat_le (delay n j) t && drove n (t - delay n j)) → v ≡ false
    → driven n delay drove j t ≡ false → driven (n + 1) delay drove j t ≡ false
driven_more n delay drove j t v is silent none =
    subst (λ m. driven m delay drove j t ≡ false) (sym (add-one n))
    (ap (λ w. w || (nat_le (delay n j) t && drove n (t - delay n j))) none ∙ (sym is ∙ silent))
