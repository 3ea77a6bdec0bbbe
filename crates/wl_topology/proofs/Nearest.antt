-- The least of some delays, and one more.
use Rattle.std.proofs.Common.{◌≡◌, ℕ, ◌+◌, ◌<◌, ◌≤◌, ◌∙◌, ◌⊎◌, inl, inr, min, length, subst, arith}
use Rattle.std.proofs.lemmas.Bool.{cases_lt}
use Rattle.wl_topology.specs.Delays.{Cable, delay_of, IsLeastFrom, IsLeastOf}

at_most_more : (f : ℕ → ℕ) (n d : ℕ) → ((j : ℕ) → j < n → d ≤ f j) → (j : ℕ) → j < n + 1 → min d (f n) ≤ f j
at_most_more f n d h j b =
    elim (cases_lt j n) [
      | inl before ↦ omega (arith, h j before)
      | inr last ↦ (let same : n ≡ j = omega arith in subst (λ k. min d (f n) ≤ f k) same (omega arith))
    ]

min_cases : (a b : ℕ) → (min a b ≡ a) ⊎ (min a b ≡ b)
min_cases a b = elim (cases_lt a b) [ inl below ↦ inl (omega arith) | inr above ↦ inr (omega arith) ]

pub least_from_more : (cable : Cable) (i n d : ℕ) → IsLeastFrom cable i n d → IsLeastFrom cable i (n + 1) (min d (delay_of cable i n))
least_from_more cable i n d h = record {
  at_most_each = at_most_more (delay_of cable i) n d h.at_most_each;
  is_one = elim (min_cases d (delay_of cable i n)) [
    | inl old ↦ (h.is_one.0, omega (arith, h.is_one.1), old ∙ h.is_one.2)
    | inr new ↦ (n, omega arith, new)
  ];
}

pub least_of_more : (cable : Cable) (m d e : ℕ) → IsLeastOf cable m d → IsLeastFrom cable m (length cable.places) e → IsLeastOf cable (m + 1) (min d e)
least_of_more cable m d e h g = record {
  at_most_each = λ i j hi hj. elim (cases_lt i m) [
    | inl before ↦ omega (arith, h.at_most_each i j before hj)
    | inr last ↦ (let same : m ≡ i = omega arith in subst (λ k. min d e ≤ delay_of cable k j) same (omega (arith, g.at_most_each j hj)))
  ];
  is_one = elim (min_cases d e) [
    | inl old ↦ (h.is_one.0, h.is_one.1, omega (arith, h.is_one.2), h.is_one.3, old ∙ h.is_one.4)
    | inr new ↦ (m, g.is_one.0, omega arith, g.is_one.1, new ∙ g.is_one.2)
  ];
}
