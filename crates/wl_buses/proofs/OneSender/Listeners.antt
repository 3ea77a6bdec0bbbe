-- A number of each listener of a bus, and one of all other nodes.
use Rattle.std.proofs.Common.{◌≡◌, ◌⊎◌, inl, inr, refl, ap, ℕ, arith}
use Rattle.std.proofs.lemmas.Bool.{cases_eq, cases_lt}
use Rattle.wl_buses.specs.OneSender.OneSender.{SenderBus, IsListener}

-- a node listens, or it sends or is none of the line
pub listens_or_not : (b : SenderBus) (j : ℕ) → IsListener b j ⊎ (IsListener b j → ⊥)
listens_or_not b j = elim (cases_lt j b.line.nodes) [
  | inl inside ↦ elim (cases_eq j b.sender) [ inl here ↦ inr (λ p. p.1 here) | inr apart ↦ inl (inside, apart) ]
  | inr out ↦ inr (λ p. (let inside = p.0 in omega arith))
]

abbrev pub Numbers : SenderBus → Type 0
Numbers b = (j : ℕ) → IsListener b j → ℕ

number_by : (b : SenderBus) (of : Numbers b) (other j : ℕ) → (IsListener b j ⊎ (IsListener b j → ⊥)) → ℕ
number_by b of other j (inl p) = of j p
number_by b of other j (inr n) = other

pub number_of : (b : SenderBus) → Numbers b → (other j : ℕ) → ℕ
number_of b of other j = number_by b of other j (listens_or_not b j)

-- all such numbers of a listener are by one proof that it is one
pub number_is : (b : SenderBus) (j : ℕ) → IsListener b j → (q : IsListener b j) × ((of : Numbers b) (other : ℕ) → number_of b of other j ≡ of j q)
unfolding number_of number_by
number_is b j p = from (listens_or_not b j) refl
  where
    from : (w : IsListener b j ⊎ (IsListener b j → ⊥)) → listens_or_not b j ≡ w
        → (q : IsListener b j) × ((of : Numbers b) (other : ℕ) → number_by b of other j (listens_or_not b j) ≡ of j q)
    from (inl q) e = (q, λ of other. ap (number_by b of other j) e)
    from (inr n) e = absurd (n p)

pub other_is : (b : SenderBus) (of : Numbers b) (other j : ℕ) → (IsListener b j → ⊥) → number_of b of other j ≡ other
unfolding number_of number_by
other_is b of other j none = from (listens_or_not b j) refl
  where
    from : (w : IsListener b j ⊎ (IsListener b j → ⊥)) → listens_or_not b j ≡ w → number_by b of other j (listens_or_not b j) ≡ other
    from (inl q) e = absurd (none q)
    from (inr n) e = ap (number_by b of other j) e
