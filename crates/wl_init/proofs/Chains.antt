-- What is added to a text piece by piece.
use Rattle.std.proofs.Common.{◌≡◌, ◌∙◌, ◌++◌, ap, append_assoc, List, ℕ}

-- two pieces, one after the other
pub chained : (old a b x y : List ℕ) → a ≡ old ++ x → b ≡ a ++ y → b ≡ old ++ (x ++ y)
chained old a b x y p q = q ∙ ap (λ (t : List ℕ). t ++ y) p ∙ append_assoc old x y

-- a piece after the others
pub after_all : (old a x y : List ℕ) → a ≡ old ++ x → a ++ y ≡ old ++ (x ++ y)
after_all old a x y p = ap (λ (t : List ℕ). t ++ y) p ∙ append_assoc old x y
