-- A test that every one of a list passes.
use Rattle.std.proofs.Common.{◌≡◌, refl, List, [], ◌∷◌, Bool, true, false}
use Rattle.std.specs.List.{list_all, All}
use Rattle.std.proofs.lemmas.List.Elements.{All-head, All-tail, All-nil, All-cons}

pub all_pass : {X : Type 0} (p : X → Bool) (xs : List X) → All (λ x. p x ≡ true) xs → list_all p xs ≡ true
all_pass p [] h = refl
all_pass p (x ∷ xs) h =
    rw (All-head (λ x. p x ≡ true) x xs h, all_pass p xs (All-tail (λ x. p x ≡ true) x xs h))

by_head : {X : Type 0} (p : X → Bool) (x : X) (xs : List X) (b : Bool) → p x ≡ b → list_all p (x ∷ xs) ≡ true
    → (list_all p xs ≡ true → All (λ y. p y ≡ true) xs) → All (λ y. p y ≡ true) (x ∷ xs)
by_head p x xs true is h rest = All-cons (λ y. p y ≡ true) x xs is (rest (rw is at h))
by_head p x xs false is h rest = absurd (let bad : false ≡ true = rw is at h in cc)

pub passes_each : {X : Type 0} (p : X → Bool) (xs : List X) → list_all p xs ≡ true → All (λ x. p x ≡ true) xs
passes_each p [] h = All-nil (λ x. p x ≡ true)
passes_each p (x ∷ xs) h = by_head p x xs (p x) refl h (passes_each p xs)
