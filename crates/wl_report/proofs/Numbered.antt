-- Numbering the front of a list, one more at a time.
use Rattle.std.proofs.Common.{◌≡◌, ◌∙◌, ap, sym, arith, add-one, ℕ, zero, suc, ◌+◌, ◌<◌, List, [], ◌∷◌, ◌++◌, length, get_or, take}
use Rattle.std.specs.List.{enumerate_from, flat_map}
use Rattle.std.proofs.lemmas.List.{append_assoc, append-nil}
use Rattle.std.proofs.lemmas.List.Concat.{flat_map-append}

number_more : {X : Type 0} (n : ℕ) (xs : List X) (i : ℕ) (d : X) → i < length xs
    → enumerate_from n (take (suc i) xs) ≡ enumerate_from n (take i xs) ++ (n + i, get_or xs i d) ∷ []
number_more n [] i d within = absurd (omega arith)
number_more n (x ∷ xs) zero d within = ap (λ (m : ℕ). (m, x) ∷ []) {x = n} {y = n + 0} (omega arith)
number_more n (x ∷ xs) (suc i) d within =
    ap (λ l. (n, x) ∷ l) (number_more (n + 1) xs i d (omega arith))
    ∙ ap (λ (m : ℕ). (n, x) ∷ (enumerate_from (n + 1) (take i xs) ++ (m, get_or xs i d) ∷ [])) {x = n + 1 + i} {y = n + suc i} (omega arith)

number_front : {X : Type 0} (xs : List X) (i : ℕ) (d : X) → i < length xs
    → enumerate_from 0 (take (i + 1) xs) ≡ enumerate_from 0 (take i xs) ++ (i, get_or xs i d) ∷ []
number_front xs i d within =
    rw add-one (number_more 0 xs i d within
    ∙ ap (λ (m : ℕ). enumerate_from 0 (take i xs) ++ (m, get_or xs i d) ∷ []) {x = 0 + i} {y = i} (omega arith))

-- one more piece of text after the text of those before
pub piece_more : {X : Type 0} (f : ℕ × X → List ℕ) (old text : List ℕ) (xs : List X) (i : ℕ) (d : X) → i < length xs
    → text ≡ old ++ flat_map f (enumerate_from 0 (take i xs))
    → text ++ f (i, get_or xs i d) ≡ old ++ flat_map f (enumerate_from 0 (take (i + 1) xs))
piece_more f old text xs i d within is =
    ap (λ t. t ++ f (i, get_or xs i d)) is
    ∙ append_assoc old (flat_map f (enumerate_from 0 (take i xs))) (f (i, get_or xs i d))
    ∙ ap (λ t. old ++ t) (sym (ap (flat_map f) (number_front xs i d within)
    ∙ flat_map-append f (enumerate_from 0 (take i xs)) ((i, get_or xs i d) ∷ [])
    ∙ ap (λ t. flat_map f (enumerate_from 0 (take i xs)) ++ t) (append-nil (f (i, get_or xs i d)))))
