-- Texts that grow by one piece after another.
use Rattle.std.proofs.Common.{◌≡◌, ◌∙◌, ℕ, List, ◌++◌, ap}
use Rattle.std.proofs.lemmas.List.{append_assoc}
use Rattle.wl_parts.specs.Text.{AddsWords}

-- by a piece
pub grown : (old new piece : List ℕ) → new ≡ old ++ piece → AddsWords old new (λ rest. piece ++ rest)
grown old new piece e rest = ap (λ t. t ++ rest) e ∙ append_assoc old piece rest

-- by words, and then by others
pub grown_by : (old one new : List ℕ) (first second : List ℕ → List ℕ) → AddsWords old one first → AddsWords one new second → AddsWords old new (λ rest. first (second rest))
grown_by old one new first second a b rest = b rest ∙ a (second rest)

-- three pieces
pub three_pieces : (old a b c one two new : List ℕ) → one ≡ old ++ a → two ≡ one ++ b → new ≡ two ++ c → new ≡ old ++ ((a ++ b) ++ c)
three_pieces old a b c one two new first second third =
    third ∙ ap (λ t. t ++ c) (second ∙ ap (λ t. t ++ b) first ∙ append_assoc old a b) ∙ append_assoc old (a ++ b) c
