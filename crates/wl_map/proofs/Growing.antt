-- Texts that grow by one piece after another, and what follows of an answer.
use Rattle.std.proofs.Common.{◌≡◌, ◌∙◌, ℕ, List, ◌++◌, Result, Ok, Err, ap}
use Rattle.std.specs.Prelude.{IfOk}
use Rattle.std.proofs.lemmas.List.{append_assoc}

-- by two
pub two_pieces : (old a b one : List ℕ) → one ≡ old ++ a → one ++ b ≡ old ++ (a ++ b)
two_pieces old a b one first = ap (λ t. t ++ b) first ∙ append_assoc old a b

-- by three
pub three_pieces : (old a b c one two : List ℕ) → one ≡ old ++ a → two ≡ one ++ b → two ++ c ≡ old ++ ((a ++ b) ++ c)
three_pieces old a b c one two first second = two_pieces old (a ++ b) c two (second ∙ two_pieces old a b one first)

-- what follows of each answer follows of the answer that came
pub ok_so : {A E : Type 0} {P Q : A → Type 0} (r : Result A E) → ((x : A) → P x → Q x) → IfOk r P → IfOk r Q
ok_so (Ok x) so h = so x h
ok_so (Err e) so h = h
