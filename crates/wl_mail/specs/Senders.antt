-- How many letters went from a worker to each other one. This project's profile.
use Rattle.std.specs.Prelude.{ℕ, zero, suc, ◌-◌, ◌^◌, min, List, [], ◌∷◌}

-- one letter more; at 2^64 - 1 a count stays
abbrev pub one_letter_more : ℕ → ℕ
one_letter_more n = min (suc n) (2 ^ 64 - 1)

-- one letter more to each of the first k
abbrev pub one_letter_more_to : ℕ → List ℕ → List ℕ
one_letter_more_to zero counts = counts
one_letter_more_to (suc k) [] = []
one_letter_more_to (suc k) (n ∷ counts) = one_letter_more n ∷ one_letter_more_to k counts
