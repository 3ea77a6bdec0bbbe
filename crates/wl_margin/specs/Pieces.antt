-- Pieces of text, and numbers with a point.
use Rattle.std.specs.Prelude.{ℕ, zero, suc, ◌/◌, ◌%◌, List, [], ◌∷◌, ◌++◌, codes}
use Rattle.std.specs.Fmt.{decimal}

-- pieces of text, one after another
abbrev pub joined : List (List ℕ) → List ℕ
joined [] = []
joined (piece ∷ more) = piece ++ joined more

-- what is said of each number below one, in order
abbrev pub each_below : (ℕ → List ℕ) → ℕ → List ℕ
each_below said zero = []
each_below said (suc n) = each_below said n ++ said n

-- a number of thousandths, and one of hundredths
abbrev pub thousandths : ℕ → List ℕ
thousandths n = decimal (n / 1000) ++ codes "." ++ decimal (n / 100 % 10) ++ decimal (n / 10 % 10) ++ decimal (n % 10)

abbrev pub hundredths : ℕ → List ℕ
hundredths n = decimal (n / 100) ++ codes "." ++ decimal (n / 10 % 10) ++ decimal (n % 10)
