-- Words of a line, between white space (this project's profile).
use Rattle.std.specs.Prelude.{◌≡◌, ℕ, ◌<◌, List, [], ◌∷◌, ◌++◌, length, Result, Ok}
use Rattle.std.specs.Char.{is_whitespace, is_not_whitespace}
use Rattle.std.specs.Str.{NoCharPasses, EmptyOrStartsWithPassing}

-- a text begins with this word after white space, and goes on with the rest
abbrev pub BeginsWith : List ℕ → List ℕ → List ℕ → Type 0
BeginsWith text word rest =
    (gap : List ℕ) × (text ≡ gap ++ (word ++ rest)) × (0 < length word) × NoCharPasses is_not_whitespace gap × NoCharPasses is_whitespace word
    × ((more : List ℕ) × EmptyOrStartsWithPassing is_whitespace rest more)

-- the words of a text are read as these numbers, in their order
abbrev pub AreNumbers : {N E : Type 0} → (List ℕ → Result N E → Type 0) → List ℕ → List N → Type 0
AreNumbers gives text [] = NoCharPasses is_not_whitespace text
AreNumbers gives text (n ∷ ns) = (word rest : List ℕ) × BeginsWith text word rest × gives word (Ok n) × AreNumbers gives rest ns
