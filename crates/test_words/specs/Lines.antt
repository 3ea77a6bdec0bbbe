-- Lines of a program's input, and what it writes (this project's profile).
use Rattle.std.specs.Prelude.{ℕ, ◌==◌, Bool, false, not, List, [], ◌∷◌, codes, String, string_bytes, Result, Ok, Err}
use Rattle.test_words.specs.declared.lines.Stop.{Stop}
use Rattle.test_words.specs.declared.lines.Stop.TheVariants.{Unread, Memory}

-- a line that is neither empty nor begins with `#`
abbrev pub is_row : List ℕ → Bool
is_row [] = false
is_row (byte ∷ _) = not (byte == 35)

-- what is written after a row, if there is memory for it
abbrev pub answer_of : {Z : Type 0} → Result (String Z) Stop → List ℕ
answer_of (Ok said) = string_bytes said
answer_of (Err Unread) = codes " = unread"
answer_of (Err Memory) = []
