-- Heads of machines, as words spell them (this project's profile).
use Rattle.std.specs.Prelude.{◌≡◌, ◌⊎◌, ℕ, ◌==◌, Bool, true, false, List, ◌∷◌, codes, length, Option, None, Some, Ok}
use Rattle.std.specs.List.{before_first}
use Rattle.std.specs.Str.Parse.{digits_value, without_leading_plus}
use Rattle.wl_frame.specs.Grammar.{Content, frame_of_numbers}

-- what is before the first dot of a word
abbrev pub identifier_digits : List ℕ → List ℕ
identifier_digits word = before_first (λ byte. byte == 46) word

-- a frame of the identifier in front of a word, which is extended if it has eight digits, and of some bytes
abbrev pub SpellsFrame : List ℕ → Bool → Content → Type 0
SpellsFrame word remote frame =
    (bytes : List ℕ)
    × (frame_of_numbers (length (identifier_digits word) == 8) (digits_value 16 (without_leading_plus (identifier_digits word))) remote (length bytes) bytes ≡ Ok frame)

-- none of `-`; else a frame, which is remote after an `r`
abbrev pub IsHead : List ℕ → Option Content → Type 0
IsHead word None = word ≡ codes "-"
IsHead word (Some frame) = SpellsFrame word false frame ⊎ ((rest : List ℕ) × (word ≡ 114 ∷ rest) × SpellsFrame rest true frame)
