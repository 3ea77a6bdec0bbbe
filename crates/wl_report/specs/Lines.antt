-- Lines of words, and the words that a report spells (this project's profile).
use Rattle.std.specs.Prelude.{◌≡◌, String, string_bytes, ℕ, zero, suc, ◌/◌, ◌%◌, Bool, true, false, ℤ, List, [], ◌∷◌, ◌++◌, codes, Option, None, Some}
use Rattle.std.specs.List.{flat_map}
use Rattle.std.specs.Fmt.{digit_glyph, signed_decimal}
use Rattle.wl_confine.specs.declared.Mode.{Mode}
use Rattle.wl_confine.specs.declared.Mode.TheVariants.{Active, Passive, Off}

-- a text has grown by these bytes
abbrev pub GrowsBy : {Z : Type 0} → String Z → String Z → List ℕ → Type 0
GrowsBy old new more = string_bytes new ≡ string_bytes old ++ more

-- words parted by one space, and a last byte
abbrev pub spaced_words : ℕ → List ℕ → List (List ℕ) → List ℕ
spaced_words last word [] = word ++ last ∷ []
spaced_words last word (next ∷ more) = word ++ 32 ∷ spaced_words last next more

-- a line ends with one newline
abbrev pub line : List ℕ → List (List ℕ) → List ℕ
line = spaced_words 10

-- so many lower-case hexadecimal digits of a number, leading zeros too
abbrev pub hexadecimal : ℕ → ℕ → List ℕ
hexadecimal zero n = []
hexadecimal (suc k) n = hexadecimal k (n / 16) ++ digit_glyph false (n % 16) ∷ []

-- the bytes of a frame, two digits each; a dash where there are none
abbrev pub bytes_word : List ℕ → List ℕ
bytes_word [] = codes "-"
bytes_word (byte ∷ more) = flat_map (hexadecimal 2) (byte ∷ more)

-- how far a node takes part in the traffic; Bosch CAN 2.0 part B, section 8
abbrev pub mode_word : Mode → List ℕ
mode_word Active = codes "active"
mode_word Passive = codes "passive"
mode_word Off = codes "off"

-- a frame that its node sent, or received
abbrev pub way_word : Bool → List ℕ
way_word true = codes "sent"
way_word false = codes "received"

-- a remote frame, or a data frame; Bosch CAN 2.0 part B, section 3.2
abbrev pub kind_word : Bool → List ℕ
kind_word true = codes "remote"
kind_word false = codes "data"

-- a phase error, negative with a sign; a dash where there is none
abbrev pub error_word : Option ℤ → List ℕ
error_word None = codes "-"
error_word (Some e) = signed_decimal e
