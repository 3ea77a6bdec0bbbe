-- Numbers of a fixed number of digits (this project's profile).
use Rattle.std.specs.Prelude.{◌≡◌, ℕ, zero, suc, ◌+◌, ◌/◌, ◌%◌, true, List, [], ◌∷◌, ◌++◌, Vec}
use Rattle.std.specs.Fmt.{digit_glyph}

-- a text has grown by these bytes
abbrev pub Extends : {Z : Type 0} → Vec ℕ Z → Vec ℕ Z → List ℕ → Type 0
Extends old new more = new.items ≡ old.items ++ more

-- so many digits of a number to a base of at most 16, upper case, with leading zeros; higher digits are left out
unfoldable pub digits_of : ℕ → ℕ → ℕ → List ℕ
digits_of base zero n = []
digits_of base (suc k) n = digits_of base k (n / base) ++ digit_glyph true (n % base) ∷ []

-- the last four digits of a number
abbrev pub four_digits : ℕ → List ℕ
four_digits n = (48 + n / 1000 % 10) ∷ (48 + n / 100 % 10) ∷ (48 + n / 10 % 10) ∷ (48 + n % 10) ∷ []
