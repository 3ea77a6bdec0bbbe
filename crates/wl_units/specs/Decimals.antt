-- A decimal number at the start of a text (this project's profile: digits, and after a point at least one more; at most 15 in all after
-- leading zeros, and at most 15 after the point).
use Rattle.std.specs.Prelude.{ℕ, ◌<◌, ◌≤◌, ◌+◌, ◌*◌, ◌-◌, ◌==◌, nat_le, nat_lt, Bool, true, false, ◌&&◌, if◌then◌else◌, List, [], ◌∷◌, Option, Some, None, is_some, unwrap_or}
use Rattle.wl_units.specs.declared.decimal.Decimal.{Decimal}
use Rattle.wl_units.specs.declared.decimal.Part.{Part}
use Rattle.wl_units.specs.declared.decimal.Part.TheVariants.{Start, Whole, Point, Fraction}

abbrev pub is_digit : ℕ → Bool
is_digit c = nat_le 48 c && nat_le c 57

-- the part of the number after a digit, and whether the digit is behind the point
abbrev pub after_digit : Part → Part
after_digit Start = Whole
after_digit Whole = Whole
after_digit Point = Fraction
after_digit Fraction = Fraction

abbrev pub is_behind : Part → Bool
is_behind Point = true
is_behind Fraction = true
is_behind _ = false

abbrev pub is_before_point : Part → Bool
is_before_point Whole = true
is_before_point _ = false

-- whether a number may end there
abbrev pub is_end : Part → Bool
is_end Whole = true
is_end Fraction = true
is_end _ = false

-- no digit yet: the number is mantissa / divisor
abbrev pub no_digits : Decimal
no_digits = record { mantissa = 0; divisor = 1; part = Start }

-- whether there is room for one more digit
abbrev pub has_digit_room : Decimal → Bool
has_digit_room d = nat_lt d.mantissa 100000000000000 && nat_le d.divisor 100000000000000

-- with one more digit
abbrev pub with_one_digit : Decimal → ℕ → Decimal
with_one_digit d n = record { mantissa = d.mantissa * 10 + n; divisor = if is_behind d.part then d.divisor * 10 else d.divisor; part = after_digit d.part }

-- with one more character, if it belongs to the number
abbrev pub with_letter : Decimal → ℕ → Option Decimal
with_letter d c =
    if is_digit c && has_digit_room d then Some (with_one_digit d (c - 48))
    else if (c == 46) && is_before_point d.part then Some (record d { part = Point })
    else None

-- the number, and the text behind it
abbrev pub scan : Decimal → List ℕ → Decimal × List ℕ
scan d [] = (d, [])
scan d (c ∷ cs) = if is_some (with_letter d c) then scan (unwrap_or (with_letter d c) d) cs else (d, c ∷ cs)

-- the same of a whole text, if a number may end there
abbrev pub decimal_in : List ℕ → Option (Decimal × List ℕ)
decimal_in text = if is_end (scan no_digits text).0.part then Some (scan no_digits text) else None

-- what holds of each number
pub record IsDecimal (d : Decimal) : Type 0 where
  pub mantissa : d.mantissa < 1000000000000000
  pub some : 0 < d.divisor
  pub parts : d.divisor ≤ 1000000000000000
