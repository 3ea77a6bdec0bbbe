-- Numbers as JSON writes them, without an exponent (RFC 8259, section 6).
use Rattle.std.specs.Prelude.{ℕ, ◌==◌, ◌+◌, ◌&&◌, ◌||◌, not, nat_eq, Bool, List, [], ◌∷◌, length, drop, take, position, Option, Some, None, if◌then◌else◌}
use Rattle.std.specs.List.{list_all, starts_with}
use Rattle.std.specs.Char.{is_ascii_digit}

-- a dash (45), which says that there is no number
abbrev pub is_dash : List ℕ → Bool
is_dash text = length text == 1 && starts_with nat_eq text (45 ∷ [])

-- digits, one at least
abbrev pub is_digits : List ℕ → Bool
is_digits text = not (length text == 0) && list_all is_ascii_digit text

-- digits without a superfluous zero (48) in front
abbrev pub is_whole : List ℕ → Bool
is_whole text = is_digits text && (length text == 1 || not (starts_with nat_eq text (48 ∷ [])))

-- where the point (46) is
abbrev pub point_in : List ℕ → Option ℕ
point_in text = position (λ byte. byte == 46) text

-- digits, and after a point further ones
abbrev pub is_around : List ℕ → Option ℕ → Bool
is_around text (Some at) = is_whole (take at text) && is_digits (drop (at + 1) text)
is_around text None = is_whole text

abbrev pub is_unsigned : List ℕ → Bool
is_unsigned text = is_around text (point_in text)

-- with a minus (45) in front or without
abbrev pub is_number : List ℕ → Bool
is_number text = if starts_with nat_eq text (45 ∷ []) then is_unsigned (drop 1 text) else is_unsigned text
