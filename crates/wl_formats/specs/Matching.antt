-- Which lines a form fits (this project's profile).
use Rattle.std.specs.Prelude.{ℕ, ◌==◌, ◌&&◌, ◌||◌, not, nat_eq, min, Bool, true, List, [], ◌∷◌, length, drop, take, position, Option, Some, None, unwrap_or, if◌then◌else◌}
use Rattle.std.specs.List.{starts_with}
use Rattle.std.specs.Char.{is_ascii_alphanumeric, is_ascii_digit, is_ascii_hexdigit}
use Rattle.wl_formats.specs.declared.shape.Class.{Class}
use Rattle.wl_formats.specs.declared.shape.Class.TheVariants.{Number, Measure, Word, Hexadecimal, Phrase, Series, Rest}
use Rattle.wl_formats.specs.Shapes.{Text, Part, literal, field, passed, given, Form}
use Rattle.wl_lines.specs.Numbers.{is_dash, is_number}

-- the bytes that a value may have: of a number digits, `-` (45) and `.` (46), of a word letters and `_` (95) too, of a phrase all but `,` (44) and `:` (58), of a series all but `:`
abbrev pub takes : Class → ℕ → Bool
takes Number byte = is_ascii_digit byte || byte == 45 || byte == 46
takes Measure byte = is_ascii_digit byte || byte == 45 || byte == 46
takes Word byte = is_ascii_alphanumeric byte || byte == 45 || byte == 46 || byte == 95
takes Hexadecimal byte = is_ascii_hexdigit byte || byte == 45
takes Phrase byte = not (byte == 44) && not (byte == 58)
takes Series byte = not (byte == 58)
takes Rest byte = true

abbrev pub is_value : Class → Text → Bool
is_value Number value = is_number value
is_value Measure value = is_dash value || is_number value
is_value Word value = not (length value == 0)
is_value Hexadecimal value = not (length value == 0)
is_value Phrase value = not (length value == 0)
is_value Series value = not (length value == 0)
is_value Rest value = not (length value == 0)

-- where the first byte is that a value may not have
abbrev pub stop_in : Class → Text → Option ℕ
stop_in class line = position (λ byte. not (takes class byte)) line

-- how many bytes a part takes of a line: a field all up to that byte
abbrev pub width : Part → Text → ℕ
width (literal text) line = min (length text) (length line)
width (field name class) line = unwrap_or (stop_in class line) (length line)
width (passed class) line = unwrap_or (stop_in class line) (length line)
width (given name class value) line = 0

-- whether a line begins with a part
abbrev pub holds : Part → Text → Bool
holds (literal text) line = starts_with nat_eq line text
holds (field name class) line = is_value class (take (width (field name class) line) line)
holds (passed class) line = is_value class (take (width (passed class) line) line)
holds (given name class value) line = true

-- whether a line consists of these parts
abbrev pub fits : List Part → Text → Bool
fits [] line = length line == 0
fits (p ∷ parts) line = holds p line && fits parts (drop (width p line) line)

-- the first form that a line fits
abbrev pub form_for : List Form → Text → Option Form
form_for [] line = None
form_for (form ∷ forms) line = if fits form.parts line then Some form else form_for forms line
