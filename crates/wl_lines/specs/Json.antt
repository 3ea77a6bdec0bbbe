-- Records as objects of JSON (RFC 8259, sections 4, 6 and 7).
use Rattle.std.specs.Prelude.{ℕ, ◌+◌, ◌/◌, ◌%◌, ◌==◌, nat_lt, List, [], ◌∷◌, ◌++◌, codes, if◌then◌else◌}
use Rattle.std.specs.List.{flat_map}
use Rattle.wl_lines.specs.declared.shape.Class.{Class}
use Rattle.wl_lines.specs.declared.shape.Class.TheVariants.{Number, Measure, Word, Hexadecimal, Phrase, Series, Rest, Nothing}
use Rattle.wl_lines.specs.Shapes.{Text, Part, literal, field, passed, given, TextLine, value_in, later_values}
use Rattle.wl_lines.specs.Numbers.{is_dash}

-- `0` is 48, `a` is 97
abbrev pub hexadecimal_digit : ℕ → ℕ
hexadecimal_digit value = if nat_lt value 10 then 48 + value else 87 + value

-- a byte within a string: a quotation mark (34), a backslash (92) and what is below a space (32) are escaped
abbrev pub escaped_byte : ℕ → Text
escaped_byte byte =
    if byte == 34 then codes "\\\""
    else if byte == 92 then codes "\\\\"
    else if nat_lt byte 32 then codes "\\u00" ++ (48 + byte / 16) ∷ hexadecimal_digit (byte % 16) ∷ []
    else byte ∷ []

abbrev pub escaped : Text → Text
escaped bytes = flat_map escaped_byte bytes

abbrev pub quoted : Text → Text
quoted bytes = codes "\"" ++ escaped bytes ++ codes "\""

-- a value: numbers as they are, no number as null, hexadecimal digits and all other values as strings
abbrev pub json_value : Class → Text → Text
json_value Number value = value
json_value Measure value = if is_dash value then codes "null" else value
json_value Hexadecimal value = if is_dash value then codes "\"0x\"" else codes "\"0x" ++ value ++ codes "\""
json_value Word value = quoted value
json_value Phrase value = quoted value
json_value Series value = quoted value
json_value Rest value = quoted value
json_value Nothing value = codes "null"

abbrev pub field_text : Text → Class → Text → Text
field_text name class value = codes "," ++ quoted name ++ codes ":" ++ json_value class value

abbrev pub member : Part → Text → Text
member (literal text) value = []
member (field name class) value = field_text name class value
member (passed class) value = []
member (given name class said) value = field_text name class said

-- the fields of a line
abbrev pub members : List Part → List Text → Text
members [] values = []
members (p ∷ parts) values = member p (value_in p values) ++ members parts (later_values p values)

abbrev pub json_record : TextLine → Text
json_record line = codes "{\"kind\":" ++ quoted line.form.kind ++ members line.form.parts line.values ++ codes "}"
