-- Records as objects of JSON (RFC 8259, sections 4, 6 and 7).
use Rattle.std.specs.Prelude.{List, [], ◌∷◌, ◌++◌, codes, drop, take, if◌then◌else◌}
use Rattle.wl_formats.specs.declared.shape.Class.{Class}
use Rattle.wl_formats.specs.declared.shape.Class.TheVariants.{Number, Measure, Word, Hexadecimal, Phrase, Series, Rest}
use Rattle.wl_lines.specs.Json.{quoted}
use Rattle.wl_formats.specs.Shapes.{Text, Part, literal, field, passed, given, Form}
use Rattle.wl_lines.specs.Numbers.{is_dash}
use Rattle.wl_formats.specs.Matching.{width}

-- a value: numbers as they are, no number as null, hexadecimal digits and all other values as strings
abbrev pub json_value : Class → Text → Text
json_value Number value = value
json_value Measure value = if is_dash value then codes "null" else value
json_value Hexadecimal value = if is_dash value then codes "\"0x\"" else codes "\"0x" ++ value ++ codes "\""
json_value Word value = quoted value
json_value Phrase value = quoted value
json_value Series value = quoted value
json_value Rest value = quoted value

abbrev pub field_text : Text → Class → Text → Text
field_text name class value = codes "," ++ quoted name ++ codes ":" ++ json_value class value

abbrev pub member : Part → Text → Text
member (literal text) value = []
member (field name class) value = field_text name class value
member (passed class) value = []
member (given name class said) value = field_text name class said

-- the fields of a line
abbrev pub members : List Part → Text → Text
members [] line = []
members (p ∷ parts) line = member p (take (width p line) line) ++ members parts (drop (width p line) line)

abbrev pub json_record : Form → Text → Text
json_record form line = codes "{\"kind\":" ++ quoted form.kind ++ members form.parts line ++ codes "}"
