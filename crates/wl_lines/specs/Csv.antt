-- Records as lines of one table (RFC 4180, section 2).
use Rattle.std.specs.Prelude.{ℕ, ◌==◌, ◌||◌, Bool, false, List, [], ◌∷◌, ◌++◌, codes, if◌then◌else◌}
use Rattle.std.specs.List.{flat_map, list_any}
use Rattle.std.specs.Str.{bytes_eq}
use Rattle.wl_lines.specs.declared.shape.Class.{Class}
use Rattle.wl_lines.specs.declared.shape.Class.TheVariants.{Number, Measure, Word, Hexadecimal, Phrase, Series, Rest, Nothing}
use Rattle.wl_lines.specs.Shapes.{Text, Part, literal, field, passed, given, TextLine, value_in, later_values}
use Rattle.wl_lines.specs.Numbers.{is_dash}

-- a quotation mark, a comma, a carriage return and a newline
abbrev pub is_special : ℕ → Bool
is_special byte = byte == 34 || byte == 44 || byte == 13 || byte == 10

abbrev pub doubled : ℕ → Text
doubled byte = if byte == 34 then codes "\"\"" else byte ∷ []

-- a text with such a byte is quoted, with its quotation marks twice
abbrev pub csv_text : Text → Text
csv_text text = if list_any is_special text then codes "\"" ++ flat_map doubled text ++ codes "\"" else text

-- a value: if there is no number the cell is empty
abbrev pub csv_value : Class → Text → Text
csv_value Number value = value
csv_value Measure value = if is_dash value then [] else value
csv_value Hexadecimal value = codes "0x" ++ (if is_dash value then [] else value)
csv_value Word value = csv_text value
csv_value Phrase value = csv_text value
csv_value Series value = csv_text value
csv_value Rest value = csv_text value
csv_value Nothing value = []

abbrev pub is_named : Text → Part → Bool
is_named column (literal text) = false
is_named column (field name class) = bytes_eq name column
is_named column (passed class) = false
is_named column (given name class value) = bytes_eq name column

abbrev pub part_value : Part → Text → Text
part_value (literal text) value = []
part_value (field name class) value = csv_value class value
part_value (passed class) value = []
part_value (given name class said) value = csv_value class said

-- the value of the field of this name, or nothing if the line has none
abbrev pub cell : Text → List Part → List Text → Text
cell column [] values = []
cell column (p ∷ parts) values =
    if is_named column p then part_value p (value_in p values) else cell column parts (later_values p values)

abbrev pub cells : List Part → List Text → List Text → Text
cells parts values [] = []
cells parts values (column ∷ columns) = (codes "," ++ cell column parts values) ++ cells parts values columns

abbrev pub csv_row : List Text → TextLine → Text
csv_row columns line = line.form.kind ++ cells line.form.parts line.values columns ++ codes "\r\n"

abbrev pub names : List Text → Text
names [] = []
names (column ∷ columns) = (codes "," ++ column) ++ names columns

abbrev pub csv_header : List Text → Text
csv_header columns = codes "kind" ++ names columns ++ codes "\r\n"
