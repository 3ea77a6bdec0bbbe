-- Records as lines of one table (RFC 4180, section 2).
use Rattle.std.specs.Prelude.{Bool, false, List, [], ◌∷◌, ◌++◌, codes, drop, take, if◌then◌else◌}
use Rattle.std.specs.Str.{bytes_eq}
use Rattle.wl_formats.specs.declared.shape.Class.{Class}
use Rattle.wl_formats.specs.declared.shape.Class.TheVariants.{Number, Measure, Word, Hexadecimal, Phrase, Series, Rest}
use Rattle.wl_formats.specs.Shapes.{Text, Part, literal, field, passed, given, Form}
use Rattle.wl_formats.specs.Matching.{width}
use Rattle.wl_lines.specs.Csv.{csv_text}
use Rattle.wl_lines.specs.Numbers.{is_dash}

-- a value: if there is no number the cell is empty
abbrev pub csv_value : Class → Text → Text
csv_value Number value = value
csv_value Measure value = if is_dash value then [] else value
csv_value Hexadecimal value = codes "0x" ++ (if is_dash value then [] else value)
csv_value Word value = csv_text value
csv_value Phrase value = csv_text value
csv_value Series value = csv_text value
csv_value Rest value = csv_text value

abbrev pub is_named : Text → Part → Bool
is_named column (literal text) = false
is_named column (field name class) = bytes_eq name column
is_named column (passed class) = false
is_named column (given name class value) = bytes_eq name column

abbrev pub part_value : Part → Text → Text
part_value (literal text) value = []
part_value (field name class) value = csv_value class value
part_value (passed class) value = []
part_value (given name class said) value = csv_value class said

-- the value of the field of this name, or nothing if the line has none
abbrev pub cell : Text → List Part → Text → Text
cell column [] line = []
cell column (p ∷ parts) line =
    if is_named column p then part_value p (take (width p line) line) else cell column parts (drop (width p line) line)

abbrev pub cells : List Part → Text → List Text → Text
cells parts line [] = []
cells parts line (column ∷ columns) = (codes "," ++ cell column parts line) ++ cells parts line columns

abbrev pub csv_row : List Text → Form → Text → Text
csv_row columns form line = form.kind ++ cells form.parts line columns ++ codes "\r\n"

abbrev pub names : List Text → Text
names [] = []
names (column ∷ columns) = (codes "," ++ column) ++ names columns

abbrev pub csv_header : List Text → Text
csv_header columns = codes "kind" ++ names columns ++ codes "\r\n"
