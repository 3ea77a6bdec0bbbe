-- The shapes of lines, as what they hold (this project's profile).
use Rattle.std.specs.Prelude.{◌≡◌, ℕ, zero, suc, Bool, true, false, List, [], ◌∷◌, ◌++◌, map, Option, Some, None, if◌then◌else◌}
use Rattle.wl_lines.specs.declared.shape.Class.{Class}
use Rattle.wl_lines.specs.declared.shape.Piece.{Piece}
use Rattle.wl_lines.specs.declared.shape.Piece.TheVariants.{Fixed, Field, Passed, Given}
use Rattle.wl_lines.specs.declared.shape.Shape.{Shape}
use Rattle.wl_lines.specs.declared.shape.Outline.{Outline}
use Rattle.wl_lines.specs.declared.rank.Worst.{Worst}

abbrev pub Text : Type 0
Text = List ℕ

-- a part of a line: these bytes, the value of a field with this name, a value that is in no field, or a field that has this value in every such line
pub data Part : Type 0 where
  literal : Text → Part
  field : Text → Class → Part
  passed : Class → Part
  given : Text → Class → Text → Part

-- a kind of line, with its parts
pub record Form : Type 0 where
  pub kind : Text
  pub parts : List Part

-- a line: its form, and the values of its parts that have one, in order
pub record TextLine : Type 0 where
  pub form : Form
  pub values : List Text

-- a line has the value that is shown, if it is known what that is
abbrev pub AddsShown : Option Text → TextLine → TextLine → Type 0
AddsShown None old new = Unit {0}
AddsShown (Some words) old new = new ≡ record old { values = old.values ++ words ∷ [] }

-- a line for each number below one, in order
abbrev pub lines_to : (ℕ → TextLine) → ℕ → List TextLine
lines_to line zero = []
lines_to line (suc n) = lines_to line n ++ line n ∷ []

-- a command, with the names of its fields in the order of the columns
pub record Sheet : Type 0 where
  pub command : Text
  pub columns : List Text
  pub worst : Worst
  pub judged : List Text

abbrev pub part_of : Piece → Part
part_of (Fixed text) = literal text.now
part_of (Field name class) = field name.now class
part_of (Passed class) = passed class
part_of (Given name class value) = given name.now class value.now

abbrev pub form_of : Shape → Form
form_of s = record { kind = s.kind.now; parts = map part_of s.pieces.now }

abbrev pub sheet_of : Outline → Sheet
sheet_of t = record {
  command = t.command.now;
  columns = map (λ c. c.now) t.columns.now;
  worst = t.worst;
  judged = map (λ n. n.now) t.judged.now;
}

-- whether a part has a value among those of a line
abbrev pub has_value : Part → Bool
has_value (literal text) = false
has_value (field name class) = true
has_value (passed class) = true
has_value (given name class value) = false

abbrev pub first_value : List Text → Text
first_value [] = []
first_value (v ∷ values) = v

abbrev pub others : List Text → List Text
others [] = []
others (v ∷ values) = values

-- what a part takes of the values, and what is left
abbrev pub value_in : Part → List Text → Text
value_in p values = if has_value p then first_value values else []

abbrev pub later_values : Part → List Text → List Text
later_values p values = if has_value p then others values else values

-- the text of a part
abbrev pub piece_text : Part → Text → Text
piece_text (literal text) value = text
piece_text (field name class) value = value
piece_text (passed class) value = value
piece_text (given name class said) value = []

abbrev pub pieces_text : List Part → List Text → Text
pieces_text [] values = []
pieces_text (p ∷ parts) values = piece_text p (value_in p values) ++ pieces_text parts (later_values p values)

-- a line as text, with its newline (10)
abbrev pub line_text : TextLine → Text
line_text line = pieces_text line.form.parts line.values ++ 10 ∷ []
