-- The shapes of lines, as what they hold (this project's profile).
use Rattle.std.specs.Prelude.{ℕ, List, ◌++◌, map}
use Rattle.wl_formats.specs.declared.shape.Class.{Class}
use Rattle.wl_formats.specs.declared.shape.Piece.{Piece}
use Rattle.wl_formats.specs.declared.shape.Piece.TheVariants.{Fixed, Field, Passed, Given}
use Rattle.wl_formats.specs.declared.shape.Shape.{Shape}
use Rattle.wl_formats.specs.declared.shape.Table.{Table}

abbrev pub Text : Type 0
Text = List ℕ

-- a part of a line: these bytes, the value of a field with this name, a value that is in no field, or a field that has this value in every such line
pub data Part : Type 0 where
  literal : Text → Part
  field : Text → Class → Part
  passed : Class → Part
  given : Text → Class → Text → Part

-- a kind of line, with its parts
pub record Form : Type 0 where
  pub kind : Text
  pub parts : List Part

-- a command, with the names of its fields in the order of the columns, and the forms of its lines
pub record Layout : Type 0 where
  pub command : Text
  pub columns : List Text
  pub forms : List Form

abbrev pub part_of : Piece → Part
part_of (Fixed text) = literal text.now
part_of (Field name class) = field name.now class
part_of (Passed class) = passed class
part_of (Given name class value) = given name.now class value.now

abbrev pub form_of : Shape → Form
form_of s = record { kind = s.kind.now; parts = map part_of s.pieces.now }

abbrev pub layout_of : Table → Layout
layout_of t = record { command = t.command.now; columns = map (λ c. c.now) t.columns.now; forms = map form_of t.shapes.now ++ map form_of t.more.now }
