-- The output of a command as tables with aligned columns, for people (this project's profile): lines of one form after one another are rows below the
-- names of their fields. A line without another one like it stays as it is.
use Rattle.std.specs.Prelude.{ℕ, ◌-◌, ◌&&◌, max, replicate, Bool, true, false, List, [], ◌∷◌, ◌++◌, codes, length, Option, if◌then◌else◌}
use Rattle.std.specs.List.{flat_map}
use Rattle.std.specs.Str.{bytes_eq}
use Rattle.wl_lines.specs.declared.aligned.Paint.{Paint}
use Rattle.wl_lines.specs.declared.aligned.Paint.TheVariants.{Plain, Coloured}
use Rattle.wl_lines.specs.declared.aligned.Column.{Column}
use Rattle.wl_lines.specs.declared.shape.Class.{Class}
use Rattle.wl_lines.specs.declared.shape.Class.TheVariants.{Number, Measure, Hexadecimal}
use Rattle.wl_lines.specs.Shapes.{Text, Part, field, TextLine, Sheet, line_text}
use Rattle.wl_lines.specs.Ranks.{line_value, row_badness, marked_badness, same_badness}

-- a column: the name and the class of a field, and how many characters it is wide
pub record Head : Type 0 where
  pub name : Text
  pub class : Class
  pub width : ℕ

abbrev pub shown_head : Column → Head
shown_head c = record { name = c.name.now; class = c.class; width = c.width }

-- as wide as the name and each value
abbrev pub widest : Text → ℕ → List TextLine → ℕ
widest name width [] = width
widest name width (line ∷ lines) = widest name (max width (length (line_value name line))) lines

abbrev pub heads_of : Part → List TextLine → List Head
heads_of (field name class) rows = record { name = name; class = class; width = widest name (length name) rows } ∷ []
heads_of _ rows = []

-- the columns of rows: the fields among these parts, in order
abbrev pub heads : List Part → List TextLine → List Head
heads [] rows = []
heads (p ∷ ps) rows = heads_of p rows ++ heads ps rows

-- spaces (32)
abbrev pub spaces : ℕ → Text
spaces n = replicate n 32

-- numbers end where their column ends, words begin where it begins
abbrev pub is_numeric : Class → Bool
is_numeric Number = true
is_numeric Measure = true
is_numeric Hexadecimal = true
is_numeric _ = false

abbrev pub padded : Head → Text → Text
padded head value =
    if is_numeric head.class then spaces (head.width - length value) ++ value else value ++ spaces (head.width - length value)

-- a cell, two spaces after the one before
abbrev pub cell : Head → Text → Text
cell head value = codes "  " ++ padded head value

abbrev pub head_cell : Head → Text
head_cell head = cell head head.name

abbrev pub value_cell : TextLine → Head → Text
value_cell line head = cell head (line_value head.name line)

-- escapes of a terminal (ECMA-48, 8.3.117): 27 [ 1 m is bold, 27 [ 1 ; 31 m bold and red, 27 [ 0 m neither
abbrev pub bold : Paint → Text
bold Plain = []
bold Coloured = 27 ∷ codes "[1m"

abbrev pub red : Paint → Text
red Plain = []
red Coloured = 27 ∷ codes "[1;31m"

abbrev pub neither : Paint → Text
neither Plain = []
neither Coloured = 27 ∷ codes "[0m"

-- the first line of a table
abbrev pub title_line : Paint → List Head → Text
title_line paint columns = bold paint ++ (codes " " ++ flat_map head_cell columns) ++ neither paint ++ 10 ∷ []

-- a row; one that is marked has `*` in front
abbrev pub shown_row : Paint → Bool → List Head → TextLine → Text
shown_row paint true columns line = red paint ++ (codes "*" ++ flat_map (value_cell line) columns) ++ neither paint ++ 10 ∷ []
shown_row paint false columns line = codes " " ++ flat_map (value_cell line) columns ++ 10 ∷ []

-- two parts are columns of one name, or no columns
abbrev pub same_part : Part → Part → Bool
same_part (field a _) (field b _) = bytes_eq a b
same_part (field a _) _ = false
same_part _ (field b _) = false
same_part _ _ = true

abbrev pub same_parts : List Part → List Part → Bool
same_parts [] [] = true
same_parts (a ∷ parts) (b ∷ others) = same_part a b && same_parts parts others
same_parts _ _ = false

-- a line is one more of these rows: it has their columns
abbrev pub goes_on : List TextLine → TextLine → Bool
goes_on [] line = false
goes_on (row ∷ rows) line = same_parts row.form.parts line.form.parts

module _ (paint : Paint) (sheet : Sheet) where
  abbrev pub row_lines : List Head → Option ℕ → List TextLine → Text
  row_lines columns marked [] = []
  row_lines columns marked (line ∷ lines) =
      shown_row paint (same_badness (row_badness sheet.worst sheet.judged line) marked) columns line ++ row_lines columns marked lines

  -- some rows, below the names of their fields
  abbrev pub rows_table : List Part → List TextLine → Text
  rows_table parts rows = title_line paint (heads parts rows) ++ row_lines (heads parts rows) (marked_badness sheet.worst sheet.judged rows) rows

  abbrev pub block : List TextLine → Text
  block [] = []
  block (line ∷ []) = line_text line
  block (line ∷ other ∷ rows) = rows_table line.form.parts (line ∷ other ∷ rows)

  -- what is left, after these rows
  abbrev pub blocks : List TextLine → List TextLine → Text
  blocks rows [] = block rows
  blocks rows (line ∷ lines) = if goes_on rows line then blocks (rows ++ line ∷ []) lines else block rows ++ blocks (line ∷ []) lines

-- a whole output
abbrev pub aligned : Paint → Sheet → List TextLine → Text
aligned paint sheet lines = blocks paint sheet [] lines
