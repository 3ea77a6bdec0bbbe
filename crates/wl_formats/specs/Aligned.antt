-- The output of a command as tables with aligned columns, for people (this project's profile): lines of one form after one another are rows below the
-- names of their fields. A line without another one like it stays as it is.
use Rattle.std.specs.Prelude.{ℕ, ◌-◌, ◌==◌, nat_le, max, replicate, Bool, true, false, List, [], ◌∷◌, ◌++◌, codes, length, Option, Some, None, is_some, if◌then◌else◌}
use Rattle.std.specs.List.{flat_map}
use Rattle.wl_formats.specs.declared.aligned.Paint.{Paint}
use Rattle.wl_formats.specs.declared.aligned.Paint.TheVariants.{Plain, Coloured}
use Rattle.wl_formats.specs.declared.aligned.Column.{Column}
use Rattle.wl_formats.specs.declared.shape.Class.{Class}
use Rattle.wl_formats.specs.declared.shape.Class.TheVariants.{Number, Measure, Word, Hexadecimal, Phrase, Series, Rest}
use Rattle.wl_formats.specs.declared.rank.Worst.{Worst}
use Rattle.wl_formats.specs.declared.tables.Subject.{Subject}
use Rattle.wl_formats.specs.Shapes.{Text, Part, literal, field, passed, given, Form}
use Rattle.wl_formats.specs.Matching.{fits, form_for}
use Rattle.wl_formats.specs.Ranks.{value_of, row_badness, marked_badness, same_badness, worst_of, judged_fields}

-- a column: the name and the class of a field, and how many characters it is wide
pub record Head : Type 0 where
  pub name : Text
  pub class : Class
  pub width : ℕ

abbrev pub shown_head : Column → Head
shown_head c = record { name = c.name.now; class = c.class; width = c.width }

-- as wide as the name and each value
abbrev pub widest : Text → List Part → ℕ → List Text → ℕ
widest name parts width [] = width
widest name parts width (line ∷ lines) = widest name parts (max width (length (value_of name parts line))) lines

abbrev pub heads_of : Part → List Part → List Text → List Head
heads_of (field name class) parts rows = record { name = name; class = class; width = widest name parts (length name) rows } ∷ []
heads_of _ parts rows = []

-- the columns of rows: the fields among these parts, in order
abbrev pub heads : List Part → List Part → List Text → List Head
heads parts [] rows = []
heads parts (p ∷ ps) rows = heads_of p parts rows ++ heads parts ps rows

-- spaces (32)
abbrev pub spaces : ℕ → Text
spaces n = replicate n 32

-- numbers end where their column ends, words begin where it begins
abbrev pub is_numeric : Class → Bool
is_numeric Number = true
is_numeric Measure = true
is_numeric Hexadecimal = true
is_numeric _ = false

abbrev pub padded : Head → Text → Text
padded head value =
    if is_numeric head.class then spaces (head.width - length value) ++ value else value ++ spaces (head.width - length value)

-- a cell, two spaces after the one before
abbrev pub cell : Head → Text → Text
cell head value = codes "  " ++ padded head value

abbrev pub head_cell : Head → Text
head_cell head = cell head head.name

abbrev pub value_cell : List Part → Text → Head → Text
value_cell parts line head = cell head (value_of head.name parts line)

-- escapes of a terminal (ECMA-48, 8.3.117): 27 [ 1 m is bold, 27 [ 1 ; 31 m bold and red, 27 [ 0 m neither
abbrev pub bold : Paint → Text
bold Plain = []
bold Coloured = 27 ∷ codes "[1m"

abbrev pub red : Paint → Text
red Plain = []
red Coloured = 27 ∷ codes "[1;31m"

abbrev pub neither : Paint → Text
neither Plain = []
neither Coloured = 27 ∷ codes "[0m"

-- the first line of a table
abbrev pub title_line : Paint → List Head → Text
title_line paint columns = bold paint ++ (codes " " ++ flat_map head_cell columns) ++ neither paint ++ 10 ∷ []

-- a row; one that is marked has `*` in front
abbrev pub shown_row : Paint → Bool → List Part → List Head → Text → Text
shown_row paint true parts columns line = red paint ++ (codes "*" ++ flat_map (value_cell parts line) columns) ++ neither paint ++ 10 ∷ []
shown_row paint false parts columns line = codes " " ++ flat_map (value_cell parts line) columns ++ 10 ∷ []

-- a line is one more of a form
abbrev pub goes_on : Option Form → Text → Bool
goes_on None line = false
goes_on (Some form) line = fits form.parts line

module _ (paint : Paint) (worst : Worst) (names : List Text) where
  abbrev pub row_lines : List Part → List Head → Option ℕ → List Text → Text
  row_lines parts columns marked [] = []
  row_lines parts columns marked (line ∷ lines) =
      shown_row paint (same_badness (row_badness worst names parts line) marked) parts columns line ++ row_lines parts columns marked lines

  -- some rows, below the names of their fields
  abbrev pub table : List Part → List Text → Text
  table parts rows = title_line paint (heads parts parts rows) ++ row_lines parts (heads parts parts rows) (marked_badness worst names parts rows) rows

  abbrev pub block : List Part → List Text → Text
  block parts [] = []
  block parts (line ∷ []) = line ++ 10 ∷ []
  block parts (line ∷ other ∷ rows) = table parts (line ∷ other ∷ rows)

  abbrev pub block_of : Option Form → List Text → Text
  block_of None rows = []
  block_of (Some form) rows = block form.parts rows

  -- what is left, after these rows of a form
  abbrev pub blocks : List Form → Option Form → List Text → List Text → Text
  blocks forms form rows [] = block_of form rows
  blocks forms form rows (line ∷ lines) =
      if goes_on form line then blocks forms form (rows ++ line ∷ []) lines
      else block_of form rows ++ blocks forms (form_for forms line) (line ∷ []) lines

-- a whole output
abbrev pub aligned : Paint → Subject → List Form → List Text → Text
aligned paint subject forms lines = blocks paint (worst_of subject) (judged_fields subject) forms None [] lines
