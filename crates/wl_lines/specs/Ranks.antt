-- Which rows of a table are the worst: those with the least, or the greatest, number in some fields (this project's profile).
use Rattle.std.specs.Prelude.{ℕ, ◌+◌, ◌-◌, ◌*◌, ◌==◌, not, min, nat_eq, Bool, false, List, [], ◌∷◌, fold, Option, Some, None, if◌then◌else◌}
use Rattle.std.specs.List.{list_all, starts_with}
use Rattle.std.specs.Char.{is_ascii_digit}
use Rattle.std.specs.Str.{bytes_eq}
use Rattle.wl_lines.specs.declared.rank.Worst.{Worst}
use Rattle.wl_lines.specs.declared.rank.Worst.TheVariants.{Least, Greatest, NoRow}
use Rattle.wl_lines.specs.Shapes.{Text, Part, TextLine, field, value_in, later_values}
use Rattle.wl_lines.specs.Numbers.{is_number}

-- the digits of a number, without its point, as a whole number of at most 15 digits
abbrev pub digits_after : ℕ → ℕ → ℕ
digits_after n byte = if is_ascii_digit byte then min (n * 10 + (byte - 48)) 1000000000000000 else n

abbrev pub magnitude : Text → ℕ
magnitude value = fold digits_after 0 value

-- The place of a number among others with as many digits after the point; a minus (45) comes first. What is no number has none.
abbrev pub number_place : Text → Option ℕ
number_place value =
    if not (is_number value) then None
    else if starts_with nat_eq value (45 ∷ []) then Some (1000000000000000 - magnitude value)
    else Some (1000000000000000 + magnitude value)

-- the lesser of two, if there are two
abbrev pub lesser_badness : Option ℕ → Option ℕ → Option ℕ
lesser_badness None other = other
lesser_badness (Some a) None = Some a
lesser_badness (Some a) (Some b) = Some (min a b)

-- the other way round: of two places the lesser is the greater
abbrev pub turned : Option ℕ → Option ℕ
turned None = None
turned (Some n) = Some (2000000000000000 - n)

-- how bad a number is: the less, the worse
abbrev pub badness : Worst → Text → Option ℕ
badness NoRow value = None
badness Least value = number_place value
badness Greatest value = turned (number_place value)

abbrev pub is_field : Text → Part → Bool
is_field name (field n class) = bytes_eq n name
is_field name _ = false

-- the value of the field of this name, or nothing if the line has none
abbrev pub value_of : Text → List Part → List Text → Text
value_of name [] values = []
value_of name (p ∷ parts) values = if is_field name p then value_in p values else value_of name parts (later_values p values)

-- the value of a line's field
abbrev pub line_value : Text → TextLine → Text
line_value name line = value_of name line.form.parts line.values

-- how bad a row is: by the worst of its fields, and of what was found before
abbrev pub row_badness_from : Option ℕ → Worst → List Text → TextLine → Option ℕ
row_badness_from found worst [] line = found
row_badness_from found worst (name ∷ names) line = row_badness_from (lesser_badness found (badness worst (line_value name line))) worst names line

abbrev pub row_badness : Worst → List Text → TextLine → Option ℕ
row_badness worst names line = row_badness_from None worst names line

abbrev pub worst_from : Option ℕ → Worst → List Text → List TextLine → Option ℕ
worst_from found worst names [] = found
worst_from found worst names (line ∷ lines) = worst_from (lesser_badness found (row_badness worst names line)) worst names lines

abbrev pub worst_among : Worst → List Text → List TextLine → Option ℕ
worst_among worst names lines = worst_from None worst names lines

abbrev pub same_badness : Option ℕ → Option ℕ → Bool
same_badness (Some a) (Some b) = a == b
same_badness _ _ = false

-- all rows are as bad as that
abbrev pub are_alike : Worst → List Text → Option ℕ → List TextLine → Bool
are_alike worst names bad lines = list_all (λ line. same_badness (row_badness worst names line) bad) lines

-- how bad the rows are that are marked: those that are as bad as the worst, unless all are
abbrev pub marked_badness : Worst → List Text → List TextLine → Option ℕ
marked_badness worst names lines = if are_alike worst names (worst_among worst names lines) lines then None else worst_among worst names lines
