-- The text of a part of a sweep (this project's profile): one line, an object of JSON (RFC 8259). Words are functions of what comes after them.
use Rattle.std.specs.Prelude.{◌≡◌, ℕ, ◌<◌, ◌^◌, List, [], ◌∷◌, ◌++◌, length, codes, Option, Some, None}
use Rattle.std.specs.List.{AllByRecursion, flat_map}
use Rattle.std.specs.Fmt.{decimal}
use Rattle.wl_lines.specs.Json.{escaped}
use Rattle.wl_parts.specs.declared.found.RowCounts.{RowCounts}
use Rattle.wl_parts.specs.declared.found.FirstMember.{FirstMember}
use Rattle.wl_parts.specs.declared.found.Findings.{Findings}
use Rattle.wl_parts.specs.declared.part.SweepPart.{SweepPart}

-- a text has grown by words
abbrev pub AddsWords : List ℕ → List ℕ → (List ℕ → List ℕ) → Type 0
AddsWords old new words = (rest : List ℕ) → new ++ rest ≡ old ++ words rest

-- a number and the byte after it
abbrev pub number_words : ℕ → ℕ → List ℕ → List ℕ
number_words n last rest = decimal n ++ last ∷ rest

-- bytes as a string of JSON: a quotation mark (34), the bytes, a quotation mark
abbrev pub bytes_words : List ℕ → List ℕ → List ℕ
bytes_words bytes rest = 34 ∷ (escaped bytes ++ 34 ∷ rest)

-- one of several strings: a comma (44) comes after each
abbrev pub word_words : List ℕ → List ℕ → List ℕ
word_words word rest = bytes_words word (44 ∷ rest)

-- each, one after another
abbrev pub each_words : {T : Type 0} → (T → List ℕ → List ℕ) → List T → List ℕ → List ℕ
each_words words [] rest = rest
each_words words (x ∷ xs) rest = words x (each_words words xs rest)

-- how many, and then each
abbrev pub list_words : {T : Type 0} → (T → List ℕ → List ℕ) → List T → List ℕ → List ℕ
list_words words xs rest = number_words (length xs) 44 (each_words words xs rest)

-- the counts of a row; `}` is 125
abbrev pub row_counts_words : RowCounts → List ℕ → List ℕ
row_counts_words c rest =
    codes "{\"runs\":" ++ number_words c.runs 44 (codes "\"clean\":" ++ number_words c.clean 44
    (codes "\"early\":" ++ number_words c.early 44 (codes "\"refused\":" ++ number_words c.refused 125 (44 ∷ rest))))

-- the first member of a kind, by its number and line, if there is one: 1 and the member, else 0
abbrev pub numbered_words : FirstMember → List ℕ → List ℕ
numbered_words m rest = codes "{\"number\":" ++ number_words m.number 44 (codes "\"line\":" ++ bytes_words m.line (codes "}," ++ rest))

abbrev pub first_words : Option FirstMember → List ℕ → List ℕ
first_words None rest = number_words 0 44 rest
first_words (Some m) rest = number_words 1 44 (numbered_words m rest)

-- what a part found
abbrev pub found_words : Findings → List ℕ → List ℕ
found_words f rest =
    codes ",\"rows\":[" ++ list_words row_counts_words f.rows (codes "null],\"unclean\":[" ++ first_words f.unclean
    (codes "null],\"refused\":[" ++ first_words f.refused (codes "null]}\n" ++ rest)))

-- of which sweep the part is, and what all parts of that sweep say alike
abbrev pub sweep_words : SweepPart → List ℕ → List ℕ
sweep_words p rest =
    codes "\"sweep\":" ++ bytes_words p.of (codes ",\"words\":[" ++ list_words word_words p.words
    (codes "null],\"members\":" ++ bytes_words p.members (codes ",\"tail\":" ++ bytes_words p.tail rest)))

abbrev pub part_words : SweepPart → List ℕ → List ℕ
part_words p rest =
    codes "{\"part\":" ++ number_words p.number 44 (codes "\"of\":" ++ number_words p.count 44 (sweep_words p (found_words p.found rest)))

-- the text of a part, and of several, one after another
unfoldable pub part_text : SweepPart → List ℕ
part_text p = part_words p []

abbrev pub parts_text : List SweepPart → List ℕ
parts_text ps = flat_map part_text ps

-- each number has 64 bits
abbrev pub Fits64 : ℕ → Type 0
Fits64 n = n < 2 ^ 64

pub record CountsFit (c : RowCounts) : Type 0 where
  pub runs : Fits64 c.runs
  pub clean : Fits64 c.clean
  pub early : Fits64 c.early
  pub refused : Fits64 c.refused

abbrev pub FirstFits : Option FirstMember → Type 0
FirstFits None = Unit {0}
FirstFits (Some m) = Fits64 m.number

pub record FoundFits (f : Findings) : Type 0 where
  pub some : Fits64 (length f.rows)
  pub rows : AllByRecursion CountsFit f.rows
  pub unclean : FirstFits f.unclean
  pub refused : FirstFits f.refused

pub record PartFits (p : SweepPart) : Type 0 where
  pub number : Fits64 p.number
  pub count : Fits64 p.count
  pub words : Fits64 (length p.words)
  pub found : FoundFits p.found
