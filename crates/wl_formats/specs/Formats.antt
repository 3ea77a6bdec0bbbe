-- The output of a command in another format, as a definition of its text (this project's profile).
use Rattle.std.specs.Prelude.{ℕ, ◌==◌, Bool, true, false, List, [], ◌∷◌, ◌++◌, codes, Option, Some, None, is_some, if◌then◌else◌}
use Rattle.std.specs.List.{list_all}
use Rattle.wl_formats.specs.declared.aligned.Paint.TheVariants.{Plain, Coloured}
use Rattle.wl_lines.specs.declared.formats.Format.{Format}
use Rattle.wl_lines.specs.declared.formats.Format.TheVariants as format
use Rattle.wl_formats.specs.declared.formats.RecordForm.{RecordForm}
use Rattle.wl_formats.specs.declared.formats.RecordForm.TheVariants.{Json, Csv}
use Rattle.wl_formats.specs.declared.tables.Subject.{Subject}
use Rattle.wl_formats.specs.Shapes.{Text, Form, Layout}
use Rattle.wl_formats.specs.Matching.{form_for}
use Rattle.wl_formats.specs.Json.{json_record}
use Rattle.wl_lines.specs.Json.{quoted}
use Rattle.wl_formats.specs.Csv.{csv_header, csv_row}
use Rattle.wl_formats.specs.Aligned.{aligned}
use Rattle.wl_formats.specs.Layouts.{layout}

abbrev pub is_newline : ℕ → Bool
is_newline byte = byte == 10

-- the lines of a text: each ends with a newline, which the last one may lack
abbrev pub grown : ℕ → List Text → List Text
grown byte [] = (byte ∷ []) ∷ []
grown byte (line ∷ lines) = (byte ∷ line) ∷ lines

abbrev pub lines_of : Text → List Text
lines_of [] = []
lines_of (byte ∷ bytes) = if is_newline byte then [] ∷ lines_of bytes else grown byte (lines_of bytes)

-- what comes before a record of JSON
abbrev pub separator : Bool → Text
separator is_first = if is_first then codes "\n" else codes ",\n"

-- the record of a line of this form
abbrev pub form_bytes : RecordForm → Layout → Bool → Form → Text → Text
form_bytes Json layout is_first form line = separator is_first ++ json_record form line
form_bytes Csv layout is_first form line = csv_row layout.columns form line

abbrev pub formed : RecordForm → Layout → Bool → Option Form → Text → Text
formed format layout is_first None line = []
formed format layout is_first (Some form) line = form_bytes format layout is_first form line

-- a line has the first form that it fits
abbrev pub line_bytes : RecordForm → Layout → Bool → Text → Text
line_bytes format layout is_first line = formed format layout is_first (form_for layout.forms line) line

abbrev pub lines_bytes : RecordForm → Layout → Bool → List Text → Text
lines_bytes format layout is_first [] = []
lines_bytes format layout is_first (line ∷ lines) = line_bytes format layout is_first line ++ lines_bytes format layout false lines

abbrev pub all_fit : Layout → List Text → Bool
all_fit layout lines = list_all (λ line. is_some (form_for layout.forms line)) lines

-- JSON begins with the command, and the list of records
abbrev pub opening : Text → Text
opening command = codes "{\"command\":" ++ quoted command ++ codes ",\"records\":["

abbrev pub head_bytes : RecordForm → Layout → Text
head_bytes Json layout = opening layout.command
head_bytes Csv layout = csv_header layout.columns

abbrev pub foot_bytes : RecordForm → Text
foot_bytes Json = codes "\n]}\n"
foot_bytes Csv = []

-- the whole output as records, and as tables
abbrev pub records : RecordForm → Layout → Text → Text
records format layout text = head_bytes format layout ++ lines_bytes format layout true (lines_of text) ++ foot_bytes format

abbrev pub formatted_text : Format → Subject → Text → Text
formatted_text format.Json subject text = records Json (layout subject) text
formatted_text format.Csv subject text = records Csv (layout subject) text
formatted_text format.Table subject text = aligned Plain subject (layout subject).forms (lines_of text)
formatted_text format.Coloured subject text = aligned Coloured subject (layout subject).forms (lines_of text)

-- the whole output, if each line fits a form
abbrev pub formatted : Format → Subject → Text → Option Text
formatted format subject text = if all_fit (layout subject) (lines_of text) then Some (formatted_text format subject text) else None
