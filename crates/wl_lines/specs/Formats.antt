-- The output of a command, as a definition of its lines (this project's profile).
use Rattle.std.specs.Prelude.{Bool, true, false, List, [], ◌∷◌, ◌++◌, codes, Option, Some, None, if◌then◌else◌}
use Rattle.std.specs.List.{flat_map}
use Rattle.wl_lines.specs.declared.aligned.Paint.TheVariants.{Plain, Coloured}
use Rattle.wl_lines.specs.declared.formats.Format.{Format}
use Rattle.wl_lines.specs.declared.formats.Format.TheVariants as format
use Rattle.wl_lines.specs.declared.formats.RecordForm.{RecordForm}
use Rattle.wl_lines.specs.declared.formats.RecordForm.TheVariants.{Json, Csv}
use Rattle.wl_lines.specs.Shapes.{Text, TextLine, Sheet, line_text}
use Rattle.wl_lines.specs.Json.{json_record, quoted}
use Rattle.wl_lines.specs.Csv.{csv_header, csv_row}
use Rattle.wl_lines.specs.Aligned.{aligned}

-- the text of a command: its lines, one after another
abbrev pub lines_text : List TextLine → Text
lines_text lines = flat_map line_text lines

-- what comes before a record of JSON
abbrev pub separator : Bool → Text
separator is_first = if is_first then codes "\n" else codes ",\n"

abbrev pub line_bytes : RecordForm → Sheet → Bool → TextLine → Text
line_bytes Json sheet is_first line = separator is_first ++ json_record line
line_bytes Csv sheet is_first line = csv_row sheet.columns line

abbrev pub lines_bytes : RecordForm → Sheet → Bool → List TextLine → Text
lines_bytes format sheet is_first [] = []
lines_bytes format sheet is_first (line ∷ lines) = line_bytes format sheet is_first line ++ lines_bytes format sheet false lines

-- JSON begins with the command, and the list of records
abbrev pub opening : Text → Text
opening command = codes "{\"command\":" ++ quoted command ++ codes ",\"records\":["

abbrev pub head_bytes : RecordForm → Sheet → Text
head_bytes Json sheet = opening sheet.command
head_bytes Csv sheet = csv_header sheet.columns

abbrev pub foot_bytes : RecordForm → Text
foot_bytes Json = codes "\n]}\n"
foot_bytes Csv = []

-- the whole output as records
abbrev pub records : RecordForm → Sheet → List TextLine → Text
records format sheet lines = head_bytes format sheet ++ lines_bytes format sheet true lines ++ foot_bytes format

-- the whole output
abbrev pub formatted : Format → Sheet → List TextLine → Text
formatted format.Json sheet lines = records Json sheet lines
formatted format.Csv sheet lines = records Csv sheet lines
formatted format.Table sheet lines = aligned Plain sheet lines
formatted format.Coloured sheet lines = aligned Coloured sheet lines

-- as text, or in another format
abbrev pub written_as : Option Format → Sheet → List TextLine → Text
written_as None sheet lines = lines_text lines
written_as (Some other) sheet lines = formatted other sheet lines
