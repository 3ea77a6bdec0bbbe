-- Worked values of the definitions: RFC 8259, RFC 4180 and ECMA-48 on two lines with a field each for a number, a measure, a name and an identifier.
use Rattle.std.proofs.Common.{◌≡◌, refl, true, false, Some, None, codes, List, ℕ, [], ◌∷◌}
use Rattle.wl_lines.specs.declared.formats.Format.TheVariants.{Json, Csv, Table, Coloured}
use Rattle.wl_lines.specs.declared.rank.Worst.TheVariants.{Greatest}
use Rattle.wl_lines.specs.declared.shape.Class.TheVariants.{Hexadecimal, Measure, Number, Rest, Word}
use Rattle.wl_lines.specs.Shapes.{Form, Sheet, TextLine, field, given, literal, passed}
use Rattle.wl_lines.specs.Numbers.{is_number}
use Rattle.wl_lines.specs.Json.{quoted}
use Rattle.wl_lines.specs.Csv.{csv_text}
use Rattle.wl_lines.specs.Formats.{written_as}

-- numbers, and what is none: a superfluous zero, no digit before or after the point, two points, a sign alone
zero : is_number (codes "0") ≡ true
zero = refl

negative : is_number (codes "-72.125") ≡ true
negative = refl

superfluous_zero : is_number (codes "012") ≡ false
superfluous_zero = refl

no_whole_part : is_number (codes ".5") ≡ false
no_whole_part = refl

no_fraction : is_number (codes "5.") ≡ false
no_fraction = refl

two_points : is_number (codes "1.2.3") ≡ false
two_points = refl

sign_alone : is_number (codes "-") ≡ false
sign_alone = refl

-- escapes
mark_and_backslash : quoted (codes "a\"b\\c") ≡ codes "\"a\\\"b\\\\c\""
mark_and_backslash = refl

control_byte : quoted (codes "\n\u{1f}") ≡ codes "\"\\u000a\\u001f\""
control_byte = refl

plain_cell : csv_text (codes "a b") ≡ codes "a b"
plain_cell = refl

quoted_cell : csv_text (codes "a\"b,c") ≡ codes "\"a\"\"b,c\""
quoted_cell = refl

-- a line of a node's wait, and the last one
abbrev wait_form : Form
wait_form = record {
  kind = codes "wait";
  parts =
      literal (codes "node ") ∷ field (codes "node") Number ∷ literal (codes " ") ∷ field (codes "name") Word ∷ literal (codes " ") ∷
      field (codes "id") Hexadecimal ∷ literal (codes " us ") ∷ field (codes "us") Measure ∷ [];
}

abbrev end_form : Form
end_form = record {
  kind = codes "end";
  parts = literal (codes "ends ") ∷ passed Word ∷ literal (codes ": ") ∷ given (codes "verdict") Word (codes "late") ∷ field (codes "reason") Rest ∷ [];
}

abbrev sheet : Sheet
sheet = record {
  command = codes "wait";
  columns = codes "node" ∷ codes "name" ∷ codes "id" ∷ codes "us" ∷ codes "verdict" ∷ codes "reason" ∷ [];
  worst = Greatest;
  judged = codes "us" ∷ [];
}

abbrev lines : List TextLine
lines =
    record { form = wait_form; values = codes "0" ∷ codes "pump" ∷ codes "1a0" ∷ codes "12.5" ∷ [] } ∷
    record { form = wait_form; values = codes "10" ∷ codes "fan" ∷ codes "0000003b" ∷ codes "-" ∷ [] } ∷
    record { form = end_form; values = codes "here" ∷ codes "pump, fan" ∷ [] } ∷ []

as_text : written_as None sheet lines ≡ codes "node 0 pump 1a0 us 12.5\nnode 10 fan 0000003b us -\nends here: pump, fan\n"
as_text = refl

as_json : written_as (Some Json) sheet lines
    ≡ codes "{\"command\":\"wait\",\"records\":[\n{\"kind\":\"wait\",\"node\":0,\"name\":\"pump\",\"id\":\"0x1a0\",\"us\":12.5},\n{\"kind\":\"wait\",\"node\":10,\"name\":\"fan\",\"id\":\"0x0000003b\",\"us\":null},\n{\"kind\":\"end\",\"verdict\":\"late\",\"reason\":\"pump, fan\"}\n]}\n"
as_json = refl

as_csv : written_as (Some Csv) sheet lines
    ≡ codes "kind,node,name,id,us,verdict,reason\r\nwait,0,pump,0x1a0,12.5,,\r\nwait,10,fan,0x0000003b,,,\r\nend,,,,,late,\"pump, fan\"\r\n"
as_csv = refl

-- the greatest wait is marked; numbers end where their column ends, names begin where it begins
as_table : written_as (Some Table) sheet lines
    ≡ codes "   node  name        id    us\n*     0  pump       1a0  12.5\n     10  fan   0000003b     -\nends here: pump, fan\n"
as_table = refl

in_colours : written_as (Some Coloured) sheet lines
    ≡ codes "\u{1b}[1m   node  name        id    us\u{1b}[0m\n\u{1b}[1;31m*     0  pump       1a0  12.5\u{1b}[0m\n     10  fan   0000003b     -\nends here: pump, fan\n"
in_colours = refl

no_line : written_as (Some Json) sheet [] ≡ codes "{\"command\":\"wait\",\"records\":[\n]}\n"
no_line = refl
