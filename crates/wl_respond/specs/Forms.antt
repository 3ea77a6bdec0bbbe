-- The forms of the lines of `respond`, each with its fields (this project's profile).
use Rattle.std.specs.Prelude.{ℕ, List, [], ◌∷◌, codes}
use Rattle.wl_lines.specs.declared.shape.Class.TheVariants.{Hexadecimal, Measure, Nothing, Number, Phrase, Rest, Word}
use Rattle.wl_lines.specs.declared.rank.Worst.TheVariants.{Greatest}
use Rattle.wl_lines.specs.Shapes.{Form, Part, Sheet, literal, field, given}

abbrev pub form_with : (kind : List ℕ) → List Part → Form
form_with kind parts = record { kind = kind; parts = parts }

abbrev pub proof_form : Form
proof_form = form_with (codes "proof") (literal (codes "proved: ") ∷ field (codes "proved") Word ∷ [])

abbrev pub not_proved_form : Form
not_proved_form = form_with (codes "not_proved") (literal (codes "not proved: ") ∷ field (codes "reason") Rest ∷ [])

abbrev pub load_form : Form
load_form = form_with (codes "bus") (literal (codes "bus load at most ") ∷ field (codes "load_percent") Number ∷ literal (codes " %") ∷ [])

-- a message, and the message that blocks it
abbrev pub message_form : Form
message_form = form_with (codes "message") (
    literal (codes "message ") ∷ field (codes "node") Number ∷ literal (codes " ") ∷ field (codes "name") Word ∷
    literal (codes " ") ∷ field (codes "id") Hexadecimal ∷ literal (codes " bits ") ∷ field (codes "bits") Number ∷
    literal (codes " every ") ∷ field (codes "every_quanta") Measure ∷ literal (codes " jitter ") ∷
    field (codes "jitter_us") Number ∷ literal (codes " quanta ") ∷ field (codes "bound_quanta") Measure ∷
    literal (codes " us ") ∷ field (codes "bound_us") Measure ∷ literal (codes " deadline ") ∷
    field (codes "deadline_us") Measure ∷ literal (codes " ") ∷ field (codes "deadline") Word ∷
    literal (codes " start ") ∷ field (codes "start_us") Measure ∷ literal (codes " blocked ") ∷
    field (codes "blocked_us") Measure ∷ literal (codes " queue ") ∷ field (codes "queue_us") Measure ∷
    literal (codes " others ") ∷ field (codes "others_us") Measure ∷ literal (codes " frame ") ∷
    field (codes "frame_us") Measure ∷ literal (codes " by ") ∷ field (codes "by_name") Word ∷ literal (codes " ") ∷
    field (codes "by_id") Hexadecimal ∷ [])

-- A message that none blocks has the same columns, as wide and on the same side.
abbrev pub alone_form : Form
alone_form = form_with (codes "message") (
    literal (codes "message ") ∷ field (codes "node") Number ∷ literal (codes " ") ∷ field (codes "name") Word ∷
    literal (codes " ") ∷ field (codes "id") Hexadecimal ∷ literal (codes " bits ") ∷ field (codes "bits") Number ∷
    literal (codes " every ") ∷ field (codes "every_quanta") Measure ∷ literal (codes " jitter ") ∷
    field (codes "jitter_us") Number ∷ literal (codes " quanta ") ∷ field (codes "bound_quanta") Measure ∷
    literal (codes " us ") ∷ field (codes "bound_us") Measure ∷ literal (codes " deadline ") ∷
    field (codes "deadline_us") Measure ∷ literal (codes " ") ∷ field (codes "deadline") Word ∷
    literal (codes " start ") ∷ field (codes "start_us") Measure ∷ literal (codes " blocked ") ∷
    field (codes "blocked_us") Measure ∷ literal (codes " queue ") ∷ field (codes "queue_us") Measure ∷
    literal (codes " others ") ∷ field (codes "others_us") Measure ∷ literal (codes " frame ") ∷
    field (codes "frame_us") Measure ∷ literal (codes " by ") ∷ field (codes "by_name") Nothing ∷ literal (codes " ") ∷
    field (codes "by_id") Measure ∷ [])

abbrev pub verdict_form : Form
verdict_form = form_with (codes "verdict") (literal (codes "verdict ") ∷ field (codes "verdict") Phrase ∷ [])

abbrev pub missed_form : Form
missed_form = form_with (codes "verdict") (
    literal (codes "verdict ") ∷ field (codes "missed") Number ∷ literal (codes " of ") ∷ field (codes "messages") Number ∷
    literal (codes " missed: ") ∷ given (codes "verdict") Word (codes "deadlines missed") ∷ field (codes "missed_messages") Rest ∷ [])

abbrev pub open_form : Form
open_form = form_with (codes "verdict") (
    literal (codes "verdict no bound: ") ∷ given (codes "verdict") Word (codes "no bound") ∷ field (codes "reason") Rest ∷ [])

abbrev pub unknown_form : Form
unknown_form = form_with (codes "verdict") (
    literal (codes "no bound is known: ") ∷ given (codes "verdict") Word (codes "no bound") ∷ field (codes "reason") Rest ∷ [])

abbrev pub respond_sheet : Sheet
respond_sheet = record {
  command = codes "respond";
  columns =
      codes "proved" ∷ codes "reason" ∷ codes "load_percent" ∷ codes "node" ∷ codes "name" ∷ codes "id" ∷
      codes "bits" ∷ codes "every_quanta" ∷ codes "jitter_us" ∷ codes "bound_quanta" ∷ codes "bound_us" ∷
      codes "deadline_us" ∷ codes "deadline" ∷ codes "start_us" ∷ codes "blocked_us" ∷ codes "queue_us" ∷
      codes "others_us" ∷ codes "frame_us" ∷ codes "by_name" ∷ codes "by_id" ∷ codes "verdict" ∷ codes "missed" ∷
      codes "messages" ∷ codes "missed_messages" ∷ [];
  worst = Greatest;
  judged = codes "bound_us" ∷ [];
}
