-- The lines of `trace`, each kind with its fields (this project's profile).
use Rattle.std.specs.Prelude.{List, [], ◌∷◌, codes}
use Rattle.wl_formats.specs.declared.shape.Class.TheVariants.{Hexadecimal, Number, Word}
use Rattle.wl_formats.specs.Shapes.{Form, Layout, Part, Text, literal, field}
use Rattle.wl_formats.specs.Sentences.{a_form}

-- an event of a node: the tick, the node, its quantum and how many samples it had before
abbrev pub event_form : Text → List Part → Form
event_form kind said =
    a_form kind (field (codes "tick") Number ∷ literal (codes " ") ∷ field (codes "node") Number ∷ literal (codes " ") ∷
    field (codes "name") Word ∷ literal (codes " q ") ∷ field (codes "quantum") Number ∷ literal (codes " b ") ∷
    field (codes "bit") Number ∷ said)

-- a frame that got through
abbrev pub frame_form : Text → Text → Form
frame_form kind said =
    event_form kind (literal said ∷ field (codes "id") Hexadecimal ∷ literal (codes " ") ∷ field (codes "type") Word ∷
    literal (codes " ") ∷ field (codes "dlc") Number ∷ literal (codes " ") ∷ field (codes "bytes") Hexadecimal ∷ [])

abbrev pub trace_layout : Layout
trace_layout = record {
  command = codes "trace";
  columns =
      codes "tick" ∷ codes "node" ∷ codes "name" ∷ codes "quantum" ∷ codes "bit" ∷ codes "phase_error_quanta" ∷
      codes "field" ∷ codes "field_bit" ∷ codes "error" ∷ codes "role" ∷ codes "place" ∷ codes "flag" ∷ codes "id" ∷
      codes "type" ∷ codes "dlc" ∷ codes "bytes" ∷ codes "mode" ∷ codes "tec" ∷ codes "rec" ∷ [];
  forms =
      event_form (codes "hard_synchronisation") (literal (codes " sync hard") ∷ []) ∷
      event_form (codes "resynchronisation") (literal (codes " sync ") ∷ field (codes "phase_error_quanta") Number ∷ []) ∷
      event_form (codes "lost") (literal (codes " lost in ") ∷ field (codes "field") Word ∷ literal (codes " ") ∷
      field (codes "field_bit") Number ∷ []) ∷
      event_form (codes "error") (literal (codes " error ") ∷ field (codes "error") Word ∷ literal (codes " ") ∷
      field (codes "role") Word ∷ literal (codes " ") ∷ field (codes "place") Word ∷ literal (codes " ") ∷
      field (codes "field") Word ∷ literal (codes " ") ∷ field (codes "field_bit") Number ∷ []) ∷
      event_form (codes "flag") (literal (codes " flag ") ∷ field (codes "flag") Word ∷ []) ∷
      frame_form (codes "sent") (codes " sent ") ∷
      frame_form (codes "received") (codes " received ") ∷
      event_form (codes "mode") (literal (codes " mode ") ∷ field (codes "mode") Word ∷ literal (codes " tec ") ∷
      field (codes "tec") Number ∷ literal (codes " rec ") ∷ field (codes "rec") Number ∷ []) ∷
      [];
}
