-- The lines of `traffic`, each kind with its fields (this project's profile).
use Rattle.std.specs.Prelude.{[], ◌∷◌, ◌++◌, codes}
use Rattle.wl_formats.specs.declared.shape.Class.TheVariants.{Hexadecimal, Measure, Number, Phrase, Rest, Word}
use Rattle.wl_formats.specs.Shapes.{Form, Layout, Text, literal, field}

-- a message that is late: for how long it waits, and for how long it may
abbrev pub late_form : Text → Form
late_form kind = record {
  kind = kind;
  parts =
      literal (kind ++ codes " ") ∷ field (codes "name") Word ∷ literal (codes " ") ∷ field (codes "id") Hexadecimal ∷
      literal (codes " waits ") ∷ field (codes "waits_us") Number ∷ literal (codes " us allowed ") ∷
      field (codes "allowed_us") Number ∷ literal (codes " us") ∷ [];
}

-- a node that misses frames of a message, or has taken some twice: how many of those that were sent
abbrev pub delivery_form : Text → Form
delivery_form kind = record {
  kind = kind;
  parts =
      literal (kind ++ codes " ") ∷ field (codes "receiver") Word ∷ literal (codes " ") ∷ field (codes "frames") Number ∷
      literal (codes " of ") ∷ field (codes "sent") Number ∷ literal (codes " frames of ") ∷ field (codes "name") Word ∷
      literal (codes " ") ∷ field (codes "id") Hexadecimal ∷ [];
}

abbrev pub traffic_layout : Layout
traffic_layout = record {
  command = codes "traffic";
  columns =
      codes "load_percent" ∷ codes "gap_us" ∷ codes "node" ∷ codes "name" ∷ codes "id" ∷ codes "sent" ∷ codes "left" ∷
      codes "waiting" ∷ codes "lost" ∷ codes "broken" ∷ codes "least_quanta" ∷ codes "mean_quanta" ∷
      codes "greatest_quanta" ∷ codes "least_us" ∷ codes "mean_us" ∷ codes "greatest_us" ∷ codes "verdict" ∷ codes "full_us" ∷
      codes "waits_us" ∷ codes "allowed_us" ∷ codes "passed" ∷ codes "most_passed" ∷ codes "bound_quanta" ∷ codes "bound_us" ∷
      codes "receiver" ∷ codes "frames" ∷ codes "healed_us" ∷ codes "tick" ∷ codes "silent_tick" ∷ codes "law" ∷
      codes "reason" ∷ [];
  forms =
      record {
        kind = codes "bus";
        parts =
            literal (codes "bus load ") ∷ field (codes "load_percent") Number ∷ literal (codes " % gap ") ∷
            field (codes "gap_us") Number ∷ literal (codes " us") ∷ [];
      } ∷
      record {
        kind = codes "message";
        parts =
            literal (codes "message ") ∷ field (codes "node") Number ∷ literal (codes " ") ∷ field (codes "name") Word ∷
            literal (codes " ") ∷ field (codes "id") Hexadecimal ∷ literal (codes " sent ") ∷
            field (codes "sent") Number ∷ literal (codes " left ") ∷ field (codes "left") Number ∷
            literal (codes " waiting ") ∷ field (codes "waiting") Number ∷ literal (codes " lost ") ∷
            field (codes "lost") Number ∷ literal (codes " broken ") ∷ field (codes "broken") Number ∷
            literal (codes " quanta least ") ∷ field (codes "least_quanta") Measure ∷ literal (codes " mean ") ∷
            field (codes "mean_quanta") Measure ∷ literal (codes " greatest ") ∷
            field (codes "greatest_quanta") Measure ∷ literal (codes " us least ") ∷ field (codes "least_us") Measure ∷
            literal (codes " mean ") ∷ field (codes "mean_us") Measure ∷ literal (codes " greatest ") ∷
            field (codes "greatest_us") Measure ∷ [];
      } ∷
      record {
        kind = codes "bound";
        parts =
            literal (codes "bound ") ∷ field (codes "node") Number ∷ literal (codes " ") ∷ field (codes "name") Word ∷
            literal (codes " ") ∷ field (codes "id") Hexadecimal ∷ literal (codes " at most ") ∷
            field (codes "bound_quanta") Number ∷ literal (codes " quanta ") ∷ field (codes "bound_us") Number ∷
            literal (codes " us, proved") ∷ [];
      } ∷
      record {
        kind = codes "full";
        parts = literal (codes "full for the last ") ∷ field (codes "full_us") Number ∷ literal (codes " us") ∷ [];
      } ∷
      late_form (codes "overloads") ∷
      late_form (codes "starved") ∷
      record {
        kind = codes "deaf";
        parts =
            literal (codes "deaf ") ∷ field (codes "name") Word ∷ literal (codes " ") ∷ field (codes "passed") Number ∷
            literal (codes " of ") ∷ field (codes "most_passed") Number ∷ literal (codes " frames") ∷ [];
      } ∷
      delivery_form (codes "missed") ∷
      delivery_form (codes "twice") ∷
      record {
        kind = codes "healed";
        parts =
            literal (codes "healed ") ∷ field (codes "healed_us") Number ∷
            literal (codes " us after the last disturbance, clean from tick ") ∷ field (codes "tick") Number ∷
            literal (codes " on") ∷ [];
      } ∷
      record {
        kind = codes "clean";
        parts =
            literal (codes "clean from tick ") ∷ field (codes "tick") Number ∷
            literal (codes " on, after a silence from tick ") ∷ field (codes "silent_tick") Number ∷
            literal (codes " on, proved: ") ∷ field (codes "law") Word ∷ [];
      } ∷
      record {
        kind = codes "unproved";
        parts = literal (codes "not proved clean; margin: ") ∷ field (codes "reason") Rest ∷ [];
      } ∷
      record {
        kind = codes "unproved";
        parts = literal (codes "not proved clean: ") ∷ field (codes "reason") Rest ∷ [];
      } ∷
      record {
        kind = codes "verdict";
        parts =
            literal (codes "verdict ") ∷ field (codes "verdict") Phrase ∷ [];
      } ∷
      [];
}
