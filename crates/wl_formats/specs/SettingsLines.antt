-- The lines of `settings`, each kind with its fields (this project's profile).
use Rattle.std.specs.Prelude.{List, [], ◌∷◌, ◌++◌, Bool, true, false, if◌then◌else◌, codes}
use Rattle.wl_formats.specs.declared.shape.Class.TheVariants.{Measure, Number, Word}
use Rattle.wl_formats.specs.Shapes.{Form, Layout, Part, Text, literal, field, given}
use Rattle.wl_formats.specs.Sentences.{a_form}

abbrev pub settings_columns : List Text
settings_columns =
    codes "name" ∷ codes "clock_hz" ∷ codes "settings" ∷ codes "number" ∷ codes "prescaler" ∷ codes "prop_quanta" ∷ codes "ps1_quanta" ∷
    codes "ps2_quanta" ∷ codes "tseg1_quanta" ∷ codes "tseg2_quanta" ∷ codes "sjw_quanta" ∷ codes "bit_quanta" ∷
    codes "sample_point_percent" ∷ codes "error_ppm" ∷ codes "one_sender_ppm" ∷ codes "any_senders_ppm" ∷ codes "one_sender_units" ∷
    codes "any_senders_units" ∷ codes "margin" ∷ codes "inequality" ∷ codes "taken_ns" ∷ codes "available_ns" ∷ codes "bitrate" ∷
    codes "refused" ∷ []

-- a setting: its segments each by itself, or PROP_SEG and PHASE_SEG1 as one length
abbrev pub segment_parts : (each : Bool) → List Part
segment_parts true =
    literal (codes " prop ") ∷ field (codes "prop_quanta") Number ∷ literal (codes " ps1 ") ∷ field (codes "ps1_quanta") Number
    ∷ literal (codes " ps2 ") ∷ field (codes "ps2_quanta") Number ∷ []
segment_parts false =
    literal (codes " tseg1 ") ∷ field (codes "tseg1_quanta") Number ∷ literal (codes " tseg2 ") ∷ field (codes "tseg2_quanta") Number ∷ []

abbrev pub setting_parts : (each : Bool) → List Part → List Part
setting_parts each later =
    field (codes "prescaler") Number ∷ (segment_parts each ++ (literal (codes " sjw ") ∷ field (codes "sjw_quanta") Number ∷ later))

-- a number that there is, or none
abbrev pub number_or_none : Text → Bool → List Part → List Part
number_or_none name true later = field name Number ∷ later
number_or_none name false later = literal (codes "none") ∷ given name Measure (codes "-") ∷ later

-- what each may be: the tolerance for any senders, the cable for one at a time and for any
abbrev pub row_form : (each tolerance one any : Bool) → Form
row_form each tolerance one any =
    a_form (codes "setting") (literal (codes "setting ") ∷ field (codes "number") Number ∷ literal (codes " prescaler ") ∷ setting_parts each (
    literal (codes " quanta ") ∷ field (codes "bit_quanta") Number ∷ literal (codes " sample ") ∷ field (codes "sample_point_percent") Number
    ∷ literal (codes " % error ") ∷ field (codes "error_ppm") Number ∷ literal (codes " ppm tolerance ") ∷ field (codes "one_sender_ppm") Number
    ∷ literal (codes " one ") ∷ number_or_none (codes "any_senders_ppm") tolerance (
    literal (codes " any cable ") ∷ number_or_none (codes "one_sender_units") one (
    literal (codes " one ") ∷ number_or_none (codes "any_senders_units") any (
    literal (codes " any margin ") ∷ field (codes "margin") Number ∷ [])))))

abbrev pub forms_of : (each tolerance : Bool) → List Form → List Form
forms_of each tolerance later =
    row_form each tolerance true true ∷ row_form each tolerance true false ∷ row_form each tolerance false false ∷ later

abbrev pub row_forms : List Form
row_forms = forms_of true true (forms_of true false (forms_of false true (forms_of false false [])))

-- a controller, and why it has no setting
abbrev pub nearest_form : Bool → Form
nearest_form each =
    a_form (codes "nearest") (literal (codes "nearest prescaler ") ∷ setting_parts each (
    literal (codes ": ") ∷ field (codes "inequality") Word ∷ literal (codes " takes ") ∷ field (codes "taken_ns") Number
    ∷ literal (codes " ns and has ") ∷ field (codes "available_ns") Number ∷ literal (codes " ns") ∷ []))

-- the nearest bit rate, if no setting has the one asked for
abbrev pub rate_form : Bool → Form
rate_form each =
    a_form (codes "rate") (literal (codes "nearest rate ") ∷ field (codes "bitrate") Number ∷ literal (codes " bit/s error ")
    ∷ field (codes "error_ppm") Number ∷ literal (codes " ppm: prescaler ") ∷ setting_parts each [])

abbrev pub why_forms : List Form
why_forms =
    a_form (codes "controller") (literal (codes "controller ") ∷ field (codes "name") Word ∷ literal (codes " clock ") ∷ field (codes "clock_hz") Number
    ∷ literal (codes " Hz: ") ∷ field (codes "settings") Number ∷ literal (codes " settings") ∷ []) ∷
    nearest_form true ∷ nearest_form false ∷
    a_form (codes "none") (literal (codes "no setting has ") ∷ field (codes "bitrate") Number ∷ literal (codes " bit/s within ")
    ∷ field (codes "error_ppm") Number ∷ literal (codes " ppm") ∷ []) ∷
    rate_form true ∷ rate_form false ∷
    a_form (codes "none") (field (codes "refused") Number ∷ literal (codes " settings have the bit rate, and the plan of none can be run") ∷ []) ∷ []

abbrev pub settings_layout : Layout
settings_layout = record { command = codes "settings"; columns = settings_columns; forms = row_forms ++ why_forms }
