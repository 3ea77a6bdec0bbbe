-- The lines of `margin`, each kind with its fields (this project's profile).
use Rattle.std.specs.Prelude.{List, [], ◌∷◌, ◌++◌, Bool, true, false, codes}
use Rattle.wl_formats.specs.declared.shape.Class.TheVariants.{Measure, Number, Phrase, Rest, Word}
use Rattle.wl_formats.specs.Shapes.{Form, Layout, Part, Text, literal, field, given}
use Rattle.wl_formats.specs.Sentences.{back_parts, early_parts, growth_parts, late_parts, behind_parts, a_form, pair_forms, taken_parts, two_names, unit_parts}

-- a bus that doesn't hold, or not for any senders, by the inequality that fails
abbrev pub refused_form : Text → (Text → List Part) → Form
refused_form inequality said =
    a_form (codes "verdict") (given (codes "verdict") Word (codes "does not hold") ∷ given (codes "proved_for") Measure (codes "-")
    ∷ given (codes "inequality") Word inequality ∷ said (codes "does not hold: "))

abbrev pub any_form : Text → (Text → List Part) → Form
any_form inequality said = a_form (codes "any_senders") (given (codes "inequality") Word inequality ∷ said (codes "any senders: "))

abbrev pub margin_columns : List Text
margin_columns =
    codes "verdict" ∷ codes "senders" ∷ codes "proved_for" ∷ codes "inequality" ∷ codes "room" ∷ codes "name" ∷ codes "other_name" ∷
    codes "taken_ns" ∷ codes "taken_quanta" ∷ codes "available_ns" ∷ codes "available_quanta" ∷ codes "reason" ∷ codes "late_ns" ∷
    codes "late_quanta" ∷ codes "early_ns" ∷ codes "early_quanta" ∷ codes "drift_ns" ∷ codes "drift_quanta" ∷
    codes "one_sender_units" ∷ codes "any_senders_units" ∷ codes "proved_units" ∷ codes "one_sender_ppm" ∷ codes "any_senders_ppm" ∷
    codes "proved_ppm" ∷ codes "one_sender_change" ∷ codes "any_senders_change" ∷ codes "noise" ∷ codes "jumps_ns" ∷
    codes "jumps_quanta" ∷ []

-- a bus that holds, for whom that is proved (none: a dash), and the words that say so
abbrev pub proved_form : Text → Text → Text → Form
proved_form who whom said =
    a_form (codes "verdict") (given (codes "verdict") Word (codes "holds for " ++ who) ∷ literal (codes "holds for " ++ who ++ codes " of ")
    ∷ field (codes "senders") Phrase ∷ given (codes "proved_for") Word whom ∷ literal said ∷ [])

abbrev pub searched_form : Text → Form
searched_form who =
    a_form (codes "verdict") (given (codes "verdict") Word (codes "holds for " ++ who) ∷ literal (codes "holds for " ++ who ++ codes " of ")
    ∷ field (codes "senders") Phrase ∷ given (codes "proved_for") Measure (codes "-") ∷ literal (codes ", as far as searched, not proved") ∷ [])

-- what the room lacks, by the test that fails
abbrev pub lack_form : Text → List Part → Form
lack_form room parts = a_form (codes "not_proved") (given (codes "room") Word room ∷ parts)

abbrev pub chase_parts : List Part
chase_parts =
    literal (codes "not proved: ") ∷ field (codes "name") Word ∷ literal (codes " can be ")
    ∷ taken_parts (literal (codes " quanta) off the bits of ") ∷ field (codes "other_name") Word ∷ literal (codes ", and its edges put right ") ∷ [])

abbrev pub drift_parts : List Part
drift_parts =
    literal (codes "not proved: in ten bits ") ∷ (two_names (codes "other_name") (codes " falls behind ") (codes "name")
    ++ (literal (codes " by up to ") ∷ taken_parts (literal (codes " quanta), and an edge puts right ") ∷ [])))

abbrev pub rest_parts : List Part
rest_parts =
    literal (codes "not proved: twelve bits after an edge a bit of ") ∷ (two_names (codes "other_name") (codes " comes to ") (codes "name")
    ++ (literal (codes " up to ") ∷ taken_parts (literal (codes " quanta) too early, and its PHASE_SEG2 has ") ∷ [])))

abbrev pub lack_forms : List Form
lack_forms =
    lack_form (codes "own_bit") (back_parts (codes "not proved: ")) ∷ lack_form (codes "catching_up") chase_parts ∷
    lack_form (codes "drift_in_jump") drift_parts ∷
    lack_form (codes "way_to_sample") (late_parts (codes "not proved: ")) ∷ lack_form (codes "rest") rest_parts ∷
    a_form (codes "not_proved") (literal (codes "not proved: ") ∷ field (codes "reason") Rest ∷ []) ∷ []

-- what holds, what fails, what fails if several nodes send, and what isn't proved
abbrev pub verdict_forms : List Form
verdict_forms =
    proved_form (codes "any senders") (codes "any") (codes ", proved: any_senders_are_clean") ∷
    proved_form (codes "any senders") (codes "one") (codes ", as far as searched; for one sender at a time, proved: one_sender_is_clean") ∷
    searched_form (codes "any senders") ∷
    proved_form (codes "one sender at a time") (codes "one") (codes ", proved: one_sender_is_clean") ∷
    searched_form (codes "one sender at a time") ∷
    refused_form (codes "drift_fits_jump") behind_parts ∷ refused_form (codes "bit_is_there_at_sample") late_parts ∷
    refused_form (codes "bit_is_there_at_sample") back_parts ∷ refused_form (codes "no_bit_too_early") early_parts ∷
    any_form (codes "drift_fits_jump") behind_parts ∷ any_form (codes "bit_is_there_at_sample") late_parts ∷
    any_form (codes "no_bit_too_early") early_parts ∷
    a_form (codes "any_senders") (literal (codes "any senders: ") ∷ field (codes "reason") Rest ∷ []) ∷ lack_forms

-- how much may grow, and up to where it stays proved, if the line says so
abbrev pub proved_parts : Text → Text → (some proved : Bool) → List Part
proved_parts name unit true true = field (codes "any_senders_" ++ name) Number ∷ literal (unit ++ codes ", proved ") ∷ field (codes "proved_" ++ name) Number ∷ []
proved_parts name unit some proved = growth_parts (codes "any_senders_" ++ name) unit [] some ++ (given (codes "proved_" ++ name) Measure (codes "-") ∷ [])

abbrev pub reserve_form : Text → Text → Text → (one any proved : Bool) → Form
reserve_form kind name unit one any proved =
    a_form kind (literal (kind ++ codes ": one sender at a time ") ∷ (growth_parts (codes "one_sender_" ++ name) unit (codes ", any senders ") one
    ++ proved_parts name unit any proved))

abbrev pub reserve_forms : Text → Text → Text → List Form
reserve_forms kind name unit =
    (let of = reserve_form kind name unit in
    of true true true ∷ of true true false ∷ of true false false ∷ of false true true ∷ of false true false ∷ of false false false ∷ [])

-- what is said of noise: the pair of which one spike may hide a frame, or a sentence
abbrev pub noise_forms : List Form
noise_forms =
    a_form (codes "noise") (given (codes "noise") Word (codes "one spike may hide a frame") ∷ literal (codes "noise: one spike may hide a frame of ")
    ∷ (two_names (codes "name") (codes " from ") (codes "other_name") ++ (literal (codes ", as far as searched: late ")
    ∷ (unit_parts (codes "late") ++ (literal (codes " quanta), and their jumps take ") ∷ (unit_parts (codes "jumps") ++ (literal (codes " quanta)") ∷ [])))))))
    ∷ a_form (codes "noise") (literal (codes "noise: ") ∷ field (codes "noise") Rest ∷ []) ∷ []

-- the other lines
abbrev pub figure_forms : List Form
figure_forms =
    pair_forms ++ (reserve_forms (codes "cable") (codes "units") (codes " units longer") ++ (reserve_forms (codes "tolerance") (codes "ppm") (codes " ppm wider") ++ (
    a_form (codes "help") (literal (codes "help: one sender at a time ") ∷ field (codes "one_sender_change") Phrase ∷
    literal (codes ", any senders ") ∷ field (codes "any_senders_change") Phrase ∷ []) ∷ (noise_forms ++ (
    a_form (codes "verdict") (field (codes "verdict") Phrase ∷ given (codes "proved_for") Measure (codes "-") ∷ literal (codes ": ") ∷ field (codes "reason") Rest ∷ []) ∷ [])))))

abbrev pub margin_layout : Layout
margin_layout = record { command = codes "margin"; columns = margin_columns; forms = verdict_forms ++ figure_forms }
