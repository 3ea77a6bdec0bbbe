-- The lines of `explain`, each kind with its fields (this project's profile).
use Rattle.std.specs.Prelude.{List, [], ◌∷◌, ◌++◌, codes}
use Rattle.wl_formats.specs.declared.shape.Class.TheVariants.{Hexadecimal, Measure, Number, Rest, Word}
use Rattle.wl_formats.specs.Shapes.{Form, Layout, Part, Text, literal, field, given}
use Rattle.wl_formats.specs.Sentences.{back_parts, early_parts, late_parts, behind_parts, growing_forms, a_form}

abbrev pub explain_columns : List Text
explain_columns =
    codes "doubt" ∷ codes "senders" ∷ codes "name" ∷ codes "other_name" ∷ codes "taken_ns" ∷ codes "taken_quanta" ∷
    codes "available_ns" ∷ codes "available_quanta" ∷ codes "reason" ∷ codes "rate_kbit_s" ∷
    codes "other_rate_kbit_s" ∷ codes "taken_ppm" ∷ codes "available_ppm" ∷ codes "taken_ticks" ∷
    codes "available_ticks" ∷ codes "tolerance_ppm" ∷ codes "jump_quanta" ∷ codes "phase_seg2_quanta" ∷
    codes "frame" ∷ codes "idle_tick" ∷ codes "needed_bits" ∷ codes "sample_point_percent" ∷ codes "quantum_ns" ∷
    codes "left_ppm" ∷ codes "cable_ns" ∷ codes "cable_m" ∷ codes "one_sender_units" ∷ codes "any_senders_units" ∷
    codes "one_sender_ppm" ∷ codes "any_senders_ppm" ∷ codes "wrong" ∷ codes "change" ∷ codes "id" ∷ codes "taken_us" ∷
    codes "available_us" ∷ codes "load_percent" ∷ []

-- a doubt, by its name in `doubt`
abbrev pub doubt_form : Text → List Part → Form
doubt_form name parts = a_form (codes "doubt") (given (codes "doubt") Word name ∷ parts)

-- an inequality that fails with these senders
abbrev pub failing_form : Text → Text → List Part → Form
failing_form inequality senders parts = doubt_form inequality (given (codes "senders") Word senders ∷ parts)

abbrev pub failing_forms : List Form
failing_forms =
    (let one = codes "doubt: " in
    let any = codes "doubt: if several nodes send at once, " in
    failing_form (codes "drift_fits_jump") (codes "one") (behind_parts one) ∷
    failing_form (codes "bit_is_there_at_sample") (codes "one") (late_parts one) ∷
    failing_form (codes "bit_is_there_at_sample") (codes "one") (back_parts one) ∷
    failing_form (codes "no_bit_too_early") (codes "one") (early_parts one) ∷
    failing_form (codes "drift_fits_jump") (codes "any") (behind_parts any) ∷
    failing_form (codes "bit_is_there_at_sample") (codes "any") (late_parts any) ∷
    failing_form (codes "bit_is_there_at_sample") (codes "any") (back_parts any) ∷ failing_form (codes "no_bit_too_early") (codes "any") (early_parts any) ∷ [])

abbrev pub other_doubt_forms : List Form
other_doubt_forms =
    doubt_form (codes "no_bound") (literal (codes "doubt: no bound is known: ") ∷ field (codes "reason") Rest ∷ []) ∷
    doubt_form (codes "unlike_rates") (literal (codes "doubt: ") ∷ field (codes "name") Word ∷ literal (codes " and ") ∷
    field (codes "other_name") Word ∷ literal (codes " have unlike bit rates, ") ∷
    field (codes "rate_kbit_s") Number ∷ literal (codes " and ") ∷ field (codes "other_rate_kbit_s") Number ∷
    literal (codes " kbit/s") ∷ []) ∷
    doubt_form (codes "clocks_apart") (literal (codes "doubt: the clocks of ") ∷ field (codes "name") Word ∷
    literal (codes " and ") ∷ field (codes "other_name") Word ∷ literal (codes " are ") ∷
    field (codes "taken_ppm") Number ∷ literal (codes " ppm apart, and their segments bear ") ∷
    field (codes "available_ppm") Number ∷ []) ∷
    doubt_form (codes "round_trip") (literal (codes "doubt: ") ∷ field (codes "name") Word ∷ literal (codes " to ") ∷
    field (codes "other_name") Word ∷ literal (codes " and back takes ") ∷ field (codes "taken_ticks") Number ∷
    literal (codes " ticks, and the earlier sample leaves ") ∷ field (codes "available_ticks") Number ∷ []) ∷
    doubt_form (codes "clock_beyond_tolerance") (literal (codes "doubt: the clock of ") ∷ field (codes "name") Word ∷
    literal (codes " deviates by more than its tolerance of ") ∷ field (codes "tolerance_ppm") Number ∷
    literal (codes " ppm") ∷ []) ∷
    doubt_form (codes "jump_above_phase_seg2") (literal (codes "doubt: ") ∷ field (codes "name") Word ∷
    literal (codes " has a jump width of ") ∷ field (codes "jump_quanta") Number ∷
    literal (codes " quanta, above its PHASE_SEG2 of ") ∷ field (codes "phase_seg2_quanta") Number ∷ []) ∷
    doubt_form (codes "ready_too_late") (literal (codes "doubt: frame ") ∷ field (codes "frame") Number ∷
    literal (codes " of ") ∷ field (codes "name") Word ∷ literal (codes " becomes ready at the end or later") ∷ []) ∷
    doubt_form (codes "ready_too_early") (literal (codes "doubt: frame ") ∷ field (codes "frame") Number ∷
    literal (codes " of ") ∷ field (codes "name") Word ∷ literal (codes " becomes ready before tick ") ∷
    field (codes "idle_tick") Number ∷ literal (codes ", from which on all nodes can be idle") ∷ []) ∷
    doubt_form (codes "no_room") (literal (codes "doubt: 11 bits and the frames of ") ∷ field (codes "name") Word ∷
    literal (codes " take at least ") ∷ field (codes "needed_bits") Number ∷
    literal (codes " bits, beyond the end") ∷ []) ∷
    doubt_form (codes "beyond_deadline") (literal (codes "doubt: ") ∷ field (codes "id") Hexadecimal ∷ literal (codes " of ") ∷
    field (codes "name") Word ∷ literal (codes " may take ") ∷ field (codes "taken_us") Number ∷
    literal (codes " us, and its deadline is ") ∷ field (codes "available_us") Number ∷ literal (codes " us") ∷ []) ∷
    doubt_form (codes "jitter_beyond_period") (literal (codes "doubt: the jitter of ") ∷ field (codes "id") Hexadecimal ∷
    literal (codes " of ") ∷ field (codes "name") Word ∷ literal (codes " isn't less than its period") ∷ []) ∷
    doubt_form (codes "bus_full") (literal (codes "doubt: the bus load is up to ") ∷ field (codes "load_percent") Number ∷
    literal (codes " %, so no wait is bounded") ∷ []) ∷
    doubt_form (codes "other") (literal (codes "doubt: ") ∷ field (codes "reason") Rest ∷ []) ∷
    []

-- a node, up to the length of its quantum
abbrev pub node_front_form : Text → List Part → Form
node_front_form after parts =
    a_form (codes "node") (literal (codes "node ") ∷ field (codes "name") Word ∷ literal (codes ": ") ∷
    field (codes "rate_kbit_s") Number ∷ literal (codes " kbit/s, sample point ") ∷
    field (codes "sample_point_percent") Number ∷ literal (codes " %, quantum ") ∷ field (codes "quantum_ns") Number ∷
    literal (codes " ns" ++ after) ∷ parts)

-- after that its tolerance, what is left of it, and its cable
abbrev pub node_form : List Part → Form
node_form cable =
    node_front_form (codes ", tolerance ") (field (codes "tolerance_ppm") Number ∷ literal (codes " ppm, left ") ∷
    field (codes "left_ppm") Number ∷ literal (codes " ppm, cable ") ∷ cable)

abbrev pub node_forms : List Form
node_forms =
    node_front_form [] [] ∷
    node_form (given (codes "cable_ns") Measure (codes "-") ∷ given (codes "cable_m") Measure (codes "-") ∷ literal (codes "none") ∷ []) ∷
    node_form (field (codes "cable_ns") Number ∷ literal (codes " ns, ") ∷ field (codes "cable_m") Number ∷ literal (codes " m at 5 ns a metre") ∷ []) ∷ []

-- a doubt, first an inequality that fails
abbrev pub doubt_forms : List Form
doubt_forms = failing_forms ++ other_doubt_forms

-- the other lines
abbrev pub figure_forms : List Form
figure_forms =
    node_forms ++ (growing_forms ++ (a_form (codes "wrong") (literal (codes "wrong: ") ∷ field (codes "wrong") Rest ∷ []) ∷
    a_form (codes "change") (literal (codes "change: ") ∷ field (codes "change") Rest ∷ []) ∷ []))

abbrev pub explain_layout : Layout
explain_layout = record { command = codes "explain"; columns = explain_columns; forms = doubt_forms ++ figure_forms }
