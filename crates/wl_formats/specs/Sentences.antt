-- Parts that several kinds of lines have: what is said is here once, and each kind of line adds its own words (this project's profile).
use Rattle.std.specs.Prelude.{List, [], ◌∷◌, ◌++◌, Bool, true, false, if◌then◌else◌, codes}
use Rattle.wl_formats.specs.declared.shape.Class.TheVariants.{Measure, Number, Word}
use Rattle.wl_formats.specs.Shapes.{Form, Part, Text, literal, field, passed, given}

-- a kind of line: these parts
abbrev pub a_form : Text → List Part → Form
a_form kind parts = record { kind = kind; parts = parts }

-- a length of time in nanoseconds and in quanta, up to the word after those
abbrev pub unit_parts : Text → List Part
unit_parts name = field (name ++ codes "_ns") Number ∷ literal (codes " ns (") ∷ field (name ++ codes "_quanta") Number ∷ []

-- two nodes, with this between their names
abbrev pub two_names : Text → Text → Text → List Part
two_names first_form between second = field first_form Word ∷ literal between ∷ field second Word ∷ []

-- what an inequality takes, and, after these parts, what is available
abbrev pub taken_parts : List Part → List Part
taken_parts between = unit_parts (codes "taken") ++ (between ++ (unit_parts (codes "available") ++ (literal (codes " quanta)") ∷ [])))

-- an inequality that fails for two nodes, or for one of them, after words of the line
abbrev pub behind_parts : Text → List Part
behind_parts before =
    literal (before ++ codes "in ten bits ") ∷ (two_names (codes "name") (codes " falls behind ") (codes "other_name")
    ++ (literal (codes " by up to ") ∷ taken_parts (literal (codes " quanta), and an edge puts right ") ∷ [])))

abbrev pub late_parts : Text → List Part
late_parts before =
    literal (before ++ codes "a bit of ") ∷ (two_names (codes "other_name") (codes " comes to ") (codes "name")
    ++ (literal (codes " up to ") ∷ taken_parts (literal (codes " quanta) after its own began, and ") ∷ passed Word ∷ literal (codes " samples after ") ∷ [])))

abbrev pub back_parts : Text → List Part
back_parts before =
    literal (before ++ codes "a bit of ") ∷ field (codes "name") Word ∷ literal (codes " comes back to it ")
    ∷ taken_parts (literal (codes " quanta) after it began, and it samples after ") ∷ [])

abbrev pub early_parts : Text → List Part
early_parts before =
    literal (before ++ codes "the next bit of ") ∷ (two_names (codes "other_name") (codes " comes to ") (codes "name")
    ++ (literal (codes " up to ") ∷ taken_parts (literal (codes " quanta) too early, and its PHASE_SEG2 has ") ∷ [])))

-- how much of something is to spare, with its unit and the words after it, or `none`
abbrev pub growth_parts : Text → Text → Text → Bool → List Part
growth_parts name unit after some =
    if some then field name Number ∷ literal (unit ++ after) ∷ [] else given name Measure (codes "-") ∷ literal (codes "none" ++ after) ∷ []

-- how much may grow with one sender at a time and with any senders, a line for each choice of what there is
abbrev pub growth_form : Text → Text → Text → Text → Text → (one any : Bool) → Form
growth_form kind head unit_name unit after one any =
    a_form kind (literal (head ++ codes "one sender at a time ") ∷ (growth_parts (codes "one_sender_" ++ unit_name) unit (codes ", any senders ") one
    ++ growth_parts (codes "any_senders_" ++ unit_name) unit after any))

abbrev pub growth_forms : Text → Text → Text → List Form
growth_forms kind unit_name unit =
    (let of = growth_form kind (kind ++ codes ": ") unit_name unit [] in of true true ∷ of true false ∷ of false true ∷ of false false ∷ [])

-- by how much the cable may be longer, and every tolerance wider
abbrev pub growing_forms : List Form
growing_forms = growth_forms (codes "cable") (codes "units") (codes " units longer") ++ growth_forms (codes "tolerance") (codes "ppm") (codes " ppm wider")

-- what is to spare of one inequality of a pair, and the words after it
abbrev pub spare_parts : Text → Text → Bool → List Part
spare_parts name after some =
    if some then unit_parts name ++ (literal (codes " quanta)" ++ after) ∷ [])
    else given (name ++ codes "_ns") Measure (codes "-") ∷ given (name ++ codes "_quanta") Measure (codes "-") ∷ literal (codes "none" ++ after) ∷ []

abbrev pub pair_form : (late early drift : Bool) → Form
pair_form late early drift =
    a_form (codes "pair") (literal (codes "pair ") ∷ (two_names (codes "name") (codes " ") (codes "other_name") ++ (literal (codes ": late ")
    ∷ (spare_parts (codes "late") (codes ", early ") late ++ (spare_parts (codes "early") (codes ", drift ") early ++ spare_parts (codes "drift") [] drift)))))

abbrev pub pair_forms : List Form
pair_forms =
    pair_form true true true ∷ pair_form true true false ∷ pair_form true false true ∷ pair_form true false false
    ∷ pair_form false true true ∷ pair_form false true false ∷ pair_form false false true ∷ pair_form false false false ∷ []

-- how many members of a sweep were clean, of how many; and how many were too early or refused, if some were
abbrev pub some_parts : Text → Text → Bool → List Part
some_parts name words some = if some then literal words ∷ field name Number ∷ [] else given name Number (codes "0") ∷ []

abbrev pub counted_form : Text → List Part → (early refused : Bool) → Form
counted_form kind front early refused =
    a_form kind (front ++ (field (codes "clean") Number ∷ literal (codes " of ") ∷ field (codes "runs") Number
    ∷ (some_parts (codes "too_early") (codes ", too early in ") early ++ some_parts (codes "refused") (codes ", refused in ") refused)))

abbrev pub count_forms : Text → List Part → List Form
count_forms kind front = counted_form kind front false false ∷ counted_form kind front false true ∷ counted_form kind front true false ∷ counted_form kind front true true ∷ []

-- the value of a range
abbrev pub value_parts : Text → List Part
value_parts number = field (codes "range_" ++ number) Word ∷ literal (codes " ") ∷ field (codes "value_" ++ number) Number ∷ []
