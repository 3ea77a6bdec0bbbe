-- The lines of `judge`, each kind with its fields (this project's profile).
use Rattle.std.specs.Prelude.{List, [], ◌∷◌, ◌++◌, codes}
use Rattle.wl_formats.specs.declared.shape.Class.{Class}
use Rattle.wl_formats.specs.declared.shape.Class.TheVariants.{Hexadecimal, Measure, Number, Phrase, Rest, Series, Word}
use Rattle.wl_formats.specs.Shapes.{Form, Layout, Part, Text, literal, field, given}
use Rattle.wl_formats.specs.Sentences.{a_form, two_names, unit_parts}

-- the first line: what is judged, and for whom it is proved (none: a dash)
abbrev pub judged_form : Text → Class → Text → List Part → Form
judged_form judgement class whom parts =
    a_form (codes "judgement") (given (codes "judgement") Word judgement ∷ given (codes "proved_for") class whom ∷ parts)

abbrev pub works_form : Class → Text → Text → Form
works_form class whom said = judged_form (codes "works") class whom (literal said ∷ [])

abbrev pub fails_form : List Part → Form
fails_form parts = judged_form (codes "does not work") Measure (codes "-") parts

-- a reason in the words of a margin
abbrev pub reason_form : Text → Form
reason_form says = a_form (codes "reason") (given (codes "says") Word says ∷ literal (says ++ codes ": ") ∷ field (codes "reason") Rest ∷ [])

-- what is to spare, with metres and without, after these parts
abbrev pub ppm_parts : List Part
ppm_parts = field (codes "ppm") Number ∷ literal (codes " ppm to spare, ") ∷ field (codes "sure") Phrase ∷ []

abbrev pub long_parts : List Part
long_parts = field (codes "metres") Number ∷ literal (codes " m and ") ∷ ppm_parts

abbrev pub short_parts : List Part
short_parts = given (codes "metres") Measure (codes "-") ∷ ppm_parts

abbrev pub change_parts : List Part → List Part
change_parts parts = literal (codes "help: ") ∷ field (codes "change") Series ∷ literal (codes ": ") ∷ parts

abbrev pub judge_layout : Layout
judge_layout = record {
  command = codes "judge";
  columns =
      codes "judgement" ∷ codes "proved_for" ∷ codes "reason" ∷ codes "run" ∷ codes "says" ∷ codes "spare" ∷ codes "name" ∷
      codes "other_name" ∷ codes "spare_ns" ∷ codes "spare_quanta" ∷ codes "change" ∷ codes "metres" ∷ codes "ppm" ∷
      codes "sure" ∷ codes "proved" ∷ codes "longest_us" ∷ codes "id" ∷ codes "verdict" ∷ codes "missed" ∷ codes "messages" ∷
      codes "missed_messages" ∷ codes "noise" ∷ codes "commands" ∷ [];
  forms =
      a_form (codes "from") (literal (codes "from ") ∷ field (codes "commands") Rest ∷ []) ∷
      works_form Word (codes "any") (codes "works, proved: any_senders_are_clean") ∷
      works_form Word (codes "one") (codes "works, as far as searched; for one sender at a time, proved: one_sender_is_clean") ∷
      works_form Measure (codes "-") (codes "works, as far as searched, not proved") ∷
      fails_form (literal (codes "does not work, in this run: ") ∷ field (codes "reason") Phrase ∷ []) ∷
      fails_form (given (codes "reason") Word (codes "condition") ∷ literal (codes "does not work, by the condition") ∷ []) ∷
      judged_form (codes "not known") Measure (codes "-") (literal (codes "not known") ∷ []) ∷
      a_form (codes "run") (literal (codes "run: ") ∷ field (codes "run") Phrase ∷ []) ∷
      reason_form (codes "not proved") ∷ reason_form (codes "any senders") ∷ reason_form (codes "does not hold") ∷
      reason_form (codes "no bound is known") ∷
      a_form (codes "weakest") (literal (codes "weakest ") ∷ field (codes "spare") Word ∷ literal (codes ": ")
      ∷ (two_names (codes "name") (codes " ") (codes "other_name") ++ (literal (codes " ") ∷ (unit_parts (codes "spare") ++ (literal (codes " quanta)") ∷ []))))) ∷
      a_form (codes "reserve") (literal (codes "reserve: ") ∷ long_parts) ∷ a_form (codes "reserve") (literal (codes "reserve: ") ∷ short_parts) ∷
      a_form (codes "help") (given (codes "change") Measure (codes "-") ∷ literal (codes "help: no change that was tried") ∷ []) ∷
      a_form (codes "help") (change_parts long_parts) ∷ a_form (codes "help") (change_parts short_parts) ∷
      a_form (codes "waits") (literal (codes "waits: proved: ") ∷ field (codes "proved") Word ∷ []) ∷
      a_form (codes "waits") (literal (codes "waits: not proved: ") ∷ given (codes "proved") Measure (codes "-") ∷ field (codes "reason") Rest ∷ []) ∷
      a_form (codes "longest") (literal (codes "waits: longest ") ∷ field (codes "longest_us") Number ∷ literal (codes " us, ")
      ∷ field (codes "id") Hexadecimal ∷ literal (codes " of ") ∷ field (codes "name") Word ∷ []) ∷
      a_form (codes "deadlines") (literal (codes "waits: verdict no bound: ") ∷ given (codes "verdict") Word (codes "no bound") ∷ field (codes "reason") Rest ∷ []) ∷
      a_form (codes "deadlines") (literal (codes "waits: verdict ") ∷ field (codes "missed") Number ∷ literal (codes " of ") ∷ field (codes "messages") Number
      ∷ literal (codes " missed: ") ∷ given (codes "verdict") Word (codes "deadlines missed") ∷ field (codes "missed_messages") Rest ∷ []) ∷
      a_form (codes "deadlines") (literal (codes "waits: verdict ") ∷ field (codes "verdict") Phrase ∷ []) ∷
      a_form (codes "noise") (literal (codes "noise: ") ∷ field (codes "noise") Rest ∷ []) ∷ [];
}
