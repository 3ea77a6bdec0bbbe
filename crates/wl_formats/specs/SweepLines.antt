-- The lines of `sweep`, each kind with its fields (this project's profile).
use Rattle.std.specs.Prelude.{List, [], ◌∷◌, ◌++◌, codes}
use Rattle.wl_formats.specs.declared.shape.Class.TheVariants.{Number, Rest, Series, Word}
use Rattle.wl_formats.specs.Shapes.{Form, Layout, Part, Text, literal, field, given}
use Rattle.wl_formats.specs.Sentences.{count_forms, a_form, value_parts}

-- the values of two ranges
abbrev pub two_value_parts : List Part
two_value_parts = value_parts (codes "1") ++ (literal (codes " ") ∷ value_parts (codes "2"))

-- how many members were run, if not all, of how many
abbrev pub drawn_form : Text → Text → Form
drawn_form of name =
    a_form (codes "members") (field (codes "run") Number ∷ literal of ∷ field name Word ∷ literal (codes " members were run, drawn by seed ") ∷ field (codes "seed") Number ∷ [])

-- the first member that isn't clean or is refused, with what it changes or as the plan has it
abbrev pub first_changed_form : Text → Text → Form
first_changed_form kind said =
    a_form kind (literal said ∷ field (codes "member") Number ∷ literal (codes ", ") ∷ field (codes "changes") Series ∷ literal (codes ": ") ∷ field (codes "finding") Rest ∷ [])

abbrev pub first_form : Text → Text → Form
first_form kind said = a_form kind (literal said ∷ field (codes "member") Number ∷ literal (codes ": ") ∷ field (codes "finding") Rest ∷ [])

-- a remark on the plan
abbrev pub note_form : Text → Text → Form
note_form name said = a_form (codes "note") (given (codes "note") Word name ∷ literal said ∷ [])

abbrev pub sweep_layout : Layout
sweep_layout = record {
  command = codes "sweep";
  columns =
      codes "clean" ∷ codes "runs" ∷ codes "too_early" ∷ codes "refused" ∷ codes "range_1" ∷ codes "value_1" ∷
      codes "range_2" ∷ codes "value_2" ∷ codes "others" ∷ codes "members" ∷ codes "run" ∷ codes "seed" ∷
      codes "least_members" ∷ codes "member" ∷ codes "changes" ∷ codes "finding" ∷ codes "note" ∷ [];
  forms =
      count_forms (codes "all") (literal (codes "clean in ") ∷ []) ++ (
      count_forms (codes "row") (value_parts (codes "1") ++ (literal (codes " clean in ") ∷ [])) ++ (
      count_forms (codes "row") (two_value_parts ++ (literal (codes " clean in ") ∷ [])) ++ (
      a_form (codes "row") (two_value_parts ++ (literal (codes " ") ∷ field (codes "others") Rest ∷ [])) ∷
      a_form (codes "members") (literal (codes "all ") ∷ field (codes "members") Word ∷ literal (codes " members were run") ∷ []) ∷
      drawn_form (codes " of ") (codes "members") ∷ drawn_form (codes " of at least ") (codes "least_members") ∷
      first_changed_form (codes "first_unclean") (codes "first that isn't: member ") ∷ first_form (codes "first_unclean") (codes "first that isn't: member ") ∷
      first_changed_form (codes "first_refused") (codes "first refused: member ") ∷ first_form (codes "first_refused") (codes "first refused: member ") ∷
      note_form (codes "frames_added") (codes "each sender has one frame more, with edges ten bits apart") ∷
      note_form (codes "clocks_untested") (codes "no frame has edges ten bits apart, so none tests the clocks; --worst adds some that do") ∷ [])));
}
