-- The lines of `sweep --spike`, each kind with its fields (this project's profile).
use Rattle.std.specs.Prelude.{[], ◌∷◌, ◌++◌, codes}
use Rattle.wl_formats.specs.declared.shape.Class.TheVariants.{Number, Word}
use Rattle.wl_formats.specs.Shapes.{Form, Layout, Text, literal, field, given}
use Rattle.wl_formats.specs.Sentences.{a_form}

-- the first member of a class
abbrev pub first_spike_form : Text → Text → Form
first_spike_form name said =
    a_form (codes "first")
    (given (codes "class") Word name ∷ literal (codes "first " ++ (said ++ codes ": member ")) ∷ field (codes "member") Number ∷ literal (codes ", from = ")
    ∷ field (codes "from") Number ∷ [])

abbrev pub spikes_layout : Layout
spikes_layout = record {
  command = codes "sweep";
  columns =
      codes "spike" ∷ codes "length" ∷ codes "step" ∷ codes "clean" ∷ codes "runs" ∷ codes "healed" ∷ codes "late" ∷
      codes "unhealed" ∷ codes "twice" ∷ codes "missed" ∷ codes "bus_off" ∷ codes "refused" ∷ codes "longest_bits" ∷
      codes "tec" ∷ codes "rec" ∷ codes "class" ∷ codes "member" ∷ codes "from" ∷ [];
  forms =
      a_form (codes "all")
      (literal (codes "spike ") ∷ field (codes "spike") Word ∷ literal (codes " length ") ∷ field (codes "length") Number ∷ literal (codes " step ")
      ∷ field (codes "step") Number ∷ literal (codes " clean in ") ∷ field (codes "clean") Number ∷ literal (codes " of ") ∷ field (codes "runs") Number
      ∷ literal (codes ", healed in ") ∷ field (codes "healed") Number ∷ literal (codes ", late in ") ∷ field (codes "late") Number
      ∷ literal (codes ", unhealed in ") ∷ field (codes "unhealed") Number ∷ literal (codes ", twice in ") ∷ field (codes "twice") Number
      ∷ literal (codes ", missed in ") ∷ field (codes "missed") Number ∷ literal (codes ", bus off in ") ∷ field (codes "bus_off") Number
      ∷ literal (codes ", refused in ") ∷ field (codes "refused") Number ∷ literal (codes "; longest ") ∷ field (codes "longest_bits") Number
      ∷ literal (codes " bits; tec ") ∷ field (codes "tec") Number ∷ literal (codes ", rec ") ∷ field (codes "rec") Number ∷ []) ∷
      first_spike_form (codes "refused") (codes "refused") ∷
      first_spike_form (codes "bus_off") (codes "bus off") ∷
      first_spike_form (codes "missed") (codes "missed") ∷
      first_spike_form (codes "twice") (codes "twice") ∷
      first_spike_form (codes "unhealed") (codes "unhealed") ∷
      first_spike_form (codes "late") (codes "late") ∷
      first_spike_form (codes "healed") (codes "healed") ∷ [];
}
