-- Which nodes get a setting: those of its name, or whose controller has it, with the clock of the setting (this project's profile).
use Rattle.std.specs.Prelude.{ℕ, ◌==◌, ◌||◌, ◌&&◌, Bool, true, false, if◌then◌else◌, List, [], ◌∷◌, map, Option, Some, None, option_and_then, codes}
use Rattle.std.specs.List.{enumerate_from, filter_map, list_any, slice_get}
use Rattle.std.specs.Str.{bytes_eq}
use Rattle.toml.specs.Data.{Data, Members, get_member, as_str, as_table}
use Rattle.wl_units.specs.declared.quantity.Measure.TheVariants.{Frequency}
use Rattle.wl_units.specs.Scales.{number_said}
use Rattle.wl_setup.specs.declared.keys.Key.TheVariants as key
use Rattle.wl_setup.specs.declared.plan_text.NodeText.{NodeText}
use Rattle.wl_setup.specs.Kinds.{elements_at}
use Rattle.wl_apply.specs.declared.chosen.Chosen.{Chosen}
use Rattle.wl_apply.specs.declared.labels.Label.{Label}

-- the controller that a node's table names, and its table
abbrev pub controller_name : Members → Option (List ℕ)
controller_name ms = option_and_then as_str (get_member (codes "controller") ms)

abbrev pub table_named : Members → List ℕ → Option Members
table_named controllers name = option_and_then as_table (get_member name controllers)

abbrev pub controller_in : Option (List ℕ) → Members → Option Members
controller_in name controllers = option_and_then (table_named controllers) name

abbrev pub node_controller : Members → Members → Option Members
node_controller top ms = option_and_then (controller_in (controller_name ms)) (option_and_then as_table (get_member (codes "controller") top))

-- the frequency that a text says, in Hz
abbrev pub hertz : List ℕ → Option ℕ
hertz text = number_said Frequency (record { tick = 1; unit = 1 }) text

abbrev pub clock_said : Members → Option ℕ
clock_said ms = option_and_then hertz (option_and_then as_str (get_member (codes "clock") ms))

-- a node's own, or that of its controller
abbrev pub own_clock_or : Option ℕ → Option Members → Option ℕ
own_clock_or (Some clock) controller = Some clock
own_clock_or None controller = option_and_then clock_said controller

abbrev pub hertz_of_node : Members → Members → Option ℕ
hertz_of_node top ms = own_clock_or (clock_said ms) (node_controller top ms)

-- what a node's table says of its controller, and all tables of a document
abbrev pub label_of : Members → Members → Label
label_of top ms = record { controller = controller_name ms; clock = hertz_of_node top ms }

abbrev pub labels_in : Members → List Data → List Label
labels_in top values = map (label_of top) (filter_map as_table values)

abbrev pub labels_of : Members → List Label
labels_of top = labels_in top (elements_at key.Node top)

-- a setting is for a node
abbrev pub fits_name : Chosen → Option (List ℕ) → Bool
fits_name c None = false
fits_name c (Some name) = bytes_eq c.name name

abbrev pub fits_clock : Chosen → Option ℕ → Bool
fits_clock c None = true
fits_clock c (Some clock) = clock == c.clock

abbrev pub is_meant_for : Chosen → Label → NodeText → Bool
is_meant_for c label node = (bytes_eq c.name node.name || fits_name c label.controller) && fits_clock c label.clock

abbrev pub fits_label : Chosen → Option Label → NodeText → Bool
fits_label c None node = false
fits_label c (Some label) node = is_meant_for c label node

abbrev pub fits_node : List Label → Chosen → ℕ × NodeText → Bool
fits_node labels c (i, node) = fits_label c (slice_get labels i) node

-- the first setting that is for a numbered node
abbrev pub first_fitting : List Label → ℕ × NodeText → List Chosen → Option Chosen
first_fitting labels (i, node) [] = None
first_fitting labels (i, node) (c ∷ cs) = if fits_node labels c (i, node) then Some c else first_fitting labels (i, node) cs

-- a setting is for some node, and the first that is for none
abbrev pub is_for_some : List Label → List NodeText → Chosen → Bool
is_for_some labels nodes c = list_any (fits_node labels c) (enumerate_from 0 nodes)

abbrev pub first_unnamed : List Label → List NodeText → List Chosen → Option Chosen
first_unnamed labels nodes [] = None
first_unnamed labels nodes (c ∷ cs) = if is_for_some labels nodes c then first_unnamed labels nodes cs else Some c
