-- Whether a document has a text that asks for the length of a tick (this project's profile).
use Rattle.std.specs.Prelude.{ℕ, Bool, true, false, ◌||◌, ◌&&◌, is_some, List, [], ◌∷◌, Option, Some, None, unwrap_or, codes}
use Rattle.std.specs.List.{list_any}
use Rattle.std.specs.Str.{bytes_eq}
use Rattle.toml.specs.Data.{Data, table, Members, no_members, member, as_str}
use Rattle.wl_units.specs.declared.quantity.Measure.{Measure}
use Rattle.wl_plain.specs.declared.measure.Row.{Row}
use Rattle.wl_plain.specs.declared.measure.Row.TheVariants.{Top, Controller, Node, Rate, Frame, Disturbance}
use Rattle.wl_plain.specs.Tables.{array_at}
use Rattle.wl_plain.specs.Measures.{asks_tick as measure_asks, measure_at_key}
use Rattle.wl_plain.specs.Documents.{controllers_in}

abbrev pub asks_measure : Option Measure → Bool
asks_measure None = false
asks_measure (Some measure) = measure_asks measure

-- a clock by its frequency asks for it, and so does noise
abbrev pub needs_tick : Row → List ℕ → Bool
needs_tick Top key = bytes_eq key (codes "noise")
needs_tick Node key = bytes_eq key (codes "clock")
needs_tick Controller key = bytes_eq key (codes "clock")
needs_tick _ key = false

-- a text at the key of a time, and such a key
abbrev pub asks_at : Row → List ℕ → Data → Bool
asks_at row key d = (is_some (as_str d) && asks_measure (measure_at_key row key)) || needs_tick row key

abbrev pub asks_row : Row → Members → Bool
asks_row row no_members = false
asks_row row (member k d ms) = asks_at row k d || asks_row row ms

abbrev pub asks_data : Row → Data → Bool
asks_data row (table ms) = asks_row row ms
asks_data row d = false

-- some table of an array
abbrev pub asks_some : (Data → Bool) → Option (List Data) → Bool
asks_some asks None = false
asks_some asks (Some ds) = list_any asks ds

-- a node, one of its rates or one of its frames
abbrev pub asks_node : Members → Bool
asks_node ms =
    asks_row Node ms || (asks_some (asks_data Rate) (array_at (codes "rates") ms) || asks_some (asks_data Frame) (array_at (codes "frame") ms))

abbrev pub asks_node_of : Data → Bool
asks_node_of (table ms) = asks_node ms
asks_node_of d = false

abbrev pub asks_controllers : Members → Bool
asks_controllers no_members = false
asks_controllers (member k d ms) = asks_data Controller d || asks_controllers ms

-- the plan, one of its controllers, of its nodes or of its disturbances
unfoldable pub asks_tick : Members → Bool
asks_tick top =
    asks_row Top top
    || (asks_controllers (controllers_in top)
    || (asks_some asks_node_of (array_at (codes "node") top) || asks_some (asks_data Disturbance) (array_at (codes "disturbance") top)))
