-- The faults of a document's tables, each with the table where it is, and the table at a path (this project's profile).
use Rattle.std.specs.Prelude.{ℕ, zero, suc, List, [], ◌∷◌, map, Option, Some, None, option_map, option_and_then, unwrap_or, slice_get, Result, Ok, Err}
use Rattle.std.specs.List.{enumerate_from}
use Rattle.toml.specs.Data.{Members, no_members, member, as_table}
use Rattle.wl_setup.specs.declared.keys.Key.{Key}
use Rattle.wl_setup.specs.declared.keys.Key.TheVariants as key
use Rattle.wl_setup.specs.declared.fault.SetupFault.{SetupFault}
use Rattle.wl_setup.specs.declared.table_path.PlacedFault.{PlacedFault}
use Rattle.wl_setup.specs.declared.table_path.TablePath.{TablePath}
use Rattle.wl_setup.specs.declared.table_path.TablePath.TheVariants.{Top, Controller, Node, Rate, Frame, Disturbance}
use Rattle.wl_setup.specs.Kinds.{value_at, elements_at, tables_at}
use Rattle.wl_setup.specs.Faults.{first_some, table_fault, node_keys, rate_fault, fault_of_controller, frame_fault, disturbance_fault}

-- a fault of the table at a path
abbrev pub placed : TablePath → SetupFault → PlacedFault
placed path fault = record { path = path; fault = fault }

abbrev pub fault_at : TablePath → Option SetupFault → Option PlacedFault
fault_at path fault = option_map (placed path) fault

-- the answer of a test of the table at a path
abbrev pub answer_at : {T : Type 0} → TablePath → Result T SetupFault → Result T PlacedFault
answer_at path (Ok value) = Ok value
answer_at path (Err fault) = Err (placed path fault)

-- of rate n and of frame n of node i, and of disturbance n
abbrev pub rate_fault_at : ℕ → ℕ → Members → Option PlacedFault
rate_fault_at i n table = fault_at (Rate i n) (rate_fault table)

abbrev pub frame_fault_at : ℕ → ℕ → ℕ → Members → Option PlacedFault
frame_fault_at version i n table = fault_at (Frame i n) (frame_fault version table)

abbrev pub disturbance_fault_at : ℕ → ℕ → Members → Option PlacedFault
disturbance_fault_at version n table = fault_at (Disturbance n) (disturbance_fault version table)

-- of the controllers, by their numbers in the order of their names
abbrev pub controller_faults : ℕ → Members → Option PlacedFault
controller_faults n no_members = None
controller_faults n (member k d ms) = first_some (fault_at (Controller n) (fault_of_controller d) ∷ controller_faults (suc n) ms ∷ [])

abbrev pub controllers_said : Members → Option Members
controllers_said top = option_and_then as_table (value_at key.Controllers top)

abbrev pub controller_tables : Members → Members
controller_tables top = unwrap_or (controllers_said top) no_members

-- the first fault of some tables, by their numbers
abbrev pub first_in : (ℕ → Members → Option PlacedFault) → List Members → Option PlacedFault
first_in fault tables = first_some (map (λ r. fault r.0 r.1) (enumerate_from 0 tables))

-- of node i: its own table, then its rates, which the first version doesn't know, then its frames
abbrev pub node_fault_at : ℕ → ℕ → Members → Option PlacedFault
node_fault_at version i node =
    first_some (
    fault_at (Node i) (table_fault (node_keys version node) node)
    ∷ first_in (rate_fault_at i) (tables_at key.Rates node)
    ∷ first_in (frame_fault_at version i) (tables_at key.Frame node) ∷ [])

-- the table with this number in the array at a key
abbrev pub row_at : Key → ℕ → Members → Option Members
row_at k n table = option_and_then as_table (slice_get (elements_at k table) n)

-- the table with this number among members
abbrev pub table_in : ℕ → Members → Option Members
table_in n no_members = None
table_in zero (member k d ms) = as_table d
table_in (suc n) (member k d ms) = table_in n ms

-- the table at a path, if the document has it
abbrev pub table_at : TablePath → Members → Option Members
table_at Top top = Some top
table_at (Controller n) top = table_in n (controller_tables top)
table_at (Node i) top = row_at key.Node i top
table_at (Rate i n) top = option_and_then (row_at key.Rates n) (row_at key.Node i top)
table_at (Frame i n) top = option_and_then (row_at key.Frame n) (row_at key.Node i top)
table_at (Disturbance n) top = row_at key.Disturbance n top
