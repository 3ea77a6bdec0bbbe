-- Which plan text or first fault belongs to a document (this project's profile).
use Rattle.std.specs.Prelude.{◌≡◌, ◌≢◌, ℕ, Bool, true, false, List, [], ◌∷◌, map, Option, Some, None, option_map, unwrap_or, if◌then◌else◌, Result, Ok, Err, MatchResult}
use Rattle.std.specs.List.{filter_map}
use Rattle.toml.specs.Data.{Data, Members, as_table}
use Rattle.wl_setup.specs.declared.keys.Key.TheVariants as key
use Rattle.wl_setup.specs.declared.fault.SetupFault.{SetupFault}
use Rattle.wl_setup.specs.declared.fault.SetupFault.TheVariants.{Version, Missing, Kind, Unknown, SameName, Memory}
use Rattle.wl_setup.specs.declared.plan_text.PlanText.{PlanText}
use Rattle.wl_setup.specs.Kinds.{number_at, tables_at}
use Rattle.wl_setup.specs.Texts.{plan_of}
use Rattle.wl_setup.specs.Version.{has_controllers}
use Rattle.wl_plain.specs.Documents.{plain_document}
use Rattle.wl_setup.specs.declared.table_path.PlacedFault.{PlacedFault}
use Rattle.wl_setup.specs.declared.table_path.TablePath.{TablePath}
use Rattle.wl_setup.specs.declared.table_path.TablePath.TheVariants.{Top, Node}
use Rattle.wl_setup.specs.Faults.{first_some, top_keys, version_fault, table_fault}
use Rattle.wl_setup.specs.TablePaths.{controller_faults, controller_tables, fault_at, first_in, node_fault_at, disturbance_fault_at}
use Rattle.wl_setup.specs.Names.{first_repeat, names_of, same_name_fault}

-- the first fault of a plain document's version, its top table and its controllers
abbrev pub head_fault : Members → Option PlacedFault
head_fault top =
    first_some (
    fault_at Top (version_fault top)
    ∷ fault_at Top (table_fault (top_keys (number_at key.Version top) top) top)
    ∷ controller_faults 0 (controller_tables top) ∷ [])

-- the first fault of a plain document and its place: of these, each node followed by its rates and its frames, the disturbances, the names
abbrev pub plain_fault : Members → Option PlacedFault
plain_fault top =
    first_some (
    head_fault top
    ∷ first_in (node_fault_at (number_at key.Version top)) (tables_at key.Node top)
    ∷ first_in (disturbance_fault_at (number_at key.Version top)) (tables_at key.Disturbance top)
    ∷ fault_at (Node (first_repeat [] (names_of (plan_of top)))) (same_name_fault (plan_of top)) ∷ [])

-- the document that is read: in the version of controllers its plain form, else itself
abbrev pub read_form : Members → Members
read_form top = if has_controllers (number_at key.Version top) then plain_document top else top

-- the first fault of a document and its place
abbrev pub first_fault : Members → Option PlacedFault
first_fault top = plain_fault (read_form top)

-- the first fault without its place
abbrev pub document_fault : Members → Option SetupFault
document_fault top = option_map (λ f. f.fault) (first_fault top)

-- the table of the first fault; where there is none, the top table
abbrev pub fault_path : Members → TablePath
fault_path top = unwrap_or (option_map (λ f. f.path) (first_fault top)) Top

-- a value, unless there is a fault
abbrev pub unless : {T : Type 0} → Option SetupFault → T → Result T SetupFault
unless None value = Ok value
unless (Some fault) value = Err fault

-- the plan text of a document, or its first fault
abbrev pub plan_text_of : Members → Result PlanText SetupFault
plan_text_of top = unless (document_fault top) (plan_of (read_form top))

-- the plan text of a document without fault, and the names of its nodes
abbrev pub named_plain : Members → PlanText × List (List ℕ)
named_plain top = (plan_of top, names_of (plan_of top))

abbrev pub named_text_of : Members → PlanText × List (List ℕ)
named_text_of top = named_plain (read_form top)

-- an answer is this value, or this fault if there is one, unless memory was refused
abbrev pub Answers : {T : Type 0} → Option SetupFault → T → Result T SetupFault → Type 0
Answers fault value answer = MatchResult answer (λ v. (fault ≡ None) × (v ≡ value)) (λ e. e ≢ Memory → fault ≡ Some e)

-- the answer of a test: there is no fault, or it is this one, unless memory was refused
abbrev pub Passes : Option SetupFault → Result (Unit {0}) SetupFault → Type 0
Passes fault answer = Answers fault tt answer

-- the same of a fault with its place
abbrev pub AnswersAt : {T : Type 0} → Option PlacedFault → T → Result T PlacedFault → Type 0
AnswersAt fault value answer = MatchResult answer (λ v. (fault ≡ None) × (v ≡ value)) (λ e. e.fault ≢ Memory → fault ≡ Some e)

-- the tables in an array: what is no table is passed over
abbrev pub tables_in : List Data → List Members
tables_in values = filter_map as_table values

-- an answer is what is made of each table in an array, or the first fault of one
abbrev pub AnswersEach : {T : Type 0} → (ℕ → Members → Option PlacedFault) → (Members → T) → List Data → Result (List T) PlacedFault → Type 0
AnswersEach fault make values answer = AnswersAt (first_in fault (tables_in values)) (map make (tables_in values)) answer

-- the faults that a document can have
abbrev pub is_document_fault : SetupFault → Bool
is_document_fault Version = true
is_document_fault (Missing k) = true
is_document_fault (Kind k) = true
is_document_fault (Unknown k) = true
is_document_fault SameName = true
is_document_fault _ = false

-- a document has no fault of reading, of TOML, of a setting or of memory
abbrev pub OnlyDocumentFaults : Type 0
OnlyDocumentFaults = (top : Members) (fault : SetupFault) → document_fault top ≡ Some fault → is_document_fault fault ≡ true
