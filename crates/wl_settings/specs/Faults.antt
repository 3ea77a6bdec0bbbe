-- The faults of a text's tables, in the order in which they are returned (this project's profile).
use Rattle.std.specs.Prelude.{◌≡◌, ◌≢◌, ℕ, Bool, List, [], ◌∷◌, map, Option, Some, None, option_map, Result, MatchResult}
use Rattle.toml.specs.Data.{Members}
use Rattle.wl_setup.specs.declared.tables.Wrong.{Wrong}
use Rattle.wl_setup.specs.declared.tables.Wrong.TheVariants as wrong
use Rattle.wl_setup.specs.Faults.{fault_of_keys, first_some}
use Rattle.wl_settings.specs.declared.keys.Key.{Key}
use Rattle.wl_settings.specs.declared.keys.Key.TheVariants as key
use Rattle.wl_settings.specs.declared.fault.SettingsFault.{SettingsFault}
use Rattle.wl_settings.specs.declared.fault.SettingsFault.TheVariants.{Missing, Kind, Unknown, NoController, Memory}
use Rattle.wl_settings.specs.Keys.{bus_optional, bus_required, controller_optional, controller_required, key_word}
use Rattle.wl_settings.specs.Kinds.{has_joint_parts, inner_tables, takes_value}

-- a fault of a key as one of a text
abbrev pub settings_fault : Wrong × List ℕ → SettingsFault
settings_fault (wrong.Missing, key) = Missing key
settings_fault (wrong.Kind, key) = Kind key
settings_fault (wrong.Unknown, key) = Unknown key

-- the first fault of one table
abbrev pub fault_of_table : List Key → List Key → Members → Option SettingsFault
fault_of_table required optional table = option_map settings_fault (fault_of_keys key_word takes_value required optional table)

-- of the top table, whose keys go by whether PROP_SEG and PHASE_SEG1 are one length
unfoldable pub bus_fault : Members → Option SettingsFault
bus_fault top = fault_of_table bus_required (bus_optional (has_joint_parts top)) top

-- a controller's keys go by whether PROP_SEG and PHASE_SEG1 are one length
abbrev pub controller_fault : Bool → Members → Option SettingsFault
controller_fault joint table = fault_of_table controller_required (controller_optional joint) table

-- there is no controller
abbrev pub no_controller : List Members → Option SettingsFault
no_controller [] = Some NoController
no_controller (table ∷ tables) = None

-- the first fault of a document: of the top table, then of each controller, then that there is none
abbrev pub wanted_fault : Members → Option SettingsFault
wanted_fault top =
    first_some (
    bus_fault top
    ∷ first_some (map (controller_fault (has_joint_parts top)) (inner_tables key.Controller top))
    ∷ no_controller (inner_tables key.Controller top) ∷ [])

-- an answer is this value, or this fault if there is one, unless memory was refused
abbrev pub AnswersFault : {T : Type 0} → Option SettingsFault → T → Result T SettingsFault → Type 0
AnswersFault fault value answer = MatchResult answer (λ v. (fault ≡ None) × (v ≡ value)) (λ e. e ≢ Memory → fault ≡ Some e)

-- the answer of a test: there is no fault, or it is this one, unless memory was refused
abbrev pub PassesTest : Option SettingsFault → Result (Unit {0}) SettingsFault → Type 0
PassesTest fault answer = AnswersFault fault tt answer
