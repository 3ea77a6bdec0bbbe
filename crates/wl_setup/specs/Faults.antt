-- The faults of a plan's tables, in the order in which they are answered (this project's profile).
use Rattle.std.specs.Prelude.{ℕ, ◌==◌, Bool, true, false, not, ◌||◌, ◌&&◌, if◌then◌else◌, List, [], ◌∷◌, map, filter, Option, Some, None, option_map, option_and_then, is_some}
use Rattle.std.specs.List.{list_any}
use Rattle.std.specs.Ordering.{nat_cmp, is_lt}
use Rattle.std.specs.Str.{bytes_eq}
use Rattle.std.specs.Cmp.Lexicographic.{slice_cmp}
use Rattle.wl_plain.specs.Asking.{asks_tick}
use Rattle.toml.specs.Data.{Data, Members, as_table, get_member, no_members, member}
use Rattle.wl_setup.specs.declared.keys.Key.{Key}
use Rattle.wl_setup.specs.declared.keys.Key.TheVariants as key
use Rattle.wl_setup.specs.declared.fault.SetupFault.{SetupFault}
use Rattle.wl_setup.specs.declared.fault.SetupFault.TheVariants.{Version, Missing, Kind, Unknown}
use Rattle.wl_setup.specs.declared.tables.KeyFault.{KeyFault}
use Rattle.wl_setup.specs.declared.tables.Wrong.{Wrong}
use Rattle.wl_setup.specs.declared.tables.Wrong.TheVariants as wrong
use Rattle.wl_setup.specs.Keys.{key_text, kind_of, TableKeys, top_required, top_optional, controller_keys, required_by_clock, required_by_rate, required_by_ppm, required_by_rates, node_optional, wide_node_optional, wide_frame_optional, rate_keys_by_fraction, rate_keys_by_ppm, frame_required, frame_optional, disturbance_required}
use Rattle.wl_setup.specs.Kinds.{has_kind, value_at, number_at}
use Rattle.wl_setup.specs.Limits.{version_of_rates}
use Rattle.wl_setup.specs.Version.{has_controllers, has_traffic, is_known_version}

-- the first of those that are there
abbrev pub first_some : {A : Type 0} → List (Option A) → Option A
first_some [] = None
first_some (None ∷ more) = first_some more
first_some (Some x ∷ more) = Some x

-- the keys of a table, as they are written
abbrev pub keys_in : Members → List (List ℕ)
keys_in no_members = []
keys_in (member k d more) = k ∷ keys_in more

-- the lesser of a text and another, if there is another, in the order of their bytes
abbrev pub lesser : List ℕ → Option (List ℕ) → List ℕ
lesser text None = text
lesser text (Some other) = if is_lt (slice_cmp nat_cmp text other) then text else other

-- the first text in the order of their bytes
abbrev pub least : List (List ℕ) → Option (List ℕ)
least [] = None
least (text ∷ more) = Some (lesser text (least more))

-- a fault of a key: what is wrong with it, and the key as it is written
abbrev pub key_fault : KeyFault → Wrong × List ℕ
key_fault f = (f.wrong, f.key.now)

-- keys of any type, which are written in these words
module _ {K : Type 0} (word : K → List ℕ) where
  -- whether a text is one of some keys, and of a table's keys
  abbrev pub is_among : List K → List ℕ → Bool
  is_among keys text = list_any (λ k. bytes_eq (word k) text) keys

  abbrev pub is_of_table : List K → List K → List ℕ → Bool
  is_of_table required optional text = is_among required text || is_among optional text

  -- the first key, in the order of their bytes, that no such table has
  abbrev pub unknown_key : List K → List K → Members → Option (List ℕ)
  unknown_key required optional table = least (filter (λ text. not (is_of_table required optional text)) (keys_in table))

-- and which take these values
module _ {K : Type 0} (word : K → List ℕ) (takes : K → Data → Bool) where
  -- of a key that is needed or not: it is missing, or its value is of another kind
  abbrev pub fault_of_key : Bool → K → Option Data → Option (Wrong × List ℕ)
  fault_of_key needed k (Some d) = if takes k d then None else Some (wrong.Kind, word k)
  fault_of_key needed k None = if needed then Some (wrong.Missing, word k) else None

  abbrev pub fault_at_key : Bool → Members → K → Option (Wrong × List ℕ)
  fault_at_key needed table k = fault_of_key needed k (get_member (word k) table)

  -- the first fault of one table: of its required keys, then of its optional ones, then an unknown key
  abbrev pub fault_of_keys : List K → List K → Members → Option (Wrong × List ℕ)
  fault_of_keys required optional table =
      first_some (
      first_some (map (fault_at_key true table) required)
      ∷ first_some (map (fault_at_key false table) optional)
      ∷ option_map (λ key. (wrong.Unknown, key)) (unknown_key word required optional table) ∷ [])

-- a value is of the kind of a plan's key
abbrev pub is_value_of : Key → Data → Bool
is_value_of k d = has_kind (kind_of k) d

-- a fault of a key as one of a plan
abbrev pub setup_fault : Wrong × List ℕ → SetupFault
setup_fault (wrong.Missing, key) = Missing key
setup_fault (wrong.Kind, key) = Kind key
setup_fault (wrong.Unknown, key) = Unknown key

-- of a key of a plan that has to be there
abbrev pub required_fault : Members → Key → Option SetupFault
required_fault table k = option_map setup_fault (fault_at_key key_text is_value_of true table k)

-- the first fault of one table of a plan
abbrev pub table_fault : TableKeys → Members → Option SetupFault
table_fault keys table = option_map setup_fault (fault_of_keys key_text is_value_of keys.required keys.optional table)

-- a node's rates are tables of their own: in the version of rates always, later on if the key is there
abbrev pub has_rates : ℕ → Members → Bool
has_rates version table = (version == version_of_rates) || (has_traffic version && is_some (value_at key.Rates table))

-- a node's segments are a controller's: one of their keys is there
abbrev pub has_tseg : ℕ → Members → Bool
has_tseg version table = has_controllers version && (is_some (value_at key.Tseg1 table) || is_some (value_at key.Tseg2 table))

-- a node's clock is written by its frequency: one of these keys is there
abbrev pub has_clock : ℕ → Members → Bool
has_clock version table =
    has_controllers version
    && (is_some (value_at key.Clock table) || (is_some (value_at key.Prescaler table) || is_some (value_at key.BitRate table)))

-- by a bit rate without a prescaler
abbrev pub is_by_bit_rate : Members → Bool
is_by_bit_rate table = is_some (value_at key.BitRate table) && not (is_some (value_at key.Prescaler table))

-- a node of a plain document that still names a controller names none that is there
abbrev pub names_none : ℕ → Members → Bool
names_none version table = has_controllers version && is_some (value_at key.Controller table)

-- the keys of a node go by the version, by whether `rates` or `quantum` is there, and by whether `tseg1` or `tseg2` is
abbrev pub node_required : ℕ → Members → List Key
node_required version table =
    if names_none version table then key.Controller ∷ []
    else if has_clock version table then required_by_clock (is_by_bit_rate table) (has_tseg version table)
    else if has_rates version table then required_by_rates (has_tseg version table)
    else if is_some (value_at key.Quantum table) then required_by_ppm (has_tseg version table)
    else required_by_rate (has_tseg version table)

-- a rate is written as a fraction: neither as a whole number of ticks nor by tables of its own
abbrev pub is_fraction : ℕ → Members → Bool
is_fraction version table = has_clock version table || not (has_rates version table || is_some (value_at key.Quantum table))

abbrev pub optional_in : ℕ → Members → List Key
optional_in version table =
    if has_controllers version then wide_node_optional (is_fraction version table) else node_optional (has_traffic version)

abbrev pub node_keys : ℕ → Members → TableKeys
node_keys version table = record { required = node_required version table; optional = optional_in version table }

-- those of a frame by the version, and by whether `count` is there
abbrev pub frame_keys : ℕ → Members → TableKeys
frame_keys version table = record {
  required = frame_required (has_traffic version && is_some (value_at key.Count table));
  optional = if has_controllers version then wide_frame_optional else frame_optional (has_traffic version);
}

-- those of a disturbance by the version, and by whether `node` is there
abbrev pub disturbance_keys : ℕ → Members → TableKeys
disturbance_keys version table = record {
  required = disturbance_required (has_traffic version && is_some (value_at key.AtNode table));
  optional = [];
}

abbrev pub frame_fault : ℕ → Members → Option SetupFault
frame_fault version table = table_fault (frame_keys version table) table

abbrev pub disturbance_fault : ℕ → Members → Option SetupFault
disturbance_fault version table = table_fault (disturbance_keys version table) table

-- and so do those of a rate
abbrev pub rate_keys : Members → TableKeys
rate_keys table = if is_some (value_at key.Quantum table) then rate_keys_by_ppm else rate_keys_by_fraction

abbrev pub rate_fault : Members → Option SetupFault
rate_fault table = table_fault (rate_keys table) table

-- those of the top table by the version, and by whether a text with a unit is left, which asks for the length of a tick
abbrev pub asks_tick_in : ℕ → Members → Bool
asks_tick_in version top = has_controllers version && asks_tick top

abbrev pub top_keys : ℕ → Members → TableKeys
top_keys version top = record { required = top_required (asks_tick_in version top); optional = top_optional (has_controllers version) }

-- of a controller
abbrev pub fault_of_controller : Data → Option SetupFault
fault_of_controller d = option_and_then (table_fault controller_keys) (as_table d)

-- a version that is missing, of another kind, or not known
abbrev pub version_fault : Members → Option SetupFault
version_fault top =
    first_some (required_fault top key.Version ∷ (if is_known_version (number_at key.Version top) then None else Some Version) ∷ [])
