-- What the value of a key has to be, and what it says (this project's profile).
use Rattle.std.specs.Prelude.{ℕ, ℤ, pos, unsigned_abs, ◌||◌, ◌&&◌, ◌==◌, nat_le, Bool, true, false, if◌then◌else◌, List, [], ◌∷◌, length, Option, Some, None, is_some, unwrap_or, option_and_then, codes}
use Rattle.std.specs.List.{list_all, filter_map}
use Rattle.toml.specs.Data.{Data, integer, array, Items, no_items, item, Members, no_members, member, get_member, as_str, as_integer, as_bool, as_table}
use Rattle.std.specs.Str.{bytes_eq}
use Rattle.wl_segments.specs.declared.SyncRules.{SyncRules}
use Rattle.wl_segments.specs.declared.SyncRules.TheVariants.{After, Book}
use Rattle.wl_units.specs.Scales.{tick_said, unit_said}
use Rattle.wl_setup.specs.declared.plan_text.QueueText.{QueueText}
use Rattle.wl_setup.specs.declared.plan_text.QueueText.TheVariants.{Fifo, Priority}
use Rattle.wl_setup.specs.declared.keys.Key.{Key}
use Rattle.wl_setup.specs.declared.keys.Kind.{Kind}
use Rattle.wl_setup.specs.declared.keys.Kind.TheVariants as kind
use Rattle.wl_setup.specs.Keys.{key_text}
use Rattle.wl_setup.specs.Limits.{largest_number, largest_small, largest_ppm, largest_tolerance, largest_byte, longest_name}

-- a whole number from 0 to the greatest
abbrev pub number_in : ℕ → Data → Option ℕ
number_in most (integer (pos n)) = if nat_le n most then Some n else None
number_in most _ = None

-- one from the least to the greatest, and one from 1 on
abbrev pub unless_below : ℕ → Option ℕ → Option ℕ
unless_below least (Some n) = if nat_le least n then Some n else None
unless_below least None = None

abbrev pub number_within : ℕ → ℕ → Data → Option ℕ
number_within least most d = unless_below least (number_in most d)

abbrev pub positive_in : Data → Option ℕ
positive_in d = number_within 1 largest_number d

-- an ASCII letter or digit, `_` or `-`
abbrev pub is_name_letter : ℕ → Bool
is_name_letter c = (nat_le 97 c && nat_le c 122) || (nat_le 65 c && nat_le c 90) || (nat_le 48 c && nat_le c 57) || (c == 95) || (c == 45)

abbrev pub is_name : List ℕ → Bool
is_name name = nat_le 1 (length name) && nat_le (length name) longest_name && list_all is_name_letter name

-- a whole number whose size is at most the greatest, either way
abbrev pub is_ppm : ℤ → Bool
is_ppm n = nat_le (unsigned_abs n) largest_ppm

-- the elements of an array
abbrev pub list_of : Items → List Data
list_of no_items = []
list_of (item d ds) = d ∷ list_of ds

abbrev pub elements_of : Data → Option (List Data)
elements_of (array items) = Some (list_of items)
elements_of _ = None

-- whether there is a value, and the test holds of it
abbrev pub holds : {A : Type 0} → (A → Bool) → Option A → Bool
holds test None = false
holds test (Some x) = test x

abbrev pub byte_in : Data → Option ℕ
byte_in d = number_in largest_byte d

-- where SYNC_SEG lies in a bit that an edge begins, as a word says it
abbrev pub sync_named : List ℕ → Option SyncRules
sync_named text = if bytes_eq text (codes "after") then Some After else if bytes_eq text (codes "book") then Some Book else None

abbrev pub sync_in : Data → Option SyncRules
sync_in d = option_and_then sync_named (as_str d)

-- which frame a node sends first, as a word says it
abbrev pub queue_named : List ℕ → Option QueueText
queue_named text = if bytes_eq text (codes "fifo") then Some Fifo else if bytes_eq text (codes "priority") then Some Priority else None

abbrev pub queue_in : Data → Option QueueText
queue_in d = option_and_then queue_named (as_str d)

-- the lengths of a tick in femtoseconds, and of a unit of length in micrometres
abbrev pub tick_value : Data → Option ℕ
tick_value d = option_and_then tick_said (as_str d)

abbrev pub unit_value : Data → Option ℕ
unit_value d = option_and_then unit_said (as_str d)

-- a text that isn't empty
abbrev pub is_filled : List ℕ → Bool
is_filled text = nat_le 1 (length text)

-- each member is a table
abbrev pub are_all_tables : Members → Bool
are_all_tables no_members = true
are_all_tables (member k d ms) = is_some (as_table d) && are_all_tables ms

-- whether a value is of a kind
abbrev pub has_kind : Kind → Data → Bool
has_kind kind.Number d = is_some (number_in largest_number d)
has_kind kind.Small d = is_some (number_in largest_small d)
has_kind kind.Ppm d = holds is_ppm (as_integer d)
has_kind kind.Truth d = is_some (as_bool d)
has_kind kind.Name d = holds is_name (as_str d)
has_kind kind.Bytes d = holds (list_all (λ e. is_some (byte_in e))) (elements_of d)
has_kind kind.Tables d = holds (list_all (λ e. is_some (as_table e))) (elements_of d)
has_kind kind.Sync d = is_some (sync_in d)
has_kind kind.Tolerance d = is_some (number_in largest_tolerance d)
has_kind kind.Positive d = is_some (positive_in d)
has_kind kind.Queue d = is_some (queue_in d)
has_kind kind.Tick d = is_some (tick_value d)
has_kind kind.Unit d = is_some (unit_value d)
has_kind kind.Filled d = holds is_filled (as_str d)
has_kind kind.Named d = holds are_all_tables (as_table d)

-- the kinds that the version of controllers has besides
abbrev pub is_wide_kind : Kind → Bool
is_wide_kind kind.Queue = true
is_wide_kind kind.Tick = true
is_wide_kind kind.Unit = true
is_wide_kind kind.Filled = true
is_wide_kind kind.Named = true
is_wide_kind _ = false

-- the value of a key
abbrev pub value_at : Key → Members → Option Data
value_at key table = get_member (key_text key) table

-- what a value says; where it is absent or of another kind, the default
abbrev pub number_at : Key → Members → ℕ
number_at key table = unwrap_or (option_and_then (number_in largest_number) (value_at key table)) 0

abbrev pub small_at : Key → Members → ℕ
small_at key table = unwrap_or (option_and_then (number_in largest_small) (value_at key table)) 0

abbrev pub ppm_at : Key → Members → ℤ
ppm_at key table = unwrap_or (option_and_then as_integer (value_at key table)) (pos 0)

abbrev pub truth_at : Key → Members → Bool
truth_at key table = unwrap_or (option_and_then as_bool (value_at key table)) false

abbrev pub sync_choice_at : Key → Members → SyncRules
sync_choice_at key table = unwrap_or (option_and_then sync_in (value_at key table)) After

-- a tolerance has no default
abbrev pub tolerance_at : Key → Members → Option ℕ
tolerance_at key table = option_and_then (number_in largest_tolerance) (value_at key table)

abbrev pub queue_at : Key → Members → QueueText
queue_at key table = unwrap_or (option_and_then queue_in (value_at key table)) Fifo

-- nor has a length of a tick or of a unit, and a number that may be absent
abbrev pub tick_at : Key → Members → Option ℕ
tick_at key table = option_and_then tick_value (value_at key table)

abbrev pub unit_at : Key → Members → Option ℕ
unit_at key table = option_and_then unit_value (value_at key table)

abbrev pub some_number_at : Key → Members → Option ℕ
some_number_at key table = option_and_then (number_in largest_number) (value_at key table)

-- nor has a number from 1 on, and a name that may be absent
abbrev pub positive_at : Key → Members → Option ℕ
positive_at key table = option_and_then positive_in (value_at key table)

abbrev pub some_name_at : Key → Members → Option (List ℕ)
some_name_at key table = option_and_then as_str (value_at key table)

-- a text, and the elements of an array, of any table's key
abbrev pub name_said : Option Data → List ℕ
name_said value = unwrap_or (option_and_then as_str value) []

abbrev pub elements_said : Option Data → List Data
elements_said value = unwrap_or (option_and_then elements_of value) []

abbrev pub name_at : Key → Members → List ℕ
name_at key table = name_said (value_at key table)

abbrev pub elements_at : Key → Members → List Data
elements_at key table = elements_said (value_at key table)

abbrev pub bytes_at : Key → Members → List ℕ
bytes_at key table = filter_map byte_in (elements_at key table)

abbrev pub tables_at : Key → Members → List Members
tables_at key table = filter_map as_table (elements_at key table)
