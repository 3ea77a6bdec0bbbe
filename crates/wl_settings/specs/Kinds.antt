-- What the value of a key has to be, and what it says (this project's profile).
use Rattle.std.specs.Prelude.{ℕ, min, ◌+◌, ◌-◌, ◌*◌, ◌==◌, ◌&&◌, Bool, if◌then◌else◌, List, [], ◌∷◌, Option, Some, None, is_some, unwrap_or, option_and_then, option_map, false, codes}
use Rattle.std.specs.List.{filter_map}
use Rattle.std.specs.Str.{bytes_eq}
use Rattle.toml.specs.Data.{Data, Members, get_member, as_bool, as_str, as_table}
use Rattle.wl_bound.specs.declared.condition.Senders.{Senders}
use Rattle.wl_bound.specs.declared.condition.Senders.TheVariants.{Any, One}
use Rattle.wl_kinds.specs.Kinds.{kind_named}
use Rattle.wl_setup.specs.Kinds.{elements_said, has_kind, name_said, number_within}
use Rattle.wl_units.specs.Decimals.{is_digit}
use Rattle.wl_settings.specs.declared.asked.Bounds.{Bounds}
use Rattle.wl_settings.specs.declared.keys.Key.{Key}
use Rattle.wl_settings.specs.declared.keys.Key.TheVariants as key
use Rattle.wl_settings.specs.declared.keys.ValueKind.{ValueKind}
use Rattle.wl_settings.specs.declared.keys.ValueKind.TheVariants as kind
use Rattle.wl_settings.specs.Keys.{key_word, value_kind}
use Rattle.wl_settings.specs.Registers.{bounds_of_kind, widest_bounds}

-- who sends, as a word says it
abbrev pub senders_named : List ℕ → Option Senders
senders_named text = if bytes_eq text (codes "one") then Some One else if bytes_eq text (codes "any") then Some Any else None

abbrev pub senders_in : Data → Option Senders
senders_in d = option_and_then senders_named (as_str d)

-- a sample point in thousandths of a bit, as a text says it: `87.5%`, `87%`, or with a space before the sign
abbrev pub permille_of : (tens ones tenths : ℕ) → Option ℕ
permille_of tens ones tenths =
    if is_digit tens && (is_digit ones && is_digit tenths) then Some ((tens - 48) * 100 + (ones - 48) * 10 + (tenths - 48)) else None

-- what comes after the first two digits
abbrev pub tenths_said : List ℕ → Option ℕ
tenths_said (c ∷ []) = if c == 37 then Some 48 else None
tenths_said (c ∷ d ∷ []) = if (c == 32) && (d == 37) then Some 48 else None
tenths_said (c ∷ d ∷ e ∷ []) = if (c == 46) && (e == 37) then Some d else None
tenths_said (c ∷ d ∷ e ∷ f ∷ []) = if (c == 46) && ((e == 32) && (f == 37)) then Some d else None
tenths_said _ = None

abbrev pub sample_said : List ℕ → Option ℕ
sample_said (tens ∷ ones ∷ more) = option_and_then (permille_of tens ones) (tenths_said more)
sample_said _ = None

abbrev pub sample_in : Data → Option ℕ
sample_in d = option_and_then sample_said (as_str d)

-- what controllers of a kind can be set to, as its word says it
abbrev pub bounds_in : Data → Option Bounds
bounds_in d = option_map bounds_of_kind (option_and_then kind_named (as_str d))

-- whether a value is of a kind
abbrev pub is_of_kind : ValueKind → Data → Bool
is_of_kind (kind.Within least most) d = is_some (number_within least most d)
is_of_kind kind.Senders d = is_some (senders_in d)
is_of_kind kind.Named d = is_some (bounds_in d)
is_of_kind kind.Sample d = is_some (sample_in d)
is_of_kind (kind.OfPlan k) d = has_kind k d

abbrev pub takes_value : Key → Data → Bool
takes_value key d = is_of_kind (value_kind key) d

-- the value of a key
abbrev pub data_at : Key → Members → Option Data
data_at key table = get_member (key_word key) table

-- what a value says; if the key is absent or its value of another kind, the default
abbrev pub whole_in : ValueKind → Option Data → Option ℕ
whole_in (kind.Within least most) value = option_and_then (number_within least most) value
whole_in _ value = None

abbrev pub whole_at : Key → ℕ → Members → ℕ
whole_at key without table = unwrap_or (whole_in (value_kind key) (data_at key table)) without

abbrev pub segment_at : Key → ℕ → Members → ℕ
segment_at key without table = min (whole_at key without table) 65535

abbrev pub senders_at : Key → Members → Senders
senders_at key table = unwrap_or (option_and_then senders_in (data_at key table)) Any

-- none without the key
abbrev pub wished_sample_at : Key → Members → Option ℕ
wished_sample_at key table = option_and_then sample_in (data_at key table)

-- false without the key
abbrev pub flag_at : Key → Members → Bool
flag_at key table = unwrap_or (option_and_then as_bool (data_at key table)) false

-- the widest without the key
abbrev pub bounds_at : Key → Members → Bounds
bounds_at key table = unwrap_or (option_and_then bounds_in (data_at key table)) widest_bounds

abbrev pub name_in_table : Key → Members → List ℕ
name_in_table key table = name_said (data_at key table)

abbrev pub values_at : Key → Members → List Data
values_at key table = elements_said (data_at key table)

abbrev pub inner_tables : Key → Members → List Members
inner_tables key table = filter_map as_table (values_at key table)

-- the text is one of controllers whose PROP_SEG and PHASE_SEG1 are one length
abbrev pub has_joint_parts : Members → Bool
has_joint_parts top = whole_at key.Version 0 top == 4
