-- Members by entries of a fixed list of keys, some of them absent, and what is found in them.
use Rattle.std.proofs.Common.{◌≡◌, ◌∙◌, refl, sym, ap, ℕ, Bool, true, false, not, ◌&&◌, ◌||◌, List, [], ◌∷◌, ◌++◌, map, filter, Option, Some, None, option_map, if◌then◌else◌, is_none, inl, inr, ◌⊎◌}
use Rattle.std.proofs.lemmas.Bool.{and_parts, cases_Bool}
use Rattle.std.specs.List.{list_all}
use Rattle.toml.specs.Data.{Data, array, Members, no_members, member, get_member, same_key}
use Rattle.wl_setup.specs.declared.keys.Key.{Key}
use Rattle.wl_setup.specs.Faults.{fault_at_key, first_some, is_of_table, is_value_of, keys_in, table_fault}
use Rattle.wl_setup.specs.Keys.{key_text}
use Rattle.wl_setup.specs.Kinds.{value_at}
use Rattle.wl_print.proofs.Sorted.{get_at, get_sorted, same_is, is_fresh, is_proper, is_proper_data, kept, keys_sorted, not_parts, other_way, sorted}
use Rattle.wl_print.proofs.Tables.{AreRows, Row, tables_in_order, with_row, with_rows, with_tables}

abbrev pub Entry : Type 0
Entry = List ℕ × Option Data

abbrev pub with_entry : List ℕ → Option Data → Members → Members
with_entry k None rest = rest
with_entry k (Some d) rest = member k d rest

abbrev pub with_entries : List Entry → Members → Members
with_entries [] rest = rest
with_entries ((k, o) ∷ es) rest = with_entry k o (with_entries es rest)

abbrev pub all_members : List Entry → Members
all_members es = with_entries es no_members

-- the key is none of these
abbrev pub is_apart : List ℕ → List Entry → Bool
is_apart k [] = true
is_apart k ((l, o) ∷ es) = not (same_key l k) && is_apart k es

abbrev pub are_distinct : List Entry → Bool
are_distinct [] = true
are_distinct ((k, o) ∷ es) = is_apart k es && are_distinct es

-- the value at a key
abbrev pub found : List ℕ → List Entry → Option Data
found l [] = None
found l ((k, o) ∷ es) = if same_key l k then o else found l es

abbrev pub AreProper : List Entry → Type 0
AreProper [] = Unit {0}
AreProper ((k, None) ∷ es) = AreProper es
AreProper ((k, Some d) ∷ es) = (is_proper_data d ≡ true) × AreProper es

fresh_entries : (k : List ℕ) (es : List Entry) → is_apart k es ≡ true → is_fresh k (all_members es) ≡ true
fresh_entries k [] h = refl
fresh_entries k ((l, None) ∷ es) h = fresh_entries k es (not_parts (same_key l k) (is_apart k es) h).1
fresh_entries k ((l, Some d) ∷ es) h =
    let (other, more) = not_parts (same_key l k) (is_apart k es) h in
    rw other (fresh_entries k es more)

pub proper_entries : (es : List Entry) → are_distinct es ≡ true → AreProper es → is_proper (all_members es) ≡ true
proper_entries [] h proper = refl
proper_entries ((k, None) ∷ es) h proper = proper_entries es (and_parts (is_apart k es) (are_distinct es) h).1 proper
proper_entries ((k, Some d) ∷ es) h proper =
    let (apart, more) = and_parts (is_apart k es) (are_distinct es) h in
    rw (fresh_entries k es apart, proper.0) (proper_entries es more proper.1)

none_found : (l k : List ℕ) (es : List Entry) → same_key l k ≡ true → is_apart k es ≡ true → get_member l (all_members es) ≡ None
none_found l k [] same h = refl
none_found l k ((j, None) ∷ es) same h = none_found l k es same (not_parts (same_key j k) (is_apart k es) h).1
none_found l k ((j, Some d) ∷ es) same h =
    let (other, more) = not_parts (same_key j k) (is_apart k es) h in
    let apart : same_key l j ≡ false = other_way j l (ap (λ (m : List ℕ). same_key j m) (same_is l k same) ∙ other) in
    get_at l j d (all_members es) ∙ rw apart (none_found l k es same more)

pub get_entries : (l : List ℕ) (es : List Entry) → are_distinct es ≡ true → get_member l (all_members es) ≡ found l es
get_entries l [] h = refl
get_entries l ((k, None) ∷ es) h =
    let (apart, more) = and_parts (is_apart k es) (are_distinct es) h in
    elim (cases_Bool (same_key l k)) [
      | inl same ↦ rw same (none_found l k es same apart)
      | inr other ↦ rw other (get_entries l es more)
    ]
get_entries l ((k, Some d) ∷ es) h =
    let (apart, more) = and_parts (is_apart k es) (are_distinct es) h in
    get_at l k d (all_members es) ∙ ap (λ o. if same_key l k then Some d else o) (get_entries l es more)

-- a value at a key, in members whose keys are in order
pub seen : (l : List ℕ) (es : List Entry) → are_distinct es ≡ true → AreProper es → get_member l (sorted (all_members es)) ≡ option_map kept (found l es)
seen l es h proper = get_sorted (all_members es) l (proper_entries es h proper) ∙ ap (option_map kept) (get_entries l es h)

-- each key that is there passes a test
abbrev pub all_there : (List ℕ → Bool) → List Entry → Bool
all_there p [] = true
all_there p ((k, o) ∷ es) = (p k || is_none o) && all_there p es

or_left : (b : Bool) → (b || false) ≡ true → b ≡ true
or_left true h = refl
or_left false h = h

there_false : (b c : Bool) → ((b || true) && c) ≡ c
there_false true c = refl
there_false false c = refl

there_keys : (p : List ℕ → Bool) (es : List Entry) → all_there p es ≡ true → list_all p (keys_in (all_members es)) ≡ true
there_keys p [] h = refl
there_keys p ((k, None) ∷ es) h = there_keys p es (sym (there_false (p k) (all_there p es)) ∙ h)
there_keys p ((k, Some d) ∷ es) h =
    let (here, more) = and_parts (p k || false) (all_there p es) h in
    rw (or_left (p k) here) (there_keys p es more)

-- ---- a table without a fault

-- a key's value is there, and of its kind; or it is absent
abbrev pub Taken : Members → Key → Type 0
Taken table k = (d : Data) × (value_at k table ≡ Some d) × (is_value_of k d ≡ true)

abbrev pub Allowed : Members → Key → Type 0
Allowed table k = (value_at k table ≡ None) ⊎ Taken table k

abbrev pub AllTaken : Members → List Key → Type 0
AllTaken table [] = Unit {0}
AllTaken table (k ∷ ks) = Taken table k × AllTaken table ks

abbrev pub AllAllowed : Members → List Key → Type 0
AllAllowed table [] = Unit {0}
AllAllowed table (k ∷ ks) = Allowed table k × AllAllowed table ks

taken_fine : (table : Members) (k : Key) (needed : Bool) → Taken table k → fault_at_key key_text is_value_of needed table k ≡ None
taken_fine table k needed h = rw (h.1, h.2) refl

required_fine : (table : Members) (ks : List Key) → AllTaken table ks → first_some (map (fault_at_key key_text is_value_of true table) ks) ≡ None
required_fine table [] h = refl
required_fine table (k ∷ ks) h = rw (taken_fine table k true h.0) (required_fine table ks h.1)

optional_fine : (table : Members) (ks : List Key) → AllAllowed table ks → first_some (map (fault_at_key key_text is_value_of false table) ks) ≡ None
optional_fine table [] h = refl
optional_fine table (k ∷ ks) h =
    elim h.0 [
      | inl none ↦ rw none (optional_fine table ks h.1)
      | inr taken ↦ rw (taken_fine table k false taken) (optional_fine table ks h.1)
    ]

none_left : (p : List ℕ → Bool) (ks : List (List ℕ)) → list_all p ks ≡ true → filter (λ text. not (p text)) ks ≡ []
none_left p [] h = refl
none_left p (k ∷ ks) h =
    let (here, more) = and_parts (p k) (list_all p ks) h in
    rw here (none_left p ks more)

pub no_fault : (required optional : List Key) (es : List Entry) → AllTaken (sorted (all_members es)) required → AllAllowed (sorted (all_members es)) optional
    → all_there (is_of_table key_text required optional) es ≡ true
    → table_fault (record { required = required; optional = optional }) (sorted (all_members es)) ≡ None
no_fault required optional es taken allowed there =
    let keys = keys_sorted (is_of_table key_text required optional) (all_members es) (there_keys (is_of_table key_text required optional) es there) in
    rw (
      required_fine (sorted (all_members es)) required taken,
      optional_fine (sorted (all_members es)) optional allowed,
      none_left (is_of_table key_text required optional) (keys_in (sorted (all_members es))) keys,
    ) refl

-- ---- the entries of rows, and of arrays of tables

abbrev pub entry_of : Row → Entry
entry_of r = (r.0, option_map (λ v. v.1) r.1)

abbrev pub entries_of : List Row → List Entry
entries_of rows = map entry_of rows

with_row_is : (k : List ℕ) (v : Option (List ℕ × Data)) (rest : Members) → with_row k v rest ≡ with_entry k (option_map (λ v. v.1) v) rest
with_row_is k None rest = refl
with_row_is k (Some v) rest = refl

pub with_rows_is : (rows : List Row) (es : List Entry) → with_rows rows (all_members es) ≡ all_members (entries_of rows ++ es)
with_rows_is [] es = refl
with_rows_is ((k, v) ∷ rows) es =
    ap (with_row k v) (with_rows_is rows es) ∙ with_row_is k v (all_members (entries_of rows ++ es))

module _ {X : Type 0} (table_of : X → Members) where
  abbrev pub tables_value : List X → Option Data
  tables_value [] = None
  tables_value (x ∷ xs) = Some (array (tables_in_order table_of (x ∷ xs)))

  pub with_tables_is : (k : List ℕ) (xs : List X) (rest : Members) → with_tables table_of k xs rest ≡ with_entry k (tables_value xs) rest
  with_tables_is k [] rest = refl
  with_tables_is k (x ∷ xs) rest = refl

pub rows_proper : (rows : List Row) (es : List Entry) → AreRows rows → AreProper es → AreProper (entries_of rows ++ es)
rows_proper [] es h more = more
rows_proper ((k, None) ∷ rows) es h more = rows_proper rows es h.1 more
rows_proper ((k, Some v) ∷ rows) es h more = (h.0.proper, rows_proper rows es h.1 more)
