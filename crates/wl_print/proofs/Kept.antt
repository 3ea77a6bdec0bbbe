-- What a table without a fault keeps to: its keys are of the table, those that it needs are there, and each value is of its kind.
use Rattle.std.proofs.Common.{◌≡◌, ◌∙◌, refl, sym, ap, ℕ, ℤ, pos, negsuc, Bool, true, false, not, ◌&&◌, nat_le, List, [], ◌∷◌, map, filter, filter_map, Option, Some, None, option_map, option_and_then, unwrap_or, is_some, if◌then◌else◌, inl, inr, arith}
use Rattle.std.proofs.lemmas.Bool.{and_parts, cases_Bool, false≢true}
use Rattle.std.proofs.lemmas.Bool.Decides.{nat_tests}
use Rattle.std.proofs.lemmas.Option.{none-some}
use Rattle.std.specs.List.{list_all}
use Rattle.toml.specs.Data.{Data, string, integer, float, boolean, datetime, array, table, Members, no_members, member, get_member, same_key, as_integer, as_str}
use Rattle.wl_setup.specs.declared.keys.Key.{Key}
use Rattle.wl_setup.specs.declared.keys.Key.TheVariants as key
use Rattle.wl_setup.specs.declared.tables.Wrong.{Wrong}
use Rattle.wl_setup.specs.declared.tables.Wrong.TheVariants as wrong
use Rattle.wl_setup.specs.Faults.{fault_at_key, fault_of_key, first_some, is_of_table, is_value_of, keys_in, least, lesser, table_fault, unknown_key}
use Rattle.wl_setup.specs.Keys.{key_text}
use Rattle.wl_setup.specs.Kinds.{byte_in, bytes_at, elements_at, holds, is_name, is_ppm, name_at, number_at, number_in, positive_at, positive_in, ppm_at, small_at, some_name_at, some_number_at, tolerance_at, unless_below, value_at}
use Rattle.wl_setup.specs.Limits.{largest_byte, largest_number, largest_small, largest_tolerance}
use Rattle.wl_print.specs.Printable.{is_number_if, is_number_of_key, is_positive, is_small_number, is_tolerance}
use Rattle.wl_print.proofs.Entries.{AllAllowed, AllTaken, Allowed, Taken}
use Rattle.wl_print.proofs.Sorted.{get_at, same_is}

pub first_parts : {A : Type 0} (a : Option A) (more : List (Option A)) → first_some (a ∷ more) ≡ None → (a ≡ None) × (first_some more ≡ None)
first_parts None more h = (refl, h)
first_parts (Some x) more h = absurd (none-some x (sym h))

pub mapped_none : {A B : Type 0} (f : A → B) (o : Option A) → option_map f o ≡ None → o ≡ None
mapped_none f None h = refl
mapped_none f (Some x) h = absurd (none-some (f x) (sym h))

-- ---- the three parts of a table's fault

abbrev NoneOf : Bool → Members → List Key → Type 0
NoneOf needed t ks = first_some (map (fault_at_key key_text is_value_of needed t) ks) ≡ None

abbrev kind_fault : Bool → Key → Option (Wrong × List ℕ)
kind_fault takes k = if takes then None else Some (wrong.Kind, key_text k)

kind_by : (b : Bool) (k : Key) → kind_fault b k ≡ None → b ≡ true
kind_by true k h = refl
kind_by false k h = absurd (none-some (wrong.Kind, key_text k) (sym h))

taken_by : (t : Members) (k : Key) (o : Option Data) → value_at k t ≡ o → fault_of_key key_text is_value_of true k o ≡ None → Taken t k
taken_by t k None is h = absurd (none-some (wrong.Missing, key_text k) (sym h))
taken_by t k (Some d) is h = (d, is, kind_by (is_value_of k d) k h)

allowed_by : (t : Members) (k : Key) (o : Option Data) → value_at k t ≡ o → fault_of_key key_text is_value_of false k o ≡ None → Allowed t k
allowed_by t k None is h = inl is
allowed_by t k (Some d) is h = inr (taken_by t k (Some d) is h)

all_taken : (t : Members) (ks : List Key) → NoneOf true t ks → AllTaken t ks
all_taken t [] h = tt
all_taken t (k ∷ ks) h =
    let (here, more) = first_parts (fault_at_key key_text is_value_of true t k) (map (fault_at_key key_text is_value_of true t) ks) h in
    (taken_by t k (value_at k t) refl here, all_taken t ks more)

all_allowed : (t : Members) (ks : List Key) → NoneOf false t ks → AllAllowed t ks
all_allowed t [] h = tt
all_allowed t (k ∷ ks) h =
    let (here, more) = first_parts (fault_at_key key_text is_value_of false t k) (map (fault_at_key key_text is_value_of false t) ks) h in
    (allowed_by t k (value_at k t) refl here, all_allowed t ks more)

keep_step : (b : Bool) (k : List ℕ) (ks : List (List ℕ)) → least (if not b then k ∷ ks else ks) ≡ None → (b ≡ true) × (least ks ≡ None)
keep_step true k ks h = (refl, h)
keep_step false k ks h = absurd (none-some (lesser k (least ks)) (sym h))

keys_pass : (p : List ℕ → Bool) (ks : List (List ℕ)) → least (filter (λ text. not (p text)) ks) ≡ None → list_all p ks ≡ true
keys_pass p [] h = refl
keys_pass p (k ∷ ks) h =
    let (here, more) = keep_step (p k) k (filter (λ text. not (p text)) ks) h in
    rw here (keys_pass p ks more)

absent_by : (p : List ℕ → Bool) (t : Members) (l : List ℕ) → list_all p (keys_in t) ≡ true → p l ≡ false → get_member l t ≡ None
absent_by p no_members l all other = refl
absent_by p (member k d ms) l all other =
    let (here, more) = and_parts (p k) (list_all p (keys_in ms)) all in
    elim (cases_Bool (same_key l k)) [
      | inl same ↦ absurd (false≢true (sym other ∙ ap p (same_is l k same) ∙ here))
      | inr apart ↦ get_at l k d ms ∙ rw apart (absent_by p ms l more other)
    ]

-- a table without a fault
pub record Kept (required optional : List Key) (t : Members) : Type 0 where
  pub taken : AllTaken t required
  pub allowed : AllAllowed t optional
  pub keys : list_all (is_of_table key_text required optional) (keys_in t) ≡ true

pub table_kept : (required optional : List Key) (t : Members) → table_fault (record { required = required; optional = optional }) t ≡ None → Kept required optional t
table_kept required optional t h =
    let faults = mapped_none _ _ h in
    let (first, second) = first_parts _ _ faults in
    let (third, fourth) = first_parts _ _ second in
    let unknown = mapped_none _ (unknown_key key_text required optional t) (first_parts _ _ fourth).0 in
    record {
      taken = all_taken t required first;
      allowed = all_allowed t optional third;
      keys = keys_pass (is_of_table key_text required optional) (keys_in t) unknown;
    }

-- a key that is none of the table's isn't there
pub absent : (required optional : List Key) (t : Members) (k : Key) → Kept required optional t → is_of_table key_text required optional (key_text k) ≡ false → value_at k t ≡ None
absent required optional t k h other = absent_by (is_of_table key_text required optional) t (key_text k) h.keys other

-- ---- numbers are within their bounds, whatever the table

pub least_fits : (most : ℕ) → nat_le 0 most ≡ true
least_fits most = grind (arith, nat_tests)

unless_large : (most : ℕ) (o : Option Data) → nat_le (unwrap_or (option_and_then (number_in most) o) 0) most ≡ true
unless_large most None = least_fits most
unless_large most (Some (integer (pos n))) = by_size (nat_le n most) refl
  where
    by_size : (b : Bool) → nat_le n most ≡ b → nat_le (unwrap_or (number_in most (integer (pos n))) 0) most ≡ true
    by_size true is = rw is is
    by_size false is = rw is (least_fits most)
unless_large most (Some (integer (negsuc n))) = least_fits most
unless_large most (Some (string s)) = least_fits most
unless_large most (Some (float x)) = least_fits most
unless_large most (Some (boolean b)) = least_fits most
unless_large most (Some (datetime d)) = least_fits most
unless_large most (Some (array ds)) = least_fits most
unless_large most (Some (table ms)) = least_fits most

pub number_fits : (k : Key) (t : Members) → is_number_of_key (number_at k t) ≡ true
number_fits k t = unless_large largest_number (value_at k t)

pub small_fits : (k : Key) (t : Members) → is_small_number (small_at k t) ≡ true
small_fits k t = unless_large largest_small (value_at k t)

-- a test of what a value says, if it says something
abbrev Fits : (ℕ → Bool) → Option ℕ → Type 0
Fits test None = Unit {0}
Fits test (Some n) = test n ≡ true

number_in_fits : (most : ℕ) (d : Data) → Fits (λ n. nat_le n most) (number_in most d)
number_in_fits most (integer (pos n)) = by_size (nat_le n most) refl
  where
    by_size : (b : Bool) → nat_le n most ≡ b → Fits (λ n. nat_le n most) (number_in most (integer (pos n)))
    by_size true is = rw is is
    by_size false is = rw is tt
number_in_fits most (integer (negsuc n)) = tt
number_in_fits most (string s) = tt
number_in_fits most (float x) = tt
number_in_fits most (boolean b) = tt
number_in_fits most (datetime d) = tt
number_in_fits most (array ds) = tt
number_in_fits most (table ms) = tt

said_fits : (most : ℕ) (o : Option Data) → Fits (λ n. nat_le n most) (option_and_then (number_in most) o)
said_fits most None = tt
said_fits most (Some d) = number_in_fits most d

unless_below_fits : (o : Option ℕ) → Fits is_number_of_key o → Fits (λ n. nat_le 1 n && is_number_of_key n) (unless_below 1 o)
unless_below_fits None h = tt
unless_below_fits (Some n) h = by_size (nat_le 1 n) refl
  where
    by_size : (b : Bool) → nat_le 1 n ≡ b → Fits (λ n. nat_le 1 n && is_number_of_key n) (unless_below 1 (Some n))
    by_size true is = rw is (rw is h)
    by_size false is = rw is tt

positive_said : (o : Option Data) → Fits (λ n. nat_le 1 n && is_number_of_key n) (option_and_then positive_in o)
positive_said None = tt
positive_said (Some d) = unless_below_fits (number_in largest_number d) (number_in_fits largest_number d)

positive_if : (o : Option ℕ) → Fits (λ n. nat_le 1 n && is_number_of_key n) o → is_positive true o ≡ true
positive_if None h = refl
positive_if (Some n) h = h

-- a key of a version that has it, or an absent one
pub positive_fits : (known : Bool) (k : Key) (t : Members) → (known ≡ false → value_at k t ≡ None) → is_positive known (positive_at k t) ≡ true
positive_fits true k t old = positive_if (positive_at k t) (positive_said (value_at k t))
positive_fits false k t old = rw (old refl) refl

number_if : (o : Option ℕ) → Fits is_number_of_key o → is_number_if true o ≡ true
number_if None h = refl
number_if (Some n) h = h

pub some_number_fits : (known : Bool) (k : Key) (t : Members) → (known ≡ false → value_at k t ≡ None) → is_number_if known (some_number_at k t) ≡ true
some_number_fits true k t old = number_if (some_number_at k t) (said_fits largest_number (value_at k t))
some_number_fits false k t old = rw (old refl) refl

tolerance_if : (o : Option ℕ) → Fits (λ n. nat_le n largest_tolerance) o → is_tolerance o ≡ true
tolerance_if None h = refl
tolerance_if (Some n) h = h

pub tolerance_fits : (k : Key) (t : Members) → is_tolerance (tolerance_at k t) ≡ true
tolerance_fits k t = tolerance_if (tolerance_at k t) (said_fits largest_tolerance (value_at k t))

with_byte : (d : Data) (ds : List Data) (o : Option ℕ) → byte_in d ≡ o → Fits (λ n. nat_le n largest_byte) o
    → list_all (λ b. nat_le b largest_byte) (filter_map byte_in ds) ≡ true → list_all (λ b. nat_le b largest_byte) (filter_map byte_in (d ∷ ds)) ≡ true
with_byte d ds None is h more = rw is more
with_byte d ds (Some n) is h more = rw (is, h) more

bytes_in : (ds : List Data) → list_all (λ b. nat_le b largest_byte) (filter_map byte_in ds) ≡ true
bytes_in [] = refl
bytes_in (d ∷ ds) = with_byte d ds (byte_in d) refl (number_in_fits largest_byte d) (bytes_in ds)

pub bytes_fit : (k : Key) (t : Members) → list_all (λ b. nat_le b largest_byte) (bytes_at k t) ≡ true
bytes_fit k t = bytes_in (elements_at k t)

-- ---- values of their kinds

holds_name : (o : Option (List ℕ)) → holds is_name o ≡ true → is_name (unwrap_or o []) ≡ true
holds_name None h = absurd (false≢true h)
holds_name (Some s) h = h

pub name_fits : (t : Members) → Taken t key.Name → is_name (name_at key.Name t) ≡ true
name_fits t h =
    let (d, is, kind) = h in
    rw is (holds_name (as_str d) kind)

holds_ppm : (o : Option ℤ) → holds is_ppm o ≡ true → is_ppm (unwrap_or o (pos 0)) ≡ true
holds_ppm None h = absurd (false≢true h)
holds_ppm (Some z) h = h

pub ppm_fits : (t : Members) → Taken t key.Ppm → is_ppm (ppm_at key.Ppm t) ≡ true
ppm_fits t h =
    let (d, is, kind) = h in
    rw is (holds_ppm (as_integer d) kind)

pub taken_if_there : (t : Members) (k : Key) → Allowed t k → is_some (value_at k t) ≡ true → Taken t k
taken_if_there t k h some =
    elim h [
      | inl none ↦ absurd (false≢true (sym (ap (λ (o : Option Data). is_some o) none) ∙ some))
      | inr taken ↦ taken
    ]

-- a name that is said at a disturbance
pub some_name_fits : (t : Members) → Taken t key.AtNode → (name : List ℕ) × (some_name_at key.AtNode t ≡ Some name) × (is_name name ≡ true)
some_name_fits t h =
    let (d, is, kind) = h in
    said d (as_str d) refl (ap (option_and_then as_str) is) kind
  where
    said : (d : Data) (o : Option (List ℕ)) → as_str d ≡ o → some_name_at key.AtNode t ≡ as_str d → holds is_name (as_str d) ≡ true
        → (name : List ℕ) × (some_name_at key.AtNode t ≡ Some name) × (is_name name ≡ true)
    said d None same is kind = absurd (false≢true (sym (ap (holds is_name) same) ∙ kind))
    said d (Some s) same is kind = (s, is ∙ same, sym (ap (holds is_name) same) ∙ kind)

pub positive_there : (t : Members) → Taken t key.Every → is_some (positive_at key.Every t) ≡ true
positive_there t h =
    let (d, is, kind) = h in
    rw is kind
