-- Members of a TOML table: with one more, without one, and what one says.
use Rattle.std.specs.Prelude.{ℕ, pos, ◌||◌, ◌&&◌, nat_le, nat_lt, Bool, not, if◌then◌else◌, List, [], ◌∷◌, map, Option, Some, None, is_some, option_and_then, codes}
use Rattle.std.specs.Ordering.{nat_cmp, is_eq, match_ordering}
use Rattle.std.specs.Cmp.Lexicographic.{slice_cmp}
use Rattle.std.specs.List.{list_any}
use Rattle.toml.specs.Data.{Data, string, integer, array, Items, no_items, item, Members, no_members, member, get_member, as_str}
use Rattle.toml.specs.View.{items_of}
use Rattle.wl_units.specs.declared.ratio.TheConstants.{LARGEST_WHOLE}

-- with one more member, at its place in the order of keys; one with this key is replaced
abbrev pub with_member : List ℕ → Data → Members → Members
with_member k d no_members = member k d no_members
with_member k d (member l e ms) = match_ordering (slice_cmp nat_cmp k l) (member k d (member l e ms)) (member l d ms) (member l e (with_member k d ms))

-- without the member of this key
abbrev pub without : List ℕ → Members → Members
without k no_members = no_members
without k (member l e ms) = if is_eq (slice_cmp nat_cmp k l) then ms else member l e (without k ms)

-- without those of some keys, one after another
abbrev pub without_all : List (List ℕ) → Members → Members
without_all [] ms = ms
without_all (k ∷ ks) ms = without_all ks (without k ms)

abbrev pub has : List ℕ → Members → Bool
has k ms = is_some (get_member k ms)

abbrev pub has_any : List (List ℕ) → Members → Bool
has_any ks ms = list_any (λ k. has k ms) ks

-- the text at a key, and the whole number, if it has one
abbrev pub text_at : List ℕ → Members → Option (List ℕ)
text_at k ms = option_and_then as_str (get_member k ms)

abbrev pub whole_of : Data → Option ℕ
whole_of (integer (pos n)) = if nat_le n LARGEST_WHOLE then Some n else None
whole_of _ = None

abbrev pub whole_number_at : List ℕ → Members → Option ℕ
whole_number_at k ms = option_and_then whole_of (get_member k ms)

-- one from 1 on
abbrev pub positive : ℕ → Option ℕ
positive n = if nat_lt 0 n then Some n else None

abbrev pub positive_number_at : List ℕ → Members → Option ℕ
positive_number_at k ms = option_and_then positive (whole_number_at k ms)

-- A value that is wrong where it is, although it has the kind that its key asks for, is no value: the empty text is in its place.
abbrev pub no_value : Data
no_value = string []

-- the elements of an array
abbrev pub data_of : Items → List Data
data_of no_items = []
data_of (item d ds) = d ∷ data_of ds

abbrev pub elements : Data → Option (List Data)
elements (array items) = Some (data_of items)
elements _ = None

abbrev pub array_at : List ℕ → Members → Option (List Data)
array_at k ms = option_and_then elements (get_member k ms)

-- with the elements of the array at a key made anew, if there is one
abbrev pub put_each : (Data → Data) → List ℕ → Option (List Data) → Members → Members
put_each make k None ms = ms
put_each make k (Some ds) ms = with_member k (array (items_of (map make ds))) ms

abbrev pub remade_at : (Data → Data) → List ℕ → Members → Members
remade_at make k ms = put_each make k (array_at k ms) ms
