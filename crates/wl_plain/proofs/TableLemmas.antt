-- A map beside the members that it stands for: with one more entry, without one, and the elements of an array.
use Rattle.std.proofs.Common.{◌≡◌, ◌∙◌, ℕ, Bool, true, false, List, [], ◌∷◌, map, cond, String, Global, Ordering, Less, Equal, Greater, nat_cmp, is_eq, string_bytes, refl, sym, ap, Option, Some, inl, inr}
use Rattle.std.proofs.lemmas.Bool.{cases_Bool}
use Rattle.std.specs.Cmp.Lexicographic.{slice_cmp}
use Rattle.std.specs.Ordering.{match_ordering}
use Rattle.std.specs.BTreeMap.{insert_entry, is_at}
use Rattle.std.specs.Map.{remove_entry}
use Rattle.std.specs.String.{string_cmp}
use Rattle.toml.specs.Data.{Data, string, integer, float, boolean, datetime, array, table, as_array, Members, no_members, member}
use Rattle.toml.specs.declared.value.Value.{Value}
use Rattle.toml.specs.View.{view, items_of, items_view, members_view}
use Rattle.toml.proofs.Views.{Entry}
use Rattle.wl_plain.specs.Tables.{data_of, elements, with_member, without}

of_cases : (o : Ordering) (a b c : List Entry) → members_view (match_ordering o a b c) ≡ match_ordering o (members_view a) (members_view b) (members_view c)
of_cases Less a b c = refl
of_cases Equal a b c = refl
of_cases Greater a b c = refl

pub inserted : (es : List Entry) (k : String Global) (v : Value) → members_view (insert_entry string_cmp es k v) ≡ with_member (string_bytes k) (view v) (members_view es)
inserted [] k v = refl
inserted (e ∷ es) k v = of_cases (string_cmp k e.0) _ _ _ ∙ rw (inserted es k v)

pub removed : (k : List ℕ) (es : List Entry) → members_view (remove_entry (is_at (λ x. slice_cmp nat_cmp k (string_bytes x))) es) ≡ without k (members_view es)
removed k [] = refl
removed k (e ∷ es) =
    elim (cases_Bool (is_eq (slice_cmp nat_cmp k (string_bytes e.0)))) [
      | inl same ↦ rw same
      | inr other ↦ rw (other, removed k es)
    ]

data_of-items_of : (ds : List Data) → data_of (items_of ds) ≡ ds
data_of-items_of [] = refl
data_of-items_of (d ∷ ds) = ap (λ l. d ∷ l) (data_of-items_of ds)

-- the elements of a value that is an array of these values
pub elements-array : (vs : List Value) (d : Data) → Some (items_view vs) ≡ as_array d → Some (map view vs) ≡ elements d
elements-array vs (array items) is =
    let same : items ≡ items_view vs = cc in rw same (ap Some (sym (data_of-items_of (map view vs))))
elements-array vs (string s) is = cc
elements-array vs (integer z) is = cc
elements-array vs (float x) is = cc
elements-array vs (boolean b) is = cc
elements-array vs (datetime t) is = cc
elements-array vs (table ms) is = cc
