-- The first unknown key of a table whose keys ascend.
use Rattle.std.proofs.Common.{◌≡◌, ℕ, Bool, List, [], ◌∷◌, map, filter, find, String, Global, Less, string_bytes, refl, ap, inl, inr}
use Rattle.std.proofs.lemmas.Bool.{cases_Bool}
use Rattle.std.specs.List.{AllByRecursion}
use Rattle.std.specs.List.Sorted.{IsStrictlySortedBy}
use Rattle.std.specs.Map.{keys_of}
use Rattle.std.specs.String.{string_cmp}
use Rattle.toml.specs.View.{members_view}
use Rattle.toml.specs.declared.value.Value.{Value}
use Rattle.wl_setup.specs.Faults.{keys_in, lesser, least}

pub keys_in-view : (es : List (String Global × Value)) → keys_in (members_view es) ≡ map string_bytes (keys_of es)
keys_in-view [] = refl
keys_in-view (e ∷ es) = ap (λ ks. string_bytes e.0 ∷ ks) (keys_in-view es)

-- a key below all of these is the lesser
lesser_first : (p : List ℕ → Bool) (k : String Global) (ks : List (String Global)) → AllByRecursion (λ y. string_cmp k y ≡ Less) ks
    → lesser (string_bytes k) (find p (map string_bytes ks)) ≡ string_bytes k
lesser_first p k [] below = refl
lesser_first p k (y ∷ ks) below =
    elim (cases_Bool (p (string_bytes y))) [
      | inl passes ↦ rw (passes, below.0)
      | inr fails ↦ rw fails (lesser_first p k ks below.1)
    ]

-- the least of the keys that pass is the first that does
pub least-filter : (p : List ℕ → Bool) (ks : List (String Global)) → IsStrictlySortedBy string_cmp ks
    → least (filter p (map string_bytes ks)) ≡ find p (map string_bytes ks)
unfolding IsStrictlySortedBy
least-filter p [] sorted = refl
least-filter p (k ∷ ks) sorted =
    let more = least-filter p ks sorted.1 in
    elim (cases_Bool (p (string_bytes k))) [
      | inl passes ↦ rw (passes, more, lesser_first p k ks sorted.0)
      | inr fails ↦ rw fails more
    ]

-- the first key of a table that passes, in the order of their bytes
pub least-of_table : (p : List ℕ → Bool) (es : List (String Global × Value)) → IsStrictlySortedBy string_cmp (keys_of es)
    → least (filter p (keys_in (members_view es))) ≡ find p (map string_bytes (keys_of es))
least-of_table p es sorted = rw (keys_in-view es) (least-filter p (keys_of es) sorted)
