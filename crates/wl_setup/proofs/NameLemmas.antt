-- Names that are put into a set one after another, beside the test for a repeat in the whole list.
use Rattle.std.proofs.Common.{◌≡◌, ℕ, Bool, true, false, ◌||◌, List, [], ◌∷◌, ◌++◌, map, String, Global, string_bytes, refl, ap, ◌∙◌, sym, ◌+◌, ◌<◌, length, get_or, drop, not, if◌then◌else◌, append_assoc, length-append, arith}
use Rattle.std.specs.List.{list_any, IsDistinct, AllByRecursion}
use Rattle.std.specs.Str.{bytes_eq}
use Rattle.std.specs.String.{string_eq}
use Rattle.std.proofs.lemmas.List.Folds.{list_any-append}
use Rattle.std.proofs.lemmas.Cmp.{nat_list_eq_equiv}
use Rattle.std.proofs.lemmas.Bool.{not-true}
use Rattle.wl_setup.specs.Names.{first_repeat, has_repeat}
use Rattle.wl_setup.specs.declared.plan_text.NodeText.{NodeText}
use Rattle.wl_setup.proofs.Loops.{drop-at}

-- a text of the second list stands in the first
abbrev pub meets : List (List ℕ) → List (List ℕ) → Bool
meets before [] = false
meets before (text ∷ rest) = list_any (bytes_eq text) before || meets before rest

-- a repeat shows once the rest is put after these
abbrev pub repeats_left : List (List ℕ) → List (List ℕ) → Bool
repeats_left before rest = meets before rest || has_repeat rest

meets-none : (rest : List (List ℕ)) → meets [] rest ≡ false
meets-none [] = refl
meets-none (text ∷ rest) = meets-none rest

pub repeats_left-none : (rest : List (List ℕ)) → repeats_left [] rest ≡ has_repeat rest
repeats_left-none rest = rw meets-none

or_crossed : (a b c d : Bool) → ((a || (b || false)) || (c || d)) ≡ ((a || c) || (b || d))
or_crossed true b c d = refl
or_crossed false true true d = refl
or_crossed false true false d = refl
or_crossed false false c d = refl

meets-last : (before : List (List ℕ)) (text : List ℕ) (rest : List (List ℕ)) → meets (before ++ text ∷ []) rest ≡ (meets before rest || list_any (bytes_eq text) rest)
meets-last before text [] = refl
meets-last before text (y ∷ rest) =
    rw (list_any-append (bytes_eq y) before (text ∷ []), meets-last before text rest, nat_list_eq_equiv.symm y text)
    (or_crossed (list_any (bytes_eq y) before) (bytes_eq text y) (meets before rest) (list_any (bytes_eq text) rest))

or_regrouped : (a b c : Bool) → ((a || b) || c) ≡ (a || (b || c))
or_regrouped true b c = refl
or_regrouped false b c = refl

-- a new name is put after the others
pub repeats_left-new : (before : List (List ℕ)) (text : List ℕ) (rest : List (List ℕ)) → list_any (bytes_eq text) before ≡ false
    → repeats_left (before ++ text ∷ []) rest ≡ repeats_left before (text ∷ rest)
repeats_left-new before text rest new =
    rw (meets-last before text rest, new) (or_regrouped (meets before rest) (list_any (bytes_eq text) rest) (has_repeat rest))

-- a name that is there already
pub repeats_left-old : (before : List (List ℕ)) (text : List ℕ) (rest : List (List ℕ)) → list_any (bytes_eq text) before ≡ true
    → repeats_left before (text ∷ rest) ≡ true
repeats_left-old before text rest old = rw old

-- the test of a key, as the set makes it
pub among-bytes : (name : String Global) (ks : List (String Global)) → list_any (string_eq name) ks ≡ list_any (bytes_eq (string_bytes name)) (map string_bytes ks)
among-bytes name [] = refl
among-bytes name (k ∷ ks) = ap (λ b. string_eq name k || b) (among-bytes name ks)

not_among : (name : String Global) (ks : List (String Global)) → AllByRecursion (λ y. string_eq name y ≡ false) ks → list_any (bytes_eq (string_bytes name)) (map string_bytes ks) ≡ false
not_among name [] none = refl
not_among name (k ∷ ks) none = rw none.0 (not_among name ks none.1)

-- the keys of a set have no repeat
pub distinct_no_repeat : (ks : List (String Global)) → IsDistinct string_eq ks → has_repeat (map string_bytes ks) ≡ false
unfolding IsDistinct
distinct_no_repeat [] distinct = refl
distinct_no_repeat (k ∷ ks) distinct = rw (not_among k ks distinct.0) (distinct_no_repeat ks distinct.1)

-- the first repeat, after a new name
repeat-new : (before : List (List ℕ)) (text : List ℕ) (rest : List (List ℕ)) → list_any (bytes_eq text) before ≡ false
    → length (before ++ text ∷ []) + first_repeat (before ++ text ∷ []) rest ≡ length before + first_repeat before (text ∷ rest)
repeat-new before text rest new =
    let grown : length (before ++ text ∷ []) ≡ length before + 1 = length-append before (text ∷ []) in rw new (omega (arith, grown))

-- the set holds the names of some first nodes, and these are left
abbrev pub IsPart : List (List ℕ) → List NodeText → List (List ℕ) → Type 0
IsPart before left all =
    (before ++ map (λ node. node.name) left ≡ all) × (repeats_left before (map (λ node. node.name) left) ≡ has_repeat all)
    × (length before + first_repeat before (map (λ node. node.name) left) ≡ first_repeat [] all)

-- one more node whose name is new
pub one_more : (nodes : List NodeText) (i : ℕ) (node : NodeText) (before new all : List (List ℕ)) (text : List ℕ) (added : Bool)
    → i < length nodes → node ≡ get_or nodes i node → text ≡ node.name → added ≡ not (list_any (bytes_eq text) before) → added ≡ true
    → new ≡ (if added then before ++ text ∷ [] else before) → IsPart before (drop i nodes) all → IsPart new (drop (i + 1) nodes) all
one_more nodes i node before new all text added within is named flag yes_added changed part =
    let next = drop-at nodes i node within is in
    let now_is : new ≡ before ++ text ∷ [] = changed ∙ rw yes_added in
    let absent : list_any (bytes_eq text) before ≡ false = not-true (list_any (bytes_eq text) before) (sym flag ∙ yes_added) in
    let before_that = rw (next, ← named) at part in
    rw now_is (append_assoc before (text ∷ []) _ ∙ before_that.0, repeats_left-new before text _ absent ∙ before_that.1, repeat-new before text _ absent ∙ before_that.2)
