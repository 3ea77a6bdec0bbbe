-- The values of a table as the code holds them, beside the data that they stand for.
use Rattle.std.proofs.Common.{◌≡◌, List, [], ◌∷◌, map, refl, ap, sym, Option, Some, Bool}
use Rattle.std.specs.List.{list_all}
use Rattle.std.proofs.lemmas.List.Folds.{list_all-map}
use Rattle.toml.specs.Data.{Data, string, integer, float, boolean, datetime, array, table, as_array}
use Rattle.toml.specs.View.{view, items_of, items_view}
use Rattle.toml.specs.declared.value.Value.{Value}
use Rattle.wl_setup.specs.Kinds.{list_of, elements_of, holds}

list_of-items_of : (ds : List Data) → list_of (items_of ds) ≡ ds
list_of-items_of [] = refl
list_of-items_of (d ∷ ds) = ap (λ l. d ∷ l) (list_of-items_of ds)

-- the elements of a value that is an array of these values
pub elements_of-array : (vs : List Value) (d : Data) → Some (items_view vs) ≡ as_array d → Some (map view vs) ≡ elements_of d
elements_of-array vs (array items) is =
    let same : items ≡ items_view vs = cc in rw same (ap Some (sym (list_of-items_of (map view vs))))
elements_of-array vs (string s) is = cc
elements_of-array vs (integer z) is = cc
elements_of-array vs (float x) is = cc
elements_of-array vs (boolean b) is = cc
elements_of-array vs (datetime t) is = cc
elements_of-array vs (table ms) is = cc

-- a test of each value is a test of each element
pub each_holds : (f : Data → Bool) (vs : List Value) (o : Option (List Data)) → Some (map view vs) ≡ o → list_all (λ v. f (view v)) vs ≡ holds (list_all f) o
each_holds f vs o is = rw (← is) (sym (list_all-map f view vs))
