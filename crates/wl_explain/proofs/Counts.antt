-- The elements of an array, counted.
use Rattle.std.proofs.Common.{◌≡◌, List, [], ◌∷◌, length, map, refl, ap, suc}
use Rattle.toml.specs.View.{view, items_of}
use Rattle.toml.specs.declared.value.Value.{Value}
use Rattle.wl_setup.specs.Kinds.{list_of}

pub counted : (vs : List Value) → length (list_of (items_of (map view vs))) ≡ length vs
counted [] = refl
counted (v ∷ vs) = ap suc (counted vs)
