-- What is made of an array's tables one by one.
use Rattle.std.proofs.Common.{◌≡◌, ℕ, Bool, List, ◌++◌, map, drop}
use Rattle.toml.specs.View.{view}
use Rattle.toml.specs.declared.value.Value.{Value}
use Rattle.wl_setup.specs.Faults.{first_some}
use Rattle.wl_setup.specs.Document.{tables_in}
use Rattle.wl_settings.specs.declared.asked.Controller.{Controller}
use Rattle.wl_settings.specs.Faults.{controller_fault}
use Rattle.wl_settings.specs.Texts.{controller_of}

-- the first fault is among the tables from this place on, and what is made of them follows on what was made
abbrev pub AreMade : Bool → List Controller → ℕ → List Value → Type 0
AreMade joint made place values =
    (first_some (map (controller_fault joint) (tables_in (map view (drop place values)))) ≡ first_some (map (controller_fault joint) (tables_in (map view values))))
    × (made ++ map (controller_of joint) (tables_in (map view (drop place values))) ≡ map (controller_of joint) (tables_in (map view values)))
