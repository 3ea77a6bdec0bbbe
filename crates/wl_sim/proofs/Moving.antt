-- A file that is moved to its name, or given up, after each name kept what it had.
use Rattle.std.proofs.Common.{◌∙◌, Bool, true, false, Result, Ok, Err}
use Rattle.clap.specs.Words.{Text}
use Rattle.wl_files.specs.Files.{Standing, Keeps, Places}
use Rattle.wl_sim.specs.declared.answer.Done.{Done}
use Rattle.wl_sim.specs.declared.answer.Fault.{Fault}
use Rattle.wl_sim.specs.Orders.{MovesFile}

-- A file that is placed after each name kept what it had is placed over what was there before.
places_after : (old kept new : Text → Standing) (name : Text) (held : Standing) (placed : Bool)
    → Keeps old kept → Places kept new name held placed → Places old new name held placed
places_after old kept new name held true keeps places = (places.0, λ other apart. places.1 other apart ∙ keeps other)
places_after old kept new name held false keeps places = λ other. places other ∙ keeps other

module _ {F W : Type 0} (stands : F → Text → Standing) (holds : W → Standing) (f kept f' : F) (name : Text) (file : W) (r : Result Done Fault) where
  -- and so is one that is moved, or given up
  pub moves_after : (answer : Result Done Fault) → Keeps (stands f) (stands kept)
      → MovesFile stands holds kept f' name file answer r → MovesFile stands holds f f' name file answer r
  moves_after (Ok done) keeps m = (m.0, places_after (stands f) (stands kept) (stands f') name (holds file) m.0 keeps m.1, m.2)
  moves_after (Err fault) keeps m = ((λ other. m.0 other ∙ keeps other), m.1)
