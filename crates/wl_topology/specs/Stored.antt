-- How a cable lies in an array of as many places as a bus has at most: those after its last are nowhere.
use Rattle.std.specs.Prelude.{◌≡◌, ℕ, ◌-◌, ◌≤◌, List, ◌++◌, length, take, drop, replicate}
use Rattle.wl_topology.specs.declared.Place.{Place}
use Rattle.wl_topology.specs.Limits.{most_places}
use Rattle.wl_topology.specs.Delays.{Cable, IsTopology, nowhere}

abbrev pub cable_in : List Place → ℕ → ℕ → Cable
cable_in places nodes per = record { places = take nodes places; per = per }

-- the array of a list of places
abbrev pub padded_places : List Place → List Place
padded_places places = places ++ replicate (most_places - length places) nowhere

pub record IsStored (places : List Place) (nodes per : ℕ) : Type 0 where
  pub room : length places ≡ most_places
  pub rest : drop nodes places ≡ replicate (most_places - nodes) nowhere
  pub topology : IsTopology (cable_in places nodes per)
  pub few : nodes ≤ most_places
