-- The array of a cable is determined by it.
use Rattle.std.specs.Prelude.{◌≡◌, ℕ, ◌-◌, ◌++◌, List, length, take, replicate}
use Rattle.std.proofs.Common.{◌∙◌, ap, sym, arith}
use Rattle.std.proofs.lemmas.List.{length-take-le, take-append-drop}
use Rattle.wl_topology.specs.declared.Place.{Place}
use Rattle.wl_topology.specs.Limits.{most_places}
use Rattle.wl_topology.specs.Delays.{nowhere}
use Rattle.wl_topology.specs.Stored.{cable_in, padded_places, IsStored}

pub stored_length : (places : List Place) (nodes per : ℕ) → IsStored places nodes per → length (take nodes places) ≡ nodes
stored_length places nodes per h = length-take-le nodes places (omega (arith, h.room, h.few))

pub stored_again : (places : List Place) (nodes per : ℕ) → IsStored places nodes per → padded_places (cable_in places nodes per).places ≡ places
stored_again places nodes per h =
    ap (λ n. take nodes places ++ replicate (most_places - n) nowhere) (stored_length places nodes per h)
    ∙ ap (λ rest. take nodes places ++ rest) (sym h.rest)
    ∙ take-append-drop nodes places
