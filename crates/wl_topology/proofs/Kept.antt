-- The array of a list of places keeps the list.
use Rattle.std.proofs.Common.{ℕ, ◌-◌, ◌≤◌, ◌∙◌, List, length, replicate, sym, subst, arith, length-append}
use Rattle.std.proofs.lemmas.List.{length-replicate}
use Rattle.std.proofs.Math.Seq.{take-append_seam, drop-append_seam}
use Rattle.wl_topology.specs.declared.Place.{Place}
use Rattle.wl_topology.specs.Limits.{most_places}
use Rattle.wl_topology.specs.Delays.{IsTopology, nowhere}
use Rattle.wl_topology.specs.Stored.{padded_places, IsStored}

pub is_stored : (places : List Place) (per : ℕ) → length places ≤ most_places → IsTopology (record { places = places; per = per })
    → IsStored (padded_places places) (length places) per
is_stored places per few topology = record {
  room = length-append places (replicate (most_places - length places) nowhere) ∙ omega (arith, length-replicate (most_places - length places) nowhere);
  rest = drop-append_seam places (replicate (most_places - length places) nowhere);
  topology = subst (λ front. IsTopology (record { places = front; per = per })) (sym (take-append_seam places (replicate (most_places - length places) nowhere))) topology;
  few = few;
}
