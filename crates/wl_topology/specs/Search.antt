-- What the search for a pair of nodes that are too near or too far apart looks for.
use Rattle.std.specs.Prelude.{ℕ, Bool, ◌==◌, nat_lt, List, Option, find}
use Rattle.wl_topology.specs.declared.Place.{Place}
use Rattle.wl_topology.specs.declared.Flaw.{Flaw}
use Rattle.wl_topology.specs.declared.Flaw.TheVariants.{Zero, Long}
use Rattle.wl_topology.specs.Limits.{longest_delay}
use Rattle.wl_topology.specs.Delays.{Cable, propagation_of}

abbrev pub is_flawed : Flaw → ℕ → Bool
is_flawed Zero delay = delay == 0
is_flawed Long delay = nat_lt longest_delay delay

abbrev pub has_flaw : Flaw → Cable → ℕ × ℕ → Bool
has_flaw flaw cable p = is_flawed flaw (propagation_of cable p.0 p.1)

-- the first of some pairs of these places with this flaw
abbrev pub first_flaw : Flaw → List Place → ℕ → List (ℕ × ℕ) → Option (ℕ × ℕ)
first_flaw flaw places per ps = find (has_flaw flaw (record { places = places; per = per })) ps
