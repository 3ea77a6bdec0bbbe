-- Machines on one wire, one of which only listens. This project's.
use Rattle.std.specs.Prelude.{ℕ, ◌==◌, ◌&&◌, not, Bool, List, [], ◌∷◌, ◌++◌, fold, is_some, if◌then◌else◌}
use Rattle.wl_level.specs.declared.Level.{Level}
use Rattle.wl_level.specs.Levels.{level_of}
use Rattle.wl_level.specs.Places.{first_place}
use Rattle.wl_machine.specs.Stretch.{Input}
use Rattle.wl_machine.specs.Stretch.Input.{Sample}
use Rattle.wl_wire.specs.Wire.{Event, Bit, Own, Wire, added, bus, drives_dominant, sampled}

-- a machine but for the listener drives dominant
abbrev pub drives_beside : Wire → (listener : ℕ) → ℕ → Bool
drives_beside w listener k = drives_dominant w k && not (k == listener)

-- the level of the bus for all others: what the listener drives reaches it alone (ISO 11898-1, bus monitoring)
abbrev pub bus_beside : Wire → (listener : ℕ) → Level
bus_beside w listener = level_of (is_some (first_place (drives_beside w listener) w.count))

abbrev pub heard : Wire → (listener k : ℕ) → Level
heard w listener k = if k == listener then bus w else bus_beside w listener

-- what reaches a machine, and the wire after that
abbrev pub added_beside : Wire → (listener : ℕ) → Event → ℕ → List Input
added_beside w listener (Bit handed) k = Sample (sampled (heard w listener k) (w.frames k) (handed k)) ∷ []
added_beside w listener (Own machine handed) k = added w (Own machine handed) k

abbrev pub next_beside : (listener : ℕ) → Wire → Event → Wire
next_beside listener w event = record { count = w.count; frames = w.frames; past = λ k. w.past k ++ added_beside w listener event k }

abbrev pub wire_beside : (listener : ℕ) → Wire → List Event → Wire
wire_beside listener w events = fold (next_beside listener) w events
