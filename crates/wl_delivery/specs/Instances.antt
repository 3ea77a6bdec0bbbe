-- How often a node has taken each frame of a message that another node has sent. A receiver takes a frame a bit before its sender calls it sent (Bosch
-- CAN 2.0 part B, section 5), and the sender sends it again until it does: so what is taken belongs to the next frame that is sent.
use Rattle.std.specs.Prelude.{ℕ, ◌+◌, nat_le, min, List, [], ◌∷◌, fold, map, if◌then◌else◌}
use Rattle.wl_delivery.specs.declared.instances.Instance.{Instance}

-- a frame that was sent at this tick, and nobody has taken
abbrev pub new_instance : ℕ → Instance
new_instance tick = record { sent = tick; taken = 0 }

-- taken once more, by a count of 64 bits; no run has so many frames that it stops
abbrev pub taken_again : Instance → Instance
taken_again i = record i { taken = min (i.taken + 1) 18446744073709551615 }

-- what is taken at this tick is the first frame that was sent then or later
abbrev pub with_taken : (tick : ℕ) → List Instance → List Instance
with_taken tick [] = []
with_taken tick (i ∷ is) = if nat_le tick i.sent then taken_again i ∷ is else i ∷ with_taken tick is

-- the frames that were sent at these ticks, after frames were taken at those
abbrev pub taken_instances : (sent taken : List ℕ) → List Instance
taken_instances sent taken = fold (λ is tick. with_taken tick is) (map new_instance sent) taken
