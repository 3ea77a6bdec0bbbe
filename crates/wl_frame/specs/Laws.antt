-- Words for the laws of frames: who may lose to whom, and the edges to which a receiver synchronises.
use Rattle.std.specs.Prelude.{◌≡◌, ℕ, List, [], ◌∷◌, ◌++◌}
use Rattle.wl_level.specs.declared.Level.{Level}
use Rattle.wl_level.specs.declared.Level.TheVariants.{Dominant, Recessive}
use Rattle.wl_level.specs.Places.{at, before}
use Rattle.wl_frame.specs.Header.{Content}

-- two frames have the same format, identifier and RTR bit, so that the arbitration can't decide between them; Bosch CAN 2.0 part B, section 3.1
abbrev pub HaveSameField : Content → Content → Type 0
HaveSameField a b = (a.extended ≡ b.extended) × (a.id ≡ b.id) × (a.remote ≡ b.remote)

-- a stuffed list, and after it the CRC delimiter and an ACK slot that is acknowledged; Bosch CAN 2.0 part B, section 3.2.1
abbrev pub up_to_ack : List Level → List Level
up_to_ack y = (y ++ Recessive ∷ []) ++ Dominant ∷ []

-- an edge from recessive to dominant at a place, which is the only sort that synchronises; Bosch CAN 2.0 part B, section 10
pub record IsEdge (y : List Level) (k : ℕ) : Type 0 where
  pub was : before y k ≡ Recessive
  pub is : at y k ≡ Dominant
