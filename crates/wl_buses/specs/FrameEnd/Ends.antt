-- The end of a frame at one machine: the ten bits after the stuffed part, and two of the intermission.
use Rattle.std.specs.Prelude.{◌≡◌, ℕ, zero, suc, ◌-◌, ◌==◌, nat_lt, Bool, true, false, List, [], ◌∷◌, ◌++◌, Option, Some, None, length, replicate, if◌then◌else◌}
use Rattle.wl_level.specs.declared.Level.{Level}
use Rattle.wl_level.specs.declared.Level.TheVariants.{Recessive}
use Rattle.wl_level.specs.Levels.{level_of}
use Rattle.wl_frame.specs.Stuffing.{destuffed_bits}
use Rattle.wl_frame.specs.Grammar.{Content, content_of}
use Rattle.wl_machine.specs.declared.state.Role.{Role}
use Rattle.wl_machine.specs.declared.state.Role.TheVariants.{Rx, Tx}
use Rattle.wl_machine.specs.Stretch.{Ended, Sampled, Stretch}
use Rattle.wl_machine.specs.Stretch.Ended.{NoFrame, Received, Sent}
use Rattle.wl_machine.specs.Stretch.Input.{Sample}
use Rattle.wl_machine.specs.Stretch.Sort.{Framing, Intermission}
use Rattle.wl_machine.specs.Frames.{frame_role}
use Rattle.wl_machine.specs.Judged.{judged, stretch_after}
use Rattle.wl_machine.specs.States.{stretch_by}
use Rattle.wl_wire.specs.InStep.{is_fine}

-- The places after the stuffed part: 0 is the CRC delimiter, 1 the ACK slot, 2 the ACK delimiter, 3 to 9 are the end of frame, and 10 to 12 the intermission. The slot alone is
-- dominant (Bosch CAN 2.0 part B, sections 3.2.1 and 3.2.5).
abbrev pub end_bit : ℕ → Bool
end_bit place = place == 1

-- the levels at the places before one
abbrev pub end_levels : ℕ → List Level
end_levels zero = []
end_levels (suc place) = end_levels place ++ level_of (end_bit place) ∷ []

-- the stretch of a machine before it samples a place, if its frame's stuffed part is `own`
abbrev pub end_stretch : (head : Option Content) → (own : List Level) → (place : ℕ) → Stretch
end_stretch head own place =
    if nat_lt place 10 then stretch_by (Framing head) (own ++ end_levels place) else stretch_by (Intermission (frame_role head own)) (replicate (place - 10) Recessive)

-- Whoever doesn't send drives the ACK slot dominant.
abbrev pub end_drive : Role → (place : ℕ) → Bool
end_drive Tx place = false
end_drive Rx place = end_bit place

-- The frame that the sample of a place completes. Its sender has sent it with the last bit of the end of frame, and each other one has received it with the last but one (Bosch CAN 2.0
-- part B, section 5).
abbrev pub end_frame : Role → Option Content → (bits : List Level) → (place : ℕ) → Ended
end_frame Tx None bits place = NoFrame
end_frame Tx (Some frame) bits place = if place == 9 then Sent frame else NoFrame
end_frame Rx head bits place = if place == 8 then Received (content_of bits) else NoFrame

-- A machine samples a place as it is on the bus.
pub record GoesToEnd (head : Option Content) (own : List Level) (place : ℕ) (x : Sampled) : Type 0 where
  pub next : stretch_after (end_stretch head own place) (Sample x) ≡ end_stretch head own (suc place)
  pub fine : is_fine (judged (end_stretch head own place) x).happened ≡ true
  pub ended : (judged (end_stretch head own place) x).ended ≡ end_frame (frame_role head own) head (destuffed_bits own (length own)) place
