-- Samples of which nothing comes but that they are kept (Bosch CAN 2.0 part B, sections 3.2.1, 3.2.3, 3.2.5, 6 and 7.1). A receiver's are kept up to the end of what is
-- stuffed, but for a sixth equal bit. All others are recessive. A receiver's are the ACK delimiter, if its CRC sequence is right, and the first five bits of the end of
-- frame. A transmitter's are those after what is stuffed, but for the acknowledgement slot and the last bit. Whoever sent the frame, they are also the second to
-- the seventh bit of a flag's delimiter, whose first bit ends the wait for it, and the first two bits of an intermission.
use Rattle.std.specs.Prelude.{ℕ, ◌-◌, nat_le, nat_lt, ◌==◌, ◌&&◌, Bool, false, not, List, [], ◌∷◌, ◌++◌, length, Option, Some, None, if◌then◌else◌}
use Rattle.wl_level.specs.declared.Level.{Level}
use Rattle.wl_level.specs.Levels.{is_dominant, same}
use Rattle.wl_level.specs.Places.{before}
use Rattle.wl_frame.specs.Stuffing.{destuffed_bits, is_stuff}
use Rattle.wl_frame.specs.Grammar.{is_crc_right}
use Rattle.wl_machine.specs.declared.state.Role.{Role}
use Rattle.wl_machine.specs.declared.state.Role.TheVariants.{Rx, Tx}
use Rattle.wl_machine.specs.declared.state.State.{State}
use Rattle.wl_machine.specs.declared.state.State.TheVariants as states
use Rattle.wl_machine.specs.Stretch.{Sort, Stretch}
use Rattle.wl_machine.specs.Stretch.Sort.{Framing, Delimiting, Intermission}
use Rattle.wl_machine.specs.Frames.{stuffed_end, frame_role}

-- A receiver's after what is stuffed: the ACK delimiter is at place 2, and the first five bits of the end of frame are at places 3 to 7. A wrong CRC sequence is an error at the
-- delimiter (section 7.1).
abbrev pub keeps_in_tail : Bool → ℕ → Level → Bool
keeps_in_tail is_right n level = nat_le (if is_right then 2 else 3) n && nat_le n 7 && not (is_dominant level)

-- A transmitter's after what is stuffed: the CRC delimiter is at place 0, the acknowledgement slot at 1, and the last bit of the end of frame at 9.
abbrev pub keeps_in_sent_tail : ℕ → Level → Bool
keeps_in_sent_tail n level = not (n == 1) && nat_lt n 9 && not (is_dominant level)

abbrev pub keeps_in_frame : Role → Option ℕ → List Level → Level → Bool
keeps_in_frame Rx None own level = not (is_stuff own (length own) && same level (before own (length own)))
keeps_in_frame Rx (Some end) own level = keeps_in_tail (is_crc_right (destuffed_bits own end)) (length own - end) level
keeps_in_frame Tx None own level = false
keeps_in_frame Tx (Some end) own level = keeps_in_sent_tail (length own - end) level

-- the eighth bit of a delimiter ends it, and a dominant one is an error or an overload (sections 3.2.3 and 3.2.4)
abbrev pub keeps_in_delimiter : ℕ → Level → Bool
keeps_in_delimiter n level = nat_lt n 7 && not (is_dominant level)

-- the third bit of an intermission frees the bus, or is a start of frame (section 3.2.5)
abbrev pub keeps_in_intermission : ℕ → Level → Bool
keeps_in_intermission n level = nat_lt n 2 && not (is_dominant level)

abbrev pub keeps_by : Sort → List Level → Level → Bool
keeps_by (Framing head) own level = keeps_in_frame (frame_role head own) (stuffed_end own) own level
keeps_by (Delimiting role) own level = keeps_in_delimiter (length own) level
keeps_by (Intermission role) own level = keeps_in_intermission (length own) level
keeps_by sort own level = false

-- nothing comes of a sample of this level but that the running stretch has it
abbrev pub keeps : Stretch → Level → Bool
keeps s level = keeps_by s.sort s.own level

-- the running stretch with it
abbrev pub with_sample : Stretch → Level → Stretch
with_sample s level = record { sort = s.sort; own = s.own ++ level ∷ [] }

-- the same, by what is kept
abbrev pub state_keeps : State → Level → Bool
state_keeps (states.Receiving last run) level = not (nat_le 5 run && same last level)
state_keeps (states.ReceivedTail place right) level = keeps_in_tail right place level
state_keeps (states.SentTail place) level = keeps_in_sent_tail place level
state_keeps (states.Delimiter role count) level = keeps_in_delimiter count level
state_keeps (states.Intermission role count) level = keeps_in_intermission count level
state_keeps state level = false
