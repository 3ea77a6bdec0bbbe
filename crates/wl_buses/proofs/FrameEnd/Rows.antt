-- Worked ends of frames, by computation.
use Rattle.std.proofs.Common.{◌≡◌, ◌+◌, true, false, [], ◌∷◌, None, Some, refl}
use Rattle.wl_level.specs.declared.Level.TheVariants.{Dominant, Recessive}
use Rattle.wl_confine.specs.declared.Mode.TheVariants.{Active}
use Rattle.wl_frame.specs.Grammar.{Content}
use Rattle.wl_machine.specs.declared.state.Role.TheVariants.{Rx, Tx}
use Rattle.wl_machine.specs.Stretch.Sort.{Framing, Intermission}
use Rattle.wl_machine.specs.Stretch.Ended.{NoFrame, Sent}
use Rattle.wl_machine.specs.States.{sample_of, stretch_by}
use Rattle.wl_wire.specs.Begins.{frame_begun}
use Rattle.wl_buses.specs.OneFrame.Machines.{HasTwoBits}
use Rattle.wl_buses.specs.FrameEnd.Ends.{end_bit, end_drive, end_frame, end_levels, end_stretch}
use Rattle.wl_buses.specs.FrameEnd.Lines.{earliest_of}
use Rattle.wl_buses.specs.FrameEnd.Rests.{passing_bit}

-- the CRC delimiter, the ACK slot, the ACK delimiter, and the first bit of the end of frame
levels : end_levels 4 ≡ Recessive ∷ Dominant ∷ Recessive ∷ Recessive ∷ []
levels = refl

slot : end_bit 1 ≡ true
slot = refl

intermission : end_bit 10 ≡ false
intermission = refl

-- after a dominant sample a receiver of that stuffed part samples the CRC delimiter
delimited : end_stretch None (Dominant ∷ []) 1 ≡ stretch_by (Framing None) (Dominant ∷ Recessive ∷ [])
delimited = refl

-- ten bits after the stuffed part its intermission begins, and two bits later it has sampled two of it
pause : end_stretch None (Dominant ∷ []) 10 ≡ stretch_by (Intermission Rx) []
pause = refl

pause_later : end_stretch None (Dominant ∷ []) 12 ≡ stretch_by (Intermission Rx) (Recessive ∷ Recessive ∷ [])
pause_later = refl

-- who drives the slot
acknowledges : end_drive Rx 1 ≡ true
acknowledges = refl

sends : end_drive Tx 1 ≡ false
sends = refl

-- when a frame is sent
not_yet : (c : Content) → end_frame Tx (Some c) [] 8 ≡ NoFrame
not_yet c = refl

sent : (c : Content) → end_frame Tx (Some c) [] 9 ≡ Sent c
sent c = refl

-- of three stations, of which station 1 sends: the stuffed part ends before bit 40, and the last bit of the end of frame is bit 49
sender_bit : passing_bit 40 1 1 ≡ 49
sender_bit = refl

receiver_bit : passing_bit 40 2 1 ≡ 48
receiver_bit = refl

-- the least of 7, 10 and 11, and of 12, 10 and 11
least : earliest_of 2 (λ k. 10 + k) 7 ≡ 7
least = refl

least_other : earliest_of 2 (λ k. 10 + k) 12 ≡ 10
least_other = refl

-- then the next bit is the third one, in which a start of frame begins the frame that it is handed, or it receives
two_bits : HasTwoBits (end_stretch None (Dominant ∷ []) 12)
two_bits = (Rx, refl)

third_begins : (c : Content) → frame_begun (end_stretch None (Dominant ∷ []) 12).sort (sample_of Dominant (Some c) Active) ≡ Some c
third_begins c = refl

third_receives : frame_begun (end_stretch None (Dominant ∷ []) 12).sort (sample_of Dominant None Active) ≡ None
third_receives = refl
