-- The stretch of a frame, from its start to its last bit, by its own list of samples.
use Rattle.std.specs.Prelude.{ℕ, suc, ◌-◌, ◌==◌, ◌&&◌, nat_le, Bool, true, not, List, [], length, Option, Some, None, is_some, if◌then◌else◌}
use Rattle.wl_level.specs.declared.Level.{Level}
use Rattle.wl_level.specs.declared.Level.TheVariants.{Dominant, Recessive}
use Rattle.wl_level.specs.Levels.{same, is_dominant, opposite}
use Rattle.wl_level.specs.Places.{at, before, first_place}
use Rattle.wl_confine.specs.declared.ErrorKind.TheVariants.{Bit, Stuff, Form, Crc, Ack}
use Rattle.wl_confine.specs.declared.Mode.{Mode}
use Rattle.wl_confine.specs.declared.Mode.TheVariants as modes
use Rattle.wl_confine.specs.declared.Happened.TheVariants as happens
use Rattle.wl_frame.specs.Stuffing.{is_stuff, destuffed_bits}
use Rattle.wl_frame.specs.Grammar.{Content, bits_of, layout_of, is_whole, is_arbitration, is_crc_right, content_of}
use Rattle.wl_machine.specs.declared.state.Role.{Role}
use Rattle.wl_machine.specs.declared.state.Role.TheVariants.{Tx, Rx}
use Rattle.wl_machine.specs.Stretch.{Sampled, Judgement, continues, begins}
use Rattle.wl_machine.specs.Stretch.Sort.{Intermission, Flagging}
use Rattle.wl_machine.specs.Stretch.Flag.{OverloadFlag, PassiveFlag}
use Rattle.wl_machine.specs.Stretch.Ended.{Sent, Received}
use Rattle.wl_machine.specs.Flags.{fails, error_flag}

-- The place after the last bit that is stuffed: the first one before which a whole list of a frame's bits stands and at which no
-- stuff bit is due. (Bosch CAN 2.0 part B, section 6. That a stuff bit due after the CRC sequence is sent is this project's profile.)
abbrev pub stuffed_end : List Level → Option ℕ
stuffed_end own = first_place (λ n. is_whole (destuffed_bits own n) && not (is_stuff own n)) (suc (length own))

-- the level that the sender of a frame sends at place n, up to the end of what is stuffed (section 6)
abbrev pub sent_at : Content → List Level → ℕ → Level
sent_at head own n = if is_stuff own n then opposite (before own n) else at (bits_of head) (length (destuffed_bits own n))

-- the sender loses the arbitration at place n: it sends a recessive bit of the arbitration and finds dominant (sections 2 and 3.2.1)
abbrev pub is_lost : Content → List Level → ℕ → Bool
is_lost head own n =
    not (is_stuff own n) && is_arbitration (bits_of head) (length (destuffed_bits own n))
    && not (is_dominant (sent_at head own n)) && is_dominant (at own n)

-- the sender of a frame is its transmitter until it loses the arbitration, and everyone else is a receiver (section 3.4)
abbrev pub frame_role : Option Content → List Level → Role
frame_role None own = Rx
frame_role (Some head) own = if is_some (first_place (is_lost head own) (length own)) then Rx else Tx

-- a transmitter, up to the end of what is stuffed, finds a level that it did not send (sections 3.2.1, 7.1 and 8, rule 3)
abbrev pub differing : Content → List Level → Sampled → Judgement
differing head own x =
    let bits = destuffed_bits own (length own) in
    if is_dominant (sent_at head own (length own)) then fails Tx x.mode Bit
    else if is_stuff own (length own)
    then (if nat_le (length bits) (layout_of (bits_of head)).rtr then begins happens.TxFree (Flagging (error_flag x.mode) Tx) [] else fails Tx x.mode Bit)
    else if is_arbitration (bits_of head) (length bits) then continues happens.Nothing
    else fails Tx x.mode Bit

-- a transmitter, up to the end of what is stuffed
abbrev pub sending : Content → List Level → Sampled → Judgement
sending head own x = if same (sent_at head own (length own)) x.level then continues happens.Nothing else differing head own x

-- a transmitter finds its acknowledgement slot recessive (sections 7.1 and 8, rule 3: an error passive one counts nothing yet)
abbrev pub unanswered : Mode → Judgement
unanswered modes.Passive = begins happens.TxFree (Flagging (PassiveFlag true) Tx) []
unanswered modes.Active = fails Tx modes.Active Ack
unanswered modes.Off = fails Tx modes.Off Ack

-- The ten bits after what is stuffed go by their place: 0 is the CRC delimiter, 1 the acknowledgement slot, 2 its delimiter, and 3 to 9
-- are the end of frame. A transmitter sends them recessive (section 3.2.1; section 5: the frame is sent with the last one).
abbrev pub sent_tail : Content → ℕ → Sampled → Judgement
sent_tail head n x =
    if n == 1 then (if is_dominant x.level then continues happens.Nothing else unanswered x.mode)
    else if is_dominant x.level then fails Tx x.mode Bit
    else if n == 9 then record { happened = happens.Sent; ended = Sent head; next = Some (record { sort = Intermission Tx; own = [] }) }
    else continues happens.Nothing

-- a receiver, up to the end of what is stuffed: the sixth equal bit is an error (section 7.1)
abbrev pub receiving : List Level → Sampled → Judgement
receiving own x =
    if is_stuff own (length own) && same x.level (before own (length own)) then fails Rx x.mode Stuff else continues happens.Nothing

-- a receiver in the acknowledgement slot, which it drives dominant where the CRC sequence is right (section 3.2.1)
abbrev pub acknowledging : List Level → Sampled → Judgement
acknowledging bits x =
    if not (is_crc_right bits) then continues happens.Nothing
    else if is_dominant x.level then continues happens.Acked
    else fails Rx x.mode Bit

-- a receiver at the last bit of the end of frame, where a dominant sample is an overload (sections 3.2.4 and 5)
abbrev pub last_bit : Sampled → Judgement
last_bit x =
    if is_dominant x.level then begins happens.Nothing (Flagging OverloadFlag Rx) [] else begins happens.Nothing (Intermission Rx) []

-- a receiver, at such a place (sections 3.2.1 and 7.1; section 5: the frame is received with the last but one bit of the end of frame)
abbrev pub received_tail : List Level → ℕ → Sampled → Judgement
received_tail bits n x =
    if n == 1 then acknowledging bits x
    else if n == 9 then last_bit x
    else if is_dominant x.level then fails Rx x.mode Form
    else if n == 2 && not (is_crc_right bits) then fails Rx x.mode Crc
    else if n == 8 then record { happened = happens.Nothing; ended = Received (content_of bits); next = None }
    else continues happens.Nothing

abbrev pub framing_sent : Content → List Level → Option ℕ → Sampled → Judgement
framing_sent head own None x = sending head own x
framing_sent head own (Some end) x = sent_tail head (length own - end) x

abbrev pub framing_received : List Level → Option ℕ → Sampled → Judgement
framing_received own None x = receiving own x
framing_received own (Some end) x = received_tail (destuffed_bits own end) (length own - end) x

abbrev pub framing_by : Role → Option Content → List Level → Sampled → Judgement
framing_by Tx (Some head) own x = framing_sent head own (stuffed_end own) x
framing_by role head own x = framing_received own (stuffed_end own) x

-- the stretch of a frame, of which this head is sent if there is one
abbrev pub framing : Option Content → List Level → Sampled → Judgement
framing head own x = framing_by (frame_role head own) head own x

-- the level that a frame drives at its next bit
abbrev pub tail_drive : Role → List Level → ℕ → Level
tail_drive Tx bits n = Recessive
tail_drive Rx bits n = if (n == 1) && is_crc_right bits then Dominant else Recessive

abbrev pub stuffed_drive : Role → Option Content → List Level → Level
stuffed_drive Tx (Some head) own = sent_at head own (length own)
stuffed_drive role head own = Recessive

abbrev pub drive_up_to : Option ℕ → Option Content → List Level → Level
drive_up_to None head own = stuffed_drive (frame_role head own) head own
drive_up_to (Some end) head own = tail_drive (frame_role head own) (destuffed_bits own end) (length own - end)

abbrev pub frame_drive : Option Content → List Level → Level
frame_drive head own = drive_up_to (stuffed_end own) head own
