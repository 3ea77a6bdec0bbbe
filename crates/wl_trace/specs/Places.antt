-- The fields of a frame by places: which field, and which bit of it, a sample falls on (Bosch CAN 2.0 part B, section 3.2.1).
use Rattle.std.specs.Prelude.{ℕ, ◌-◌, false, Bool, List, length, Option, Some, None, if◌then◌else◌}
use Rattle.wl_level.specs.declared.Level.{Level}
use Rattle.wl_frame.specs.Stuffing.{is_stuff, destuffed_bits}
use Rattle.wl_frame.specs.declared.field.FrameField.TheVariants.{FlagDelimiter}
use Rattle.wl_frame.specs.declared.field.FramePlace.{FramePlace}
use Rattle.wl_frame.specs.Field.{field_of, place_in, tail_field}
use Rattle.wl_frame.specs.Grammar.{Content, bits_of}
use Rattle.wl_machine.specs.declared.state.Role.{Role}
use Rattle.wl_machine.specs.declared.state.Role.TheVariants.{Tx, Rx}
use Rattle.wl_machine.specs.Stretch.{Sort, Stretch}
use Rattle.wl_machine.specs.Stretch.Sort.{Framing}
use Rattle.wl_machine.specs.Frames.{stuffed_end, frame_role}

-- what a node knows of the bits of a frame: all that it sends, or those that it has read
abbrev pub known_bits : Role → Option Content → List Level → List Level
known_bits Tx (Some head) read = bits_of head
known_bits Tx None read = read
known_bits Rx head read = read

-- the place of a stuff bit is that of the bit which it follows
abbrev pub stuffed_place : Bool → List Level → ℕ → FramePlace
stuffed_place stuff bits k = field_of bits (if stuff then k - 1 else k)

-- where the next sample of a frame falls, by the end of what is stuffed
abbrev pub place_by_end : Option ℕ → Option Content → List Level → FramePlace
place_by_end None head own =
    stuffed_place (is_stuff own (length own)) (known_bits (frame_role head own) head (destuffed_bits own (length own)))
    (length (destuffed_bits own (length own)))
place_by_end (Some end) head own = tail_field (length own - end)

-- where the next sample of a stretch falls; errors are found in frames and delimiters alone
abbrev pub place_by : Sort → List Level → FramePlace
place_by (Framing head) own = place_by_end (stuffed_end own) head own
place_by sort own = place_in FlagDelimiter (length own)

abbrev pub next_place : Stretch → FramePlace
next_place s = place_by s.sort s.own

-- the next sample of a frame is that of a stuff bit
abbrev pub is_stuff_by_end : Option ℕ → List Level → Bool
is_stuff_by_end None own = is_stuff own (length own)
is_stuff_by_end (Some end) own = false

abbrev pub is_stuff_by : Sort → List Level → Bool
is_stuff_by (Framing head) own = is_stuff_by_end (stuffed_end own) own
is_stuff_by sort own = false

abbrev pub is_at_stuff : Stretch → Bool
is_at_stuff s = is_stuff_by s.sort s.own
