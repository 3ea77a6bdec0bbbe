-- Frames as whole lists of bits, without stuff bits, from the start of frame to the last bit of the CRC sequence.
use Rattle.std.specs.Prelude.{◌≡◌, ℕ, zero, suc, ◌+◌, ◌-◌, ◌*◌, ◌^◌, ◌<◌, ◌≤◌, ◌==◌, ◌&&◌, nat_lt, nat_le, min, Bool, true, false, not, List, [], ◌∷◌, ◌++◌, length, take, map, if◌then◌else◌, slice_index_or, Option, Some, None, Result, Ok, Err}
use Rattle.std.specs.List.{flat_map}
use Rattle.wl_level.specs.declared.Level.{Level}
use Rattle.wl_level.specs.declared.Level.TheVariants.{Dominant}
use Rattle.wl_level.specs.Places.{at}
use Rattle.wl_frame.specs.declared.frame.FrameFault.{FrameFault}
use Rattle.wl_frame.specs.declared.frame.FrameFault.TheVariants.{Id, Dlc, DataLength, ExtendedId}
use Rattle.wl_frame.specs.Crc.{level_of_bit, crc_bits, crc_length, crc_of}
use Rattle.wl_frame.specs.Header.{Free, sent_free, header_of, header_bits, fields_of, width_of, place_of_field, value_in, is_extended}
use Rattle.wl_frame.specs.Header.Name.{Identifier, ExtendedIdentifier, RemoteRequest, DataLengthCode}
pub use Rattle.wl_frame.specs.Header.{Content, number_from}
unfoldable pub use Rattle.wl_frame.specs.Header.{number_bits}

-- the greatest identifier, of 11 or of 29 bits; Bosch CAN 2.0 part B, section 3.2.1, and each one allowed as this project's profile
abbrev pub greatest_id : Bool → ℕ
greatest_id true = 536870911
greatest_id false = 2047

-- the greatest data length code, of 4 bits; above 8 it means 8 bytes, which is this project's profile
abbrev pub greatest_dlc : ℕ
greatest_dlc = 15

-- how many bytes a frame has: a remote frame has none; Bosch CAN 2.0 part B, sections 3.2.1 and 3.2.2
abbrev pub byte_count : Bool → ℕ → ℕ
byte_count remote dlc = if remote then 0 else min dlc 8

-- the numbers are those of a frame; Bosch CAN 2.0 part B, section 3.2.1
pub record IsContent (c : Content) : Type 0 where
  pub id : c.id ≤ greatest_id c.extended
  pub dlc : c.dlc ≤ greatest_dlc
  pub count : length c.bytes ≡ byte_count c.remote c.dlc
  pub bytes : (k : ℕ) → slice_index_or c.bytes k 0 < 256

-- the first refusal of a data length code and the bytes with it; this project's profile
abbrev pub data_fault : Bool → ℕ → List ℕ → Option FrameFault
data_fault remote dlc bytes =
    if nat_lt greatest_dlc dlc then Some Dlc
    else if not (length bytes == byte_count remote dlc) then Some DataLength
    else None

-- this, unless it is refused
abbrev pub unless_fault : Option FrameFault → Result Content FrameFault → Result Content FrameFault
unless_fault None made = made
unless_fault (Some fault) made = Err fault

-- The base or extended frame of these numbers, or the first refusal that applies: of a base frame that of the identifier is the first,
-- and of an extended frame the last. This project's profile
abbrev pub frame_of_numbers : Bool → ℕ → Bool → ℕ → List ℕ → Result Content FrameFault
frame_of_numbers false id remote dlc bytes =
    if nat_lt (greatest_id false) id then Err Id
    else unless_fault (data_fault remote dlc bytes) (Ok (record { extended = false; id = id; remote = remote; dlc = dlc; bytes = bytes }))
frame_of_numbers true id remote dlc bytes =
    unless_fault (data_fault remote dlc bytes)
    (if nat_lt (greatest_id true) id then Err ExtendedId
    else Ok (record { extended = true; id = id; remote = remote; dlc = dlc; bytes = bytes }))

-- the header and the bytes: what the CRC sequence is of; Bosch CAN 2.0 part B, section 3.2.1
abbrev pub bits_before_crc : Content → Free → List Level
bits_before_crc c free = header_bits c free ++ flat_map (number_bits 8) c.bytes

-- a list with its CRC sequence; Bosch CAN 2.0 part B, section 3.2.1
abbrev pub with_crc : List Level → List Level
with_crc bits = bits ++ map level_of_bit (crc_bits bits)

-- a whole list is a frame, whichever free bits it has; Bosch CAN 2.0 part A, section 3.1.1
abbrev pub IsFrame : List Level → Content → Type 0
IsFrame bits c = IsContent c × (free : Free) × (bits ≡ with_crc (bits_before_crc c free))

-- the whole list that is sent; Bosch CAN 2.0 part B, section 3.2.1
unfoldable pub bits_of : Content → List Level
bits_of c = with_crc (bits_before_crc c sent_free)

-- The same by places, which is all that one who reads a front of a frame has; Bosch CAN 2.0 part B, section 3.2.1
pub record Layout : Type 0 where
  pub start : ℕ  -- where the arbitration begins
  pub arbitration : ℕ  -- where it ends, after its last bit
  pub rtr : ℕ  -- the place of the RTR bit
  pub header : ℕ  -- where the header ends and the bytes begin
  pub bytes : ℕ  -- how many bytes there are, once the DLC has been read

-- by the format; Bosch CAN 2.0 part B, section 3.2.1
abbrev pub layout_by : Bool → List Level → Layout
layout_by extended bits = record {
  start = width_of (header_of extended).start;
  arbitration = width_of ((header_of extended).start ++ (header_of extended).arbitration);
  rtr = place_of_field RemoteRequest extended;
  header = width_of (fields_of extended);
  bytes = byte_count (value_in RemoteRequest extended bits == 1) (value_in DataLengthCode extended bits);
}

-- Where the fields of a frame are that begins so. It means nothing before the whole header is there, and then no list is whole; Bosch
-- CAN 2.0 part B, section 3.2.1
abbrev pub layout_of : List Level → Layout
layout_of bits = layout_by (is_extended bits) bits

-- how many places the CRC sequence covers; Bosch CAN 2.0 part B, section 3.2.1
abbrev pub covered_length : List Level → ℕ
covered_length bits = (layout_of bits).header + 8 * (layout_of bits).bytes

-- a frame that begins so has just these bits, up to the last of the CRC sequence; Bosch CAN 2.0 part B, section 3.2.1
abbrev pub is_whole : List Level → Bool
is_whole bits = length bits == covered_length bits + crc_length

-- a list is no longer than the frame that it begins; Bosch CAN 2.0 part B, section 3.2.1
abbrev pub is_front : List Level → Bool
is_front bits = nat_le (length bits) (covered_length bits + crc_length)

-- and is to have more bits; Bosch CAN 2.0 part B, section 3.2.1
abbrev pub IsUnfinished : List Level → Type 0
IsUnfinished bits = (is_front bits ≡ true) × (is_whole bits ≡ false)

-- The bits that a frame which begins so has still to come at least, up to the last of the CRC sequence: its format says how long its header is, and
-- the header how many bytes there are; Bosch CAN 2.0 part B, section 3.2.1
unfoldable pub bits_left : List Level → ℕ
bits_left bits = (if nat_le (layout_of bits).header (length bits) then covered_length bits else (layout_of bits).header) + crc_length - length bits

-- a place is one of the arbitration, in which a sender may lose; Bosch CAN 2.0 part B, section 3.2.1 (the arbitration field)
abbrev pub is_arbitration : List Level → ℕ → Bool
is_arbitration bits k = nat_le (layout_of bits).start k && nat_lt k (layout_of bits).arbitration

-- the CRC sequence of a whole list is that of the bits before it; Bosch CAN 2.0 part B, section 3.2.1
abbrev pub is_crc_right : List Level → Bool
is_crc_right bits = crc_of (take (covered_length bits) bits) == number_from bits (covered_length bits) crc_length

-- so many bytes from a place on; Bosch CAN 2.0 part B, section 3.2.1
abbrev pub bytes_from : List Level → ℕ → ℕ → List ℕ
bytes_from bits from zero = []
bytes_from bits from (suc n) = number_from bits from 8 ∷ bytes_from bits (from + 8) n

-- the identifier, of which an extended frame has 18 bits more; Bosch CAN 2.0 part B, section 3.2.1
abbrev pub id_by : Bool → List Level → ℕ
id_by true bits = value_in Identifier true bits * 2 ^ 18 + value_in ExtendedIdentifier true bits
id_by false bits = value_in Identifier false bits

-- what a whole list carries, by its format; Bosch CAN 2.0 part B, section 3.2.1
abbrev pub content_by : Bool → List Level → Content
content_by extended bits = record {
  extended = extended;
  id = id_by extended bits;
  remote = value_in RemoteRequest extended bits == 1;
  dlc = value_in DataLengthCode extended bits;
  bytes = bytes_from bits (layout_by extended bits).header (layout_by extended bits).bytes;
}

-- what a whole list carries; Bosch CAN 2.0 part B, section 3.2.1
abbrev pub content_of : List Level → Content
content_of bits = content_by (is_extended bits) bits

-- A list is read as a frame of this content: it begins with the start of frame, it is whole, its CRC sequence is right, and this is what
-- it carries; Bosch CAN 2.0 part B, section 3.2.1
pub record IsReadAs (bits : List Level) (c : Content) : Type 0 where
  pub begins : at bits 0 ≡ Dominant
  pub whole : is_whole bits ≡ true
  pub crc : is_crc_right bits ≡ true
  pub content : content_of bits ≡ c
