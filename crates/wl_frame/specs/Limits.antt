-- The limits of lists of a frame's bits: how many bits a frame has (Bosch CAN 2.0 part B, section 3.2.1), and how many a list holds (this
-- project's profile, each that of the constant of its name).
use Rattle.std.specs.Prelude.{ℕ}
use Rattle.wl_frame.specs.declared.limits.TheConstants.{MOST_BITS, MOST_UNSTUFFED}

-- the most bits that a list of a frame's bits holds
abbrev pub most_bits : ℕ
most_bits = MOST_BITS

-- the most bits that are stuffed
abbrev pub most_unstuffed : ℕ
most_unstuffed = MOST_UNSTUFFED

-- the most bits of a header, from the start of frame to the data length code: those of an extended frame
abbrev pub most_header_bits : ℕ
most_header_bits = 39

-- the most bits before a CRC sequence: such a header and eight bytes
abbrev pub most_bits_before_crc : ℕ
most_bits_before_crc = 103

-- the most bits of a frame up to the last of its CRC sequence, without stuff bits
abbrev pub most_frame_bits : ℕ
most_frame_bits = 118

-- the fewest: a base frame without bytes
abbrev pub least_frame_bits : ℕ
least_frame_bits = 34
