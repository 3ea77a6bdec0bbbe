-- How long a frame is at most, with its stuff bits, if its data are not known.
use Rattle.std.specs.Prelude.{ℕ, zero, suc, ◌+◌, ◌*◌, ◌==◌, Bool, not, max, List, [], ◌∷◌, length, if◌then◌else◌}
use Rattle.wl_level.specs.declared.Level.{Level}
use Rattle.wl_level.specs.declared.Level.TheVariants.{Dominant, Recessive}
use Rattle.wl_level.specs.Levels.{same, opposite}
use Rattle.wl_frame.specs.Crc.{crc_length}
use Rattle.wl_frame.specs.Header.{sent_free}
use Rattle.wl_frame.specs.Grammar.{byte_count}
use Rattle.wl_frame.specs.Header.{header_bits}
use Rattle.wl_longest.specs.declared.ending.Ending.{Ending}

-- how no bits end; this project's profile
abbrev pub no_ending : Ending
no_ending = record { last = Recessive; run = 0; stuffed = 0 }

-- How bits end after a bit more. The fifth equal one has a stuff bit of the other level after it, which is the first of the next run.
-- Bosch CAN 2.0 part B, section 6
abbrev pub ending_after : Ending → Level → Ending
ending_after e bit =
    if not (same e.last bit) then record { last = bit; run = 1; stuffed = e.stuffed }
    else if e.run + 1 == 5 then record { last = opposite bit; run = 1; stuffed = e.stuffed + 1 }
    else record { last = bit; run = e.run + 1; stuffed = e.stuffed }

-- how bits end after these bits more; Bosch CAN 2.0 part B, section 6
abbrev pub ending_from : Ending → List Level → Ending
ending_from e [] = e
ending_from e (bit ∷ bits) = ending_from (ending_after e bit) bits

-- the most stuff bits after n bits more, whichever they are; Bosch CAN 2.0 part B, section 6
unfoldable pub most_stuffed : Ending → ℕ → ℕ
most_stuffed e zero = e.stuffed
most_stuffed e (suc n) = max (most_stuffed (ending_after e Dominant) n) (most_stuffed (ending_after e Recessive) n)

-- the header of a frame, which doesn't depend on its bytes; Bosch CAN 2.0 part B, section 3.2.1
abbrev pub sent_header : (extended : Bool) (id : ℕ) (remote : Bool) (dlc : ℕ) → List Level
sent_header extended id remote dlc =
    header_bits (record { extended = extended; id = id; remote = remote; dlc = dlc; bytes = [] }) sent_free

-- how it ends
unfoldable pub head_ending : (extended : Bool) (id : ℕ) (remote : Bool) (dlc : ℕ) → Ending
head_ending extended id remote dlc = ending_from no_ending (sent_header extended id remote dlc)

-- how many bits come after the header, up to the last of the CRC sequence; Bosch CAN 2.0 part B, section 3.2.1
abbrev pub free_bits : (remote : Bool) (dlc : ℕ) → ℕ
free_bits remote dlc = 8 * byte_count remote dlc + crc_length

-- The most bits of a frame with this header, up to the last of its CRC sequence and with stuff bits, if any bits may be its data and its CRC
-- sequence. Bosch CAN 2.0 part B, sections 3.2.1 and 6
unfoldable pub longest_frame : (extended : Bool) (id : ℕ) (remote : Bool) (dlc : ℕ) → ℕ
longest_frame extended id remote dlc =
    length (sent_header extended id remote dlc) + free_bits remote dlc + most_stuffed (head_ending extended id remote dlc) (free_bits remote dlc)
