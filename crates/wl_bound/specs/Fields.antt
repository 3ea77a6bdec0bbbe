-- The arbitration field of a frame as a number: the least one wins (Bosch CAN 2.0 part B, sections 3.1 and 3.2.1).
use Rattle.std.specs.Prelude.{ℕ, zero, suc, ◌+◌, ◌*◌, List, if◌then◌else◌}
use Rattle.wl_level.specs.declared.Level.{Level}
use Rattle.wl_level.specs.declared.Level.TheVariants.{Dominant, Recessive}
use Rattle.wl_level.specs.Places.{at}
use Rattle.wl_frame.specs.Grammar.{Content, bits_of}

abbrev pub bit_number : Level → ℕ
bit_number Dominant = 0
bit_number Recessive = 1

-- the first n bits after the start of frame as a number, the first of them the most significant
abbrev pub first_bits : List Level → ℕ → ℕ
first_bits levels zero = 0
first_bits levels (suc n) = 2 * first_bits levels n + bit_number (at levels (suc n))

-- An arbitration field has 12 bits, of an extended frame 32. All count as 32, and those that a base frame lacks as dominant.
unfoldable pub field_of : Content → ℕ
field_of c = if c.extended then first_bits (bits_of c) 32 else first_bits (bits_of c) 12 * 1048576
