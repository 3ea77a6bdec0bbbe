-- The shift register that computes the CRC sequence; Bosch CAN 2.0 part B, section 3.2.1.
use Rattle.std.specs.Prelude.{ℕ, ◌*◌, ◌%◌, ◌^◌, ◌==◌, Bool, bit_xor, if◌then◌else◌}
use Rattle.std.specs.Int.{bit_at}
use Rattle.wl_frame.specs.Crc.{differ}

-- the register after one more bit
unfoldable pub register_after : ℕ → Bool → ℕ
register_after r bit = if differ (bit_at r 14 == 1) bit then bit_xor (r * 2 % 2 ^ 15) 17817 else r * 2 % 2 ^ 15
