-- The limits of a record text (this project's profile), each that of the constant of its name.
use Rattle.std.specs.Prelude.{◌≡◌, ℕ, refl}
use Rattle.wl_record.specs.declared.limits.TheConstants.{MOST_LINE, MOST_BYTES}

-- the most bytes of a line before its newline
unfoldable pub most_line : ℕ
most_line = MOST_LINE

-- the most bytes of a record text
unfoldable pub most_record_bytes : ℕ
most_record_bytes = MOST_BYTES

-- the value of each name, for proofs
pub most_line-is : most_line ≡ MOST_LINE
unfolding most_line
most_line-is = refl

pub most_record_bytes-is : most_record_bytes ≡ MOST_BYTES
unfolding most_record_bytes
most_record_bytes-is = refl
