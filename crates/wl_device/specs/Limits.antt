-- The limit of calls (this project's profile), each that of the constant of its name.
use Rattle.std.specs.Prelude.{◌≡◌, ℕ, refl}
use Rattle.wl_device.specs.declared.limits.TheConstants.{MOST_CALLS}

-- the most calls of a reader, or of a writer, in one run
unfoldable pub most_calls : ℕ
most_calls = MOST_CALLS

-- the value of each name, for proofs
pub most_calls-is : most_calls ≡ MOST_CALLS
unfolding most_calls
most_calls-is = refl
