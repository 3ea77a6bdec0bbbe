-- A register as the list of its bits.
use Rattle.std.specs.Prelude.{ℕ, zero, suc, ◌==◌, Bool, List, [], ◌∷◌}
use Rattle.std.specs.Int.{bit_at}

-- the k low bits of a number, the most significant first
unfoldable pub register_bits : ℕ → ℕ → List Bool
register_bits zero r = []
register_bits (suc k) r = (bit_at r k == 1) ∷ register_bits k r
