-- Numbers that are chosen out of those that nodes may have.
use Rattle.std.specs.Prelude.{ℕ, Bool, false, List, slice_index_or}

-- a number past them is not
abbrev pub is_chosen : List Bool → ℕ → Bool
is_chosen chosen i = slice_index_or chosen i false
