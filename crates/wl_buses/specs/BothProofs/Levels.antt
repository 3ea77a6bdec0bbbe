-- The levels that a node sees, by their quanta.
use Rattle.std.specs.Prelude.{ℕ, zero, suc, List, [], ◌∷◌, ◌++◌}
use Rattle.wl_level.specs.declared.Level.{Level}

-- those of the first k quanta
abbrev pub levels_before : (ℕ → Level) → ℕ → List Level
levels_before levels zero = []
levels_before levels (suc k) = levels_before levels k ++ levels k ∷ []
