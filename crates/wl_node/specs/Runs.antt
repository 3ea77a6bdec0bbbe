-- Samples by runs: samples of one level that are so many quanta apart. This project's profile.
use Rattle.std.specs.Prelude.{ℕ, zero, suc, ◌+◌, ◌*◌, List, [], ◌∷◌, ◌++◌}
use Rattle.std.specs.List.{flat_map}
use Rattle.wl_level.specs.declared.Level.{Level}
use Rattle.wl_node.specs.declared.samples.Run.{Run}

-- so many samples of a level, the first at quantum `from`, and each other one `step` quanta later
unfoldable pub samples_from : ℕ → ℕ → Level → ℕ → List (ℕ × Level)
samples_from from step level zero = []
samples_from from step level (suc n) = samples_from from step level n ++ (from + n * step, level) ∷ []

unfoldable pub run_samples : Run → List (ℕ × Level)
run_samples run = samples_from run.from run.step run.level run.count

unfoldable pub samples_by : List Run → List (ℕ × Level)
samples_by runs = flat_map run_samples runs
