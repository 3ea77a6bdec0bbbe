-- What others see of the samples that a node keeps and lends: each with its quantum, the oldest first.
use Rattle.std.specs.Prelude.{ℕ, List}
use Rattle.wl_level.specs.declared.Level.{Level}
use Rattle.wl_node.specs.declared.samples.Samples.{Samples}
use Rattle.wl_node.specs.Runs.{samples_by}

-- the samples that are listed
abbrev pub samples_of : Samples → List (ℕ × Level)
samples_of samples = samples_by samples.runs.items
