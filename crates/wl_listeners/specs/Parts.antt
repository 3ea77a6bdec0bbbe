-- A part of the nodes of a line. This project's.
use Rattle.std.specs.Prelude.{◌≡◌, ◌⊎◌, ℕ, ◌-◌, ◌<◌, ◌≤◌, false, List}
use Rattle.wl_level.specs.declared.Level.{Level}
use Rattle.wl_plan.specs.Line.{Line}
use Rattle.wl_plan.specs.Simulation.{level}

-- Node i of the part is node `at i` of the whole line. No other node drives dominant so that it comes to a node of the part before the end and before the tick `until`.
pub record IsPart (part whole : Line) (at : ℕ → ℕ) (until : ℕ) : Type 0 where
  pub inside : (i : ℕ) → i < part.nodes → at i < whole.nodes
  pub instants : (i k : ℕ) → i < part.nodes → part.instant i k ≡ whole.instant (at i) k
  pub drives : (i : ℕ) (levels : List Level) → i < part.nodes → part.drives i levels ≡ whole.drives (at i) levels
  pub delays : (i j : ℕ) → i < part.nodes → j < part.nodes → part.delay i j ≡ whole.delay (at i) (at j)
  pub disturbed : (i t : ℕ) → i < part.nodes → part.disturbed i t ≡ whole.disturbed (at i) t
  pub stop : part.stop ≡ whole.stop
  pub others : (k : ℕ) → k < whole.nodes → ((i : ℕ) × (i < part.nodes) × (at i ≡ k))
      ⊎ ((j t : ℕ) → j < part.nodes → t < until → t < whole.stop → whole.delay k (at j) ≤ t → level whole k (t - whole.delay k (at j)) ≡ false)
