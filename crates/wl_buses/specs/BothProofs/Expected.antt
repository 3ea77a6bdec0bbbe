-- What the nodes of a line drive, if it is what each drives as long as all others do.
use Rattle.std.specs.Prelude.{◌≡◌, ℕ, suc, ◌+◌, ◌<◌, ◌≤◌, Bool, false}
use Rattle.wl_level.specs.declared.Level.{Level}
use Rattle.wl_level.specs.Levels.{level_of}
use Rattle.wl_plan.specs.Line.{Line, found}
use Rattle.wl_buses.specs.BothProofs.Levels.{levels_before}

-- the levels that node i sees at its quanta, if the nodes drive this
abbrev pub levels_found : Line → (ℕ → ℕ → Bool) → ℕ → ℕ → Level
levels_found l drove i k = level_of (found l drove i (l.instant i k))

-- Each node drives this up to a tick of its own, if all do. Up to there it finds nothing that another drives later. (This project's profile.)
pub record IsExpected (l : Line) (until : ℕ → ℕ) (drove : ℕ → ℕ → Bool) : Type 0 where
  pub near : (i j : ℕ) → i < l.nodes → j < l.nodes → until j ≤ until i + l.delay i j
  pub inside : (i : ℕ) → i < l.nodes → until i ≤ l.stop
  pub before : (i t : ℕ) → i < l.nodes → t < until i → t < l.instant i 0 → drove i t ≡ false
  pub drives : (i k t : ℕ) → i < l.nodes → t < until i → l.instant i k ≤ t → t < l.instant i (suc k)
      → drove i t ≡ l.drives i (levels_before (levels_found l drove i) (suc k))
