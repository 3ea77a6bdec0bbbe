-- What every checked plan keeps, as a fact on its line. This project's profile; that each delay is positive is Chandy and Misra 1979.
-- For a reader who knows simulation: there is lookahead between any two components, and no number overflows.
use Rattle.std.specs.Prelude.{◌≡◌, ℕ, suc, ◌+◌, ◌<◌, ◌≤◌, false, List, [], ◌++◌, length}
use Rattle.wl_level.specs.declared.Level.{Level}
use Rattle.wl_record_core.specs.Limits.{most_nodes, most_edges, tick_end}
use Rattle.wl_plan.specs.Limits.{most_quanta, most_quiet}
use Rattle.wl_plan.specs.Line.{Line}
use Rattle.wl_plan.specs.Simulation.{changes}

-- Causes come before effects: each level takes a tick at least, clocks go on, and a drive that is said to stay does.
pub record IsCausal (l : Line) : Type 0 where
  pub delays : (i j : ℕ) → i < l.nodes → j < l.nodes → 1 ≤ l.delay i j
  pub clocks : (i k : ℕ) → i < l.nodes → l.instant i k < l.instant i (suc k)
  pub quiet_stays : (i : ℕ) (levels more : List Level) → i < l.nodes → length more ≤ l.quiet i levels → l.drives i (levels ++ more) ≡ l.drives i levels
  -- a node that has seen nothing drives recessive
  pub begins : (i : ℕ) → i < l.nodes → l.drives i [] ≡ false

-- And the numbers that records name are within their limits.
pub record IsSound (l : Line) : Type 0 where
  pub causal : IsCausal l
  pub some_node : 0 < l.nodes
  pub few_nodes : l.nodes ≤ most_nodes
  -- few quanta stand before the end, and few of them change a drive
  pub few_quanta : (i k : ℕ) → i < l.nodes → l.instant i k < l.stop → k < most_quanta
  pub few_changes : (i : ℕ) → i < l.nodes → length (changes l i) ≤ most_edges
  -- every tick that a silence can name, at the start and after a quantum, and the end
  pub little_quiet : (i : ℕ) (levels : List Level) → i < l.nodes → l.quiet i levels ≤ most_quiet
  pub first_fits : (i : ℕ) → i < l.nodes → l.instant i most_quiet < tick_end
  pub next_fits : (i k : ℕ) → i < l.nodes → l.instant i k < l.stop → l.instant i (suc k + most_quiet) < tick_end
  pub end_fits : l.stop < tick_end
