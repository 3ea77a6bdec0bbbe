-- The samples that a node that runs again beside the line at its place has given (this project's profile).
use Rattle.std.specs.Prelude.{◌≡◌, ℕ, ◌<◌, ◌≤◌, List}
use Rattle.wl_level.specs.declared.Level.{Level}
use Rattle.wl_level.specs.Levels.{level_of}
use Rattle.wl_clock.specs.Timing.{tick_of}
use Rattle.wl_plan.specs.declared.plan.Plan.{Plan}
use Rattle.wl_plan.specs.Line.{found}
use Rattle.wl_plan.specs.PlanLine.{line_of, setup_at}
use Rattle.wl_plan.specs.Simulation.{level, seen}
use Rattle.wl_trace.specs.declared.event.Noted.{Noted}
use Rattle.wl_trace.specs.Rerun.{RunsAgain, samples_seen}
use Rattle.wl_trace.specs.Synced.{syncs_of}
use Rattle.wl_views.specs.declared.sampling.Sampling.{Sampling}
use Rattle.wl_views.specs.PlaceLine.{Remembers}

-- how many quanta it has seen
abbrev pub quanta_sampled : Sampling → ℕ
quanta_sampled s = s.quanta

-- those of node i in the quanta that it has seen
abbrev pub given_by : Plan → ℕ → Sampling → List (ℕ × Level)
given_by plan i s = samples_seen (setup_at plan i) (seen (line_of plan) i (quanta_sampled s))

-- and how edges synchronised it in them
abbrev pub synced_by : Plan → ℕ → Sampling → List Noted
synced_by plan i s = syncs_of (setup_at plan i) (seen (line_of plan) i (quanta_sampled s))

-- it has seen so many quanta, and up to another one the line stays
pub record IsSampling (plan : Plan) (i : ℕ) (s : Sampling) : Type 0 where
  pub node : RunsAgain (setup_at plan i) (seen (line_of plan) i s.quanta) s.node
  pub remembers : Remembers plan i s.until s.line
  pub before : (q : ℕ) → q < s.limit → tick_of (setup_at plan i).clock q < s.until
  pub next : s.until ≤ tick_of (setup_at plan i).clock s.limit
  pub few : s.quanta ≤ s.limit
  pub inside : s.until ≤ plan.end
  pub stays : (q : ℕ) → s.quanta ≤ q → q < s.limit → level_of (found (line_of plan) (level (line_of plan)) i (tick_of (setup_at plan i).clock q)) ≡ s.level
