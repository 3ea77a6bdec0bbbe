-- What of a plan its simulation rests on: nodes on a line, as functions. No node, clock or plan is named here, so that what
-- is proved of lines holds of every plan that gives one. This project's profile. A level is a `Bool` where it is driven: true is dominant.
-- For a reader who knows simulation: a model of components with local clocks and delayed, wired-AND signals.
use Rattle.std.specs.Prelude.{ℕ, ◌+◌, Bool, ◌||◌, List, length}
use Rattle.wl_level.specs.declared.Level.{Level}
use Rattle.wl_topology.specs.Driven.{driven}

pub record Line : Type 0 where
  -- how many nodes there are; they are numbered from 0
  pub nodes : ℕ
  -- the tick of quantum k of node i
  pub instant : ℕ → ℕ → ℕ
  -- whether node i drives dominant once it has seen these levels, the oldest first
  pub drives : ℕ → List Level → Bool
  -- for how many quanta more its drive is sure to stay, whatever it sees
  pub quiet : ℕ → List Level → ℕ
  -- how many ticks a level takes from node i to node j
  pub delay : ℕ → ℕ → ℕ
  -- whether a disturbance makes the line dominant at node j and tick t
  pub disturbed : ℕ → ℕ → Bool
  -- the end: a node runs only quanta whose tick is below it
  pub stop : ℕ

-- whether node j finds the line dominant at tick t, where drove i u says whether node i drove dominant at tick u
abbrev pub found : Line → (ℕ → ℕ → Bool) → ℕ → ℕ → Bool
found l drove j t = driven l.nodes l.delay drove j t || l.disturbed j t

-- up to what tick a node that has seen these levels is sure to keep its drive
abbrev pub reach : Line → ℕ → List Level → ℕ
reach l i levels = l.instant i (length levels + l.quiet i levels)
