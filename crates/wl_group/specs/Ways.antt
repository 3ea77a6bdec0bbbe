-- How many ticks a level takes from each node of a plan to one of them. This project's profile.
use Rattle.std.specs.Prelude.{◌≡◌, ℕ, ◌<◌, ◌≤◌, List, length, slice_index_or}
use Rattle.wl_topology.specs.Limits.{never}
use Rattle.wl_plan.specs.declared.plan.Plan.{Plan}
use Rattle.wl_plan.specs.PlanLine.{line_of}

-- the way from node i, 0 where it is no node
abbrev pub way_in : List ℕ → ℕ → ℕ
way_in ways i = slice_index_or ways i 0

-- These are the ways to node j, none of them longer than that of what never comes.
pub record AreWays (plan : Plan) (j : ℕ) (ways : List ℕ) : Type 0 where
  pub each : (i : ℕ) → i < length plan.nodes → way_in ways i ≡ (line_of plan).delay i j
  pub short : (i : ℕ) → way_in ways i ≤ never
