-- How many changes of a node the plan's end leaves room for. This project's profile; bit time and sample point by Bosch CAN 2.0, part B, section 10.
use Rattle.std.specs.Prelude.{ℕ, suc, ◌+◌, ◌/◌, ◌<◌, ◌≤◌, length}
use Rattle.wl_segments.specs.Lengths.{least_way}
use Rattle.wl_plan.specs.declared.plan.Plan.{Plan}
use Rattle.wl_plan.specs.PlanLine.{line_of, setup_at, table_of}
use Rattle.wl_plan.specs.Simulation.{AreInside}
use Rattle.wl_plan.specs.Checked.{IsChecked}

-- the most changes of node i, where k of its quanta begin before the end: one for each least way from a bit's start to its sample, and one more
abbrev pub most_changes : Plan → ℕ → ℕ → ℕ
most_changes plan i k = k / suc (least_way (setup_at plan i).segments) + 1

-- a node whose first k quanta, and no more, begin before the end has no more changes than that
abbrev pub ChangesAreFew : Type 0
ChangesAreFew = (plan : Plan) → IsChecked plan → (i k : ℕ) → i < length plan.nodes → AreInside (line_of plan) i k
    → plan.end ≤ (line_of plan).instant i k → length (table_of plan i) ≤ most_changes plan i k
