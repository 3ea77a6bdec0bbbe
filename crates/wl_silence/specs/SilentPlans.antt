-- A plan whose disturbances have passed.
use Rattle.std.specs.Prelude.{◌≡◌, ℕ, ◌<◌, ◌≤◌, false, [], length}
use Rattle.wl_plan.specs.declared.plan.Plan.{Plan}
use Rattle.wl_plan.specs.PlanLine.{disturbed}

-- No disturbance is at any node from this tick up to the end of the plan.
abbrev pub NoneDisturbsSince : Plan → (from : ℕ) → Type 0
NoneDisturbsSince plan from = (i t : ℕ) → i < length plan.nodes → from ≤ t → t < plan.end → disturbed plan i t ≡ false

-- the plan without its disturbances
abbrev pub undisturbed_plan : Plan → Plan
undisturbed_plan plan = record plan { disturbances = [] }
