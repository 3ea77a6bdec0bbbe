-- What comes to a node comes soon or never.
use Rattle.std.proofs.Common.{ℕ, ◌≡◌, ◌<◌, ◌≤◌, ◌==◌, Bool, true, false, length, Option, Some, None, refl, arith}
use Rattle.wl_topology.specs.Delays.{Cable, IsTopology, place_at, local_delay}
use Rattle.wl_topology.specs.Limits.{never}
use Rattle.wl_plan.specs.declared.plan.Plan.{Plan}
use Rattle.wl_plan.specs.PlanLine.{delay_from}
use Rattle.wl_plan.specs.Checked.{IsNear}

local_near : (cable : Cable) (n j : ℕ) → IsTopology cable → j < length cable.places → (b : Bool) → (n == j) ≡ b → local_delay cable n j ≤ never
local_near cable n j is below true e =
    let short = is.short j j below below in
    let here : local_delay cable n j ≡ (place_at cable j).in_delay = cc in
    omega (arith, short, here)
local_near cable n j is below false e =
    let here : local_delay cable n j ≡ never = cc in
    omega (arith, here)

pub near_by : (plan : Plan) (node : Option ℕ) (x j : ℕ) → IsTopology plan.topology → length plan.nodes ≡ length plan.topology.places → j < length plan.nodes
    → IsNear plan node x → delay_from plan.topology node x j ≤ never
near_by plan None x j is placed below near = let e = near j below in omega (arith, e)
near_by plan (Some n) x j is placed below near = local_near plan.topology n j is (omega (arith, placed, below)) _ refl
