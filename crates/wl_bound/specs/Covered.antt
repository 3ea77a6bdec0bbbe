-- The plans that the law on one sender covers, if their clocks have one rate each. This project's.
use Rattle.std.specs.Prelude.{ℕ, ◌==◌, ◌&&◌, ◌||◌, nat_lt, not, Bool, false, length, if◌then◌else◌}
use Rattle.std.specs.Option.{is_some}
use Rattle.wl_topology.specs.Driven.{any_below}
use Rattle.wl_plan.specs.declared.plan.Plan.{Plan}
use Rattle.wl_plan.specs.PlanLine.{setup_at}
use Rattle.wl_bound.specs.Families.{only_listens}
use Rattle.wl_bound.specs.Verdicts.{idle_at, is_ready_from}

-- some other node isn't idle yet when the first frame of node i becomes ready
abbrev pub finds_one_busy : Plan → ℕ → Bool
finds_one_busy plan i =
    any_below (length plan.nodes)
    (λ j. not (j == i) && not (is_ready_from (setup_at plan i) (setup_at plan i).queue (idle_at (setup_at plan j))))

-- the node leaves the bus at some quantum
abbrev pub leaves : Plan → ℕ → Bool
leaves plan i = is_some (setup_at plan i).until

-- a node for the sake of which the law says nothing of the plan
abbrev pub is_uncovered : Plan → ℕ → Bool
is_uncovered plan i = only_listens plan.topology i || (leaves plan i || finds_one_busy plan i)

-- two nodes or more, none of which is so, and no disturbance
abbrev pub is_covered : Plan → Bool
is_covered plan =
    if nat_lt (length plan.nodes) 2 || nat_lt 0 (length plan.disturbances) then false
    else not (any_below (length plan.nodes) (is_uncovered plan))

-- two nodes or more, none of which only listens: so the law covers plans of these nodes, whatever their frames
abbrev pub all_speak : Plan → Bool
all_speak plan = if nat_lt (length plan.nodes) 2 then false else not (any_below (length plan.nodes) (only_listens plan.topology))
