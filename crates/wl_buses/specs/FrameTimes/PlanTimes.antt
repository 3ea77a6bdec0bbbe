-- Frames that pass the nodes of a plan in time.
use Rattle.std.specs.Prelude.{ℕ, ◌+◌, ◌<◌, length}
use Rattle.wl_plan.specs.declared.plan.Plan.{Plan}
use Rattle.wl_plan.specs.PlanLine.{line_of}
use Rattle.wl_plan.specs.Simulation.{AreInside}
use Rattle.wl_buses.specs.OneFrame.Stations.{Stations}
use Rattle.wl_buses.specs.CleanPlans.Clean.{AllGetThrough, plan_history}
use Rattle.wl_buses.specs.FrameTimes.Times.{Times, start_place, tail_time, whole_instant}

-- A frame has passed node i by its quantum k if that comes later than the frame's tail after its winner's start of frame. So it is with each frame and each quantum up to the end of the plan.
abbrev pub PassByTheirTails : (plan : Plan) (s : Stations) (t : Times) → AllGetThrough plan s → Type 0
PassByTheirTails plan s t all =
    (i k n : ℕ) → i < s.count → AreInside (line_of plan) i k → n < all.bus.count
    → whole_instant t (s.clocks (all.bus.by.winner n)) (start_place s (all.bus.frames n) (all.bus.by.winner n)) + tail_time t (all.bus.frames n).bits < whole_instant t (s.clocks i) k
    → n < length (plan_history plan i k).frames
