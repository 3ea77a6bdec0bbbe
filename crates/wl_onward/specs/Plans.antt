-- Plans that are one plan up to a tick (this project's profile).
use Rattle.std.specs.Prelude.{◌≡◌, ℕ, ◌<◌, ◌≤◌, List, ◌++◌, length, All}
use Rattle.wl_clock.specs.Timing.{Timing, tick_of}
use Rattle.wl_node.specs.declared.setup.NodeSetup.{NodeSetup}
use Rattle.wl_node.specs.declared.setup.Queued.{Queued}
use Rattle.wl_plan.specs.declared.plan.Plan.{Plan}
use Rattle.wl_plan.specs.PlanLine.{setup_at}

-- Each of these frames becomes ready at this tick or later.
abbrev pub AreReadyFrom : Timing → (until : ℕ) → List Queued → Type 0
AreReadyFrom clock until frames = All (λ q. until ≤ tick_of clock q.ready) frames

-- Two queues have the same first frames. All others of either one become ready at this tick or later.
pub record HaveFirstFrames (clock : Timing) (until : ℕ) (one other : List Queued) : Type 0 where
  pub first : List Queued
  pub later : List Queued
  pub others : List Queued
  pub of_one : one ≡ first ++ later
  pub of_other : other ≡ first ++ others
  pub later_ready : AreReadyFrom clock until later
  pub others_ready : AreReadyFrom clock until others

-- Two nodes have the same clock, segments and order of the queue, and leave the bus at the same quantum. Up to this tick the same frames are ready.
pub record IsNodeUpTo (until : ℕ) (one other : NodeSetup) : Type 0 where
  pub node : other ≡ record one { queue = other.queue }
  pub frames : HaveFirstFrames one.clock until one.queue other.queue

-- Two plans have the same cable, disturbances and nodes, but for frames that become ready at this tick or later. Neither ends before it.
pub record IsPlanUpTo (plan other : Plan) (until : ℕ) : Type 0 where
  pub cable : other.topology ≡ plan.topology
  pub disturbances : other.disturbances ≡ plan.disturbances
  pub count : length other.nodes ≡ length plan.nodes
  pub nodes : (i : ℕ) → i < length plan.nodes → IsNodeUpTo until (setup_at plan i) (setup_at other i)
  pub ends : until ≤ plan.end
  pub later : until ≤ other.end
