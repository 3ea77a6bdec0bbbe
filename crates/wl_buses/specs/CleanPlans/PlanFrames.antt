-- The frames on the bus of a plan, from the power-up of all nodes on.
use Rattle.std.specs.Prelude.{◌≡◌, ◌⊎◌, ℕ, zero, suc, ◌<◌, length}
use Rattle.wl_plan.specs.declared.plan.Plan.{Plan}
use Rattle.wl_plan.specs.PlanLine.{setup_at}
use Rattle.wl_buses.specs.OneFrame.Stations.{Stations}
use Rattle.wl_buses.specs.NextFrames.Frames.{FollowOneAnother, Frame, resting_of}
use Rattle.wl_buses.specs.NextFrames.NextStarts.{decision_next}
use Rattle.wl_buses.specs.FirstFrame.FirstFrames.{outset_of, queues_of, waiting_of}
use Rattle.wl_buses.specs.FirstFrame.FirstStarts.{decision_quantum}
use Rattle.wl_buses.specs.SentFrames.Sending.{ByQueues}
use Rattle.wl_buses.specs.SentFrames.Winners.{won_by}

-- The first of the frames is begun by the nodes as they wait for it, and each other one as they rest after the one before. Who begins it, when and with which bits is computed (`outset_of`,
-- `outset_next`). A node decides with the first sample by which its queue hands it a frame, if it has sent those that it has won (this project's profile).
pub record FramesOfPlan (plan : Plan) (s : Stations) : Type 0 where
  pub frames : ℕ → Frame
  pub count : ℕ
  pub some : 0 < count
  pub are : FollowOneAnother s frames count
  pub first : (frames 0).outset ≡ outset_of plan (queues_of plan) s
  pub by : ByQueues s (setup_at plan) frames count are

-- the quantum by which the winner of a frame has decided on it
abbrev pub plan_decision_of : (plan : Plan) (s : Stations) (bus : FramesOfPlan plan s) → (n : ℕ) → n < bus.count → ℕ
plan_decision_of plan s bus zero less = decision_quantum (waiting_of plan (queues_of plan) s) (bus.by.winner 0)
plan_decision_of plan s bus (suc n) less = decision_next (resting_of s (bus.frames n) (bus.frames (suc n)) (bus.are.next n less)) (bus.by.winner (suc n))

-- Every node has won with as many of them as its queue has frames: none is left.
abbrev pub EmptyAllQueues : (plan : Plan) (s : Stations) → FramesOfPlan plan s → Type 0
EmptyAllQueues plan s bus = (i : ℕ) → i < s.count → won_by bus.by.winner i bus.count ≡ length (setup_at plan i).queue

-- So many frames and one, or fewer if no node has one left.
pub record FirstFramesOfPlan (plan : Plan) (s : Stations) (most : ℕ) : Type 0 where
  pub bus : FramesOfPlan plan s
  pub ends : (bus.count ≡ suc most) ⊎ EmptyAllQueues plan s bus
