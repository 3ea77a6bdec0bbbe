-- How long the frames on the bus of a plan wait.
use Rattle.std.specs.Prelude.{◌≡◌, ℕ, ◌+◌, ◌*◌, ◌<◌, ◌≤◌, length}
use Rattle.wl_node.specs.declared.setup.Queued.{Queued}
use Rattle.wl_plan.specs.declared.plan.Plan.{Plan}
use Rattle.wl_plan.specs.PlanLine.{line_of, setup_at}
use Rattle.wl_plan.specs.Simulation.{AreInside}
use Rattle.wl_buses.specs.BothProofs.Queues.{IsFifo}
use Rattle.wl_buses.specs.OneFrame.Expected.{expected_sample}
use Rattle.wl_buses.specs.OneFrame.Stations.{Stations}
use Rattle.wl_buses.specs.FrameEnd.Rests.{passing_bit}
use Rattle.wl_buses.specs.SentFrames.Winners.{won_by}
use Rattle.wl_buses.specs.CleanPlans.Clean.{AllGetThrough, plan_history}
use Rattle.wl_buses.specs.CleanPlans.PlanFrames.{FramesOfPlan}
use Rattle.wl_buses.specs.FrameTimes.Times.{Times}
use Rattle.wl_buses.specs.BoundedWaits.Leaving.{ready_won}
use Rattle.wl_buses.specs.BoundedWaits.Messages.{Messages}

-- The winner of a frame has won so many before it. That is the place of the frame in a queue that is first in, first out.
abbrev pub turn_of : (plan : Plan) (s : Stations) → FramesOfPlan plan s → ℕ → ℕ
turn_of plan s bus n = won_by bus.by.winner (bus.by.winner n) n

-- the quantum of its winner from which on it is ready, and that of the sample with which it is sent
abbrev pub ready_quantum : (plan : Plan) (s : Stations) → FramesOfPlan plan s → ℕ → ℕ
ready_quantum plan s bus n = ready_won s (setup_at plan) bus.frames bus.by.winner bus.by.content n

abbrev pub sent_quantum : (plan : Plan) (s : Stations) → FramesOfPlan plan s → ℕ → ℕ
sent_quantum plan s bus n =
    expected_sample s (bus.frames n).outset (passing_bit (bus.frames n).bits (bus.by.winner n) (bus.by.winner n)) (bus.by.winner n)

-- No frame waits longer than r of its message, in units of time: its quanta from the one to the other take no longer by its winner's clock.
abbrev pub WaitNoLonger : (plan : Plan) (s : Stations) → FramesOfPlan plan s → Times → Messages → (r : ℕ → ℕ) → Type 0
WaitNoLonger plan s bus t ms r = (n : ℕ) → n < bus.count
    → t.unit * (sent_quantum plan s bus n * (s.clocks (bus.by.winner n)).num)
    ≤ t.unit * (ready_quantum plan s bus n * (s.clocks (bus.by.winner n)).num)
    + r (ms.of (bus.by.winner n) (bus.by.content n)) * (s.clocks (bus.by.winner n)).den

-- So it is in quanta of the winner, each of `shortest` units at least.
abbrev pub WaitInQuanta : (plan : Plan) (s : Stations) → FramesOfPlan plan s → Messages → (shortest r : ℕ → ℕ) → Type 0
WaitInQuanta plan s bus ms shortest r = (n : ℕ) → n < bus.count
    → sent_quantum plan s bus n * shortest (bus.by.winner n)
    ≤ ready_quantum plan s bus n * shortest (bus.by.winner n) + r (ms.of (bus.by.winner n) (bus.by.content n))

-- And if a node has been for longer than that after its frame was ready, up to the end of the plan, the frame has passed it.
abbrev pub PassInTime : (plan : Plan) (s : Stations) → AllGetThrough plan s → Messages → (shortest r : ℕ → ℕ) → Type 0
PassInTime plan s all ms shortest r = (n k : ℕ) → n < all.bus.count → AreInside (line_of plan) (all.bus.by.winner n) k
    → ready_quantum plan s all.bus n * shortest (all.bus.by.winner n) + r (ms.of (all.bus.by.winner n) (all.bus.by.content n)) < k * shortest (all.bus.by.winner n)
    → n < length (plan_history plan (all.bus.by.winner n) k).frames

-- Entry a of the queue of node i is one of these frames. In a queue that is first in, first out, it has its turn.
pub record IsOnBus (plan : Plan) (s : Stations) (bus : FramesOfPlan plan s) (i a : ℕ) (entry : Queued) : Type 0 where
  pub frame : ℕ
  pub inside : frame < bus.count
  pub winner : bus.by.winner frame ≡ i
  pub content : bus.by.content frame ≡ entry.frame
  pub ready : ready_quantum plan s bus frame ≡ entry.ready
  pub turn : IsFifo (setup_at plan i) → turn_of plan s bus frame ≡ a
