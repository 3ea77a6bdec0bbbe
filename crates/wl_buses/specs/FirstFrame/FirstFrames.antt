-- The first frame on the bus of a plan.
use Rattle.std.specs.Prelude.{◌≡◌, ◌≢◌, ℕ, ◌+◌, ◌<◌, true, List, [], ◌∷◌, Option, Some, None, slice_get}
use Rattle.wl_frame.specs.Grammar.{Content}
use Rattle.wl_plan.specs.declared.plan.Plan.{Plan}
use Rattle.wl_plan.specs.PlanLine.{line_of, setup_at}
use Rattle.wl_phase.specs.Clocks.{steady_tick}
use Rattle.wl_bound.specs.Verdicts.{has_frames, idle_at, is_ready_from}
use Rattle.wl_buses.specs.BothProofs.Queues.{decides_at, first_head, place_among, queued_contents, wakes_at}
use Rattle.wl_wire.specs.InStep.{AreSoundFrames}
use Rattle.wl_buses.specs.OneFrame.Stations.{Stations}
use Rattle.wl_buses.specs.OneFrame.Expected.{Outset, expected_bits}
use Rattle.wl_buses.specs.OneFrame.Ends.{HasStuffedBits}
use Rattle.wl_buses.specs.OneFrame.Lines.{DoesAsExpected, IsBeforeEnd}
use Rattle.wl_buses.specs.OneFrame.Machines.{HasWon}
use Rattle.wl_buses.specs.FirstFrame.FirstStarts.{Waiting, due_first, eleventh, first_outset}

-- the frames of each node's queue, and the one alone that the node decides on after its power-up, if there is one
abbrev pub queues_of : Plan → ℕ → List Content
queues_of plan i = queued_contents (setup_at plan i).queue

abbrev pub content_alone : Option Content → List Content
content_alone None = []
content_alone (Some frame) = frame ∷ []

abbrev pub first_frames_of : Plan → ℕ → List Content
first_frames_of plan i = content_alone (first_head (setup_at plan i))

-- where that is in a list
abbrev pub first_place_of : Plan → (queues : ℕ → List Content) → ℕ → ℕ
first_place_of plan queues i = place_among (first_head (setup_at plan i)) (queues i)

-- Lists of frames that have those on which the nodes of a plan decide first. Whole queues are such lists, and so are these frames alone.
abbrev pub BeginAsQueues : Plan → (queues : ℕ → List Content) → Type 0
BeginAsQueues plan queues = (i : ℕ) → slice_get (queues i) (first_place_of plan queues i) ≡ first_head (setup_at plan i)

-- the nodes of a plan, each with the frames that it may be handed
abbrev pub waiting_of : Plan → (queues : ℕ → List Content) → Stations → Waiting
waiting_of plan queues s = record {
  stations = s;
  frames = queues;
  which = first_place_of plan queues;
  decides = λ i. decides_at (setup_at plan i).segments (wakes_at (setup_at plan i) (setup_at plan i).queue);
}

-- Some node has frames. Those of any two differ in format, identifier or RTR bit, and each node that has some may send.
pub record HasFrames (plan : Plan) (queues : ℕ → List Content) (s : Stations) : Type 0 where
  pub begin : BeginAsQueues plan queues
  pub frames : AreSoundFrames s.count queues
  pub may : (i : ℕ) → i < s.count → has_frames (setup_at plan i) ≡ true → s.may_send i ≡ true
  pub some : (i : ℕ) × (i < s.count) × (has_frames (setup_at plan i) ≡ true)

-- Each node is idle when the first frame of any other becomes ready: it has counted the eleven bits that it waits for (Bosch CAN 2.0 part B, section 2, wake-up; ISO 11898-1, bus
-- integration).
abbrev pub AreIdleWhenReady : Plan → Stations → Type 0
AreIdleWhenReady plan s = (i k : ℕ) → i < s.count → k < s.count → i ≢ k → is_ready_from (setup_at plan k) (setup_at plan k).queue (idle_at (setup_at plan i)) ≡ true

-- And each node has its eleventh sample before the start of frame of any other would reach it, if that one begins when it is due on a silent line.
pub record HasFirstFrames (plan : Plan) (queues : ℕ → List Content) (s : Stations) : Type 0 where
  pub has : HasFrames plan queues s
  pub idle : (i k : ℕ) → i < s.count → k < s.count → i ≢ k → has_frames (setup_at plan k) ≡ true
      → steady_tick (s.clocks i) (eleventh (waiting_of plan queues s) i) < steady_tick (s.clocks k) (due_first (waiting_of plan queues s) k) + s.delay k i

-- the first frame on the bus of a plan, as its nodes begin it
abbrev pub outset_of : Plan → (queues : ℕ → List Content) → Stations → Outset
outset_of plan queues s = first_outset (waiting_of plan queues s)

-- It has so many bits up to the end of its CRC sequence, stuff bits among them. All nodes do what is expected up to a tick by which none has sampled more of them: they sample each bit as
-- it is on the bus, and find no error. One frame is left (Bosch CAN 2.0 part B, section 3.1, arbitration).
pub record GoesToItsCrc (plan : Plan) (queues : ℕ → List Content) (s : Stations) : Type 0 where
  pub bits : ℕ
  pub stuffed : HasStuffedBits s (outset_of plan queues s) bits
  pub does : (end : ℕ) → IsBeforeEnd (line_of plan) s (outset_of plan queues s) bits end
      → DoesAsExpected (line_of plan) (setup_at plan) s (outset_of plan queues s) bits end
  pub won : HasWon s (expected_bits s (outset_of plan queues s)) queues bits
