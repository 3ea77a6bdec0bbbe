-- What the queue of a node hands it between two frames.
use Rattle.std.specs.Prelude.{◌≡◌, ℕ, suc, ◌+◌, ◌-◌, ◌<◌, List, slice_get}
use Rattle.std.specs.Int.{div_ceil}
use Rattle.wl_segments.specs.Lengths.{Lengths, bit_quanta, sample_at}
use Rattle.wl_node.specs.declared.setup.NodeSetup.{NodeSetup}
use Rattle.wl_node.specs.declared.setup.Queued.{Queued}
use Rattle.wl_node.specs.History.{History, unsent_of}
use Rattle.wl_buses.specs.BothProofs.Queues.{head_at, queued_contents, wakes_at}
use Rattle.wl_buses.specs.OneFrame.Stations.{Stations}
use Rattle.wl_buses.specs.NextFrames.Frames.{FollowOneAnother, Frame, resting_of, third_sample}
use Rattle.wl_buses.specs.NextFrames.NextStarts.{Resting, decision_next}

-- The bit with whose sample a node decides to send a frame that is ready from a quantum on: that with which it rests, whose place 0 is at a quantum `place`, or the first one after it by whose
-- sample the frame is ready (Bosch CAN 2.0 part B, section 3.2.5, bus idle).
abbrev pub decides_after : Lengths → (place ready : ℕ) → ℕ
decides_after l place ready = div_ceil (ready - (place + sample_at l)) (bit_quanta l)

-- One of the stations that rest is such a node: the frames are those of its queue, and it decides as it is handed one of those that it hasn't sent. If it has sent all it decides on none.
pub record DecidesByQueue (r : Resting) (i : ℕ) (setup : NodeSetup) (unsent : List Queued) : Type 0 where
  pub frames : r.frames i ≡ queued_contents setup.queue
  pub decides : r.decides i ≡ decides_after (r.stations.lengths i) (r.place i) (wakes_at setup unsent)
  pub which : slice_get (r.frames i) (r.which i) ≡ head_at setup unsent (decision_next r i)

-- So it is after each frame but the last, by what the node hasn't sent by its third bit of the intermission, and with it.
abbrev pub SendsByQueue : (s : Stations) (frames : ℕ → Frame) (count : ℕ) → FollowOneAnother s frames count → (i : ℕ) → NodeSetup → (node : ℕ → History) → Type 0
SendsByQueue s frames count are i setup node =
    (n : ℕ) (less : suc n < count)
    → DecidesByQueue (resting_of s (frames n) (frames (suc n)) (are.next n less)) i setup (unsent_of setup (node (third_sample s (frames n) i)))
    × (unsent_of setup (node (suc (third_sample s (frames n) i))) ≡ unsent_of setup (node (third_sample s (frames n) i)))
