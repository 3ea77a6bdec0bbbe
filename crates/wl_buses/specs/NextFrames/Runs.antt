-- A node that goes from frame to frame.
use Rattle.std.specs.Prelude.{ℕ, zero, suc, ◌<◌}
use Rattle.wl_level.specs.declared.Level.{Level}
use Rattle.wl_node.specs.declared.setup.NodeSetup.{NodeSetup}
use Rattle.wl_node.specs.History.{History, unsent_of}
use Rattle.wl_buses.specs.BothProofs.Queues.{head_at}
use Rattle.wl_buses.specs.OneFrame.Stations.{Stations}
use Rattle.wl_buses.specs.FrameEnd.Rests.{waiting_frame}
use Rattle.wl_buses.specs.NextFrames.Frames.{AreInOrder, FollowOneAnother, Frame, frames_in_order, resting_of, third_sample}
use Rattle.wl_buses.specs.NextFrames.NextNodes.{GoesThrough, HandsNext}

-- After each frame but the last a node is handed what the next one asks, by its queue as it is then.
abbrev pub HandsInOrder : (s : Stations) (frames : ℕ → Frame) (count : ℕ) → AreInOrder s frames count → (i : ℕ) → NodeSetup → (node : ℕ → History) → Type 0
HandsInOrder s frames count are i setup node =
    (n : ℕ) (less : suc n < count)
    → HandsNext (resting_of s (frames n) (frames (suc n)) (are.next n less)) i (waiting_frame setup (node (third_sample s (frames n) i))) (head_at setup (unsent_of setup (node (suc (third_sample s (frames n) i)))))

abbrev pub HandsBetween : (s : Stations) (frames : ℕ → Frame) (count : ℕ) → FollowOneAnother s frames count → (i : ℕ) → NodeSetup → (node : ℕ → History) → Type 0
HandsBetween s frames count are i setup node = HandsInOrder s frames count (frames_in_order s frames count are) i setup node

-- since when it has driven nothing before a frame: since the third bit of the intermission of the one before
abbrev pub quiet_by : Stations → (frames : ℕ → Frame) → (i first : ℕ) → ℕ → ℕ
quiet_by s frames i first zero = first
quiet_by s frames i first (suc n) = third_sample s (frames n) i

-- It goes through one of the frames as is expected.
abbrev pub GoesThroughInOrder : (s : Stations) (frames : ℕ → Frame) (count : ℕ) → AreInOrder s frames count → (i first : ℕ) → NodeSetup → (levels : ℕ → Level) → (node : ℕ → History) → (n : ℕ) → n < count → Type 0
GoesThroughInOrder s frames count are i first setup levels node n less =
    GoesThrough s (frames n).outset (frames n).bits (are.each n less).won.station i (are.each n less).won.frame setup levels node (quiet_by s frames i first n)

abbrev pub GoesThroughOne : (s : Stations) (frames : ℕ → Frame) (count : ℕ) → FollowOneAnother s frames count → (i first : ℕ) → NodeSetup → (levels : ℕ → Level) → (node : ℕ → History) → (n : ℕ) → n < count → Type 0
GoesThroughOne s frames count are i first setup levels node n less = GoesThroughInOrder s frames count (frames_in_order s frames count are) i first setup levels node n less
