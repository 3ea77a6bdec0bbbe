-- Frames that follow one another as the queues of nodes hand them, and what each node has sent of its queue.
use Rattle.std.specs.Prelude.{◌≡◌, ℕ, suc, ◌<◌, List, Some}
use Rattle.wl_frame.specs.Grammar.{Content}
use Rattle.wl_node.specs.declared.setup.NodeSetup.{NodeSetup}
use Rattle.wl_node.specs.declared.setup.Queued.{Queued}
use Rattle.wl_node.specs.History.{History, error_count}
use Rattle.wl_plan.specs.Line.{Line}
use Rattle.wl_buses.specs.BothProofs.Queues.{head_at, unsent_after}
use Rattle.wl_buses.specs.OneFrame.Lines.{node_after}
use Rattle.wl_buses.specs.OneFrame.Stations.{Stations}
use Rattle.wl_buses.specs.FirstFrame.Faults.{fault_count}
use Rattle.wl_buses.specs.NextFrames.Frames.{FollowOneAnother, Frame, resting_of, third_sample}
use Rattle.wl_buses.specs.NextFrames.Lines.{BeginFrames, finds_frames}
use Rattle.wl_buses.specs.NextFrames.Queues.{DecidesByQueue}
use Rattle.wl_buses.specs.NextFrames.Runs.{HandsBetween}
use Rattle.wl_buses.specs.SentFrames.Winners.{passed_with}

-- the frames of its queue that node i hasn't sent after the first n frames, if these have passed it
abbrev pub unsent_with : (s : Stations) (setups : ℕ → NodeSetup) (frames : ℕ → Frame) (winner : ℕ → ℕ) (content : ℕ → Content) (i n : ℕ) → List Queued
unsent_with s setups frames winner content i n = unsent_after (setups i) (passed_with s frames winner content i n)

-- Frames that follow one another, with the station that has won each and its frame. After each but the last every station decides by its queue, of which the frames are sent with which it has won
-- so far (this project's profile).
pub record ByQueues (s : Stations) (setups : ℕ → NodeSetup) (frames : ℕ → Frame) (count : ℕ) (are : FollowOneAnother s frames count) : Type 0 where
  pub winner : ℕ → ℕ
  pub content : ℕ → Content
  pub wins : (n : ℕ) (less : n < count) → (are.each n less).won.station ≡ winner n
  pub wins_with : (n : ℕ) (less : n < count) → (are.each n less).won.frame ≡ content n
  pub queues : (i n : ℕ) (less : suc n < count) → i < s.count
      → DecidesByQueue (resting_of s (frames n) (frames (suc n)) (are.next n less)) i (setups i) (unsent_with s setups frames winner content i (suc n))

-- Between two frames a node is handed what the next one asks. By the third bit of the intermission of each frame, and with it, all frames so far have passed it, sent or received, and no other. It
-- has found no error, and nothing else has happened to it that isn't fine.
pub record PassesAll (s : Stations) (setups : ℕ → NodeSetup) (frames : ℕ → Frame) (count : ℕ) (are : FollowOneAnother s frames count) (by : ByQueues s setups frames count are) (i : ℕ) (node : ℕ → History)
    : Type 0 where
  pub hands : HandsBetween s frames count are i (setups i) node
  pub third : (n : ℕ) → n < count → (node (third_sample s (frames n) i)).frames ≡ passed_with s frames by.winner by.content i (suc n)
  pub passed : (n : ℕ) → n < count → (node (suc (third_sample s (frames n) i))).frames ≡ passed_with s frames by.winner by.content i (suc n)
  pub fine : (n : ℕ) → n < count → error_count (node (suc (third_sample s (frames n) i))) ≡ 0
  pub faults : (n : ℕ) → n < count → fault_count (node (suc (third_sample s (frames n) i))) ≡ 0

-- So it is with each node of a line, if all drive what is expected in all frames, and each begins with the first frame. The frame of each winner is one that it was handed at some quantum of those
-- that it hadn't sent.
pub record LineSends (l : Line) (setups : ℕ → NodeSetup) (s : Stations) (frames : ℕ → Frame) (count : ℕ) (are : FollowOneAnother s frames count) (by : ByQueues s setups frames count are) : Type 0 where
  pub begins : BeginFrames l setups s frames count are
  pub passes : (i : ℕ) → i < s.count → PassesAll s setups frames count are by i (node_after (setups i) (finds_frames l s frames count i))
  pub order : (n : ℕ) → n < count → (quantum : ℕ) × (head_at (setups (by.winner n)) (unsent_with s setups frames by.winner by.content (by.winner n) n) quantum ≡ Some (by.content n))
