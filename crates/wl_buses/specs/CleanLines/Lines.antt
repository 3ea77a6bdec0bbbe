-- A line on which all frames get through, whenever it ends.
use Rattle.std.specs.Prelude.{◌≡◌, ◌⊎◌, ℕ, zero, suc, ◌<◌, ◌≤◌, length, Some, slice_get}
use Rattle.wl_confine.specs.Counts.{no_counts}
use Rattle.wl_node.specs.declared.setup.NodeSetup.{NodeSetup}
use Rattle.wl_node.specs.History.{History, counters_of, error_count, staying_history, unsent_of}
use Rattle.wl_plan.specs.Line.{Line}
use Rattle.wl_plan.specs.Simulation.{AreInside, seen}
use Rattle.wl_buses.specs.BothProofs.Queues.{ComeFrom, IsFifo, decides_at, first_head, head_at, place_among, queued_contents, wakes_at}
use Rattle.wl_buses.specs.OneFrame.Lines.{IsLineOf}
use Rattle.wl_buses.specs.OneFrame.Stations.{Stations}
use Rattle.wl_buses.specs.FirstFrame.FirstStarts.{AreIdle, HandTheFirst, Waiting, decision_quantum, first_outset}
use Rattle.wl_buses.specs.NextFrames.Frames.{FollowOneAnother, Frame, resting_of}
use Rattle.wl_buses.specs.NextFrames.NextStarts.{decision_next}
use Rattle.wl_buses.specs.NextFrames.Lines.{IsBeforeLast, LineGoes}
use Rattle.wl_buses.specs.SentFrames.Sending.{ByQueues, unsent_with}
use Rattle.wl_buses.specs.SentFrames.Winners.{passed_with, won_by}
use Rattle.wl_buses.specs.CleanPlans.Clean.{sent_contents}
use Rattle.wl_buses.specs.FrameTimes.Times.{passing_sample}

-- the nodes have the segments of these stations
abbrev pub HaveSegments : (setups : ℕ → NodeSetup) → Stations → Type 0
HaveSegments setups s = (i : ℕ) → i < s.count → s.lengths i ≡ (setups i).segments

-- Stations that are such nodes wait for the first frame. Each decides to send by its queue (as `waiting_of` has it of a plan).
abbrev pub waiting_with : (setups : ℕ → NodeSetup) → Stations → Waiting
waiting_with setups s = record {
  stations = s;
  frames = λ i. queued_contents (setups i).queue;
  which = λ i. place_among (first_head (setups i)) (queued_contents (setups i).queue);
  decides = λ i. decides_at (setups i).segments (wakes_at (setups i) (setups i).queue);
}

-- The nodes of a line from their power-up on, as stations that wait for the first frame. Each is handed the frames of its queue (Bosch CAN 2.0 part B, section 2, wake-up).
pub record IsPoweredUp (l : Line) (setups : ℕ → NodeSetup) (w : Waiting) : Type 0 where
  pub line : IsLineOf l setups w.stations
  pub idle : AreIdle w
  pub hands : HandTheFirst w setups
  pub queues : (i : ℕ) → w.frames i ≡ queued_contents (setups i).queue

-- The first of the frames is begun by the nodes as they wait for it, and each other one as they rest after the one before. A node decides with the first sample by which its queue hands it a frame,
-- if it has sent those that it has won (this project's profile).
pub record FramesOfLine (setups : ℕ → NodeSetup) (w : Waiting) : Type 0 where
  pub frames : ℕ → Frame
  pub count : ℕ
  pub some : 0 < count
  pub are : FollowOneAnother w.stations frames count
  pub first : (frames 0).outset ≡ first_outset w
  pub by : ByQueues w.stations setups frames count are

-- the quantum by which the winner of a frame has decided on it
abbrev pub decision_of : (setups : ℕ → NodeSetup) (w : Waiting) (bus : FramesOfLine setups w) → (n : ℕ) → n < bus.count → ℕ
decision_of setups w bus zero less = decision_quantum w (bus.by.winner 0)
decision_of setups w bus (suc n) less = decision_next (resting_of w.stations (bus.frames n) (bus.frames (suc n)) (bus.are.next n less)) (bus.by.winner (suc n))

-- Every node has won with as many of them as its queue has frames: none is left.
abbrev pub EmptyEachQueue : (setups : ℕ → NodeSetup) (w : Waiting) → FramesOfLine setups w → Type 0
EmptyEachQueue setups w bus = (i : ℕ) → i < w.stations.count → won_by bus.by.winner i bus.count ≡ length (setups i).queue

-- So many frames and one, or fewer if no node has one left.
pub record FirstFramesOfLine (setups : ℕ → NodeSetup) (w : Waiting) (most : ℕ) : Type 0 where
  pub bus : FramesOfLine setups w
  pub ends : (bus.count ≡ suc most) ⊎ EmptyEachQueue setups w bus

-- a node of a line after its first k quanta: none leaves the bus
abbrev pub line_history : Line → (setups : ℕ → NodeSetup) → (i k : ℕ) → History
line_history l setups i k = staying_history (setups i) (seen l i k)

-- At each quantum of each node up to the end of the line, as on a plan (`AllGetThrough`):
pub record LineGetsThrough (l : Line) (setups : ℕ → NodeSetup) (w : Waiting) : Type 0 where
  pub bus : FramesOfLine setups w
  -- there was no error and nothing that counts,
  pub fine : (i k : ℕ) → i < w.stations.count → AreInside l i k → error_count (line_history l setups i k) ≡ 0
  pub counters : (i k : ℕ) → i < w.stations.count → AreInside l i k → counters_of (line_history l setups i k) ≡ no_counts
  -- what has passed the node are the first so many of these frames,
  pub passed : (i k : ℕ) → i < w.stations.count → AreInside l i k
      → (n : ℕ) × (n ≤ bus.count) × ((line_history l setups i k).frames ≡ passed_with w.stations bus.frames bus.by.winner bus.by.content i n)
  -- each with its sample of the bit that is computed,
  pub in_time : (i k n : ℕ) → i < w.stations.count → AreInside l i k → n < bus.count
      → passing_sample w.stations (bus.frames n) (bus.by.winner n) i < k → n < length (line_history l setups i k).frames
  -- and what it has sent and what its queue still has are the frames of its queue.
  pub sent : (i k : ℕ) → i < w.stations.count → AreInside l i k
      → ComeFrom (setups i) (sent_contents (line_history l setups i k).frames) (queued_contents (unsent_of (setups i) (line_history l setups i k)))
  -- The frame with which a node wins is the one that its queue handed it as it decided. If the queue is first in, first out, it is the next in its order.
  pub handed : (n : ℕ) (less : n < bus.count)
      → head_at (setups (bus.by.winner n)) (unsent_with w.stations setups bus.frames bus.by.winner bus.by.content (bus.by.winner n) n) (decision_of setups w bus n less) ≡ Some (bus.by.content n)
  pub order : (n : ℕ) → n < bus.count → IsFifo (setups (bus.by.winner n))
      → slice_get (queued_contents (setups (bus.by.winner n)).queue) (won_by bus.by.winner (bus.by.winner n) n) ≡ Some (bus.by.content n)
  -- All nodes drive and sample what is computed, up to the end of the line. The list ends after that, or as all queues are empty.
  pub goes : LineGoes l setups w.stations bus.frames bus.count bus.are l.stop
  pub ends : IsBeforeLast l w.stations bus.frames bus.count l.stop ⊎ EmptyEachQueue setups w bus
