-- A line whose nodes go from frame to frame.
use Rattle.std.specs.Prelude.{◌≡◌, ℕ, suc, ◌<◌, ◌≤◌}
use Rattle.wl_level.specs.declared.Level.{Level}
use Rattle.wl_node.specs.declared.setup.NodeSetup.{NodeSetup}
use Rattle.wl_node.specs.History.{staying_history}
use Rattle.wl_phase.specs.Clocks.{steady_tick}
use Rattle.wl_plan.specs.Line.{Line}
use Rattle.wl_plan.specs.Simulation.{level, seen}
use Rattle.wl_buses.specs.BothProofs.Expected.{levels_found}
use Rattle.wl_buses.specs.OneFrame.Lines.{BeginsAfter, RestsBefore, finds_expected, node_after}
use Rattle.wl_buses.specs.OneFrame.Stations.{Stations}
use Rattle.wl_buses.specs.NextFrames.Frames.{FollowOneAnother, Frame, frames_drove, third_sample}
use Rattle.wl_buses.specs.NextFrames.Runs.{GoesThroughOne, HandsBetween}

-- what a node finds if all drive what is expected in all frames
abbrev pub finds_frames : (l : Line) (s : Stations) (frames : ℕ → Frame) (count i : ℕ) → ℕ → Level
finds_frames l s frames count i = levels_found l (frames_drove s frames count) i

-- Each node rests before the first frame, if it finds what all drive in that, and is handed the frames that are to come between two of them.
pub record BeginFrames (l : Line) (setups : ℕ → NodeSetup) (s : Stations) (frames : ℕ → Frame) (count : ℕ) (are : FollowOneAnother s frames count) : Type 0 where
  pub rest : ℕ → ℕ
  pub after : (i : ℕ) → i < s.count → BeginsAfter s (frames 0).outset i (rest i)
  pub rests : (i : ℕ) → i < s.count → RestsBefore s (frames 0).outset i (finds_expected l s (frames 0).outset (frames 0).bits i)
      (node_after (setups i) (finds_expected l s (frames 0).outset (frames 0).bits i)) (rest i)
  pub hands : (i : ℕ) → i < s.count → HandsBetween s frames count are i (setups i) (node_after (setups i) (finds_frames l s frames count i))

-- the tick with which the first of the stations has sampled the third bit of the intermission of the last frame, or an earlier one before the line's end
pub record IsBeforeLast (l : Line) (s : Stations) (frames : ℕ → Frame) (count stop : ℕ) : Type 0 where
  pub inside : stop ≤ l.stop
  pub sampled : (i n : ℕ) → i < s.count → suc n ≡ count → stop ≤ steady_tick (s.clocks i) (suc (third_sample s (frames n) i))

-- Up to this tick the nodes drive what is expected in all frames, and each is after its levels where those that are expected put it. So it goes through frame after frame: it samples every bit
-- as it is on the bus, finds no error, and has sent each frame with which it has won, and received each other one.
pub record LineGoes (l : Line) (setups : ℕ → NodeSetup) (s : Stations) (frames : ℕ → Frame) (count : ℕ) (are : FollowOneAnother s frames count) (stop : ℕ) : Type 0 where
  pub drives : (i t : ℕ) → i < l.nodes → t < stop → level l i t ≡ frames_drove s frames count i t
  pub node : (i k : ℕ) → i < l.nodes → ((j : ℕ) → j < k → l.instant i j < stop) → staying_history (setups i) (seen l i k) ≡ node_after (setups i) (finds_frames l s frames count i) k
  pub goes : (i n : ℕ) (less : n < count) → i < s.count
      → GoesThroughOne s frames count are i 0 (setups i) (finds_frames l s frames count i) (node_after (setups i) (finds_frames l s frames count i)) n less
