-- A node that only listens on a line, from its power-up on. This project's.
use Rattle.std.specs.Prelude.{◌≡◌, ℕ, suc, ◌+◌, ◌<◌, ◌≤◌, false, List, [], length}
use Rattle.wl_level.specs.declared.Level.{Level}
use Rattle.wl_level.specs.Levels.{is_dominant}
use Rattle.wl_confine.specs.Counts.{no_counts}
use Rattle.wl_frame.specs.Grammar.{Content}
use Rattle.wl_node.specs.declared.setup.NodeSetup.{NodeSetup}
use Rattle.wl_node.specs.History.{History, counters_of, error_count, staying_history}
use Rattle.wl_phase.specs.Clocks.{steady_tick}
use Rattle.wl_plan.specs.Line.{Line}
use Rattle.wl_plan.specs.Simulation.{AreInside, level, seen}
use Rattle.wl_plan.specs.Sound.{IsCausal}
use Rattle.wl_buses.specs.OneFrame.Expected.{expected_sample}
use Rattle.wl_buses.specs.OneFrame.Stations.{Stations}
use Rattle.wl_buses.specs.NextFrames.Frames.{Frame, frames_drove}
use Rattle.wl_buses.specs.OneListener.Beside.{with_listener}
use Rattle.wl_buses.specs.OneListener.Frames.{received_with}

-- The last node of a line is the station after the last, and only listens (ISO 11898-1, bus monitoring). It has no frames to send. Nothing disturbs it.
pub record IsListenerOf (l : Line) (setup : NodeSetup) (s : Stations) : Type 0 where
  pub causal : IsCausal l
  pub nodes : l.nodes ≡ suc s.count
  pub drives : (levels : List Level) → l.drives s.count levels ≡ is_dominant (staying_history setup levels).drive
  pub ticks : (k : ℕ) → l.instant s.count k ≡ steady_tick (s.clocks s.count) k
  pub segments : setup.segments ≡ s.lengths s.count
  pub queue : setup.queue ≡ []
  pub delays : (k : ℕ) → k < suc s.count → l.delay k s.count ≡ s.delay k s.count
  pub undisturbed : (t : ℕ) → l.disturbed s.count t ≡ false

-- up to the line's end its other nodes drive what is expected in all frames
abbrev pub OthersDrive : (l : Line) (s : Stations) (frames : ℕ → Frame) (count : ℕ) → Type 0
OthersDrive l s frames count = (i t : ℕ) → i < s.count → t < l.stop → level l i t ≡ frames_drove s frames count i t

-- the last node of a line after its first k quanta
abbrev pub listener_history : (l : Line) (setup : NodeSetup) (s : Stations) (k : ℕ) → History
listener_history l setup s k = staying_history setup (seen l s.count k)

-- At each of its quanta up to the end of the line:
pub record ReceivesEach (l : Line) (setup : NodeSetup) (s : Stations) (frames : ℕ → Frame) (count : ℕ) (content : ℕ → Content) : Type 0 where
  -- there was no error and nothing that counts,
  pub fine : (k : ℕ) → AreInside l s.count k → error_count (listener_history l setup s k) ≡ 0
  pub counters : (k : ℕ) → AreInside l s.count k → counters_of (listener_history l setup s k) ≡ no_counts
  -- it has received the first so many of these frames, and nothing else has passed it,
  pub received : (k : ℕ) → AreInside l s.count k → (n : ℕ) × (n ≤ count) × ((listener_history l setup s k).frames ≡ received_with s frames content n)
  -- each with its sample of the last but one bit of the end of frame.
  pub in_time : (k n : ℕ) → AreInside l s.count k → n < count → expected_sample (with_listener s) (frames n).outset ((frames n).bits + 8) s.count < k
      → n < length (listener_history l setup s k).frames
