-- A line that is silent for a while, whatever was on it before, and what it does then.
use Rattle.std.specs.Prelude.{◌≡◌, ℕ, suc, ◌+◌, ◌-◌, ◌*◌, ◌<◌, ◌≤◌, false, true, List, [], length, None}
use Rattle.wl_level.specs.declared.Level.{Level}
use Rattle.wl_level.specs.Levels.{is_dominant}
use Rattle.wl_confine.specs.declared.Mode.TheVariants.{Active}
use Rattle.wl_confine.specs.Counts.{mode_of}
use Rattle.wl_level.specs.declared.Level.TheVariants.{Recessive}
use Rattle.wl_segments.specs.Lengths.{Lengths, bit_quanta, sample_at}
use Rattle.wl_machine.specs.Judged.{stretch_of}
use Rattle.wl_node.specs.declared.setup.NodeSetup.{NodeSetup}
use Rattle.wl_node.specs.History.{History, counters_of, staying_history, unsent_of}
use Rattle.wl_phase.specs.Clocks.{steady_tick}
use Rattle.wl_phase.specs.InStep.{seen_before}
use Rattle.wl_phase.specs.Ways.{sample_way}
use Rattle.wl_plan.specs.Line.{Line}
use Rattle.wl_plan.specs.Simulation.{AreInside, level}
use Rattle.wl_plan.specs.Sound.{IsCausal}
use Rattle.wl_wire.specs.InStep.{AreSoundFrames}
use Rattle.wl_heal.specs.Silence.{is_off}
use Rattle.wl_buses.specs.BothProofs.Expected.{levels_found}
use Rattle.wl_buses.specs.BothProofs.Queues.{head_at, queued_contents}
use Rattle.wl_buses.specs.OneFrame.Lines.{node_after}
use Rattle.wl_buses.specs.OneFrame.Nodes.{IsRun, clock_sees}
use Rattle.wl_buses.specs.OneFrame.Stations.{Stations}
use Rattle.wl_buses.specs.CleanLines.Lines.{LineGetsThrough, line_history, waiting_with}
use Rattle.wl_silence.specs.Restarts.{GoesOnAs, line_since, setup_since, stations_since}

-- The nodes of a line are these stations. Nothing disturbs them from the tick `from` up to the end of the line.
pub record IsLineOfSince (l : Line) (setups : ℕ → NodeSetup) (s : Stations) (from : ℕ) : Type 0 where
  pub causal : IsCausal l
  pub nodes : s.count ≡ l.nodes
  pub drives : (i : ℕ) (levels : List Level) → i < l.nodes → l.drives i levels ≡ is_dominant (staying_history (setups i) levels).drive
  pub ticks : (i k : ℕ) → i < l.nodes → l.instant i k ≡ steady_tick (s.clocks i) k
  pub segments : (i : ℕ) → i < l.nodes → (setups i).segments ≡ s.lengths i
  pub delays : (i k : ℕ) → i < l.nodes → k < l.nodes → s.delay i k ≡ l.delay i k
  pub undisturbed : (i t : ℕ) → i < l.nodes → from ≤ t → t < l.stop → l.disturbed i t ≡ false

-- So many bits of each node are in the silence: two up to its first sample, 32 that leave the bus idle to it, and two for a start of frame that doesn't come (Bosch CAN 2.0 part B, sections 2 and 3.2). In eleven of these
-- a node that powers up may join.
abbrev pub silence_bits : ℕ
silence_bits = 36

-- A node in a silence from its quantum `first` on: it sees recessive in all these bits. It drives nothing up to the last one, and is on the bus and error active.
pub record IsSilentNode (setup : NodeSetup) (levels : ℕ → Level) (node : ℕ → History) (first : ℕ) : Type 0 where
  pub silent : (q : ℕ) → first ≤ q → q ≤ first + silence_bits * bit_quanta setup.segments → levels q ≡ Recessive
  pub drives : (q : ℕ) → first ≤ q → q ≤ first + (silence_bits - 1) * bit_quanta setup.segments → (node (suc q)).drive ≡ Recessive
  pub active : (q : ℕ) → first ≤ q → q ≤ first + (silence_bits - 1) * bit_quanta setup.segments → mode_of (counters_of (node (suc q))) ≡ Active
  pub on : (q : ℕ) → first ≤ q → q ≤ first + (silence_bits - 1) * bit_quanta setup.segments → is_off (stretch_of (node (suc q)).inputs) ≡ false

-- the quantum with which the 24th bit of a node in a silence begins, from its first sample on: a bit after its first one comes the next sample at the latest
abbrev pub joins_at : NodeSetup → (levels : ℕ → Level) → (node : ℕ → History) → (first : ℕ) → ℕ
joins_at setup levels node first = first + sample_way setup.segments (seen_before (clock_sees levels node) (first + sample_at setup.segments)) + 23 * bit_quanta setup.segments

-- The sample of the eleventh bit of a node, counted from a bit of it on.
abbrev pub eleventh_of : Lengths → ℕ
eleventh_of l = 10 * bit_quanta l + sample_at l

-- After its quantum `end` a node goes on as any node that powers up at its quantum `at` with the frames that it hasn't sent by then, if this one sees recessive in its first eleven bits.
abbrev pub IsAsFresh : NodeSetup → (node : ℕ → History) → (at end : ℕ) → Type 0
IsAsFresh setup node at end =
    (levels : ℕ → Level) (fresh : ℕ → History) → IsRun (setup_since setup at (node (suc end))) levels fresh → ((q : ℕ) → q ≤ eleventh_of setup.segments → levels q ≡ Recessive)
    → GoesOnAs setup at (node (suc end)) (fresh (suc (eleventh_of setup.segments))) (node (suc end))

-- Nobody drives dominant from the tick `from` up to the tick `until`. From its quantum `first i` on node i is there, all that was driven before `from` has passed it, and so many of its bits fit before `until`.
-- In all of them it is on the bus and error active.
pub record IsSilentFor (l : Line) (setups : ℕ → NodeSetup) (from until : ℕ) (first : ℕ → ℕ) : Type 0 where
  pub inside : until ≤ l.stop
  pub quiet : (i t : ℕ) → i < l.nodes → from ≤ t → t < until → level l i t ≡ false
  pub over : (i k : ℕ) → i < l.nodes → k < l.nodes → from + l.delay k i ≤ l.instant i (first i)
  pub lasts : (i : ℕ) → i < l.nodes → l.instant i (first i + silence_bits * bit_quanta (setups i).segments) < until
  pub on : (i k : ℕ) → i < l.nodes → first i ≤ k → l.instant i k < until → is_off (stretch_of (line_history l setups i (suc k)).inputs) ≡ false
  pub active : (i k : ℕ) → i < l.nodes → first i ≤ k → l.instant i k < until → mode_of (counters_of (line_history l setups i (suc k))) ≡ Active

-- the quantum of each node at which the fresh one powers up, and the one after its eleventh sample
abbrev pub joins : Line → (setups : ℕ → NodeSetup) → (first : ℕ → ℕ) → ℕ → ℕ
joins l setups first i = joins_at (setups i) (levels_found l (level l) i) (node_after (setups i) (levels_found l (level l) i)) (first i)

abbrev pub after_eleventh : Line → (setups : ℕ → NodeSetup) → (first : ℕ → ℕ) → ℕ → ℕ
after_eleventh l setups first i = suc (joins l setups first i + eleventh_of (setups i).segments)

-- the fresh nodes, each with the frames that the other one hasn't sent by then, their line, and as stations
abbrev pub fresh_setups : Line → (setups : ℕ → NodeSetup) → (first : ℕ → ℕ) → ℕ → NodeSetup
fresh_setups l setups first i = setup_since (setups i) (joins l setups first i) (line_history l setups i (after_eleventh l setups first i))

abbrev pub fresh_line : Line → (setups : ℕ → NodeSetup) → (first : ℕ → ℕ) → Line
fresh_line l setups first = line_since l (fresh_setups l setups first) (joins l setups first)

abbrev pub fresh_stations : Line → (setups : ℕ → NodeSetup) → (first : ℕ → ℕ) → Stations → Stations
fresh_stations l setups first s = stations_since s (joins l setups first)

-- Nobody has a frame that is ready, up to the tick `until`: all nodes power up after the tick `from`, and in so many bits of each none is ready.
pub record NobodyIsReady (l : Line) (setups : ℕ → NodeSetup) (from until : ℕ) (bits : ℕ → ℕ) : Type 0 where
  pub inside : until ≤ l.stop
  pub later : (i k : ℕ) → i < l.nodes → k < l.nodes → from + l.delay k i ≤ l.instant i 0
  pub long : (i : ℕ) → i < l.nodes → until ≤ l.instant i (bits i * bit_quanta (setups i).segments + sample_at (setups i).segments)
  pub none : (i n : ℕ) → i < l.nodes → 10 ≤ n → n ≤ bits i → head_at (setups i) (setups i).queue (n * bit_quanta (setups i).segments + sample_at (setups i).segments) ≡ None

-- and that lasts for a silence
pub record WaitsForFrames (l : Line) (setups : ℕ → NodeSetup) (from until : ℕ) (bits : ℕ → ℕ) : Type 0 where
  pub unready : NobodyIsReady l setups from until bits
  pub lasts : (i : ℕ) → i < l.nodes → l.instant i (silence_bits * bit_quanta (setups i).segments) < until

-- A node has a frame left after its eleventh bit in the silence.
abbrev pub HasFramesLeft : Line → (setups : ℕ → NodeSetup) → (first : ℕ → ℕ) → ℕ → Type 0
HasFramesLeft l setups first i = 0 < length (unsent_of (setups i) (line_history l setups i (after_eleventh l setups first i)))

-- No node has one left.
abbrev pub HaveNoFramesLeft : Line → (setups : ℕ → NodeSetup) → (first : ℕ → ℕ) → Type 0
HaveNoFramesLeft l setups first = (i : ℕ) → i < l.nodes → unsent_of (setups i) (line_history l setups i (after_eleventh l setups first i)) ≡ []

-- Frames of two nodes differ in format, identifier or RTR bit, and a node with frames may send. After the silence some node has one left.
pub record HaveFramesLeft (l : Line) (setups : ℕ → NodeSetup) (s : Stations) (first : ℕ → ℕ) : Type 0 where
  pub frames : AreSoundFrames s.count (λ i. queued_contents (setups i).queue)
  pub none : (i : ℕ) → s.count ≤ i → (setups i).queue ≡ []
  pub may : (i : ℕ) → i < s.count → 0 < length (setups i).queue → s.may_send i ≡ true
  pub some : (i : ℕ) × (i < s.count) × HasFramesLeft l setups first i

-- The line is clean since the silence. The fresh nodes power up in it, each at a quantum of the other one, and all frames of theirs get through. What these drive is what is on the line. From the eleventh sample on
-- each node is where its fresh one puts it.
pub record IsCleanSince (l : Line) (setups : ℕ → NodeSetup) (s : Stations) (from : ℕ) (first : ℕ → ℕ) : Type 0 where
  pub late : (i : ℕ) → i < l.nodes → first i ≤ joins l setups first i
  pub soon : (i : ℕ) → i < l.nodes → after_eleventh l setups first i ≤ first i + silence_bits * bit_quanta (setups i).segments
  pub through : LineGetsThrough (fresh_line l setups first) (fresh_setups l setups first) (waiting_with (fresh_setups l setups first) (fresh_stations l setups first s))
  pub drives : (i t : ℕ) → i < l.nodes → from ≤ t → t < l.stop → level l i t ≡ level (fresh_line l setups first) i t
  pub goes : (i k : ℕ) → i < l.nodes → eleventh_of (setups i).segments < k → AreInside (fresh_line l setups first) i k
      → GoesOnAs (setups i) (joins l setups first i) (line_history l setups i (after_eleventh l setups first i)) (line_history (fresh_line l setups first) (fresh_setups l setups first) i k)
      (line_history l setups i (joins l setups first i + k))
