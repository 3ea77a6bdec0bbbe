-- A line whose nodes go to the end of a frame.
use Rattle.std.specs.Prelude.{◌≡◌, ℕ, zero, suc, min, ◌+◌, ◌<◌}
use Rattle.wl_level.specs.declared.Level.{Level}
use Rattle.wl_frame.specs.Grammar.{Content}
use Rattle.wl_segments.specs.Lengths.{bit_quanta}
use Rattle.wl_phase.specs.Clocks.{steady_tick}
use Rattle.wl_node.specs.declared.setup.NodeSetup.{NodeSetup}
use Rattle.wl_node.specs.History.{staying_history}
use Rattle.wl_plan.specs.Line.{Line}
use Rattle.wl_plan.specs.Simulation.{level, seen}
use Rattle.wl_buses.specs.OneFrame.Stations.{Stations}
use Rattle.wl_buses.specs.OneFrame.Expected.{Outset, expected_bits, expected_drove, expected_sample}
use Rattle.wl_buses.specs.OneFrame.Nodes.{IsInBit}
use Rattle.wl_buses.specs.OneFrame.Lines.{finds_expected, node_after}
use Rattle.wl_buses.specs.FrameEnd.Rests.{NodeEnds}

-- what a node finds up to the third bit of the intermission, and the node after it
abbrev pub finds_end : (l : Line) (s : Stations) (o : Outset) (end i : ℕ) → ℕ → Level
finds_end l s o end i = finds_expected l s o (end + 13) i

-- Up to a tick the nodes of a line drive what is expected up to the third bit of the intermission, and each is after its levels where those that are expected put it. So it has sampled each
-- bit as it is on the bus, found no error, and counted nothing. The frame has passed it, and with that bit it rests.
pub record LineEnds (l : Line) (setups : ℕ → NodeSetup) (s : Stations) (o : Outset) (end sender : ℕ) (frame : Content) (stop : ℕ) : Type 0 where
  pub drives : (i t : ℕ) → i < l.nodes → t < stop → level l i t ≡ expected_drove s o (end + 13) i t
  pub node : (i k : ℕ) → i < l.nodes → ((j : ℕ) → j < k → l.instant i j < stop) → staying_history (setups i) (seen l i k) ≡ node_after (setups i) (finds_end l s o end i) k
  pub bits : (i n : ℕ) → i < s.count → n < end + 12 → IsInBit s o i (finds_end l s o end i) (node_after (setups i) (finds_end l s o end i)) n
  pub ends : (i : ℕ) → i < s.count → NodeEnds s o end sender i frame (setups i) (finds_end l s o end i) (node_after (setups i) (finds_end l s o end i))

-- the quantum with which a station begins the bit after the third one of the intermission, and so may begin its next frame
abbrev pub next_due : Stations → Outset → (end i : ℕ) → ℕ
next_due s o end i = (expected_bits s o (end + 12)).place i + bit_quanta (s.lengths i)

-- the least of a number and n others
abbrev pub earliest_of : ℕ → (ℕ → ℕ) → ℕ → ℕ
earliest_of zero others own = own
earliest_of (suc n) others own = min (earliest_of n others own) (others n)

-- A tick up to which no next frame reaches a station: it begins none itself, and none comes from another one.
abbrev pub rests_until : Stations → Outset → (end i : ℕ) → ℕ
rests_until s o end i =
    earliest_of s.count (λ k. steady_tick (s.clocks k) (next_due s o end k) + s.delay k i) (steady_tick (s.clocks i) (next_due s o end i))

-- So it is on a line up to that tick of each node, and it has sampled the third bit of the intermission before: it rests, on the line too.
pub record LineRests (l : Line) (setups : ℕ → NodeSetup) (s : Stations) (o : Outset) (end sender : ℕ) (frame : Content) : Type 0 where
  pub drives : (i t : ℕ) → i < l.nodes → t < rests_until s o end i → level l i t ≡ expected_drove s o (end + 13) i t
  pub node : (i k : ℕ) → i < l.nodes → ((j : ℕ) → j < k → l.instant i j < rests_until s o end i)
      → staying_history (setups i) (seen l i k) ≡ node_after (setups i) (finds_end l s o end i) k
  pub in_time : (i : ℕ) → i < s.count → steady_tick (s.clocks i) (expected_sample s o (end + 12) i) < rests_until s o end i
  pub ends : (i : ℕ) → i < s.count → NodeEnds s o end sender i frame (setups i) (finds_end l s o end i) (node_after (setups i) (finds_end l s o end i))
