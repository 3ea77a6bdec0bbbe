-- A line whose nodes begin a frame, as stations.
use Rattle.std.specs.Prelude.{◌≡◌, ℕ, suc, ◌+◌, ◌-◌, ◌<◌, ◌≤◌, true, false, List, Some}
use Rattle.wl_level.specs.declared.Level.{Level}
use Rattle.wl_level.specs.declared.Level.TheVariants.{Recessive}
use Rattle.wl_level.specs.Levels.{is_dominant, level_of}
use Rattle.wl_confine.specs.Counts.{counts_of, no_counts}
use Rattle.wl_segments.specs.Lengths.{bit_quanta, sample_at}
use Rattle.wl_sync.specs.Running.{clock_after}
use Rattle.wl_sync.specs.Skips.{steady_clock}
use Rattle.wl_machine.specs.Frames.{stuffed_end}
use Rattle.wl_machine.specs.Judged.{stretch_of}
use Rattle.wl_node.specs.declared.setup.NodeSetup.{NodeSetup}
use Rattle.wl_node.specs.History.{History, staying_history}
use Rattle.wl_phase.specs.Clocks.{steady_tick}
use Rattle.wl_phase.specs.InStep.{seen_before}
use Rattle.wl_plan.specs.Line.{Line}
use Rattle.wl_plan.specs.Simulation.{level, seen}
use Rattle.wl_plan.specs.Sound.{IsCausal}
use Rattle.wl_buses.specs.BothProofs.Expected.{levels_found}
use Rattle.wl_buses.specs.BothProofs.Levels.{levels_before}
use Rattle.wl_buses.specs.OneFrame.Stations.{Stations}
use Rattle.wl_buses.specs.OneFrame.Starts.{BeginsAlone, FollowsHard}
use Rattle.wl_buses.specs.OneFrame.Clocked.{SamplesBy}
use Rattle.wl_buses.specs.OneFrame.Expected.{Outset, expected_bits, expected_drove, expected_sample, wants}
use Rattle.wl_buses.specs.OneFrame.Machines.{HasTwoBits, HasWon, bus_levels}
use Rattle.wl_buses.specs.OneFrame.Nodes.{IsInBit, clock_sees}

-- The nodes of a line are these stations. Nothing disturbs them.
pub record IsLineOf (l : Line) (setups : ℕ → NodeSetup) (s : Stations) : Type 0 where
  pub causal : IsCausal l
  pub nodes : s.count ≡ l.nodes
  pub drives : (i : ℕ) (levels : List Level) → i < l.nodes → l.drives i levels ≡ is_dominant (staying_history (setups i) levels).drive
  pub ticks : (i k : ℕ) → i < l.nodes → l.instant i k ≡ steady_tick (s.clocks i) k
  pub segments : (i : ℕ) → i < l.nodes → (setups i).segments ≡ s.lengths i
  pub delays : (i k : ℕ) → i < l.nodes → k < l.nodes → s.delay i k ≡ l.delay i k
  pub undisturbed : (i t : ℕ) → i < l.nodes → l.disturbed i t ≡ false

-- what a node finds if all drive as is expected of so many bits, and the node after those levels
abbrev pub finds_expected : (l : Line) (s : Stations) (o : Outset) (length i : ℕ) → ℕ → Level
finds_expected l s o length i = levels_found l (expected_drove s o length) i

abbrev pub node_after : (setup : NodeSetup) (levels : ℕ → Level) → ℕ → History
node_after setup levels q = staying_history setup (levels_before levels q)

-- A node that finds what is expected begins the frame as is expected: it has driven nothing before its start of frame, and has sampled that.
pub record BeginsAsExpected (l : Line) (setups : ℕ → NodeSetup) (s : Stations) (o : Outset) (length i : ℕ) : Type 0 where
  pub bit : IsInBit s o i (finds_expected l s o length i) (node_after (setups i) (finds_expected l s o length i)) 0
  pub before : (q : ℕ) → q ≤ (expected_bits s o 0).from i → (node_after (setups i) (finds_expected l s o length i) q).drive ≡ Recessive
  pub after : (q : ℕ) → (expected_bits s o 0).from i < q → q ≤ suc (expected_sample s o 0 i)
      → (node_after (setups i) (finds_expected l s o length i) q).drive ≡ level_of (wants s o 0 i)

-- the tick with which the first of the stations has sampled the last of so many bits, or an earlier one before the line's end
pub record IsBeforeEnd (l : Line) (s : Stations) (o : Outset) (length end : ℕ) : Type 0 where
  pub inside : end ≤ l.stop
  pub sampled : (i : ℕ) → i < s.count → end ≤ steady_tick (s.clocks i) (suc (expected_sample s o (length - 1) i))

-- Up to this tick the nodes drive what is expected, and each is after its levels where those that are expected put it: it samples each bit as it is on the bus, finds no error, and
-- counts nothing. If the stuffed part ends with these bits, one frame is left.
pub record DoesAsExpected (l : Line) (setups : ℕ → NodeSetup) (s : Stations) (o : Outset) (length end : ℕ) : Type 0 where
  pub drives : (i t : ℕ) → i < l.nodes → t < end → level l i t ≡ expected_drove s o length i t
  pub node : (i k : ℕ) → i < l.nodes → ((j : ℕ) → j < k → l.instant i j < end) → staying_history (setups i) (seen l i k) ≡ node_after (setups i) (finds_expected l s o length i) k
  pub bits : (i n : ℕ) → i < s.count → n < length → IsInBit s o i (finds_expected l s o length i) (node_after (setups i) (finds_expected l s o length i)) n
  pub won : stuffed_end (bus_levels s (expected_bits s o) length) ≡ Some length → HasWon s (expected_bits s o) o.frames length

-- A node rests before a frame: it has sampled a recessive bit with its place 0 at the quantum `rest`, and no edge has moved that bit. It has driven nothing so far, and nothing has counted.
pub record RestsBefore (s : Stations) (o : Outset) (i : ℕ) (levels : ℕ → Level) (node : ℕ → History) (rest : ℕ) : Type 0 where
  pub sampled : SamplesBy (s.lengths i) (clock_sees levels node) (rest + sample_at (s.lengths i)) Recessive
  pub clock : clock_after (s.lengths i) (seen_before (clock_sees levels node) (suc (rest + sample_at (s.lengths i)))) ≡ steady_clock (s.lengths i)
  pub stretch : stretch_of (node (suc (rest + sample_at (s.lengths i)))).inputs ≡ stretch_of (o.past i)
  pub over : ¬ HasTwoBits (stretch_of (o.past i))
  pub counts : counts_of (node (suc (rest + sample_at (s.lengths i)))).happened ≡ no_counts
  pub drive : (q : ℕ) → q ≤ suc (rest + sample_at (s.lengths i)) → (node q).drive ≡ Recessive

-- It begins the frame by itself a bit after that one, or by an edge that comes before its next sample, and if it is to send by the quantum with which its start of frame is due.
pub record BeginsAfter (s : Stations) (o : Outset) (i rest : ℕ) : Type 0 where
  pub alone : BeginsAlone s o.start i → o.start.due i ≡ rest + bit_quanta (s.lengths i)
  pub later : (f : FollowsHard s o.start i) → rest + sample_at (s.lengths i) < f.found
  pub inside : (f : FollowsHard s o.start i) → f.found ≤ rest + sample_at (s.lengths i) + bit_quanta (s.lengths i)
  pub in_time : (f : FollowsHard s o.start i) → o.start.drives i ≡ true → f.found ≤ rest + bit_quanta (s.lengths i)
