-- Nodes that rest after a frame, so that the next one may begin.
use Rattle.std.specs.Prelude.{◌≡◌, ◌≢◌, ℕ, suc, ◌+◌, ◌*◌, ◌<◌, ◌≤◌, List, [], ◌∷◌, ◌++◌}
use Rattle.wl_level.specs.declared.Level.{Level}
use Rattle.wl_level.specs.declared.Level.TheVariants.{Recessive}
use Rattle.wl_confine.specs.Counts.{counts_of, no_counts}
use Rattle.wl_segments.specs.Lengths.{sample_at}
use Rattle.wl_sync.specs.Running.{clock_after}
use Rattle.wl_sync.specs.Skips.{steady_clock}
use Rattle.wl_machine.specs.Stretch.{Input}
use Rattle.wl_machine.specs.Stretch.Input.{Sample}
use Rattle.wl_machine.specs.Judged.{stretch_of}
use Rattle.wl_node.specs.History.{History}
use Rattle.wl_phase.specs.InStep.{seen_before}
use Rattle.wl_wire.specs.Wire.{Handed, sampled}
use Rattle.wl_bound.specs.Families.{Bus}
use Rattle.wl_bound.specs.Rooms.{left_over}
use Rattle.wl_bound.specs.Terms.{drift, look}
use Rattle.wl_buses.specs.OneFrame.Answers.{gathered}
use Rattle.wl_buses.specs.OneFrame.Stations.{Stations, bit_drift, shared_quantum, shared_tick}
use Rattle.wl_buses.specs.OneFrame.Clocked.{SamplesBy}
use Rattle.wl_buses.specs.OneFrame.Machines.{HasTwoBits}
use Rattle.wl_buses.specs.OneFrame.Expected.{Outset, past_at}
use Rattle.wl_buses.specs.OneFrame.Nodes.{clock_sees}

-- what has reached the machine of station k with the third bit of the intermission, if it is handed this with it
abbrev pub past_end : Stations → Outset → (end : ℕ) → (handed : ℕ → Handed) → ℕ → List Input
past_end s o end handed k = past_at s o (end + 12) k ++ Sample (sampled Recessive (o.frames k) (handed k)) ∷ []

-- There is room for what twelve bits without an edge drift apart: so many are from the ACK slot to the next frame.
abbrev pub HasRoomToRest : Stations → (late : ℕ → ℕ → ℕ) → Type 0
HasRoomToRest s late = (i k : ℕ) → i < s.count → k < s.count → i ≢ k
    → late k i + 12 * bit_drift s i k + shared_tick s i k ≤ (s.delay k i + s.delay i k) * shared_tick s i k + (s.lengths i).ps2 * shared_quantum s i k

-- The inequality for that, of any two nodes of a bus as if both sent, wherever within its tolerance each clock lies.
abbrev pub LeavesRoomToRest : Bus → (chase : ℕ → ℕ) → Type 0
LeavesRoomToRest bus chase = (i k : ℕ) → i < bus.nodes → k < bus.nodes → i ≢ k
    → look bus k + gathered bus chase i k + left_over bus (gathered bus chase) i + 12 * drift bus i k + bus.tick ≤ (bus.lengths i).ps2 * bus.shortest i

-- A node rests, as before a first frame (`RestsBefore`): it has sampled a recessive bit with its place 0 at the quantum `rest`, and no edge has moved that bit. Its machine is where `past`
-- puts it, its intermission is over, nothing has counted, and it has driven nothing since a quantum.
pub record RestsAgain (s : Stations) (past : List Input) (i : ℕ) (levels : ℕ → Level) (node : ℕ → History) (rest since : ℕ) : Type 0 where
  pub sampled : SamplesBy (s.lengths i) (clock_sees levels node) (rest + sample_at (s.lengths i)) Recessive
  pub clock : clock_after (s.lengths i) (seen_before (clock_sees levels node) (suc (rest + sample_at (s.lengths i)))) ≡ steady_clock (s.lengths i)
  pub stretch : stretch_of (node (suc (rest + sample_at (s.lengths i)))).inputs ≡ stretch_of past
  pub over : ¬ HasTwoBits (stretch_of past)
  pub counts : counts_of (node (suc (rest + sample_at (s.lengths i)))).happened ≡ no_counts
  pub drive : (q : ℕ) → since < q → q ≤ suc (rest + sample_at (s.lengths i)) → (node q).drive ≡ Recessive
