-- The third bit of an intermission, in which the next start of frame may reach a station.
use Rattle.std.specs.Prelude.{◌≡◌, ℕ, suc, ◌+◌, ◌<◌, ◌≤◌, Bool, true, false, List, [], ◌∷◌, ◌++◌, if◌then◌else◌}
use Rattle.wl_level.specs.declared.Level.{Level}
use Rattle.wl_level.specs.declared.Level.TheVariants.{Recessive}
use Rattle.wl_confine.specs.Counts.{counts_of, no_counts}
use Rattle.wl_segments.specs.Lengths.{sample_at}
use Rattle.wl_sync.specs.Running.{clock_after}
use Rattle.wl_sync.specs.Skips.{steady_clock}
use Rattle.wl_frame.specs.Grammar.{Content}
use Rattle.wl_machine.specs.Stretch.{Input}
use Rattle.wl_machine.specs.Judged.{stretch_of}
use Rattle.wl_node.specs.History.{History}
use Rattle.wl_phase.specs.InStep.{seen_before}
use Rattle.wl_wire.specs.Wire.{Event, Handed, idle_wire, wire_after}
use Rattle.wl_buses.specs.OneFrame.Stations.{Stations}
use Rattle.wl_buses.specs.OneFrame.Clocked.{SamplesBy}
use Rattle.wl_buses.specs.OneFrame.Machines.{HasTwoBits, MayBegin}
use Rattle.wl_buses.specs.OneFrame.Nodes.{GoesToNext, clock_sees}
use Rattle.wl_buses.specs.OneFrame.Expected.{Outset, expected_bits, expected_sample, past_at}
use Rattle.wl_buses.specs.FrameEnd.Again.{past_end}
use Rattle.wl_buses.specs.FrameEnd.Rests.{passed_frame, passing_bit}

-- What has reached the machine of station k before the next start of frame: the third bit of the intermission too, or up to the second bit if the start of frame comes in its third bit. Which
-- stations those are is given.
abbrev pub past_third : Stations → Outset → (end : ℕ) → (handed : ℕ → Handed) → (third : ℕ → Bool) → ℕ → List Input
past_third s o end handed third k = if third k then past_at s o (end + 12) k else past_end s o end handed k

-- Machines that are on one wire. Some have two bits of an intermission, and each other one may begin a frame.
pub record MayBeginFromThird (count : ℕ) (frames : ℕ → List Content) (third : ℕ → Bool) (past : ℕ → List Input) : Type 0 where
  pub earlier : List Event
  pub reached : (k : ℕ) → k < count → past k ≡ (wire_after (idle_wire count frames) earlier).past k
  pub may : (k : ℕ) → k < count → third k ≡ false → MayBegin frames k (stretch_of (past k))
  pub two : (k : ℕ) → k < count → third k ≡ true → HasTwoBits (stretch_of (past k))

-- A node is in the third bit of its intermission: it has sampled the second bit, with its place 0 at the quantum `rest`, and no edge has moved that bit. Its machine is where `past` puts
-- it, nothing has counted, and it has driven nothing since a quantum.
pub record RestsInThird (s : Stations) (past : List Input) (i : ℕ) (levels : ℕ → Level) (node : ℕ → History) (rest since : ℕ) : Type 0 where
  pub sampled : SamplesBy (s.lengths i) (clock_sees levels node) (rest + sample_at (s.lengths i)) Recessive
  pub clock : clock_after (s.lengths i) (seen_before (clock_sees levels node) (suc (rest + sample_at (s.lengths i)))) ≡ steady_clock (s.lengths i)
  pub stretch : stretch_of (node (suc (rest + sample_at (s.lengths i)))).inputs ≡ stretch_of past
  pub two : HasTwoBits (stretch_of past)
  pub counts : counts_of (node (suc (rest + sample_at (s.lengths i)))).happened ≡ no_counts
  pub drive : (q : ℕ) → since < q → q ≤ suc (rest + sample_at (s.lengths i)) → (node q).drive ≡ Recessive

-- A node goes up to its third bit as it goes to the end of a frame: bit by bit up to the second one of the intermission. The frame passes it, sent or received.
pub record NodeEndsInThird (s : Stations) (o : Outset) (end sender i : ℕ) (frame : Content) (levels : ℕ → Level) (node : ℕ → History) : Type 0 where
  pub next : (place n : ℕ) → place ≤ 11 → end + place ≡ suc n → GoesToNext s o i levels node n
  pub passes : (node (suc (expected_sample s o (passing_bit end i sender) i))).frames
      ≡ (node (expected_sample s o (passing_bit end i sender) i)).frames ++ passed_frame s o end i sender frame ∷ []
  pub rests : RestsInThird s (past_at s o (end + 12) i) i levels node ((expected_bits s o (end + 11)).place i) ((expected_bits s o (suc (suc end))).from i)
