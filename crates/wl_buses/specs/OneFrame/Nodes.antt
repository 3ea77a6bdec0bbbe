-- A node in a frame: its history, quantum by quantum, and what is expected of it.
use Rattle.std.specs.Prelude.{◌≡◌, ℕ, suc, ◌<◌, ◌≤◌, slice_get}
use Rattle.wl_level.specs.declared.Level.{Level}
use Rattle.wl_level.specs.Levels.{level_of}
use Rattle.wl_confine.specs.declared.Mode.TheVariants.{Active}
use Rattle.wl_confine.specs.Counts.{counts_of, no_counts}
use Rattle.wl_sync.specs.declared.Seen.{Seen}
use Rattle.wl_machine.specs.Judged.{stretch_of}
use Rattle.wl_node.specs.declared.setup.NodeSetup.{NodeSetup}
use Rattle.wl_node.specs.History.{History, head_at_next, history_after, no_history, seen_next}
use Rattle.wl_buses.specs.OneFrame.Stations.{Stations}
use Rattle.wl_buses.specs.OneFrame.Expected.{HasSampled, Outset, expected_bits, expected_sample, past_at, wants}

-- the node before each of its quanta, if it sees these levels
pub record IsRun (setup : NodeSetup) (levels : ℕ → Level) (node : ℕ → History) : Type 0 where
  pub first : node 0 ≡ no_history
  pub next : (q : ℕ) → node (suc q) ≡ history_after setup (node q) (levels q)

-- what its bit clock sees
abbrev pub clock_sees : (levels : ℕ → Level) → (node : ℕ → History) → ℕ → Seen
clock_sees levels node q = seen_next (node q) (levels q)

-- It has sampled bit n as is expected: its bit clock is where that is expected, its machine is in the stretch that is expected, nothing has counted, and it drives the bit.
pub record IsInBit (s : Stations) (o : Outset) (i : ℕ) (levels : ℕ → Level) (node : ℕ → History) (n : ℕ) : Type 0 where
  pub clock : HasSampled s o i (clock_sees levels node) n
  pub stretch : stretch_of (node (suc (expected_sample s o n i))).inputs ≡ stretch_of (past_at s o (suc n) i)
  pub counts : counts_of (node (suc (expected_sample s o n i))).happened ≡ no_counts
  pub drive : (node (suc (expected_sample s o n i))).drive ≡ level_of (wants s o n i)

-- With its sample of the start of frame a node is handed what is expected of it: by its queue, and as an error active node.
pub record HandsAsExpected (s : Stations) (o : Outset) (i : ℕ) (setup : NodeSetup) (node : ℕ → History) : Type 0 where
  pub queue : head_at_next setup (node (expected_sample s o 0 i)) ≡ slice_get (o.frames i) (o.handed 0 i).which
  pub active : (o.handed 0 i).mode ≡ Active

-- So it is with the next bit, and it drives each where that is expected.
pub record GoesToNext (s : Stations) (o : Outset) (i : ℕ) (levels : ℕ → Level) (node : ℕ → History) (n : ℕ) : Type 0 where
  pub bit : IsInBit s o i levels node (suc n)
  pub before : (q : ℕ) → expected_sample s o n i < q → q ≤ (expected_bits s o (suc n)).from i → (node q).drive ≡ level_of (wants s o n i)
  pub after : (q : ℕ) → (expected_bits s o (suc n)).from i < q → q ≤ suc (expected_sample s o (suc n) i) → (node q).drive ≡ level_of (wants s o (suc n) i)
