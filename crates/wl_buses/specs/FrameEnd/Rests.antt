-- A node at the end of a frame: the frame that passes it, and that it rests then.
use Rattle.std.specs.Prelude.{◌≡◌, ℕ, suc, ◌+◌, ◌<◌, ◌≤◌, ◌==◌, [], ◌∷◌, ◌++◌, length, Option, if◌then◌else◌}
use Rattle.wl_level.specs.declared.Level.{Level}
use Rattle.wl_level.specs.declared.Level.TheVariants.{Recessive}
use Rattle.wl_confine.specs.Counts.{counts_of, no_counts}
use Rattle.wl_frame.specs.Grammar.{Content}
use Rattle.wl_machine.specs.Judged.{stretch_of}
use Rattle.wl_machine.specs.States.{stretch_by}
use Rattle.wl_machine.specs.Stretch.{free}
use Rattle.wl_node.specs.declared.setup.NodeSetup.{NodeSetup}
use Rattle.wl_node.specs.declared.setup.Passed.{Passed}
use Rattle.wl_node.specs.History.{History, unsent_of}
use Rattle.wl_buses.specs.BothProofs.Queues.{head_at}
use Rattle.wl_buses.specs.OneFrame.Stations.{Stations}
use Rattle.wl_buses.specs.OneFrame.Expected.{HasSampled, Outset, expected_sample}
use Rattle.wl_buses.specs.OneFrame.Nodes.{GoesToNext, clock_sees}

-- the frame of its queue that is ready
abbrev pub waiting_frame : NodeSetup → History → Option Content
waiting_frame setup h = head_at setup (unsent_of setup h) (length h.seen)

-- With its sample of the third bit of the intermission a node rests: it has sampled it recessive, nothing has counted, it drives recessive, and it begins a frame next if one is ready
-- (Bosch CAN 2.0 part B, section 3.2.5).
pub record RestsAfter (s : Stations) (o : Outset) (end i : ℕ) (setup : NodeSetup) (levels : ℕ → Level) (node : ℕ → History) : Type 0 where
  pub clock : HasSampled s o i (clock_sees levels node) (end + 12)
  pub stretch : stretch_of (node (suc (expected_sample s o (end + 12) i))).inputs ≡ stretch_by (free (waiting_frame setup (node (expected_sample s o (end + 12) i)))) []
  pub counts : counts_of (node (suc (expected_sample s o (end + 12) i))).happened ≡ no_counts
  pub drive : (q : ℕ) → expected_sample s o (end + 11) i < q → q ≤ suc (expected_sample s o (end + 12) i) → (node q).drive ≡ Recessive

-- The bit with which a frame passes a node: for its sender the last one of the end of frame, for each other the last but one (Bosch CAN 2.0 part B, section 5).
abbrev pub passing_bit : (end i sender : ℕ) → ℕ
passing_bit end i sender = end + (if i == sender then 9 else 8)

abbrev pub passed_frame : Stations → Outset → (end i sender : ℕ) → (frame : Content) → Passed
passed_frame s o end i sender frame = record { sent = i == sender; quantum = expected_sample s o (passing_bit end i sender) i; frame = frame }

-- A node goes to the end of a frame as is expected: bit by bit up to the second one of the intermission. The frame passes it, sent or received, and with the third one it rests.
pub record NodeEnds (s : Stations) (o : Outset) (end sender i : ℕ) (frame : Content) (setup : NodeSetup) (levels : ℕ → Level) (node : ℕ → History) : Type 0 where
  pub next : (place n : ℕ) → place ≤ 11 → end + place ≡ suc n → GoesToNext s o i levels node n
  pub passes : (node (suc (expected_sample s o (passing_bit end i sender) i))).frames
      ≡ (node (expected_sample s o (passing_bit end i sender) i)).frames ++ passed_frame s o end i sender frame ∷ []
  pub rests : RestsAfter s o end i setup levels node
