-- A node between two frames, and how it begins the next one.
use Rattle.std.specs.Prelude.{◌≡◌, ℕ, zero, suc, ◌+◌, ◌*◌, ◌<◌, ◌≤◌, true, false, Option, None, slice_get}
use Rattle.wl_level.specs.declared.Level.{Level}
use Rattle.wl_level.specs.declared.Level.TheVariants.{Recessive}
use Rattle.wl_level.specs.Levels.{level_of}
use Rattle.wl_segments.specs.Lengths.{bit_quanta, sample_at}
use Rattle.wl_frame.specs.Grammar.{Content}
use Rattle.wl_node.specs.declared.setup.NodeSetup.{NodeSetup}
use Rattle.wl_node.specs.History.{History}
use Rattle.wl_buses.specs.OneFrame.Stations.{Stations}
use Rattle.wl_buses.specs.OneFrame.Expected.{Outset, expected_bits, expected_sample, wants}
use Rattle.wl_buses.specs.OneFrame.Nodes.{GoesToNext, IsInBit}
use Rattle.wl_buses.specs.FrameEnd.Rests.{NodeEnds}
use Rattle.wl_buses.specs.NextFrames.NextStarts.{Resting, has_next}

-- What a node is handed with the sample of a bit after the frame: with that by which it rests this frame or none, and with a later one what its queue hands it at that quantum.
abbrev pub head_after : Resting → (i : ℕ) → (first : Option Content) → (later : ℕ → Option Content) → ℕ → Option Content
head_after r i first later zero = first
head_after r i first later (suc n) = later (r.place i + suc n * bit_quanta (r.stations.lengths i) + sample_at (r.stations.lengths i))

-- None before that with which it decides to send, and then the one of its frames that it decides on; none at all if it has none to send.
pub record HandsNext (r : Resting) (i : ℕ) (first : Option Content) (later : ℕ → Option Content) : Type 0 where
  pub none : (n : ℕ) → has_next r i ≡ false → head_after r i first later n ≡ None
  pub unready : (n : ℕ) → n < r.decides i → head_after r i first later n ≡ None
  pub ready : has_next r i ≡ true → head_after r i first later (r.decides i) ≡ slice_get (r.frames i) (r.which i)

-- A node begins a frame as is expected: since a quantum it has driven nothing before its start of frame, and has sampled that.
pub record BeginsSince (s : Stations) (o : Outset) (i : ℕ) (levels : ℕ → Level) (node : ℕ → History) (since : ℕ) : Type 0 where
  pub bit : IsInBit s o i levels node 0
  pub before : (q : ℕ) → since < q → q ≤ (expected_bits s o 0).from i → (node q).drive ≡ Recessive
  pub after : (q : ℕ) → (expected_bits s o 0).from i < q → q ≤ suc (expected_sample s o 0 i) → (node q).drive ≡ level_of (wants s o 0 i)

-- It goes through the whole frame so: it samples each bit as it is on the bus, the frame passes it, sent or received, and it rests with the third bit of the intermission.
pub record GoesThrough (s : Stations) (o : Outset) (end sender i : ℕ) (frame : Content) (setup : NodeSetup) (levels : ℕ → Level) (node : ℕ → History) (since : ℕ) : Type 0 where
  pub begins : BeginsSince s o i levels node since
  pub next : (n : ℕ) → suc n < end + 12 → GoesToNext s o i levels node n
  pub ends : NodeEnds s o end sender i frame setup levels node
