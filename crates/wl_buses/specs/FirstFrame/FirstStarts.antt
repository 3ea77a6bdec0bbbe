-- How stations on a silent line begin their first frames: which begin by themselves, which follow an edge, and what each has sampled before.
use Rattle.std.specs.Prelude.{◌≡◌, ◌≢◌, ◌<◌, ◌≤◌, ℕ, suc, ◌+◌, ◌-◌, ◌*◌, ◌/◌, ◌&&◌, not, max, nat_lt, Bool, true, false, List, [], ◌∷◌, ◌++◌, length, Option, Some, None, replicate, slice_get, if◌then◌else◌}
use Rattle.wl_level.specs.declared.Level.TheVariants.{Recessive}
use Rattle.wl_confine.specs.declared.Mode.TheVariants.{Active}
use Rattle.wl_segments.specs.Lengths.{bit_quanta, sample_at}
use Rattle.wl_frame.specs.Grammar.{Content}
use Rattle.wl_machine.specs.Stretch.{Input}
use Rattle.wl_machine.specs.Stretch.Input.{Sample}
use Rattle.wl_node.specs.declared.setup.NodeSetup.{NodeSetup}
use Rattle.wl_buses.specs.BothProofs.Queues.{head_at}
use Rattle.wl_phase.specs.Clocks.{steady_tick}
use Rattle.wl_wire.specs.Wire.{Handed, sampled}
use Rattle.wl_wire.specs.InStep.{AreSoundFrames}
use Rattle.wl_buses.specs.OneFrame.Stations.{Stations}
use Rattle.wl_buses.specs.OneFrame.Starts.{Start}
use Rattle.wl_buses.specs.OneFrame.Expected.{Outset, found_before, is_reached, most}
use Rattle.wl_buses.specs.OneFrame.Machines.{no_frame_sample}

-- Stations on a silent line from their power-up on, and the frames that each may be handed. Each decides with the sample of one of its bits, which count from its power-up, to send one of them.
-- This has the place `which` in their list. A station that is to send none has no such place.
pub record Waiting : Type 0 where
  pub stations : Stations
  pub frames : ℕ → List Content
  pub which : ℕ → ℕ
  pub decides : ℕ → ℕ

-- it has a frame to send
abbrev pub has_first : Waiting → ℕ → Bool
has_first w i = nat_lt (w.which i) (length (w.frames i))

-- The quantum by which it decides, if each bit takes its quanta from quantum 0 on, and that with which its start of frame is due. That is the beginning of the next bit (Bosch CAN 2.0
-- part B, section 3.2.5, bus idle).
abbrev pub decision_quantum : Waiting → ℕ → ℕ
decision_quantum w i = w.decides i * bit_quanta (w.stations.lengths i) + sample_at (w.stations.lengths i)

abbrev pub due_first : Waiting → ℕ → ℕ
due_first w i = suc (w.decides i) * bit_quanta (w.stations.lengths i)

-- By quantum q of station i a start of frame of another one has reached it, if each that has a frame begins it when it is due. One that begins later, by an edge, reaches no station first,
-- since no way over a third station is shorter.
abbrev pub is_reached_first : Waiting → (i q : ℕ) → Bool
is_reached_first w i q = is_reached w.stations (has_first w) (due_first w) i q

-- it begins the frame: it has decided to send before that
abbrev pub begins_first : Waiting → ℕ → Bool
begins_first w i = has_first w i && not (is_reached_first w i (decision_quantum w i))

-- up to which quantum it looks for the edge: if it has a frame up to that with which that is due, else up to one by which each edge has come
abbrev pub looks_first : Waiting → ℕ → ℕ
looks_first w i =
    if has_first w i then due_first w i else most w.stations.count (λ k. steady_tick (w.stations.clocks k) (due_first w k) + w.stations.delay k i)

-- the quantum that finds the edge
abbrev pub edge_first : Waiting → ℕ → Option ℕ
edge_first w i = found_before w.stations (has_first w) (due_first w) i (suc (looks_first w i))

-- place 0 of the start of frame, and the quantum from which it is driven: those with which it is due, or as a hard synchronisation gives them, which finds its edge at place 1
abbrev pub hard_place : (due : ℕ) → Option ℕ → ℕ
hard_place due None = due
hard_place due (Some q) = q - 1

abbrev pub hard_from : (due : ℕ) → Option ℕ → ℕ
hard_from due None = due
hard_from due (Some q) = q

-- so the frame begins
abbrev pub first_start : Waiting → Start
first_start w = record {
  drives = begins_first w;
  joins = λ i. false;
  due = due_first w;
  place = λ i. hard_place (due_first w i) (edge_first w i);
  from = λ i. hard_from (due_first w i) (edge_first w i);
}

-- the last bit that it samples before, by its number: that with which it decides to send, or the last one whose sample comes before the edge
abbrev pub last_before : Waiting → ℕ → ℕ
last_before w i =
    if begins_first w i then w.decides i
    else ((first_start w).from i - suc (sample_at (w.stations.lengths i))) / bit_quanta (w.stations.lengths i)

-- What a machine has sampled with so many bits and one: with the last one it is handed a frame if it begins one. It is in the same stretch whether that is the sample that ends its
-- integration or the next one.
abbrev pub handed_first : (which : ℕ) → Handed
handed_first which = record { which = which; mode = Active }

abbrev pub silent_past : (begins : Bool) → List Content → (which n : ℕ) → List Input
silent_past true frames which n = replicate (max 11 n) no_frame_sample ++ Sample (sampled Recessive frames (handed_first which)) ∷ []
silent_past false frames which n = replicate (suc n) no_frame_sample

-- and the frame as one of several stations that begin it together
abbrev pub first_outset : Waiting → Outset
first_outset w = record {
  frames = w.frames;
  handed = λ n k. handed_first (w.which k);
  past = λ k. silent_past (begins_first w k) (w.frames k) (w.which k) (last_before w k);
  start = first_start w;
}

-- place 0 of the last bit before
abbrev pub rest_first : Waiting → ℕ → ℕ
rest_first w i = last_before w i * bit_quanta (w.stations.lengths i)

-- the quantum of its eleventh sample, with which the bus is idle to it (ISO 11898-1, bus integration)
abbrev pub eleventh : Waiting → ℕ → ℕ
eleventh w i = 10 * bit_quanta (w.stations.lengths i) + sample_at (w.stations.lengths i)

-- Some station has a frame, and no two have frames of one format, identifier and RTR bit. Each is idle before another one's start of frame reaches it, and decides to send with its eleventh
-- sample or a later one (Bosch CAN 2.0 part B, section 2, wake-up).
pub record AreIdle (w : Waiting) : Type 0 where
  pub frames : AreSoundFrames w.stations.count w.frames
  pub inside : (i : ℕ) → has_first w i ≡ true → i < w.stations.count
  pub may : (i : ℕ) → has_first w i ≡ true → w.stations.may_send i ≡ true
  pub some : (i : ℕ) × (has_first w i ≡ true)
  pub later : (i : ℕ) → 10 ≤ w.decides i
  pub idle : (i k : ℕ) → i < w.stations.count → i ≢ k → has_first w k ≡ true
      → steady_tick (w.stations.clocks i) (eleventh w i) < steady_tick (w.stations.clocks k) (due_first w k) + w.stations.delay k i

-- Nodes whose machines are handed these frames: from the eleventh bit on none before that with which a station decides to send, then the one that it decides on, and none at all if it has none.
pub record HandTheFirst (w : Waiting) (setups : ℕ → NodeSetup) : Type 0 where
  pub none : (i q : ℕ) → i < w.stations.count → has_first w i ≡ false → head_at (setups i) (setups i).queue q ≡ None
  pub unready : (i n : ℕ) → i < w.stations.count → 10 ≤ n → n < w.decides i
      → head_at (setups i) (setups i).queue (n * bit_quanta (w.stations.lengths i) + sample_at (w.stations.lengths i)) ≡ None
  pub ready : (i : ℕ) → i < w.stations.count → has_first w i ≡ true → head_at (setups i) (setups i).queue (decision_quantum w i) ≡ slice_get (w.frames i) (w.which i)
