-- How stations that rest on a silent line begin a frame: which begin by themselves, which follow an edge, and what each has sampled before.
use Rattle.std.specs.Prelude.{◌≡◌, ◌≢◌, ◌<◌, ℕ, suc, ◌+◌, ◌-◌, ◌*◌, ◌/◌, ◌&&◌, not, nat_lt, Bool, true, false, List, [], ◌∷◌, ◌++◌, length, Option, replicate, slice_get, if◌then◌else◌}
use Rattle.wl_level.specs.declared.Level.TheVariants.{Recessive}
use Rattle.wl_confine.specs.declared.Mode.TheVariants.{Active}
use Rattle.wl_segments.specs.Lengths.{bit_quanta, sample_at}
use Rattle.wl_frame.specs.Grammar.{Content}
use Rattle.wl_machine.specs.Stretch.{Input, free}
use Rattle.wl_machine.specs.Stretch.Input.{Sample}
use Rattle.wl_machine.specs.Judged.{stretch_of}
use Rattle.wl_machine.specs.States.{stretch_by}
use Rattle.wl_phase.specs.Clocks.{steady_tick}
use Rattle.wl_wire.specs.Wire.{Handed, sampled}
use Rattle.wl_wire.specs.InStep.{AreSoundFrames}
use Rattle.wl_buses.specs.OneFrame.Stations.{Stations}
use Rattle.wl_buses.specs.OneFrame.Starts.{Start}
use Rattle.wl_buses.specs.OneFrame.Expected.{Outset, expected_bits, found_before, is_reached, most}
use Rattle.wl_buses.specs.OneFrame.Machines.{MayBeginTogether, no_frame_sample}
use Rattle.wl_buses.specs.FirstFrame.FirstStarts.{hard_from, hard_place}

-- Stations on a silent line, and the frames that each may be handed. Each counts its bits from one with whose sample it rests: after a frame that is the third bit of the intermission. Place 0
-- of that bit is at the quantum `place`. With the sample of bit `decides` it decides to send one of its frames, which has the place `which` in their list. A station that is to send none has no such place.
pub record Resting : Type 0 where
  pub stations : Stations
  pub frames : ℕ → List Content
  pub which : ℕ → ℕ
  pub place : ℕ → ℕ
  pub decides : ℕ → ℕ

-- it has a frame to send
abbrev pub has_next : Resting → ℕ → Bool
has_next r i = nat_lt (r.which i) (length (r.frames i))

-- The quantum by which it rests, and that by which it decides, if each bit takes its quanta; and that with which its start of frame is due, at the beginning of the bit after it (Bosch CAN 2.0
-- part B, section 3.2.5, bus idle).
abbrev pub rested : Resting → ℕ → ℕ
rested r i = r.place i + sample_at (r.stations.lengths i)

abbrev pub decision_next : Resting → ℕ → ℕ
decision_next r i = r.place i + r.decides i * bit_quanta (r.stations.lengths i) + sample_at (r.stations.lengths i)

abbrev pub due_next : Resting → ℕ → ℕ
due_next r i = r.place i + suc (r.decides i) * bit_quanta (r.stations.lengths i)

-- By quantum q of station i a start of frame of another one has reached it, if each that has a frame begins it when it is due.
abbrev pub is_reached_next : Resting → (i q : ℕ) → Bool
is_reached_next r i q = is_reached r.stations (has_next r) (due_next r) i q

-- it begins the frame: it has decided to send before that
abbrev pub begins_next : Resting → ℕ → Bool
begins_next r i = has_next r i && not (is_reached_next r i (decision_next r i))

-- up to which quantum it looks for the edge: if it has a frame up to that with which that is due, else up to one by which each edge has come
abbrev pub looks_next : Resting → ℕ → ℕ
looks_next r i =
    if has_next r i then due_next r i else most r.stations.count (λ k. steady_tick (r.stations.clocks k) (due_next r k) + r.stations.delay k i)

-- the quantum that finds the edge
abbrev pub edge_next : Resting → ℕ → Option ℕ
edge_next r i = found_before r.stations (has_next r) (due_next r) i (suc (looks_next r i))

-- so the frame begins
abbrev pub start_next : Resting → Start
start_next r = record {
  drives = begins_next r;
  joins = λ i. false;
  due = due_next r;
  place = λ i. hard_place (due_next r i) (edge_next r i);
  from = λ i. hard_from (due_next r i) (edge_next r i);
}

-- the last bit that it samples before, by its number, and place 0 of that: the bit with which it decides to send, or the last one whose sample comes before the edge
abbrev pub last_next : Resting → ℕ → ℕ
last_next r i =
    if begins_next r i then r.decides i
    else ((start_next r).from i - suc (rested r i)) / bit_quanta (r.stations.lengths i)

abbrev pub rest_next : Resting → ℕ → ℕ
rest_next r i = r.place i + last_next r i * bit_quanta (r.stations.lengths i)

-- What a machine has sampled with so many bits and one: with the last one it is handed a frame if it begins one.
abbrev pub handed_next : (which : ℕ) → Handed
handed_next which = record { which = which; mode = Active }

abbrev pub waiting_past : (begins : Bool) → List Content → (which n : ℕ) → List Input
waiting_past true frames which n = replicate n no_frame_sample ++ Sample (sampled Recessive frames (handed_next which)) ∷ []
waiting_past false frames which n = replicate (suc n) no_frame_sample

abbrev pub past_next : Resting → (before : ℕ → List Input) → ℕ → List Input
past_next r before k = before k ++ waiting_past (begins_next r k) (r.frames k) (r.which k) (last_next r k)

-- and the frame as one of several stations that begin it together, if this has reached their machines before the sample with which they rest
abbrev pub outset_next : Resting → (before : ℕ → List Input) → Outset
outset_next r before = record {
  frames = r.frames;
  handed = λ n k. handed_next (r.which k);
  past = λ k. if nat_lt k r.stations.count then past_next r before k else [];
  start = start_next r;
}

-- Some station has a frame, and no two have frames of one format, identifier and RTR bit. Each rests before another one's start of frame reaches it.
pub record AreResting (r : Resting) : Type 0 where
  pub frames : AreSoundFrames r.stations.count r.frames
  pub inside : (i : ℕ) → has_next r i ≡ true → i < r.stations.count
  pub may : (i : ℕ) → has_next r i ≡ true → r.stations.may_send i ≡ true
  pub some : (i : ℕ) × (has_next r i ≡ true)
  pub idle : (i k : ℕ) → i < r.stations.count → i ≢ k → has_next r k ≡ true
      → steady_tick (r.stations.clocks i) (rested r i) < steady_tick (r.stations.clocks k) (due_next r k) + r.stations.delay k i

-- Machines that are free with the next sample, if it is recessive: whatever each is handed with it, they are on one wire, and it begins its frame, or the bus is idle to it (Bosch CAN 2.0 part
-- B, section 3.2.5, intermission).
pub record AreFreeNext (count : ℕ) (frames : ℕ → List Content) (before : ℕ → List Input) : Type 0 where
  pub together : (handed : ℕ → Handed) → ((k : ℕ) → k < count → (handed k).mode ≡ Active)
      → MayBeginTogether count frames (λ k. before k ++ Sample (sampled Recessive (frames k) (handed k)) ∷ [])
  pub free : (k : ℕ) (h : Handed) → k < count → h.mode ≡ Active
      → stretch_of (before k ++ Sample (sampled Recessive (frames k) h) ∷ []) ≡ stretch_by (free (slice_get (frames k) h.which)) []

-- stations after a frame, whose third bit of the intermission is bit `end + 12`
abbrev pub resting_after : Stations → Outset → (end : ℕ) → (which decides : ℕ → ℕ) → Resting
resting_after s o end which decides =
    record { stations = s; frames = o.frames; which = which; place = (expected_bits s o (end + 12)).place; decides = decides }

-- some of them have a frame to send, and each that has one may send
pub record HaveMore (s : Stations) (frames : ℕ → List Content) (which : ℕ → ℕ) : Type 0 where
  pub inside : (i : ℕ) → nat_lt (which i) (length (frames i)) ≡ true → i < s.count
  pub may : (i : ℕ) → nat_lt (which i) (length (frames i)) ≡ true → s.may_send i ≡ true
  pub some : (i : ℕ) × (nat_lt (which i) (length (frames i)) ≡ true)
