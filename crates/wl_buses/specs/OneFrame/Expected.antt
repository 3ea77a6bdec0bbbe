-- What is expected of stations in a frame: the bits that their machines drive, and when each bit begins, if each sample is what is on the bus.
use Rattle.std.specs.Prelude.{◌≡◌, ℕ, zero, suc, ◌+◌, ◌-◌, ◌<◌, ◌≤◌, ◌==◌, ◌&&◌, ◌||◌, not, nat_le, nat_lt, max, Bool, true, false, List, [], ◌∷◌, ◌++◌, Option, Some, None, if◌then◌else◌}
use Rattle.wl_level.specs.declared.Level.TheVariants.{Dominant}
use Rattle.wl_level.specs.Levels.{is_dominant, level_of}
use Rattle.wl_level.specs.Places.{first_place}
use Rattle.wl_segments.specs.Lengths.{bit_quanta, sample_at}
use Rattle.wl_sync.specs.declared.Seen.{Seen}
use Rattle.wl_sync.specs.Running.{clock_after}
use Rattle.wl_sync.specs.Skips.{steady_clock}
use Rattle.wl_topology.specs.Driven.{any_below, driven}
use Rattle.wl_frame.specs.Grammar.{Content}
use Rattle.wl_machine.specs.Stretch.{Input}
use Rattle.wl_machine.specs.Stretch.Input.{Sample}
use Rattle.wl_machine.specs.Judged.{drive_of, stretch_of}
use Rattle.wl_phase.specs.Clocks.{steady_tick}
use Rattle.wl_phase.specs.InStep.{seen_before}
use Rattle.wl_phase.specs.Ways.{moved_to}
use Rattle.wl_wire.specs.Wire.{Event, Handed, idle_wire, sampled, wire_after}
use Rattle.wl_wire.specs.InStep.{AreSoundFrames}
use Rattle.wl_buses.specs.OneFrame.Stations.{Stations}
use Rattle.wl_buses.specs.OneFrame.Starts.{AreAllowed, BeginFrame, Start}
use Rattle.wl_buses.specs.OneFrame.Clocked.{SamplesBy}
use Rattle.wl_buses.specs.OneFrame.Course.{bus_bit}
use Rattle.wl_buses.specs.OneFrame.OneBit.{sampled_at}
use Rattle.wl_buses.specs.OneFrame.Machines.{MayBeginOrJoin, joins_by}

-- How a frame begins: the frames that each station may be handed, and when; what has reached its machine before; and the start of frame.
pub record Outset : Type 0 where
  pub frames : ℕ → List Content
  pub handed : ℕ → ℕ → Handed
  pub past : ℕ → List Input
  pub start : Start

-- what reaches the machine of station k before it drives bit n
abbrev pub past_at : Stations → Outset → ℕ → ℕ → List Input
past_at s o zero k = o.past k
past_at s o (suc n) k =
    past_at s o n k ++ Sample (sampled (level_of (any_below s.count (λ j. is_dominant (drive_of (stretch_of (past_at s o n j)))))) (o.frames k) (o.handed n k)) ∷ []

-- it drives bit n dominant
abbrev pub wants : Stations → Outset → ℕ → ℕ → Bool
wants s o n k = is_dominant (drive_of (stretch_of (past_at s o n k)))

-- the edge of another station that drives dominant has reached station i by its quantum q
abbrev pub is_reached : Stations → (drives : ℕ → Bool) → (from : ℕ → ℕ) → (i q : ℕ) → Bool
is_reached s drives from i q =
    any_below s.count (λ k. drives k && (not (k == i) && nat_le (steady_tick (s.clocks k) (from k) + s.delay k i) (steady_tick (s.clocks i) q)))

-- the first quantum before another one that finds such an edge
abbrev pub found_before : Stations → (drives : ℕ → Bool) → (from : ℕ → ℕ) → (i n : ℕ) → Option ℕ
found_before s drives from i n = first_place (is_reached s drives from i) n

-- place 0 of the bit, and the quantum from which it is driven, if a quantum finds an edge or none does
abbrev pub place_found : Stations → (due : ℕ → ℕ) → (i : ℕ) → Option ℕ → ℕ
place_found s due i None = due i
place_found s due i (Some q) = moved_to (q - 1) (s.lengths i).sjw (due i)

abbrev pub from_found : Stations → (due : ℕ → ℕ) → (i : ℕ) → Option ℕ → ℕ
from_found s due i None = due i
from_found s due i (Some q) = max q (moved_to (q - 1) (s.lengths i).sjw (due i))

-- the greatest of the first n numbers
abbrev pub most : ℕ → (ℕ → ℕ) → ℕ
most zero f = 0
most (suc n) f = max (most n f) (f n)

-- From when each station drives a bit with an edge: from the quantum with which it is due, or by an edge that reaches it before. Each round sees the edges of the round before, and so
-- many ticks are enough.
abbrev pub from_after : Stations → (drives : ℕ → Bool) → (due : ℕ → ℕ) → ℕ → ℕ → ℕ
from_after s drives due zero i = due i
from_after s drives due (suc m) i = from_found s due i (found_before s drives (from_after s drives due m) i (suc (due i)))

abbrev pub settled : Stations → (drives : ℕ → Bool) → (due : ℕ → ℕ) → ℕ → ℕ
settled s drives due = from_after s drives due (suc (most s.count (λ i. steady_tick (s.clocks i) (due i))))

-- up to which quantum a station looks for the edge: up to that with which its bit is due if it drives dominant
abbrev pub looks_up_to : Stations → (drives : ℕ → Bool) → (due : ℕ → ℕ) → ℕ → ℕ
looks_up_to s drives due i =
    if drives i then due i else most s.count (λ k. steady_tick (s.clocks k) (settled s drives due k) + s.delay k i)

-- a bit with an edge
abbrev pub edge_start : Stations → (drives : ℕ → Bool) → (due : ℕ → ℕ) → Start
edge_start s drives due = record {
  drives = drives;
  joins = λ i. false;
  due = due;
  place = λ i. place_found s due i (found_before s drives (settled s drives due) i (suc (looks_up_to s drives due i)));
  from = settled s drives due;
}

-- and one without
abbrev pub plain_start : (drives : ℕ → Bool) → (due : ℕ → ℕ) → Start
plain_start drives due = record { drives = drives; joins = λ i. false; due = due; place = due; from = due }

-- the next bit
abbrev pub next_start : Stations → (edge : Bool) → (drives : ℕ → Bool) → Start → Start
next_start s edge drives b =
    if edge then edge_start s drives (λ i. b.place i + bit_quanta (s.lengths i)) else plain_start drives (λ i. b.place i + bit_quanta (s.lengths i))

-- the bits that are expected
abbrev pub expected_bits : Stations → Outset → ℕ → Start
expected_bits s o zero = o.start
expected_bits s o (suc n) =
    next_start s (not (any_below s.count (wants s o n)) && any_below s.count (wants s o (suc n))) (wants s o (suc n)) (expected_bits s o n)

-- and what is driven, in so many bits
abbrev pub expected_drove : Stations → Outset → (length : ℕ) → (k t : ℕ) → Bool
expected_drove s o length k t =
    any_below length (λ n. wants s o n k
    && (nat_le (steady_tick (s.clocks k) ((expected_bits s o n).from k)) t && nat_lt t (steady_tick (s.clocks k) ((expected_bits s o (suc n)).from k))))

-- The frame begins as such machines do that may begin or join one, were on one wire, and have frames of different format, identifier or RTR.
pub record IsOutset (s : Stations) (o : Outset) : Type 0 where
  pub frames : AreSoundFrames s.count o.frames
  pub earlier : List Event
  pub reached : (k : ℕ) → k < s.count → o.past k ≡ (wire_after (idle_wire s.count o.frames) earlier).past k
  pub may : (k : ℕ) → k < s.count → MayBeginOrJoin o.frames k (stretch_of (o.past k))
  pub drives : (k : ℕ) → o.start.drives k ≡ is_dominant (drive_of (stretch_of (o.past k)))
  pub joins : (k : ℕ) → k < s.count → o.start.joins k ≡ joins_by (stretch_of (o.past k)).sort (sampled Dominant (o.frames k) (o.handed 0 k))
  pub begin : BeginFrame s o.start
  pub allowed : AreAllowed s (λ k. o.start.drives k || o.start.joins k)
  pub some : (k : ℕ) × (k < s.count) × (o.start.drives k ≡ true)

-- a tick after all samples of so many bits
abbrev pub expected_end : Stations → Outset → (length : ℕ) → ℕ
expected_end s o length = suc (most length (λ n. most s.count (λ i. sampled_at s (expected_bits s o n) i)))

-- the quantum at which station i samples bit n
abbrev pub expected_sample : Stations → Outset → (n i : ℕ) → ℕ
expected_sample s o n i = (expected_bits s o n).place i + sample_at (s.lengths i)

-- Between its samples of bit n and of the next one station i sees what is expected of so many bits: the levels that reach it if all drive so, and what it drives itself. It awaits no
-- start of frame.
pub record SeesExpected (s : Stations) (o : Outset) (length i : ℕ) (seen : ℕ → Seen) (n : ℕ) : Type 0 where
  pub level : (q : ℕ) → expected_sample s o n i < q → q ≤ expected_sample s o (suc n) i
      → (seen q).level ≡ level_of (driven s.count s.delay (expected_drove s o length) i (steady_tick (s.clocks i) q))
  pub awaits : (q : ℕ) → expected_sample s o n i < q → q ≤ expected_sample s o (suc n) i → (seen q).awaits ≡ false
  pub before : (q : ℕ) → expected_sample s o n i < q → q ≤ (expected_bits s o (suc n)).from i → (seen q).driving ≡ wants s o n i
  pub after : (q : ℕ) → (expected_bits s o (suc n)).from i < q → q ≤ expected_sample s o (suc n) i → (seen q).driving ≡ wants s o (suc n) i

-- Its bit clock has sampled bit n as it is on the bus. No edge has moved the bit if it is recessive.
pub record HasSampled (s : Stations) (o : Outset) (i : ℕ) (seen : ℕ → Seen) (n : ℕ) : Type 0 where
  pub sampled : SamplesBy (s.lengths i) seen (expected_sample s o n i) (level_of (bus_bit s (expected_bits s o) n))
  pub steady : bus_bit s (expected_bits s o) n ≡ false → clock_after (s.lengths i) (seen_before seen (suc (expected_sample s o n i))) ≡ steady_clock (s.lengths i)
