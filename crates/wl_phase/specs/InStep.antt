-- A sender whose bits nothing moves, and a listener that it reaches: when the listener is in step with it.
use Rattle.std.specs.Prelude.{◌≡◌, ℕ, zero, suc, ◌+◌, ◌-◌, ◌*◌, ◌<◌, ◌≤◌, true, false, List, [], ◌∷◌, ◌++◌, length, take, Some}
use Rattle.wl_level.specs.declared.Level.{Level}
use Rattle.wl_level.specs.declared.Level.TheVariants.{Dominant, Recessive}
use Rattle.wl_level.specs.Places.{at}
use Rattle.wl_segments.specs.Lengths.{Lengths, sample_at, bit_quanta}
use Rattle.wl_sync.specs.declared.Sync.TheVariants.{Hard}
use Rattle.wl_sync.specs.declared.Beat.{Beat}
use Rattle.wl_sync.specs.declared.Beat.TheVariants.{Plain, Sample, Start}
use Rattle.wl_sync.specs.declared.Seen.{Seen}
use Rattle.wl_sync.specs.Bits.{beat_of, sync_of}
use Rattle.wl_sync.specs.Running.{clock_after}
use Rattle.wl_frame.specs.Laws.{IsEdge}
use Rattle.wl_phase.specs.Clocks.{Steady, Finds, steady_tick, instant}

-- A sender: its clock, the quanta of each of its bits, the quantum with which the first of them begins, and the bits.
pub record Sender : Type 0 where
  pub clock : Steady
  pub bit_quanta : ℕ
  pub from : ℕ
  pub bits : List Level

-- A listener: its clock, its segments, and the delay of what reaches it from the sender, in ticks.
pub record Listener : Type 0 where
  pub clock : Steady
  pub lengths : Lengths
  pub delay : ℕ

-- the tick at which bit b of the sender reaches the listener
abbrev pub arrival : Sender → Listener → ℕ → ℕ
arrival s j b = steady_tick s.clock (s.from + b * s.bit_quanta) + j.delay

-- what a node has seen before quantum k, from what it sees at each quantum
abbrev pub seen_before : (ℕ → Seen) → ℕ → List Seen
seen_before seen zero = []
seen_before seen (suc k) = seen_before seen k ++ seen k ∷ []

-- the level that a quantum samples
abbrev pub sampled_by : Beat → List Level
sampled_by (Sample level) = level ∷ []
sampled_by Start = []
sampled_by Plain = []

-- the levels that a node samples in n quanta from a quantum on
abbrev pub samples_from : Lengths → (ℕ → Seen) → (from n : ℕ) → List Level
samples_from l seen from zero = []
samples_from l seen from (suc n) = samples_from l seen from n ++ sampled_by (beat_of l (seen_before seen (from + n)) (seen (from + n)))

-- the edge that quantum `found` finds synchronises a node hard
abbrev pub SyncsHard : Lengths → (ℕ → Seen) → ℕ → Type 0
SyncsHard l seen found = sync_of l (seen_before seen found) (seen found) ≡ Some Hard

-- A node has seen a silent line since its power-up, and finds an edge by quantum `found`, at which it awaits a start of frame and drives recessive.
pub record FindsTheFirst (seen : ℕ → Seen) (found : ℕ) : Type 0 where
  pub silent : (k : ℕ) → k < found → (seen k).level ≡ Recessive
  pub edge : (seen found).level ≡ Dominant
  pub awaits : (seen found).awaits ≡ true
  pub driving : (seen found).driving ≡ false

-- Before quantum k, from the quantum `found` on, the listener has sampled the first n bits, as they were sent, and there are more.
pub record IsListening (s : Sender) (j : Listener) (seen : ℕ → Seen) (found k n : ℕ) : Type 0 where
  pub more : n < length s.bits
  pub samples : samples_from j.lengths seen found (k - found) ≡ take n s.bits

-- The listener hears nothing but the sender, and does nothing but listen, until it has sampled all bits. It looks at the line as each of its quanta begins,
-- and finds there the bit that has arrived last. By the quantum `found` it finds the first bit, and synchronises hard by it. After its next sample it
-- awaits no start of frame, and it drives recessive. What comes after its sample of the last bit is left open: it may acknowledge then. Each of these may
-- rest on the samples before, so that they are shown bit by bit.
pub record Listens (s : Sender) (j : Listener) (seen : ℕ → Seen) (found : ℕ) : Type 0 where
  pub level : (k b n : ℕ) → IsListening s j seen found k n → b < length s.bits → arrival s j b ≤ steady_tick j.clock k
      → steady_tick j.clock k < arrival s j (suc b) → (seen k).level ≡ at s.bits b
  pub finds : Finds j.clock found (arrival s j 0)
  pub later : 0 < found
  pub hard : SyncsHard j.lengths seen found
  pub awaits : (k n : ℕ) → IsListening s j seen found k n → 0 < n → (seen k).awaits ≡ false
  pub driving : (k n : ℕ) → IsListening s j seen found k n → 0 < n → (seen k).driving ≡ false

-- ten bits in a row have an edge from recessive to dominant, as those of a frame have; Bosch CAN 2.0 part B, sections 6 and 10
abbrev pub HaveEdges : List Level → Type 0
HaveEdges bits = (n : ℕ) → n + 10 ≤ length bits → (k : ℕ) × (n ≤ k) × (k < n + 10) × IsEdge bits k

-- A bit of the sender, a quantum of the listener and a tick, each in the parts of a tick that both clocks have: the product of their denominators makes one.
abbrev pub bit_parts : Sender → Listener → ℕ
bit_parts s j = j.clock.den * (s.bit_quanta * s.clock.num)

abbrev pub quantum_parts : Sender → Listener → ℕ
quantum_parts s j = s.clock.den * j.clock.num

abbrev pub tick_parts : Sender → Listener → ℕ
tick_parts s j = s.clock.den * j.clock.den

-- The clocks are near enough: by ten bits of either the other is off by the jump width at most; and if the sender is the faster one, a tick more doesn't
-- bring its next bit before the sample, PHASE_SEG2 before the end of the listener's. Here a bit of the sender, a quantum of the listener and a tick take so
-- many of the same parts (Bosch CAN 2.0 part B, section 10; ISO 11898-1, oscillator tolerance).
pub record AreNear (bit quantum tick : ℕ) (l : Lengths) : Type 0 where
  pub slow : 10 * bit ≤ 10 * bit_quanta l * quantum + l.sjw * quantum
  pub fast : 10 * bit_quanta l * quantum ≤ 10 * bit + l.sjw * quantum
  pub sample : 10 * bit_quanta l * quantum + tick ≤ 10 * bit + l.ps2 * quantum

abbrev pub ClocksAreNear : Sender → Listener → Type 0
ClocksAreNear s j = AreNear (bit_parts s j) (quantum_parts s j) (tick_parts s j) j.lengths

-- when bit b of the sender begins to arrive, and when quantum k of the listener begins, before they are rounded down to ticks; in those parts
abbrev pub bit_instant : Sender → Listener → ℕ → ℕ
bit_instant s j b = j.clock.den * (instant s.clock (s.from + b * s.bit_quanta) + s.clock.den * j.delay)

abbrev pub quantum_instant : Sender → Listener → ℕ → ℕ
quantum_instant s j k = s.clock.den * instant j.clock k

-- by how much a bit of the sender is longer than one of the listener, and by how much it is shorter; in those parts
abbrev pub slower_parts : Sender → Listener → ℕ
slower_parts s j = bit_parts s j - bit_quanta j.lengths * quantum_parts s j

abbrev pub faster_parts : Sender → Listener → ℕ
faster_parts s j = bit_quanta j.lengths * quantum_parts s j - bit_parts s j

-- Quantum k of the listener samples bit b of the sender: it is the sample after those of the bits before, it comes while that bit is there, and where
-- the bit began lies in the listener's bit within SYNC_SEG and a tick, but for what the bits since the last edge drift, nine at most. So many bits of the
-- listener take their time, whether that is longer or shorter than the sender's bits do.
pub record SamplesBit (s : Sender) (j : Listener) (seen : ℕ → Seen) (found b k : ℕ) : Type 0 where
  pub after : found < k
  pub level : beat_of j.lengths (seen_before seen k) (seen k) ≡ Sample (at s.bits b)
  pub quanta : ℕ
  pub place : found + quanta ≡ k
  pub before : samples_from j.lengths seen found quanta ≡ take b s.bits
  pub begun : arrival s j b ≤ steady_tick j.clock k
  pub lasts : steady_tick j.clock k < arrival s j (suc b)
  pub since : ℕ
  pub few : since ≤ 9
  pub early : quantum_instant s j k < bit_instant s j b + sample_at j.lengths * quantum_parts s j + since * faster_parts s j
  pub late : bit_instant s j b + sample_at j.lengths * quantum_parts s j
      < quantum_instant s j k + quantum_parts s j + tick_parts s j + since * slower_parts s j
  pub ahead : quantum_instant s j k + since * bit_parts s j
      < bit_instant s j b + sample_at j.lengths * quantum_parts s j + since * (bit_quanta j.lengths * quantum_parts s j)
  pub behind : bit_instant s j b + sample_at j.lengths * quantum_parts s j + since * (bit_quanta j.lengths * quantum_parts s j)
      < quantum_instant s j k + quantum_parts s j + tick_parts s j + since * bit_parts s j
  pub some : since ≤ b
  pub edge : IsEdge s.bits (b - since)
  pub clear : (i : ℕ) → b < i + since → i ≤ b → IsEdge s.bits i → ⊥
  -- no edge has moved a recessive bit
  pub unsynced : at s.bits b ≡ Recessive → (clock_after j.lengths (seen_before seen (suc k))).synced ≡ false
