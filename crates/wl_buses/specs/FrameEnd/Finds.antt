-- What a station finds at the end of a frame.
use Rattle.std.specs.Prelude.{◌≡◌, ◌⊎◌, ℕ, suc, ◌+◌, ◌<◌, ◌≤◌, Bool, true, false}
use Rattle.wl_segments.specs.Lengths.{bit_quanta, sample_at}
use Rattle.wl_topology.specs.Driven.{driven}
use Rattle.wl_phase.specs.Clocks.{steady_tick}
use Rattle.wl_buses.specs.OneFrame.Stations.{Stations}
use Rattle.wl_buses.specs.OneFrame.Starts.{BeginsAlone, Drives, FollowsSoft, Start, reaches_at}
use Rattle.wl_buses.specs.OneFrame.Course.{bus_bit}
use Rattle.wl_buses.specs.OneFrame.Expected.{Outset, expected_bits, expected_drove, expected_sample}

-- the ACK slot
abbrev pub ack_slot : Stations → Outset → (end : ℕ) → Start
ack_slot s o end = expected_bits s o (suc end)

-- what a station finds at its quantum q, if all drive what is expected up to the third bit of the intermission
abbrev pub finds_at : Stations → Outset → (end i q : ℕ) → Bool
finds_at s o end i q = driven s.count s.delay (expected_drove s o (end + 13)) i (steady_tick (s.clocks i) q)

-- Another station has driven the ACK slot dominant so that it reaches the station by its quantum q, or the station has.
pub record IsAnsweredBy (s : Stations) (o : Outset) (end i q : ℕ) : Type 0 where
  pub by : ℕ
  pub there : by < s.count
  pub dominant : (ack_slot s o end).drives by ≡ true
  pub reaches : reaches_at s (ack_slot s o end) by i ≤ steady_tick (s.clocks i) q

-- A station finds a recessive CRC delimiter, and no acknowledgement before its sample of that. It begins the ACK slot by itself or by the first acknowledgement, which lasts up to its sample
-- of the slot at least. It samples the slot dominant. From its sample of the ACK delimiter on it finds a recessive line.
pub record FindsTheEnd (s : Stations) (o : Outset) (end i : ℕ) : Type 0 where
  pub begin : BeginsAlone s (ack_slot s o end) i ⊎ FollowsSoft s (ack_slot s o end) i
  pub later : (k : ℕ) → Drives s (ack_slot s o end) i k → steady_tick (s.clocks i) (expected_sample s o end i) < reaches_at s (ack_slot s o end) k i
  pub in_time : (k : ℕ) → Drives s (ack_slot s o end) i k
      → steady_tick (s.clocks k) ((expected_bits s o end).place k + bit_quanta (s.lengths k)) + s.delay k i
      ≤ steady_tick (s.clocks i) ((expected_bits s o end).place i + bit_quanta (s.lengths i) + sample_at (s.lengths i))
  pub before : (n q : ℕ) → suc n ≡ end → bus_bit s (expected_bits s o) n ≡ false → expected_sample s o n i < q → q ≤ expected_sample s o end i → finds_at s o end i q ≡ false
  pub delimiter : finds_at s o end i (expected_sample s o end i) ≡ false
  pub answered : (q : ℕ) → expected_sample s o end i < q → finds_at s o end i q ≡ true → IsAnsweredBy s o end i q
  pub lasts : (k q : ℕ) → Drives s (ack_slot s o end) i k → reaches_at s (ack_slot s o end) k i ≤ steady_tick (s.clocks i) q → q ≤ expected_sample s o (suc end) i → finds_at s o end i q ≡ true
  pub slot : finds_at s o end i (expected_sample s o (suc end) i) ≡ true
  pub silent : (q : ℕ) → expected_sample s o (suc (suc end)) i ≤ q → finds_at s o end i q ≡ false
