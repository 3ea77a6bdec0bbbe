-- What is asked of a line with a station that only listens, so that it finds the end of a frame.
use Rattle.std.specs.Prelude.{ℕ, ◌+◌, ◌*◌, ◌<◌, ◌≤◌}
use Rattle.wl_segments.specs.Lengths.{bit_quanta}
use Rattle.wl_phase.specs.Clocks.{steady_tick}
use Rattle.wl_buses.specs.OneFrame.Acknowledged.{CatchUp, gathered_by}
use Rattle.wl_buses.specs.OneFrame.Expected.{Outset, expected_bits}
use Rattle.wl_buses.specs.OneFrame.Stations.{FitsBut, HaveRoomToSample, HaveWays, Stations, bit_drift, shared_quantum, shared_tick, with_longer_ways}
use Rattle.wl_buses.specs.OneListener.Beside.{HasRoomToListen, with_listener, others_answering}

-- the stations with what gathers up to the CRC delimiter, if each but the listener may drive a bit dominant
abbrev pub others_gathered : Stations → (winner : ℕ) → (way : ℕ → ℕ → ℕ) → (chase : ℕ → ℕ) → Stations
others_gathered s winner way chase = others_answering s (gathered_by (with_listener s) way winner chase)

-- Two stations at least are there beside the listener, so that one acknowledges. Each station catches up with the winner, the listener too. There is room for what the others drive, at each
-- other one and at the listener, and for eleven bits' drift at the listener.
pub record CanBeHeard (s : Stations) (winner : ℕ) (way : ℕ → ℕ → ℕ) (chase more : ℕ → ℕ) : Type 0 where
  pub two : 1 < s.count
  pub ways : HaveWays (others_answering s way)
  pub catch : CatchUp (with_listener s) winner chase
  pub fits : FitsBut (others_gathered s winner way chase) more
  pub room : HaveRoomToSample (with_longer_ways (others_gathered s winner way chase) more)
  pub listens : HasRoomToListen s (with_longer_ways (others_gathered s winner way chase) more).way

-- What the listener drives reaches no other station before all have begun the ACK slot: its delay to each is longer (`never` on the cable of a plan).
abbrev pub IsUnheard : Stations → Outset → (end : ℕ) → Type 0
IsUnheard s o end = (i k : ℕ) → i < s.count → k < s.count
    → steady_tick (s.clocks k) ((expected_bits (with_listener s) o end).place k + bit_quanta (s.lengths k)) + s.delay k i < s.delay s.count i

-- There is room at the listener for what twelve bits without an edge drift apart: so many are from the ACK slot to the next frame.
abbrev pub HasRoomToRestBeside : Stations → (late : ℕ → ℕ → ℕ) → Type 0
HasRoomToRestBeside s late = (k : ℕ) → k < s.count
    → late k s.count + 12 * bit_drift s s.count k + shared_tick s s.count k
    ≤ (s.delay k s.count + s.delay s.count k) * shared_tick s s.count k + (s.lengths s.count).ps2 * shared_quantum s s.count k
