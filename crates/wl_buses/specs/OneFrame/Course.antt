-- The bits of a frame, from its start on, as stations begin and drive them.
use Rattle.std.specs.Prelude.{◌≡◌, ◌⊎◌, ℕ, zero, suc, ◌+◌, ◌-◌, ◌<◌, ◌≤◌, ◌&&◌, ◌||◌, not, Bool, true, false, if◌then◌else◌}
use Rattle.wl_segments.specs.Lengths.{sample_at, bit_quanta}
use Rattle.wl_topology.specs.Driven.{any_below}
use Rattle.wl_phase.specs.Clocks.{steady_tick}
use Rattle.wl_buses.specs.OneFrame.Stations.{Stations, AreClose}
use Rattle.wl_buses.specs.OneFrame.Starts.{Start, AreAllowed, BeginBit, BeginFrame}
use Rattle.wl_buses.specs.OneFrame.OneBit.{AreRight, FollowsOne, IsRight, sampled_at}

-- what is on the bus in bit n: dominant if some station drives the bit dominant (Bosch CAN 2.0 part A, section 2, bus values)
abbrev pub bus_bit : Stations → (bits : ℕ → Start) → ℕ → Bool
bus_bit s bits n = any_below s.count (bits n).drives

-- a sender has sent a dominant bit: it drives it, or it has joined the start of frame
abbrev pub has_sent : (bits : ℕ → Start) → ℕ → ℕ → Bool
has_sent bits zero k = (bits 0).drives k || (bits 0).joins k
has_sent bits (suc n) k = (bits (suc n)).drives k

-- Station k has begun the frame, and each bit before bit n was on the bus as it sent it: else it has lost the arbitration (Bosch CAN 2.0 part B, section 3.1, arbitration).
abbrev pub still_sends : Stations → (bits : ℕ → Start) → ℕ → ℕ → Bool
still_sends s bits zero k = has_sent bits 0 k
still_sends s bits (suc n) k = still_sends s bits n k && (has_sent bits n k || not (bus_bit s bits n))

-- bit n begins with an edge from recessive to dominant
abbrev pub begins_with_edge : Stations → (bits : ℕ → Start) → ℕ → Bool
begins_with_edge s bits zero = true
begins_with_edge s bits (suc n) = not (bus_bit s bits n) && bus_bit s bits (suc n)

-- the bits from the last one that did up to bit n
abbrev pub since_edge : Stations → (bits : ℕ → Start) → ℕ → ℕ
since_edge s bits zero = 0
since_edge s bits (suc n) = if begins_with_edge s bits (suc n) then 0 else suc (since_edge s bits n)

-- station i has sampled the bits before bit n as they were on the bus
abbrev pub RightUpTo : Stations → (bits : ℕ → Start) → (drove : ℕ → ℕ → Bool) → (n i : ℕ) → Type 0
RightUpTo s bits drove n i = (m : ℕ) → m < n → IsRight s (bits m) drove i

-- So many bits of a frame. What a station does may rest on what it has sampled before, so that it is shown bit by bit. From the tick `until` on a station may drive what isn't of
-- these bits, as its acknowledgement.
pub record IsCourse (s : Stations) (bits : ℕ → Start) (drove : ℕ → ℕ → Bool) (length : ℕ) (until : ℕ → ℕ) : Type 0 where
  -- ten bits in a row have an edge (Bosch CAN 2.0 part B, section 6)
  pub few : (n : ℕ) → n < length → since_edge s bits n ≤ 9
  -- how the bits begin: the start of frame, a bit with an edge, another one
  pub begin : BeginFrame s (bits 0)
  pub allowed : AreAllowed s (has_sent bits 0)
  pub due : (n i : ℕ) → i < s.count → (bits (suc n)).due i ≡ (bits n).place i + bit_quanta (s.lengths i)
  pub edge : (n : ℕ) → suc n < length → ((i : ℕ) → i < s.count → RightUpTo s bits drove (suc n) i) → begins_with_edge s bits (suc n) ≡ true → BeginBit s (bits (suc n))
  pub plain : (n i : ℕ) → suc n < length → i < s.count → ((i : ℕ) → i < s.count → RightUpTo s bits drove (suc n) i) → begins_with_edge s bits (suc n) ≡ false
      → ((bits (suc n)).place i ≡ (bits (suc n)).due i) × ((bits (suc n)).from i ≡ (bits (suc n)).place i)
  pub after : (n k : ℕ) → n < length → k < s.count → (bits n).place k + sample_at (s.lengths k) < (bits (suc n)).from k
  pub next : (n k : ℕ) → n < length → k < s.count → still_sends s bits n k ≡ true → RightUpTo s bits drove (suc n) k
      → ((bits (suc n)).from k ≡ (bits n).place k + bit_quanta (s.lengths k)) ⊎ FollowsOne s (bits (suc n)) k
  -- who drives what: a sender its bits, who has lost or only listens nothing, and who joins nothing before its bit after the start of frame
  pub senders : (n k : ℕ) → n ≤ length → k < s.count → RightUpTo s bits drove n k → (bits n).drives k ≡ true → still_sends s bits n k ≡ true
  pub drives : (n k t : ℕ) → n < length → k < s.count → RightUpTo s bits drove n k → still_sends s bits n k ≡ true
      → steady_tick (s.clocks k) ((bits n).from k) ≤ t → t < steady_tick (s.clocks k) ((bits (suc n)).from k) → drove k t ≡ (bits n).drives k
  pub lost : (n k t : ℕ) → n < length → k < s.count → RightUpTo s bits drove (suc n) k → still_sends s bits n k ≡ true → still_sends s bits (suc n) k ≡ false
      → steady_tick (s.clocks k) ((bits (suc n)).from k) ≤ t → t < until k → drove k t ≡ false
  pub listens : (n i k : ℕ) → n < length → i < s.count → k < s.count → has_sent bits 0 k ≡ false → RightUpTo s bits drove n k
      → (sampled_at s (bits n) k < sampled_at s (bits n) i → IsRight s (bits n) drove k)
      → s.delay k i ≤ sampled_at s (bits n) i → drove k (sampled_at s (bits n) i - s.delay k i) ≡ false
  pub joined : (k t : ℕ) → 0 < length → k < s.count → has_sent bits 0 k ≡ true → (bits 0).drives k ≡ false → t < steady_tick (s.clocks k) ((bits 1).from k)
      → drove k t ≡ false
  pub over : (n i k : ℕ) → n < length → i < s.count → k < s.count → sampled_at s (bits n) i < until k + s.delay k i

-- each station samples each bit as it is on the bus, and who still sends after it is close to all
pub record IsSampled (s : Stations) (bits : ℕ → Start) (drove : ℕ → ℕ → Bool) (n : ℕ) : Type 0 where
  pub right : AreRight s (bits n) drove
  pub close : AreClose s (still_sends s bits (suc n)) (since_edge s bits n) (bits n).place
