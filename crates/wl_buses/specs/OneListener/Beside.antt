-- A station that only listens, beside the others: what it drives comes back to itself and to no other one (ISO 11898-1, bus monitoring).
use Rattle.std.specs.Prelude.{◌≡◌, ◌⊎◌, ℕ, suc, ◌+◌, ◌*◌, ◌<◌, ◌≤◌, ◌==◌, not, Bool, true, false}
use Rattle.wl_segments.specs.Lengths.{sample_at, bit_quanta}
use Rattle.wl_topology.specs.Driven.{driven}
use Rattle.wl_phase.specs.Clocks.{steady_tick}
use Rattle.wl_buses.specs.OneFrame.Stations.{Stations, AreClose, ReachesBy, bit_drift, shared_quantum}
use Rattle.wl_buses.specs.OneFrame.Starts.{Start, BeginsAlone, FollowsSoft, reaches_at}
use Rattle.wl_buses.specs.OneFrame.OneBit.{sampled_at}
use Rattle.wl_buses.specs.OneFrame.Acknowledged.{recessive_bit}

-- The stations and the listener, whose number is theirs: so what it drives reaches none of them.
abbrev pub with_listener : Stations → Stations
with_listener s = record s { count = suc s.count }

-- any of them but the listener
abbrev pub no_listener : Stations → ℕ → Bool
no_listener s k = not (k == s.count)

-- The same stations if each but the listener may drive a bit dominant. The ways are how late a bit may be for each two that aren't both listeners.
abbrev pub others_answering : Stations → (late : ℕ → ℕ → ℕ) → Stations
others_answering s late = record s { count = suc s.count; may_send = no_listener s; way = late }

-- Each other station is close to the listener, and any two of the others are close.
abbrev pub AreCloseBeside : Stations → (late : ℕ → ℕ → ℕ) → (since : ℕ) → (place : ℕ → ℕ) → Type 0
AreCloseBeside s late since place = AreClose (others_answering s late) (no_listener s) since place

-- what the listener finds at a tick
abbrev pub hears : Stations → (drove : ℕ → ℕ → Bool) → ℕ → Bool
hears s drove t = driven (suc s.count) s.delay drove s.count t

-- Nobody follows a listener that begins its ACK slot by itself: so eleven bits' drift fits before its sample. Its own slot is there at its sample, and a jump of each other station puts
-- right what ten bits of the listener drift.
pub record HasRoomToListen (s : Stations) (late : ℕ → ℕ → ℕ) : Type 0 where
  pub eleven : (k : ℕ) → k < s.count → late s.count k + 11 * bit_drift s k s.count ≤ sample_at (s.lengths s.count) * shared_quantum s s.count k
  pub loop : (s.clocks s.count).den * s.delay s.count s.count ≤ sample_at (s.lengths s.count) * (s.clocks s.count).num
  pub jumps : (k : ℕ) → k < s.count → 10 * bit_drift s s.count k ≤ (s.lengths k).sjw * shared_quantum s k s.count

-- The listener drives the ACK slot dominant as the others do: a bit later, or from the first acknowledgement on that reaches it. It begins the ACK delimiter a bit after that, and drives no
-- frame before the tick `until`.
pub record ListensToTheEnd (s : Stations) (place : ℕ → ℕ) (slot : Start) (over : ℕ → ℕ) (drove : ℕ → ℕ → Bool) (until : ℕ → ℕ) : Type 0 where
  pub answers : slot.drives s.count ≡ true
  pub due : slot.due s.count ≡ place s.count + bit_quanta (s.lengths s.count)
  pub begin : BeginsAlone (with_listener s) slot s.count ⊎ FollowsSoft (with_listener s) slot s.count
  pub ends : over s.count ≡ slot.place s.count + bit_quanta (s.lengths s.count)
  pub quiet : (t : ℕ) → steady_tick (s.clocks s.count) (place s.count) ≤ t → t < steady_tick (s.clocks s.count) (slot.from s.count) → drove s.count t ≡ false
  pub rests : (t : ℕ) → steady_tick (s.clocks s.count) (over s.count) ≤ t → t < until s.count → drove s.count t ≡ false

-- Then it samples the CRC delimiter recessive, and no acknowledgement reaches it before that. It samples the ACK slot dominant. From its sample of the ACK delimiter on it finds a recessive
-- line up to the next frame, and its bits are no later for the others than their ways allow, but for the drift since the slot.
pub record HearsTheEnd (s : Stations) (late : ℕ → ℕ → ℕ) (place : ℕ → ℕ) (slot : Start) (over : ℕ → ℕ) (drove : ℕ → ℕ → Bool) (until : ℕ → ℕ) : Type 0 where
  pub before : hears s drove (sampled_at s (recessive_bit place) s.count) ≡ false
  pub not_early : (k : ℕ) → k < s.count → sampled_at s (recessive_bit place) s.count < reaches_at s slot k s.count
  pub dominant : hears s drove (sampled_at s slot s.count) ≡ true
  pub silent : (t : ℕ) → sampled_at s (recessive_bit over) s.count ≤ t → ((k : ℕ) → k < suc s.count → t < until k + s.delay k s.count) → hears s drove t ≡ false
  pub close : (n k : ℕ) → k < s.count
      → ReachesBy (others_answering s late) n s.count k (slot.place s.count + n * bit_quanta (s.lengths s.count)) (slot.place k + n * bit_quanta (s.lengths k))
