-- The acknowledgement of a frame: of its senders one is left, and each other station drives the ACK slot dominant.
use Rattle.std.specs.Prelude.{◌≡◌, ◌≢◌, ◌⊎◌, ℕ, suc, ◌+◌, ◌-◌, ◌*◌, ◌<◌, ◌≤◌, ◌==◌, ◌||◌, max, not, Bool, true, false, if◌then◌else◌}
use Rattle.std.specs.Int.{div_ceil}
use Rattle.wl_segments.specs.Lengths.{sample_at, bit_quanta}
use Rattle.wl_topology.specs.Driven.{driven}
use Rattle.wl_phase.specs.Clocks.{steady_tick}
use Rattle.wl_bound.specs.Terms.{greatest}
use Rattle.wl_buses.specs.OneFrame.Stations.{Stations, AreClose, bit_drift, with_longer_ways, shared_quantum, shared_tick}
use Rattle.wl_buses.specs.OneFrame.Starts.{Start, BeginBit, reaches_at}
use Rattle.wl_buses.specs.OneFrame.OneBit.{AreRight, FollowsOne, IsRight, sampled_at}

-- The same stations if some of them may drive a bit dominant that the others hear: `late k i` is how long after the bit of station k that of station i may reach it. And if each may.
abbrev pub answering_by : Stations → (answers : ℕ → Bool) → (late : ℕ → ℕ → ℕ) → Stations
answering_by s answers late = record s { may_send = answers; way = late }

abbrev pub answering : Stations → (late : ℕ → ℕ → ℕ) → Stations
answering s late = answering_by s (λ i. true) late

-- Any two stations are close, whoever sends.
abbrev pub AreAllClose : Stations → (late : ℕ → ℕ → ℕ) → (since : ℕ) → (place : ℕ → ℕ) → Type 0
AreAllClose s late since place = AreClose (answering s late) (λ i. true) since place

-- the way between any two, whichever edges they follow: there and back, and what the look of the one takes that follows, if its own loop is shorter
abbrev pub any_way : Stations → (k i : ℕ) → ℕ
any_way s k i = (s.delay k i + s.delay i k) * shared_tick s i k + (shared_quantum s k i + shared_tick s i k - s.delay k k * shared_tick s i k)

-- by how much a jump of station i is longer than one of station k
abbrev pub jump_gap : Stations → (i k : ℕ) → ℕ
jump_gap s i k = (s.lengths i).sjw * shared_quantum s i k - (s.lengths k).sjw * shared_quantum s k i

-- What gathers at two that both go forward to the bits of a winner: station k by as much as it may with each of so many edges, and station i with it. The winner itself stays close to each.
abbrev pub gathers : Stations → (winner : ℕ) → (chase : ℕ → ℕ) → (k i : ℕ) → ℕ
gathers s winner chase k i = if i == winner || k == winner then 0 else chase k * (10 * bit_drift s i k + jump_gap s i k)

abbrev pub gathered_by : Stations → (way : ℕ → ℕ → ℕ) → (winner : ℕ) → (chase : ℕ → ℕ) → (k i : ℕ) → ℕ
gathered_by s way winner chase k i = max (way k i) (s.way k i) + gathers s winner chase k i

abbrev pub gathered_way : Stations → (winner : ℕ) → (chase : ℕ → ℕ) → (k i : ℕ) → ℕ
gathered_way s winner chase = gathered_by s (any_way s) winner chase

-- A bit of station i may be so much later than the edge of station k that a jump doesn't put it right: by so many ticks, and by the most of them over all others.
abbrev pub overrun : Stations → (winner : ℕ) → (chase : ℕ → ℕ) → (i k : ℕ) → ℕ
overrun s winner chase i k =
    div_ceil (gathered_way s winner chase k i + 10 * bit_drift s i k - ((s.delay k i + s.delay i k) * shared_tick s i k + (s.lengths i).sjw * shared_quantum s i k)) (shared_tick s i k)

unfoldable pub most_overrun : Stations → (winner : ℕ) → (chase : ℕ → ℕ) → ℕ → ℕ
most_overrun s winner chase i = greatest s.count (λ k. not (k == i)) (overrun s winner chase i)

-- how long the way can be after an acknowledgement too
abbrev pub chased_way : Stations → (winner : ℕ) → (chase : ℕ → ℕ) → (k i : ℕ) → ℕ
chased_way s winner chase = (with_longer_ways (answering s (gathered_way s winner chase)) (most_overrun s winner chase)).way

-- With so many edges at most a station catches up with the winner: each takes a jump but for ten bits' drift away from how early it may be, and it needn't be nearer than a quantum.
abbrev pub CatchUp : Stations → (winner : ℕ) → (chase : ℕ → ℕ) → Type 0
CatchUp s winner chase = (k : ℕ) → k < s.count → k ≢ winner
    → s.way k winner + (shared_quantum s winner k - s.delay winner winner * shared_tick s winner k)
    ≤ suc (chase k) * ((s.lengths k).sjw * shared_quantum s k winner - 10 * bit_drift s winner k) + shared_quantum s k winner

-- a bit that all drive recessive, each from its place 0 on
abbrev pub recessive_bit : (place : ℕ → ℕ) → Start
recessive_bit place = record { drives = λ k. false; joins = λ k. false; due = place; place = place; from = place }

-- The end of a frame, of which one sender is left, the winner: the places 0 of the CRC delimiter, the ACK slot, and the quanta with which the ACK delimiter begins. What a station does may
-- rest on what it has sampled before. It drives no other frame before the tick `until`.
pub record IsAnsweredByAll (s : Stations) (late : ℕ → ℕ → ℕ) (winner : ℕ) (place : ℕ → ℕ) (slot : Start) (over : ℕ → ℕ) (drove : ℕ → ℕ → Bool) (until : ℕ → ℕ) : Type 0 where
  -- each other one acknowledges (Bosch CAN 2.0 part A, section 3.1.1, ACK field)
  pub some : 1 < s.count
  pub answers : (k : ℕ) → k < s.count → k ≢ winner → slot.drives k ≡ true
  pub waits : slot.drives winner ≡ false
  -- how the slot begins, a bit later or by the first acknowledgement
  pub due : (k : ℕ) → k < s.count → slot.due k ≡ place k + bit_quanta (s.lengths k)
  pub after : (k : ℕ) → k < s.count → place k + sample_at (s.lengths k) < slot.from k
  pub next : (k : ℕ) → k < s.count → IsRight s (recessive_bit place) drove k → (slot.from k ≡ place k + bit_quanta (s.lengths k)) ⊎ FollowsOne (answering s late) slot k
  pub begin : AreRight s (recessive_bit place) drove → BeginBit (answering s late) slot
  -- a bit later it ends, since no edge counts after a dominant sample (Bosch CAN 2.0 part B, section 10, synchronization rule 2)
  pub later : (k : ℕ) → k < s.count → slot.place k + sample_at (s.lengths k) < over k
  pub ends : (k : ℕ) → k < s.count → IsRight s slot drove k → over k ≡ slot.place k + bit_quanta (s.lengths k)
  -- who drives what
  pub quiet : (k t : ℕ) → k < s.count → steady_tick (s.clocks k) (place k) ≤ t → t < steady_tick (s.clocks k) (slot.from k) → drove k t ≡ false
  pub drives : (k t : ℕ) → k < s.count → IsRight s (recessive_bit place) drove k → steady_tick (s.clocks k) (slot.from k) ≤ t → t < steady_tick (s.clocks k) (over k)
      → drove k t ≡ slot.drives k
  pub rests : (k t : ℕ) → k < s.count → IsRight s slot drove k → steady_tick (s.clocks k) (over k) ≤ t → t < until k → drove k t ≡ false

-- Then each station samples the CRC delimiter recessive, and no acknowledgement reaches it before that. It samples the ACK slot dominant. From its sample of the ACK delimiter on the line is
-- recessive up to the next frame, and any two are close but for the drift since the slot.
pub record IsAcknowledgedByAll (s : Stations) (late : ℕ → ℕ → ℕ) (place : ℕ → ℕ) (slot : Start) (over : ℕ → ℕ) (drove : ℕ → ℕ → Bool) (until : ℕ → ℕ) : Type 0 where
  pub before : (i : ℕ) → i < s.count → driven s.count s.delay drove i (sampled_at s (recessive_bit place) i) ≡ false
  pub not_early : (i k : ℕ) → i < s.count → k < s.count → sampled_at s (recessive_bit place) i < reaches_at s slot k i
  pub dominant : (i : ℕ) → i < s.count → driven s.count s.delay drove i (sampled_at s slot i) ≡ true
  pub silent : (i t : ℕ) → i < s.count → sampled_at s (recessive_bit over) i ≤ t → ((k : ℕ) → k < s.count → t < until k + s.delay k i)
      → driven s.count s.delay drove i t ≡ false
  pub close : (n : ℕ) → AreAllClose s late n (λ i. slot.place i + n * bit_quanta (s.lengths i))
