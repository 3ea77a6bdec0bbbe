-- Stations that share a line, and how far apart their bits begin.
use Rattle.std.specs.Prelude.{◌≢◌, ◌⊎◌, ◌≡◌, ℕ, ◌+◌, ◌-◌, ◌*◌, ◌<◌, ◌≤◌, Bool, true}
use Rattle.wl_segments.specs.Lengths.{Lengths, sample_at, bit_quanta}
use Rattle.wl_phase.specs.Clocks.{Steady, IsSteady, instant}
use Rattle.wl_phase.specs.Ways.{ByTheBook}

-- Stations by number: their clocks, their segments, and the delay from one to another in ticks. That from a station to itself is the delay of its own loop. Which of them may send, and
-- how long after the bit of station k has begun that of station i may reach it: `way k i`, in the parts of a tick that their clocks share.
pub record Stations : Type 0 where
  pub count : ℕ
  pub clocks : ℕ → Steady
  pub lengths : ℕ → Lengths
  pub delay : ℕ → ℕ → ℕ
  pub may_send : ℕ → Bool
  pub way : ℕ → ℕ → ℕ

-- What takes time at two stations i and k is measured in the parts of a tick that both clocks have: the product of their denominators makes one. A tick, a quantum of i
-- and the instant at which quantum n of i begins:
abbrev pub shared_tick : Stations → (i k : ℕ) → ℕ
shared_tick s i k = (s.clocks i).den * (s.clocks k).den

abbrev pub shared_quantum : Stations → (i k : ℕ) → ℕ
shared_quantum s i k = (s.clocks k).den * (s.clocks i).num

abbrev pub shared_instant : Stations → (i k n : ℕ) → ℕ
shared_instant s i k n = (s.clocks k).den * instant (s.clocks i) n

-- by how much a bit of station i is longer than one of station k
abbrev pub bit_drift : Stations → (i k : ℕ) → ℕ
bit_drift s i k = bit_quanta (s.lengths i) * shared_quantum s i k - bit_quanta (s.lengths k) * shared_quantum s k i

-- The bit that station i begins by its quantum n reaches station k no later than by the way after that one's bit begins, by its quantum p, but for what so many bits since the last edge
-- drift apart.
abbrev pub ReachesBy : Stations → (since i k n p : ℕ) → Type 0
ReachesBy s since i k n p = shared_instant s i k n + s.delay i k * shared_tick s i k < shared_instant s k i p + s.way k i + since * bit_drift s i k

-- It is so with each two stations if one of them sends, both ways. Place 0 of the bit of each is at the quantum `place`.
abbrev pub AreClose : Stations → (sends : ℕ → Bool) → (since : ℕ) → (place : ℕ → ℕ) → Type 0
AreClose s sends since place = (i k : ℕ) → i < s.count → k < s.count → i ≢ k → (sends i ≡ true) ⊎ (sends k ≡ true)
    → ReachesBy s since i k (place i) (place k)

-- one of two stations may send
abbrev pub IsPair : Stations → (i k : ℕ) → Type 0
IsPair s i k = (i ≢ k) × ((s.may_send i ≡ true) ⊎ (s.may_send k ≡ true))

-- A way is as long as one edge takes that makes both stations begin. If k begins by itself, its bit reaches i, and that of i comes back. Else k looks at the line once a quantum, and follows the
-- edge of a third station, or that of i.
pub record HaveWays (s : Stations) : Type 0 where
  pub there_and_back : (i k : ℕ) → i < s.count → k < s.count → IsPair s i k → s.may_send k ≡ true → (s.delay k i + s.delay i k) * shared_tick s i k ≤ s.way k i
  pub over : (i k a : ℕ) → i < s.count → k < s.count → a < s.count → IsPair s i k → a ≢ i → a ≢ k → s.may_send a ≡ true
      → (s.delay a i + s.delay i k) * shared_tick s i k + shared_quantum s k i + shared_tick s i k ≤ s.way k i + s.delay a k * shared_tick s i k
  pub straight : (i k : ℕ) → i < s.count → k < s.count → IsPair s i k → s.may_send i ≡ true → shared_quantum s k i + shared_tick s i k ≤ s.way k i

-- They synchronise by the rules of the book, delays take a tick or more, and no way over a third station's loop is shorter (this project's profile).
pub record AreOnALine (s : Stations) : Type 0 where
  pub steady : (i : ℕ) → i < s.count → IsSteady (s.clocks i)
  pub book : (i : ℕ) → i < s.count → ByTheBook (s.lengths i)
  pub later : (i k : ℕ) → i < s.count → k < s.count → 0 < s.delay i k
  pub detours : (i j k : ℕ) → i < s.count → j < s.count → k < s.count → s.delay i k + s.delay j j ≤ s.delay i j + s.delay j k

pub record AreStations (s : Stations) : Type 0 where
  pub line : AreOnALine s
  pub ways : HaveWays s

-- A jump of station i puts right what ten bits of a station k drift that may send (Bosch CAN 2.0 part B, section 10: the resynchronisation jump width).
abbrev pub DriftFitsJump : Stations → Type 0
DriftFitsJump s = (i k : ℕ) → i < s.count → k < s.count → i ≢ k → s.may_send k ≡ true → 10 * bit_drift s k i ≤ (s.lengths i).sjw * shared_quantum s i k

-- The inequalities of the condition for what stations sample, of a station i, a station k that may send, and ten bits' drift.
pub record HaveRoomToSample (s : Stations) : Type 0 where
  pub late_fits : DriftFitsJump s
  -- a bit is there at each sample, as late as it may be (Bosch CAN 2.0 part B, section 10: PROP_SEG)
  pub is_there : (i k : ℕ) → i < s.count → k < s.count → i ≢ k → s.may_send k ≡ true → s.way i k + 10 * bit_drift s k i ≤ sample_at (s.lengths i) * shared_quantum s i k
  pub loops : (i : ℕ) → i < s.count → s.may_send i ≡ true → (s.clocks i).den * s.delay i i ≤ sample_at (s.lengths i) * (s.clocks i).num
  -- and the next one isn't there yet
  pub not_early : (i k : ℕ) → i < s.count → k < s.count → i ≢ k → s.may_send k ≡ true
      → s.way k i + 10 * bit_drift s i k + shared_tick s i k ≤ (s.delay k i + s.delay i k) * shared_tick s i k + (s.lengths i).ps2 * shared_quantum s i k

-- The inequalities of the condition, with one more: an edge puts right what has gathered since the one before.
pub record HaveRoom (s : Stations) : Type 0 where
  pub early_fits : (i k : ℕ) → i < s.count → k < s.count → i ≢ k → s.may_send k ≡ true
      → s.way k i + 10 * bit_drift s i k ≤ (s.delay k i + s.delay i k) * shared_tick s i k + (s.lengths i).sjw * shared_quantum s i k
  pub samples : HaveRoomToSample s

-- The same stations, with ways that are longer by so many ticks: for each station i by those of its own.
abbrev pub with_longer_ways : Stations → (more : ℕ → ℕ) → Stations
with_longer_ways s more = record s { way = λ k i. s.way k i + more i * shared_tick s i k }

-- An edge puts right what has gathered since the one before, but for so many ticks.
abbrev pub FitsBut : Stations → (more : ℕ → ℕ) → Type 0
FitsBut s more = (i k : ℕ) → i < s.count → k < s.count → i ≢ k → s.may_send k ≡ true
    → s.way k i + 10 * bit_drift s i k ≤ (s.delay k i + s.delay i k) * shared_tick s i k + (s.lengths i).sjw * shared_quantum s i k + more i * shared_tick s i k
