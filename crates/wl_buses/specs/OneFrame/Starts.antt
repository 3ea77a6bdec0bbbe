-- How a bit with an edge begins at each station: by itself, or by the first edge that reaches it.
use Rattle.std.specs.Prelude.{◌≡◌, ◌≢◌, ◌⊎◌, ℕ, suc, ◌+◌, ◌-◌, ◌<◌, ◌≤◌, Bool, true}
use Rattle.wl_phase.specs.Clocks.{Finds, steady_tick}
use Rattle.wl_phase.specs.Ways.{moved_to}
use Rattle.wl_buses.specs.OneFrame.Stations.{Stations}

-- Such a bit: who drives it dominant, and of each station the quantum with which it is due if no edge moves it, the quantum of its place 0 as its sample is counted from it, and the
-- quantum from which it is driven. Of a start of frame also who joins it: who takes it, in the third bit of its intermission, for the start of a frame of its own, and sends the bits after it
-- (Bosch CAN 2.0 part B, section 3.2.5, intermission).
pub record Start : Type 0 where
  pub drives : ℕ → Bool
  pub joins : ℕ → Bool
  pub due : ℕ → ℕ
  pub place : ℕ → ℕ
  pub from : ℕ → ℕ

-- the tick at which the bit of station k reaches station i
abbrev pub reaches_at : Stations → Start → (k i : ℕ) → ℕ
reaches_at s b k i = steady_tick (s.clocks k) (b.from k) + s.delay k i

-- a station other than i that drives the bit dominant
pub record Drives (s : Stations) (b : Start) (i k : ℕ) : Type 0 where
  pub inside : k < s.count
  pub other : k ≢ i
  pub dominant : b.drives k ≡ true

-- Station i begins its dominant bit by itself: up to that quantum it has found no edge.
pub record BeginsAlone (s : Stations) (b : Start) (i : ℕ) : Type 0 where
  pub dominant : b.drives i ≡ true
  pub place : b.place i ≡ b.due i
  pub from : b.from i ≡ b.place i
  pub unfound : (k : ℕ) → Drives s b i k → steady_tick (s.clocks i) (b.place i) < reaches_at s b k i

-- Quantum `found` of station i finds the first edge that reaches it, which is one of station k.
pub record FindsFirst (s : Stations) (b : Start) (i k found : ℕ) : Type 0 where
  pub by : Drives s b i k
  pub later : 0 < found
  pub finds : Finds (s.clocks i) found (reaches_at s b k i)
  pub first : (w : ℕ) → Drives s b i w → reaches_at s b k i ≤ reaches_at s b w i

-- The edge synchronises the station hard. It finds the edge at place 1, and there it drives its own start of frame if it has one (Bosch CAN 2.0 part B, section 10, hard
-- synchronization).
pub record FollowsHard (s : Stations) (b : Start) (i : ℕ) : Type 0 where
  pub by : ℕ
  pub found : ℕ
  pub finds : FindsFirst s b i by found
  pub place : suc (b.place i) ≡ found
  pub from : b.from i ≡ found

-- The edge resynchronises the station by its jump width at most. If it drives dominant, the edge comes by the quantum with which its bit is due, and it drives from place 0 or 1
-- on (Bosch CAN 2.0 part B, section 10, resynchronization; a late edge doesn't count at a station that drives dominant: ISO 11898-1).
pub record FollowsSoft (s : Stations) (b : Start) (i : ℕ) : Type 0 where
  pub by : ℕ
  pub found : ℕ
  pub finds : FindsFirst s b i by found
  pub place : b.place i ≡ moved_to (found - 1) (s.lengths i).sjw (b.due i)
  pub early : b.drives i ≡ true → found ≤ b.due i
  pub from_low : b.drives i ≡ true → b.place i ≤ b.from i
  pub from_high : b.drives i ≡ true → b.from i ≤ suc (b.place i)
  pub not_before : b.drives i ≡ true → found ≤ b.from i

-- the start of frame, and any later bit with an edge
abbrev pub BeginFrame : Stations → Start → Type 0
BeginFrame s b = (i : ℕ) → i < s.count → BeginsAlone s b i ⊎ FollowsHard s b i

abbrev pub BeginBit : Stations → Start → Type 0
BeginBit s b = (i : ℕ) → i < s.count → BeginsAlone s b i ⊎ FollowsSoft s b i

-- who drives it dominant is one of the senders
abbrev pub AreSenders : Stations → (sends : ℕ → Bool) → Start → Type 0
AreSenders s sends b = (k : ℕ) → k < s.count → b.drives k ≡ true → sends k ≡ true

-- and one of those that may send
abbrev pub AreAllowed : Stations → (sends : ℕ → Bool) → Type 0
AreAllowed s sends = (k : ℕ) → k < s.count → sends k ≡ true → s.may_send k ≡ true
