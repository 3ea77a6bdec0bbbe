-- One bit of a frame on the line: what each station samples, and what all drive.
use Rattle.std.specs.Prelude.{◌≡◌, ◌⊎◌, ℕ, ◌+◌, ◌-◌, ◌<◌, ◌≤◌, Bool, true, false}
use Rattle.wl_segments.specs.Lengths.{sample_at, bit_quanta}
use Rattle.wl_topology.specs.Driven.{driven, any_below}
use Rattle.wl_phase.specs.Clocks.{steady_tick}
use Rattle.wl_buses.specs.OneFrame.Stations.{Stations, AreClose}
use Rattle.wl_buses.specs.OneFrame.Starts.{Start, Drives, AreAllowed, AreSenders, reaches_at}

-- the tick at which station i samples a bit
abbrev pub sampled_at : Stations → Start → ℕ → ℕ
sampled_at s b i = steady_tick (s.clocks i) (b.place i + sample_at (s.lengths i))

-- Station i finds dominant at its sample of the bit exactly if some station drives the bit dominant (Bosch CAN 2.0 part A, section 2, bus values; part B, section 3.1).
abbrev pub IsRight : Stations → Start → (drove : ℕ → ℕ → Bool) → ℕ → Type 0
IsRight s b drove i = driven s.count s.delay drove i (sampled_at s b i) ≡ any_below s.count b.drives

-- Station k drives a bit no earlier than the edge of some other station reaches it, by which that bit began.
abbrev pub FollowsOne : Stations → Start → ℕ → Type 0
FollowsOne s b k = (w : ℕ) × Drives s b k w × (reaches_at s b w k ≤ steady_tick (s.clocks k) (b.from k))

-- The bit b of a frame, and the next one c. So many bits have passed since the last edge. How a station begins the next bit is asked only of one whose sample of this bit is right.
pub record OneBit (s : Stations) (sends : ℕ → Bool) (since : ℕ) (b c : Start) (drove : ℕ → ℕ → Bool) : Type 0 where
  pub close : AreClose s sends since b.place
  pub few : since ≤ 9
  pub allowed : AreAllowed s sends
  pub senders : AreSenders s sends b
  -- a sender's bit begins with its place 0, or the edge of another one moved it; a dominant one is driven no earlier than that edge
  pub begun : (k : ℕ) → k < s.count → sends k ≡ true
      → (b.from k ≡ b.place k) ⊎ ((w : ℕ) × Drives s b k w × (b.drives k ≡ true → reaches_at s b w k ≤ steady_tick (s.clocks k) (b.from k)))
  -- each samples the bit before it begins the next one: a bit later, or by an edge of that one
  pub after : (k : ℕ) → k < s.count → b.place k + sample_at (s.lengths k) < c.from k
  pub still : (k : ℕ) → k < s.count → IsRight s b drove k → c.drives k ≡ true → sends k ≡ true
  pub next : (k : ℕ) → k < s.count → sends k ≡ true → IsRight s b drove k → (c.from k ≡ b.place k + bit_quanta (s.lengths k)) ⊎ FollowsOne s c k
  -- a sender drives the bit from its begin to that of the next one, and what a station drives that sends no more is found recessive
  pub drives : (k t : ℕ) → k < s.count → sends k ≡ true → steady_tick (s.clocks k) (b.from k) ≤ t → t < steady_tick (s.clocks k) (c.from k) → drove k t ≡ b.drives k
  pub quiet : (i k : ℕ) → i < s.count → k < s.count → sends k ≡ false
      → (sampled_at s b k < sampled_at s b i → IsRight s b drove k) → s.delay k i ≤ sampled_at s b i → drove k (sampled_at s b i - s.delay k i) ≡ false

-- all samples are right
abbrev pub AreRight : Stations → Start → (drove : ℕ → ℕ → Bool) → Type 0
AreRight s b drove = (i : ℕ) → i < s.count → IsRight s b drove i
