-- Stations as one of the buses of the condition for margins.
use Rattle.std.specs.Prelude.{◌≡◌, ℕ, ◌+◌, ◌-◌, ◌*◌, ◌<◌, ◌≤◌, ◌==◌, ◌&&◌, not, max, Bool, true, false, if◌then◌else◌}
use Rattle.wl_bound.specs.Families.{Bus}
use Rattle.wl_bound.specs.Terms.{greatest}
use Rattle.wl_buses.specs.OneFrame.Stations.{Stations, shared_quantum, shared_tick}

-- how long after its own the bit of station i reaches station k at most, if k follows the edge of station a, which may be i
abbrev pub following_way : Stations → (k i a : ℕ) → ℕ
following_way s k i a =
    if a == i then shared_quantum s k i + shared_tick s i k
    else (s.delay a i + s.delay i k) * shared_tick s i k + shared_quantum s k i + shared_tick s i k - s.delay a k * shared_tick s i k

-- a station but for one that may send
abbrev pub other_sends : Stations → (k a : ℕ) → Bool
other_sends s k a = s.may_send a && not (a == k)

-- there and back if k may send, and over whoever else may
abbrev pub bus_way : Stations → (k i : ℕ) → ℕ
bus_way s k i = max (if s.may_send k then (s.delay k i + s.delay i k) * shared_tick s i k else 0) (greatest s.count (other_sends s k) (following_way s k i))

-- The nodes and delays of the bus are these, in its units, and each clock lies within its tolerance. None that may send only listens.
pub record HasStations (bus : Bus) (s : Stations) : Type 0 where
  pub nodes : bus.nodes ≡ s.count
  pub some : 0 < bus.tick
  pub slowest : (i : ℕ) → i < s.count → bus.tick * (s.clocks i).num ≤ bus.longest i * (s.clocks i).den
  pub fastest : (i : ℕ) → i < s.count → bus.shortest i * (s.clocks i).den ≤ bus.tick * (s.clocks i).num
  pub lengths : (i : ℕ) → bus.lengths i ≡ s.lengths i
  pub delays : (i j : ℕ) → i < s.count → j < s.count → bus.delay i j ≡ s.delay i j * bus.tick
  pub ways : (i k : ℕ) → i < s.count → k < s.count → s.way k i ≡ bus_way s k i
  pub sends : (i : ℕ) → i < s.count → bus.sends i ≡ s.may_send i
  pub answers : (i : ℕ) → i < s.count → s.may_send i ≡ true → bus.listens i ≡ false
