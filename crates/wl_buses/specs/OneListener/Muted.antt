-- Stations with one that others hear, and the same if it only listens.
use Rattle.std.specs.Prelude.{ℕ, ◌+◌, ◌*◌, ◌<◌, ◌≤◌, ◌==◌, ◌&&◌, not, if◌then◌else◌}
use Rattle.wl_segments.specs.Lengths.{sample_at}
use Rattle.wl_bound.specs.Families.{Bus}
use Rattle.wl_bound.specs.Rooms.{left_over}
use Rattle.wl_bound.specs.Terms.{drift, look}
use Rattle.wl_buses.specs.OneFrame.Acknowledged.{any_way, most_overrun}
use Rattle.wl_buses.specs.OneFrame.Answers.{gathered}
use Rattle.wl_buses.specs.OneFrame.Stations.{AreStations, HaveRoom, Stations, bit_drift, shared_quantum, shared_tick}
use Rattle.wl_buses.specs.OneListener.Beside.{with_listener}
use Rattle.wl_buses.specs.OneListener.Ends.{CanBeHeard}

-- what the station after the last drives takes so many ticks longer to each other one
abbrev pub farther : Stations → (far : ℕ) → (i k : ℕ) → ℕ
farther s far i k = if i == s.count && not (k == s.count) then far else 0

abbrev pub muted : Stations → (far : ℕ) → Stations
muted s far = record s { delay = λ i k. s.delay i k + farther s far i k; way = λ k i. s.way k i + farther s far i k * shared_tick s i k }

-- the way between any two, in the same ticks
abbrev pub muted_way : Stations → (far : ℕ) → (k i : ℕ) → ℕ
muted_way s far k i = any_way (with_listener s) k i + farther s far i k * shared_tick s i k

-- Eleven bits' drift fits before the sample of the station after the last.
abbrev pub FitsEleven : Stations → (late : ℕ → ℕ → ℕ) → Type 0
FitsEleven s late = (k : ℕ) → k < s.count → late s.count k + 11 * bit_drift s k s.count ≤ sample_at (s.lengths s.count) * shared_quantum s s.count k

-- Then all that is asked of a line with a listener is met if that station only listens.
pub record MayListen (s : Stations) (far winner : ℕ) (chase : ℕ → ℕ) : Type 0 where
  pub are : AreStations (with_listener (muted s far))
  pub room : HaveRoom (with_listener (muted s far))
  pub can : CanBeHeard (muted s far) winner (muted_way s far) chase (most_overrun (with_listener s) winner chase)

-- The inequality of a bus for that: as that for a bit that is there at the sample of acknowledgements (`HasRoomToAnswer`), with eleven bits' drift in the place of ten, at node i.
abbrev pub LeavesRoomToListen : Bus → (chase : ℕ → ℕ) → (i : ℕ) → Type 0
LeavesRoomToListen bus chase i = (k : ℕ) → k < i
    → bus.delay i k + bus.delay k i + look bus i + gathered bus chase k i + left_over bus (gathered bus chase) k + 11 * drift bus k i ≤ sample_at (bus.lengths i) * bus.shortest i
