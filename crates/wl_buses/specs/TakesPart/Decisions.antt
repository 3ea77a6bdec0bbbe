-- Room for a bus on which no station decides a second time.
use Rattle.std.specs.Prelude.{◌≡◌, ◌≢◌, ℕ, ◌+◌, ◌*◌, ◌<◌, ◌≤◌, true}
use Rattle.wl_segments.specs.Lengths.{sample_at}
use Rattle.wl_bound.specs.Families.{Bus}
use Rattle.wl_bound.specs.Rooms.{left_over}
use Rattle.wl_bound.specs.Terms.{drift, look}
use Rattle.wl_buses.specs.OneFrame.Acknowledged.{chased_way}
use Rattle.wl_buses.specs.OneFrame.Answers.{gathered}
use Rattle.wl_buses.specs.OneFrame.Stations.{Stations, bit_drift, shared_quantum}

-- A bit is there at each sample, twelve bits after the last edge: so many are from the ACK slot to the next start of frame (Bosch CAN 2.0 part B, section 10: PROP_SEG).
abbrev pub HasRoomToDecide : Stations → (late : ℕ → ℕ → ℕ) → Type 0
HasRoomToDecide s late = (i k : ℕ) → i < s.count → k < s.count → i ≢ k → late i k + 12 * bit_drift s k i ≤ sample_at (s.lengths i) * shared_quantum s i k

-- whichever of the stations that may send has won
abbrev pub AllMayDecide : Stations → (chase : ℕ → ℕ) → Type 0
AllMayDecide s chase = (w : ℕ) → w < s.count → s.may_send w ≡ true → HasRoomToDecide s (chased_way s w chase)

-- The inequality for that, of any two nodes of a bus as if both sent, wherever within its tolerance each clock lies.
abbrev pub LeavesRoomToDecide : Bus → (chase : ℕ → ℕ) → Type 0
LeavesRoomToDecide bus chase = (i k : ℕ) → i < bus.nodes → k < bus.nodes → i ≢ k
    → bus.delay i k + bus.delay k i + look bus i + gathered bus chase k i + left_over bus (gathered bus chase) k + 12 * drift bus k i ≤ sample_at (bus.lengths i) * bus.shortest i
