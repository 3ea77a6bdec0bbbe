-- From what a bus leaves for twelve bits' drift, in units, to that of stations, in the parts of a tick that two clocks share.
use Rattle.std.proofs.Common.{◌≡◌, ap, ℕ, ◌+◌, ◌*◌, ◌<◌, ◌≤◌, true, arith}
use Rattle.std.proofs.Math.Nat.{mul-le-mul_left, le_of_mul-le-mul_left}
use Rattle.wl_bound.specs.Families.{Bus}
use Rattle.wl_bound.specs.Rooms.{left_over}
use Rattle.wl_bound.specs.Terms.{drift, look}
use Rattle.wl_buses.specs.OneFrame.Acknowledged.{chased_way}
use Rattle.wl_buses.specs.OneFrame.Answers.{HasRoomToAnswer, gathered}
use Rattle.wl_buses.specs.OneFrame.Bounds.{HasStations}
use Rattle.wl_buses.specs.OneFrame.Stations.{AreOnALine, Stations, bit_drift, shared_quantum, shared_tick}
use Rattle.wl_buses.proofs.OneFrame.AckBounds.{drift_high, extra, extra_high, late_is}
use Rattle.wl_buses.proofs.OneFrame.Bounded.{inside as inside_bus, quanta_low}
use Rattle.wl_buses.specs.FrameEnd.Again.{HasRoomToRest, LeavesRoomToRest}

-- u units and m parts are as long
fits_twelve : (u m late drifts back more units drifts_units room room_units : ℕ) → 0 < u → late ≤ back + more → u * more ≤ m * units → u * drifts ≤ m * drifts_units
    → m * room_units ≤ u * room → units + 12 * drifts_units + u ≤ room_units → late + 12 * drifts + m ≤ back + room
fits_twelve u m late drifts back more units drifts_units room room_units some way extra drift left enough =
    let all : m * (units + 12 * drifts_units + u) ≤ m * room_units = mul-le-mul_left m enough in
    let first : u * late ≤ u * (back + more) = mul-le-mul_left u way in
    let sum : u * (late + 12 * drifts + m) ≤ u * (back + room) = omega arith in
    le_of_mul-le-mul_left sum some

pub room_to_rest : (bus : Bus) (s : Stations) → AreOnALine s → HasStations bus s → (winner : ℕ) → winner < s.count → s.may_send winner ≡ true → (chase : ℕ → ℕ) → HasRoomToAnswer bus chase
    → LeavesRoomToRest bus chase → HasRoomToRest s (chased_way s winner chase)
room_to_rest bus s line of winner wins may chase has leaves i k ni nk apart =
    let h = leaves i k (inside_bus bus s line of i ni) (inside_bus bus s line of k nk) apart in
    let p : (bus.lengths i).ps2 * bus.shortest i ≡ (s.lengths i).ps2 * bus.shortest i = ap (λ l. l.ps2 * bus.shortest i) (of.lengths i) in
    fits_twelve bus.tick (shared_tick s i k) (chased_way s winner chase k i) (bit_drift s i k) ((s.delay k i + s.delay i k) * shared_tick s i k)
    (extra bus s line of winner wins may chase has i k) (look bus k + gathered bus chase i k + left_over bus (gathered bus chase) i) (drift bus i k) ((s.lengths i).ps2 * shared_quantum s i k) ((s.lengths i).ps2 * bus.shortest i)
    of.some (late_is bus s line of winner wins may chase has i k ni nk) (extra_high bus s line of winner wins may chase has i k ni nk) (drift_high bus s line of winner wins may chase has i k ni nk)
    (quanta_low bus s line of i k (s.lengths i).ps2 ni) (omega arith)
