-- From what a bus leaves for twelve bits' drift at a sample, in units, to that of stations, in the parts of a tick that two clocks share.
use Rattle.std.proofs.Common.{◌≡◌, ap, ℕ, ◌+◌, ◌*◌, ◌<◌, ◌≤◌, arith}
use Rattle.std.proofs.Math.Nat.{mul-le-mul_left, le_of_mul-le-mul_left}
use Rattle.wl_segments.specs.Lengths.{sample_at}
use Rattle.wl_bound.specs.Families.{Bus}
use Rattle.wl_bound.specs.Rooms.{left_over}
use Rattle.wl_bound.specs.Terms.{drift, look}
use Rattle.wl_buses.specs.OneFrame.Acknowledged.{chased_way}
use Rattle.wl_buses.specs.OneFrame.Answers.{HasRoomToAnswer, gathered}
use Rattle.wl_buses.specs.OneFrame.Bounds.{HasStations}
use Rattle.wl_buses.specs.OneFrame.Stations.{AreOnALine, Stations, bit_drift, shared_quantum, shared_tick}
use Rattle.wl_buses.proofs.OneFrame.AckBounds.{drift_high, extra, extra_high, late_is}
use Rattle.wl_buses.proofs.OneFrame.Bounded.{inside as inside_bus, quanta_back}
use Rattle.wl_buses.specs.TakesPart.Decisions.{AllMayDecide, LeavesRoomToDecide}

-- u units and m parts are as long
fits_sample : (u m late way drifts more units drifts_units way_units room room_units : ℕ) → 0 < u → late ≤ way + more → u * way ≤ m * way_units → u * more ≤ m * units → u * drifts ≤ m * drifts_units
    → m * room_units ≤ u * room → way_units + units + 12 * drifts_units ≤ room_units → late + 12 * drifts ≤ room
fits_sample u m late way drifts more units drifts_units way_units room room_units some high ways extra drift left enough =
    let all : m * (way_units + units + 12 * drifts_units) ≤ m * room_units = mul-le-mul_left m enough in
    let first : u * late ≤ u * (way + more) = mul-le-mul_left u high in
    let sum : u * (late + 12 * drifts) ≤ u * room = omega arith in
    le_of_mul-le-mul_left sum some

pub room_to_decide : (bus : Bus) (s : Stations) → AreOnALine s → HasStations bus s → (chase : ℕ → ℕ) → HasRoomToAnswer bus chase
    → LeavesRoomToDecide bus chase → AllMayDecide s chase
room_to_decide bus s line of chase has leaves winner wins may i k ni nk apart =
    let h = leaves i k (inside_bus bus s line of i ni) (inside_bus bus s line of k nk) apart in
    let p : sample_at (bus.lengths i) * bus.shortest i ≡ sample_at (s.lengths i) * bus.shortest i = ap (λ l. sample_at l * bus.shortest i) (of.lengths i) in
    let one = of.delays i k ni nk in
    let two = of.delays k i nk ni in
    let sum : (s.delay i k + s.delay k i) * bus.tick ≡ s.delay i k * bus.tick + s.delay k i * bus.tick = omega arith in
    fits_sample bus.tick (shared_tick s k i) (chased_way s winner chase i k) ((s.delay i k + s.delay k i) * shared_tick s k i) (bit_drift s k i) (extra bus s line of winner wins may chase has k i)
    (look bus i + gathered bus chase k i + left_over bus (gathered bus chase) k) (drift bus k i) ((s.delay i k + s.delay k i) * bus.tick) (sample_at (s.lengths i) * shared_quantum s i k) (sample_at (s.lengths i) * bus.shortest i)
    of.some (late_is bus s line of winner wins may chase has k i nk ni) (omega arith) (extra_high bus s line of winner wins may chase has k i nk ni) (drift_high bus s line of winner wins may chase has k i nk ni)
    (quanta_back bus s line of k i (sample_at (s.lengths i)) ni) (omega arith)
