-- From what a bus has for a listener, in units, to that of stations, in the parts of a tick that two clocks share.
use Rattle.std.proofs.Common.{◌≡◌, ◌∙◌, ap, ℕ, suc, ◌+◌, ◌*◌, ◌<◌, ◌≤◌, true, arith}
use Rattle.std.proofs.Math.Nat.{mul-le-mul_left, le_of_mul-le-mul_left}
use Rattle.wl_segments.specs.Lengths.{sample_at}
use Rattle.wl_bound.specs.Families.{Bus}
use Rattle.wl_bound.specs.Rooms.{left_over}
use Rattle.wl_bound.specs.Terms.{drift, look}
use Rattle.wl_buses.specs.OneFrame.Acknowledged.{chased_way}
use Rattle.wl_buses.specs.OneFrame.Answers.{HasRoomToAnswer, gathered}
use Rattle.wl_buses.specs.OneFrame.Bounds.{HasStations}
use Rattle.wl_buses.specs.OneFrame.Stations.{AreOnALine, Stations, bit_drift, shared_quantum, shared_tick}
use Rattle.wl_buses.specs.OneListener.Beside.{with_listener}
use Rattle.wl_buses.specs.OneListener.Muted.{FitsEleven, LeavesRoomToListen}
use Rattle.wl_buses.proofs.OneFrame.AckBounds.{drift_high, extra, extra_high, late_is}
use Rattle.wl_buses.proofs.OneFrame.Bounded.{quanta_back}

-- u units and m parts are as long
fits_bits : (u m late drifts back more back_units units drifts_units room room_units : ℕ) → 0 < u → late ≤ back + more → u * back ≡ m * back_units → u * more ≤ m * units
    → u * drifts ≤ m * drifts_units → m * room_units ≤ u * room → back_units + units + 11 * drifts_units ≤ room_units → late + 11 * drifts ≤ room
fits_bits u m late drifts back more back_units units drifts_units room room_units some way there extra drift left enough =
    let all : m * (back_units + units + 11 * drifts_units) ≤ m * room_units = mul-le-mul_left m enough in
    let first : u * late ≤ u * (back + more) = mul-le-mul_left u way in
    let sum : u * (late + 11 * drifts) ≤ u * room = omega arith in
    le_of_mul-le-mul_left sum some

module _ (bus : Bus) (s : Stations) (line : AreOnALine (with_listener s)) (of : HasStations bus (with_listener s)) (winner : ℕ) (wins : winner < suc s.count) (may : s.may_send winner ≡ true)
    (chase : ℕ → ℕ) (has : HasRoomToAnswer bus chase) (leaves : LeavesRoomToListen bus chase s.count) where
  abbrev l : ℕ
  l = s.count

  abbrev x : Stations
  x = with_listener s

  pub fits_eleven : FitsEleven s (chased_way x winner chase)
  fits_eleven k nk =
      let inside : l < x.count = omega arith in
      let there : k < x.count = omega arith in
      let h = leaves k nk in
      let t : ℕ = shared_tick s k l in
      let one = of.delays l k inside there in
      let two = of.delays k l there inside in
      let sum : shared_tick s k l * (bus.delay l k + bus.delay k l) ≡ shared_tick s k l * (s.delay l k * bus.tick + s.delay k l * bus.tick) =
      ap (λ n. shared_tick s k l * (n + bus.delay k l)) one ∙ ap (λ n. shared_tick s k l * (s.delay l k * bus.tick + n)) two in
      let p : sample_at (bus.lengths l) * bus.shortest l ≡ sample_at (s.lengths l) * bus.shortest l = ap (λ w. sample_at w * bus.shortest l) (of.lengths l) in
      fits_bits bus.tick (shared_tick s k l) (chased_way x winner chase l k) (bit_drift s k l) ((s.delay l k + s.delay k l) * shared_tick s k l) (extra bus x line of winner wins may chase has k l)
      (bus.delay l k + bus.delay k l) (look bus l + gathered bus chase k l + left_over bus (gathered bus chase) k) (drift bus k l) (sample_at (s.lengths l) * shared_quantum s l k)
      (sample_at (s.lengths l) * bus.shortest l)
      of.some (late_is bus x line of winner wins may chase has k l there inside) (omega arith) (extra_high bus x line of winner wins may chase has k l there inside)
      (drift_high bus x line of winner wins may chase has k l there inside) (quanta_back bus x line of k l (sample_at (s.lengths l)) inside) (omega arith)
