-- The ACK slot that is expected, and how it begins at each station.
use Rattle.std.proofs.Common.{◌≡◌, ◌≢◌, inl, refl, ap, ℕ, suc, ◌+◌, ◌*◌, ◌<◌, ◌≤◌, Bool, true, false, List, Some, None, arith}
use Rattle.std.proofs.Math.Nat.{mul-le-mul_right}
use Rattle.wl_level.specs.declared.Level.{Level}
use Rattle.wl_segments.specs.Lengths.{bit_quanta, sample_at}
use Rattle.wl_machine.specs.Frames.{stuffed_end}
use Rattle.wl_phase.specs.Clocks.{steady_tick}
use Rattle.wl_buses.specs.OneFrame.Stations.{AreStations, HaveRoom, HaveRoomToSample, Stations, bit_drift, shared_instant, shared_quantum}
use Rattle.wl_buses.specs.OneFrame.Starts.{BeginBit, Start, reaches_at}
use Rattle.wl_buses.specs.OneFrame.Course.{since_edge}
use Rattle.wl_buses.specs.OneFrame.Machines.{HasWon, bus_levels}
use Rattle.wl_buses.specs.OneFrame.Acknowledged.{AreAllClose, CatchUp, IsAcknowledgedByAll, IsAnsweredByAll, answering, chased_way, gathered_way, most_overrun}
use Rattle.wl_buses.specs.OneFrame.Expected.{IsOutset, Outset, edge_start, expected_bits, expected_drove, expected_end, settled, wants}
use Rattle.wl_buses.proofs.OneFrame.Acks.{acknowledged}
use Rattle.wl_buses.proofs.OneFrame.AckWays.{any_close, chased_stations, closer, fits_but, gathered_stations}
use Rattle.wl_buses.proofs.OneFrame.Expecting.{course}
use Rattle.wl_buses.proofs.OneFrame.Measures.{drifted, instant_more, ticks_before}
use Rattle.wl_buses.proofs.OneFrame.Passing.{same_places}
use Rattle.wl_buses.proofs.FrameEnd.Below.{MachineLaws}
use Rattle.wl_buses.proofs.FrameEnd.Delimiter as delimiter
pub use Rattle.wl_buses.proofs.FrameEnd.Delimiter.{delimiter_from, delimiter_place, few, last, last_is, over_is, slot_is}

module _ (m : MachineLaws) (s : Stations) (are : AreStations s) (room : HaveRoom s) (o : Outset) (is : IsOutset s o) (end : ℕ)
    (valid : (n : ℕ) → n < end → stuffed_end (bus_levels s (expected_bits s o) n) ≡ None)
    (over : stuffed_end (bus_levels s (expected_bits s o) end) ≡ Some end) (won : HasWon s (expected_bits s o) o.frames end) where
  abbrev bits : ℕ → Start
  bits = expected_bits s o

  abbrev own : List Level
  own = bus_levels s bits end

  abbrev tick : ℕ → ℕ → ℕ
  tick k q = steady_tick (s.clocks k) q

  abbrev d : ℕ → Bool
  d = wants s o (suc end)

  abbrev due : ℕ → ℕ
  due i = (bits end).place i + bit_quanta (s.lengths i)

  abbrev e : Start
  e = edge_start s d due

  -- the stations as if all might send
  module _ (chase : ℕ → ℕ) (catch : CatchUp s won.station chase) (enough : HaveRoomToSample (answering s (chased_way s won.station chase))) where
    abbrev late : ℕ → ℕ → ℕ
    late = chased_way s won.station chase

    abbrev t : Stations
    t = answering s late

    are_there : AreStations t
    are_there = chased_stations s are.line won.station chase

    abbrev since : ℕ
    since = suc (since_edge s bits (last m s are room o is end valid over won))

    abbrev way : ℕ → ℕ → ℕ
    way = gathered_way s won.station chase

    close_last : AreAllClose s way (since_edge s bits (last m s are room o is end valid over won)) (bits (last m s are room o is end valid over won)).place
    close_last =
        (let b = last_is m s are room o is end valid over won in
        any_close s are room bits (expected_drove s o end) end (λ k. expected_end s o end) (course m.steps m.errors m.winner m.stuffed m.six m.ten s are room o is end valid) m.driven
        won.station won.inside won.sends chase catch (last m s are room o is end valid over won) (omega arith))

    close_by : AreAllClose s way since (bits end).place
    close_by =
        same_places (answering s way) (λ i. true) since (λ i. (bits (last m s are room o is end valid over won)).place i + bit_quanta (s.lengths i)) (bits end).place (λ i inside. delimiter_place m s are room o is end valid over won i)
        (λ i k inside there other some. drifted (answering s way) (since_edge s bits (last m s are room o is end valid over won)) i k ((bits (last m s are room o is end valid over won)).place i) ((bits (last m s are room o is end valid over won)).place k) (close_last i k inside there other some))

    pub close : AreAllClose s late since (bits end).place
    close = closer s won.station chase since (bits end).place close_by

    abbrev sample : ℕ → ℕ
    sample i = tick i ((bits end).place i + sample_at (s.lengths i))

    alone_early : (i k : ℕ) → i < s.count → k < s.count → i ≢ k → settled s d due k ≡ due k → sample i < reaches_at s e k i
    alone_early i k inside there other from =
        let near = close i k inside there other (inl refl) in
        let fits = enough.not_early i k inside there other refl in
        let drift : suc since * bit_drift s i k ≤ 10 * bit_drift s i k = mul-le-mul_right (bit_drift s i k) (let f = few m s are room o is end valid over won in let g : suc since ≤ 10 = omega arith in g) in
        let more : suc since * bit_drift s i k ≡ since * bit_drift s i k + bit_drift s i k = omega arith in
        let mine = instant_more s are i k inside there ((bits end).place i) (sample_at (s.lengths i)) in
        let theirs = instant_more s are k i there inside ((bits end).place k) (bit_quanta (s.lengths k)) in
        let bit : bit_quanta (s.lengths i) * shared_quantum s i k ≡ sample_at (s.lengths i) * shared_quantum s i k + (s.lengths i).ps2 * shared_quantum s i k = omega arith in
        let f : shared_instant s k i (settled s d due k) ≡ shared_instant s k i ((bits end).place k + bit_quanta (s.lengths k)) = ap (shared_instant s k i) from in
        ticks_before s are i k inside there ((bits end).place i + sample_at (s.lengths i)) (settled s d due k) (s.delay k i) (omega arith)

    pub early_all : (i k : ℕ) → i < s.count → k < s.count → i ≢ k → sample i < reaches_at s e k i
    early_all = delimiter.early_all m s are room o is end valid over won alone_early

    pub begin_slot : BeginBit s e
    begin_slot = delimiter.begin_slot m s are room o is end valid over won alone_early

    pub slot_after : (k : ℕ) → k < s.count → (bits end).place k + sample_at (s.lengths k) < e.from k
    slot_after = delimiter.slot_after m s are room o is end valid over won alone_early

    pub drove_before : (k u : ℕ) → k < s.count → u < tick k ((bits (suc end)).from k) → expected_drove s o (end + 13) k u ≡ expected_drove s o end k u
    drove_before = delimiter.drove_before m s are room o is end valid over won

    pub was_quiet : (k u : ℕ) → k < s.count → tick k ((bits end).place k) ≤ u → expected_drove s o end k u ≡ false
    was_quiet = delimiter.was_quiet m s are room o is end valid over won

    pub drove_slot : (k u : ℕ) → k < s.count → tick k ((bits (suc end)).from k) ≤ u → u < tick k ((bits (suc (suc end))).from k) → expected_drove s o (end + 13) k u ≡ d k
    drove_slot = delimiter.drove_slot m s are room o is end valid over won alone_early

    pub drove_after : (k u : ℕ) → k < s.count → tick k ((bits (suc end)).from k) ≤ u → tick k ((bits (suc (suc end))).from k) ≤ u → expected_drove s o (end + 13) k u ≡ false
    drove_after = delimiter.drove_after m s are room o is end valid over won alone_early

    pub over_after : (k : ℕ) → k < s.count → (bits (suc end)).place k + sample_at (s.lengths k) < (bits (suc (suc end))).from k
    over_after = delimiter.over_after m s are room o is end valid over won alone_early

    pub slot_after_delimiter : (k : ℕ) → k < s.count → tick k ((bits end).place k) ≤ tick k ((bits (suc end)).from k)
    slot_after_delimiter = delimiter.slot_after_delimiter m s are room o is end valid over won alone_early

    pub slot_up : (k : ℕ) → k < s.count → tick k ((bits (suc end)).from k) ≤ tick k ((bits (suc (suc end))).from k)
    slot_up = delimiter.slot_up m s are room o is end valid over won alone_early

    pub answered : (until : ℕ → ℕ) → IsAnsweredByAll s late won.station (bits end).place (bits (suc end)) (bits (suc (suc end))).from (expected_drove s o (end + 13)) until
    answered = delimiter.answered m s are room o is end valid over won alone_early late

    pub heard : (until : ℕ → ℕ) → IsAcknowledgedByAll s late (bits end).place (bits (suc end)) (bits (suc (suc end))).from (expected_drove s o (end + 13)) until
    heard until =
        acknowledged s way (most_overrun s won.station chase) (gathered_stations s are.line won.station chase) (fits_but s are.line won.station chase) enough won.station (bits end).place (bits (suc end)) (bits (suc (suc end))).from (expected_drove s o (end + 13)) until (answered until) since
        (let f = few m s are room o is end valid over won in omega arith) close_by m.driven
