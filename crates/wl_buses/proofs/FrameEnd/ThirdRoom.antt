-- No next frame reaches a station before it has sampled the second bit of the intermission, if there is room for acknowledgements.
use Rattle.std.proofs.Common.{◌≡◌, ◌≢◌, inl, inr, refl, sym, ap, subst, ℕ, suc, ◌+◌, ◌*◌, ◌<◌, ◌≤◌, Some, None, arith}
use Rattle.std.proofs.Math.Nat.{mul-le-mul_right}
use Rattle.std.proofs.lemmas.Bool.{cases_eq}
use Rattle.wl_segments.specs.Lengths.{bit_quanta, sample_at}
use Rattle.wl_machine.specs.Frames.{stuffed_end}
use Rattle.wl_phase.specs.Clocks.{steady_tick}
use Rattle.wl_buses.specs.OneFrame.Stations.{AreStations, HaveRoom, HaveRoomToSample, Stations, bit_drift, shared_instant, shared_quantum}
use Rattle.wl_buses.specs.OneFrame.Starts.{Start}
use Rattle.wl_buses.specs.OneFrame.Machines.{HasWon, bus_levels}
use Rattle.wl_buses.specs.OneFrame.Acknowledged.{CatchUp, answering, chased_way}
use Rattle.wl_buses.specs.OneFrame.Expected.{IsOutset, Outset, expected_bits, expected_sample}
use Rattle.wl_buses.proofs.OneFrame.Measures.{instant_more, tick_next, ticks_before}
use Rattle.wl_buses.proofs.FrameEnd.Below.{MachineLaws}
use Rattle.wl_buses.proofs.FrameEnd.Placing as placing
use Rattle.wl_buses.proofs.FrameEnd.Slot.{heard}

module _ (m : MachineLaws) (s : Stations) (are : AreStations s) (room : HaveRoom s) (o : Outset) (is : IsOutset s o) (end : ℕ)
    (valid : (n : ℕ) → n < end → stuffed_end (bus_levels s (expected_bits s o) n) ≡ None)
    (over : stuffed_end (bus_levels s (expected_bits s o) end) ≡ Some end) (won : HasWon s (expected_bits s o) o.frames end)
    (chase : ℕ → ℕ) (catch : CatchUp s won.station chase) (enough : HaveRoomToSample (answering s (chased_way s won.station chase))) where
  abbrev bits : ℕ → Start
  bits = expected_bits s o

  -- a bit drifts by no more than a bit takes
  drift_small : (i k : ℕ) → i < s.count → k < s.count → i ≢ k → bit_drift s i k ≤ bit_quanta (s.lengths k) * shared_quantum s k i
  drift_small i k inside there other =
      let fits = enough.late_fits k i there inside (λ e. other (sym e)) refl in
      let l = (are.line.book k there).lengths in
      let jump = l.sjw_half in
      let jump_less : (s.lengths k).sjw ≤ bit_quanta (s.lengths k) = omega arith in
      let up = mul-le-mul_right (shared_quantum s k i) jump_less in
      omega arith

  pub second_before : (i k : ℕ) → i < s.count → k < s.count
      → steady_tick (s.clocks i) (expected_sample s o (end + 11) i) < steady_tick (s.clocks k) ((bits (end + 12)).place k + bit_quanta (s.lengths k)) + s.delay k i
  second_before i k inside there = elim (cases_eq i k) [
    | inl same ↦
        (let last = placing.last_place m s are room o is end valid over won i in
        let second = placing.second_place m s are room o is end valid over won i in
        let low = (are.line.book i inside).lengths.ps2_low in
        let loop = are.line.later i i inside inside in
        let up = tick_next s are i inside (expected_sample s o (end + 11) i) ((bits (end + 12)).place i + bit_quanta (s.lengths i)) (omega arith) in
        subst (λ w. steady_tick (s.clocks i) (expected_sample s o (end + 11) i) < steady_tick (s.clocks w) ((bits (end + 12)).place w + bit_quanta (s.lengths w)) + s.delay w i) same (omega arith))
    | inr other ↦
        (let near = (heard m s are room o is end valid over won chase catch enough (λ w. 0)).close 10 i k inside there other (inl refl) in
        let fits = enough.not_early i k inside there other refl in
        let small = drift_small i k inside there other in
        let bit_k = bit_quanta (s.lengths k) * shared_quantum s k i in
        let mine = instant_more s are i k inside there ((bits (end + 11)).place i) (sample_at (s.lengths i)) in
        let theirs = instant_more s are k i there inside ((bits (suc end)).place k + 10 * bit_quanta (s.lengths k)) (2 * bit_quanta (s.lengths k)) in
        let bit : bit_quanta (s.lengths i) * shared_quantum s i k ≡ sample_at (s.lengths i) * shared_quantum s i k + (s.lengths i).ps2 * shared_quantum s i k = omega arith in
        let double : 2 * bit_quanta (s.lengths k) * shared_quantum s k i ≡ 2 * (bit_quanta (s.lengths k) * shared_quantum s k i) = omega arith in
        let first : shared_instant s i k ((bits (end + 11)).place i) ≡ shared_instant s i k ((bits (suc end)).place i + 10 * bit_quanta (s.lengths i)) =
        ap (shared_instant s i k) (placing.second_place m s are room o is end valid over won i) in
        let second : (bits (end + 12)).place k + bit_quanta (s.lengths k) ≡ (bits (suc end)).place k + 10 * bit_quanta (s.lengths k) + 2 * bit_quanta (s.lengths k) =
        (let p = placing.last_place m s are room o is end valid over won k in omega arith) in
        let third : shared_instant s k i ((bits (end + 12)).place k + bit_quanta (s.lengths k))
        ≡ shared_instant s k i ((bits (suc end)).place k + 10 * bit_quanta (s.lengths k) + 2 * bit_quanta (s.lengths k)) = ap (shared_instant s k i) second in
        ticks_before s are i k inside there (expected_sample s o (end + 11) i) ((bits (end + 12)).place k + bit_quanta (s.lengths k)) (s.delay k i) (omega arith))
  ]
