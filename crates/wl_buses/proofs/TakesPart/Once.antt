-- No station decides a second time before a start of frame that is due with the next bit has reached it, if there is room for twelve bits' drift.
use Rattle.std.proofs.Common.{◌≡◌, ◌≢◌, ◌∙◌, inl, inr, refl, sym, ap, ℕ, zero, suc, ◌+◌, ◌*◌, ◌<◌, ◌≤◌, true, Some, None, arith}
use Rattle.std.proofs.lemmas.Bool.{cases_eq, both_ways}
use Rattle.wl_segments.specs.Lengths.{bit_quanta, sample_at}
use Rattle.wl_machine.specs.Frames.{stuffed_end}
use Rattle.wl_phase.specs.Clocks.{steady_tick}
use Rattle.wl_buses.specs.OneFrame.Stations.{AreOnALine, AreStations, HaveRoom, HaveRoomToSample, Stations, shared_instant, shared_quantum}
use Rattle.wl_buses.specs.OneFrame.Machines.{HasWon, bus_levels}
use Rattle.wl_buses.specs.OneFrame.Acknowledged.{CatchUp, answering, chased_way}
use Rattle.wl_buses.specs.OneFrame.Expected.{IsOutset, Outset, expected_bits}
use Rattle.wl_buses.proofs.OneFrame.Measures.{reaches_by}
use Rattle.wl_buses.proofs.FirstFrame.Reaching as reaching
use Rattle.wl_buses.proofs.FrameEnd.Below.{MachineLaws}
use Rattle.wl_buses.proofs.FrameEnd.Next.{last_place}
use Rattle.wl_buses.proofs.FrameEnd.Slot.{heard}
use Rattle.wl_buses.specs.FrameEnd.Again.{HasRoomToRest}
use Rattle.wl_buses.specs.NextFrames.NextStarts.{AreResting, Resting, begins_next, decision_next, due_next, has_next}
use Rattle.wl_buses.proofs.NextFrames.Lasting.{silence_of, silent_of}
use Rattle.wl_buses.specs.TakesPart.Decisions.{HasRoomToDecide}

module _ (m : MachineLaws) (s : Stations) (are : AreStations s) (room : HaveRoom s) (o : Outset) (is : IsOutset s o) (end : ℕ)
    (valid : (n : ℕ) → n < end → stuffed_end (bus_levels s (expected_bits s o) n) ≡ None)
    (over : stuffed_end (bus_levels s (expected_bits s o) end) ≡ Some end) (won : HasWon s (expected_bits s o) o.frames end)
    (chase : ℕ → ℕ) (catch : CatchUp s won.station chase) (enough : HaveRoomToSample (answering s (chased_way s won.station chase)))
    (rest : HasRoomToRest s (chased_way s won.station chase)) (decide : HasRoomToDecide s (chased_way s won.station chase)) where
  -- the start of frame of a station that is due with the next bit reaches another one by its sample of that bit
  pub comes_by : (i k : ℕ) → i < s.count → k < s.count → i ≢ k
      → steady_tick (s.clocks k) ((expected_bits s o (end + 12)).place k + bit_quanta (s.lengths k)) + s.delay k i
      ≤ steady_tick (s.clocks i) ((expected_bits s o (end + 12)).place i + bit_quanta (s.lengths i) + sample_at (s.lengths i))
  comes_by i k inside there apart =
      let near = (heard m s are room o is end valid over won chase catch enough (λ w. 0)).close 12 k i there inside (λ e. apart (sym e)) (inl refl) in
      let fits = decide i k inside there apart in
      let first : shared_instant s i k ((expected_bits s o (end + 12)).place i + bit_quanta (s.lengths i) + sample_at (s.lengths i))
      ≡ shared_instant s i k ((expected_bits s o (suc end)).place i + 12 * bit_quanta (s.lengths i)) + sample_at (s.lengths i) * shared_quantum s i k =
      ap (λ p. shared_instant s i k (p + bit_quanta (s.lengths i) + sample_at (s.lengths i))) (last_place m s are room o is end valid over won chase catch enough rest i) ∙ omega arith in
      let second : shared_instant s k i ((expected_bits s o (end + 12)).place k + bit_quanta (s.lengths k))
      ≡ shared_instant s k i ((expected_bits s o (suc end)).place k + 12 * bit_quanta (s.lengths k)) =
      ap (λ p. shared_instant s k i (p + bit_quanta (s.lengths k))) (last_place m s are room o is end valid over won chase catch enough rest k) ∙ omega arith in
      reaches_by s are i k inside there ((expected_bits s o (end + 12)).place k + bit_quanta (s.lengths k))
      ((expected_bits s o (end + 12)).place i + bit_quanta (s.lengths i) + sample_at (s.lengths i)) (s.delay k i) (omega arith)

module _ (r : Resting) (line : AreOnALine r.stations) (are : AreResting r)
    (comes : (i k : ℕ) → i < r.stations.count → k < r.stations.count → i ≢ k
    → steady_tick (r.stations.clocks k) (r.place k + bit_quanta (r.stations.lengths k)) + r.stations.delay k i
    ≤ steady_tick (r.stations.clocks i) (r.place i + bit_quanta (r.stations.lengths i) + sample_at (r.stations.lengths i))) where
  not_later : (i k d : ℕ) → i < r.stations.count → has_next r k ≡ true → r.decides k ≡ 0 → k ≢ i → r.decides i ≡ suc d → reaching.reached (silence_of r) line (silent_of r line are) i (decision_next r i) ≡ true
  not_later i k d inside has now apart later =
      let there = are.inside k has in
      let one : due_next r k ≡ r.place k + bit_quanta (r.stations.lengths k) =
      ap (λ n. r.place k + suc n * bit_quanta (r.stations.lengths k)) now ∙ omega arith in
      let two : decision_next r i ≡ r.place i + suc d * bit_quanta (r.stations.lengths i) + sample_at (r.stations.lengths i) =
      ap (λ n. r.place i + n * bit_quanta (r.stations.lengths i) + sample_at (r.stations.lengths i)) later in
      let more : suc d * bit_quanta (r.stations.lengths i) ≡ bit_quanta (r.stations.lengths i) + d * bit_quanta (r.stations.lengths i) = omega arith in
      let up = reaching.up (silence_of r) line (silent_of r line are) i (r.place i + bit_quanta (r.stations.lengths i) + sample_at (r.stations.lengths i)) (decision_next r i) inside (omega arith) in
      let first : steady_tick (r.stations.clocks k) (due_next r k) ≡ steady_tick (r.stations.clocks k) (r.place k + bit_quanta (r.stations.lengths k)) =
      ap (steady_tick (r.stations.clocks k)) one in
      let reach = comes i k inside there (λ e. apart (sym e)) in
      reaching.reached_from (silence_of r) line (silent_of r line are) i (decision_next r i) k has apart (omega arith)

  by_case : (i k n : ℕ) → i < r.stations.count → has_next r k ≡ true → r.decides k ≡ 0 → begins_next r i ≡ true → r.decides i ≡ n → r.decides i ≡ 0
  by_case i k zero inside has now begins e = e
  by_case i k (suc d) inside has now begins e = elim (cases_eq k i) [
    | inl same ↦ sym (ap r.decides same) ∙ now
    | inr apart ↦
        (let yes = not_later i k d inside has now apart e in
        let no = reaching.begins_free (silence_of r) line (silent_of r line are) i begins in
        absurd (both_ways (reaching.reached (silence_of r) line (silent_of r line are) i (decision_next r i)) no yes))
  ]

  pub decide_once : (i k : ℕ) → i < r.stations.count → has_next r k ≡ true → r.decides k ≡ 0 → begins_next r i ≡ true → r.decides i ≡ 0
  decide_once i k inside has now begins = by_case i k (r.decides i) inside has now begins refl
