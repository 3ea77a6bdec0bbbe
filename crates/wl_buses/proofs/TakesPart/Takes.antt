-- Who takes part in a frame that stations begin on a silent line.
use Rattle.std.proofs.Common.{◌≡◌, ◌≢◌, ◌∙◌, refl, ap, ℕ, ◌+◌, ◌-◌, ◌*◌, ◌<◌, ◌≤◌, true, false, Option, Some, None, arith}
use Rattle.wl_segments.specs.Lengths.{bit_quanta}
use Rattle.wl_phase.specs.Clocks.{steady_tick}
use Rattle.wl_buses.specs.OneFrame.Stations.{AreOnALine, Stations}
use Rattle.wl_buses.specs.OneFrame.Starts.{Start}
use Rattle.wl_buses.specs.FirstFrame.FirstStarts.{AreIdle, Waiting, first_start, hard_place}
use Rattle.wl_buses.proofs.FirstFrame.Beginning as beginning
use Rattle.wl_buses.proofs.FirstFrame.Reaching as reaching
use Rattle.wl_buses.proofs.FirstFrame.Reaching.{IsSilence, Silence}
use Rattle.wl_buses.specs.NextFrames.NextStarts.{AreResting, Resting, begins_next, decision_next, has_next, rested, start_next}
use Rattle.wl_buses.proofs.NextFrames.Lasting.{silence_of, silent_of}
use Rattle.wl_buses.specs.TakesPart.Takes.{IsReachedFirst, Offers, TakePart, first_offers, next_offers}

module _ (w : Silence) (line : AreOnALine w.stations) (are : IsSilence w) where
  abbrev s : Stations
  s = w.stations

  abbrev b : Start
  b = reaching.b w line are

  abbrev tick : ℕ → ℕ → ℕ
  tick k q = steady_tick (s.clocks k) q

  abbrev offers : Offers
  offers = record { has = w.has; decision = w.decision; due = w.due }

  place_alone : (i : ℕ) → reaching.edge w line are i ≡ None → b.place i ≡ w.due i
  place_alone i e = ap (hard_place (w.due i)) e

  place_found : (i q : ℕ) → reaching.edge w line are i ≡ Some q → b.place i ≡ q - 1
  place_found i q e = ap (hard_place (w.due i)) e

  decided_by : (i : ℕ) → i < s.count → b.drives i ≡ true → (o : Option ℕ) → reaching.edge w line are i ≡ o → w.decision i ≤ b.place i
  decided_by i inside own None e =
      (let early = are.early i inside in
      let place = place_alone i e in
      omega arith)
  decided_by i inside own (Some q) e =
      (let later = reaching.after_decision w line are i q inside own (reaching.found_is w line are i q e) in
      let place = place_found i q e in
      omega arith)

  due_by : (i : ℕ) → i < s.count → w.has i ≡ true → (o : Option ℕ) → reaching.edge w line are i ≡ o → b.place i ≤ w.due i
  due_by i inside has None e = (let place = place_alone i e in omega arith)
  due_by i inside has (Some q) e =
      (let low = reaching.by_due w line are i q has (reaching.found_is w line are i q e) in
      let place = place_found i q e in
      omega arith)

  near_by : (i j : ℕ) → j < s.count → i ≢ j → w.has i ≡ true → (o : Option ℕ) → reaching.edge w line are j ≡ o → tick j (b.place j) < tick i (w.due i) + s.delay i j
  near_by i j there apart has None e =
      (let place : tick j (b.place j) ≡ tick j (w.due j) = ap (tick j) (place_alone j e) in
      let less = reaching.unreached w line are j (w.due j) i (reaching.alone_early w line are j (w.due j) there e (omega arith)) has apart in
      omega arith)
  near_by i j there apart has (Some q) e =
      (let f = reaching.found_is w line are j q e in
      let place : tick j (b.place j) ≡ tick j (q - 1) = ap (tick j) (place_found j q e) in
      let later = reaching.after_rested w line are j q there f in
      let less = reaching.unreached w line are j (q - 1) i (f.before (q - 1) (omega arith)) has apart in
      omega arith)

  reached_first : (i : ℕ) → i < s.count → w.has i ≡ true → b.drives i ≡ false → IsReachedFirst s offers i
  reached_first i inside has none =
      let x = reaching.reached_by w line are i (w.decision i) (reaching.reached_then w line are i has none) in
      record { by = x.by; inside = are.inside x.by x.has_one; other = x.other; offers = x.has_one; reached = x.reach }

  pub take_part : TakePart s offers b
  take_part = record {
    offers = λ i inside own. reaching.begins_has w line are i own;
    decided = λ i inside own. decided_by i inside own (reaching.edge w line are i) refl;
    by_due = λ i inside has. due_by i inside has (reaching.edge w line are i) refl;
    near = λ i j inside there apart has. near_by i j there apart has (reaching.edge w line are j) refl;
    missed = reached_first;
  }

  pub takes_at_rest : (i : ℕ) → i < s.count → w.has i ≡ true → w.decision i ≡ w.rested i → b.drives i ≡ true
  takes_at_rest i inside has e =
      reaching.begins_from w line are i has (ap (reaching.reached w line are i) e ∙ reaching.unreached_rested w line are i inside)

pub next_part : (r : Resting) → AreOnALine r.stations → AreResting r → TakePart r.stations (next_offers r) (start_next r)
next_part r line are = take_part (silence_of r) line (silent_of r line are)

pub first_part : (w : Waiting) → AreOnALine w.stations → AreIdle w → TakePart w.stations (first_offers w) (first_start w)
first_part w line are = take_part (beginning.silence_of w) line (beginning.silent_of w line are)

pub ready_takes : (r : Resting) → AreOnALine r.stations → AreResting r → (i : ℕ) → i < r.stations.count → has_next r i ≡ true → r.decides i ≡ 0 → begins_next r i ≡ true
ready_takes r line are i inside has e =
    let n : r.decides i * bit_quanta (r.stations.lengths i) ≡ 0 * bit_quanta (r.stations.lengths i) = ap (λ d. d * bit_quanta (r.stations.lengths i)) e in
    let at : decision_next r i ≡ rested r i = omega arith in
    takes_at_rest (silence_of r) line (silent_of r line are) i inside has at
