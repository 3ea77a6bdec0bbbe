-- After which bit each station begins the next frame, if it may be in the third bit of its intermission.
use Rattle.std.proofs.Common.{◌≡◌, ◌∙◌, inl, inr, refl, sym, ap, ℕ, zero, suc, ◌+◌, ◌-◌, ◌*◌, ◌/◌, ◌<◌, ◌≤◌, Bool, true, false, List, Option, Some, None, arith}
use Rattle.std.proofs.lemmas.Bool.{both_ways, cases_lt, false_from_ne_true}
use Rattle.std.proofs.Math.Nat.{div-mul-le_self, lt_of_mul-lt-mul_right}
use Rattle.wl_segments.specs.Lengths.{bit_quanta, sample_at}
use Rattle.wl_machine.specs.Stretch.{Input}
use Rattle.wl_wire.specs.Wire.{Handed}
use Rattle.wl_buses.specs.OneFrame.Stations.{AreOnALine, Stations}
use Rattle.wl_buses.specs.OneFrame.Starts.{Start}
use Rattle.wl_buses.specs.OneFrame.Lines.{BeginsAfter}
use Rattle.wl_buses.specs.FirstFrame.FirstStarts.{hard_from}
use Rattle.wl_buses.specs.NextFrames.NextStarts.{AreResting, Resting, begins_next, decision_next, due_next, edge_next, has_next, is_reached_next, last_next, rest_next, rested}
use Rattle.wl_buses.specs.ThirdBit.ThirdStarts.{joins_next, outset_third, start_third}
use Rattle.wl_buses.proofs.FirstFrame.Lasts as lasts
use Rattle.wl_buses.proofs.FirstFrame.Reaching as reaching
use Rattle.wl_buses.proofs.FirstFrame.Reaching.{IsSilence, Silence}
use Rattle.wl_buses.proofs.NextFrames.Lasting as lasting

-- the stations as ones on a silent line
abbrev pub silence_of : Resting → (third : ℕ → Bool) → (before : ℕ → List Input) → (given : ℕ → Handed) → Silence
silence_of w third before given =
    record { stations = w.stations; has = has_next w; due = due_next w; decision = decision_next w; rested = rested w; joins = joins_next w third before given }

pub silent_of : (w : Resting) (third : ℕ → Bool) (before : ℕ → List Input) (given : ℕ → Handed) → AreOnALine w.stations → AreResting w → IsSilence (silence_of w third before given)
silent_of w third before given line are = record {
  inside = are.inside;
  some = are.some;
  early = λ i inside. (let low = (line.book i inside).lengths.ps2_low in omega arith);
  idle = are.idle;
}

module _ (w : Resting) (third : ℕ → Bool) (before : ℕ → List Input) (given : ℕ → Handed) (line : AreOnALine w.stations) (are : AreResting w) where
  abbrev s : Stations
  s = w.stations

  abbrev silence : Silence
  silence = silence_of w third before given

  abbrev silent : IsSilence silence
  silent = silent_of w third before given line are

  abbrev b : Start
  b = start_third w third before given

  abbrev S : ℕ → ℕ
  S i = sample_at (s.lengths i)

  abbrev B : ℕ → ℕ
  B i = bit_quanta (s.lengths i)

  abbrev bits : lasts.Bits silence line silent
  bits = record {
    place = w.place;
    decides = w.decides;
    last = last_next w;
    rest = rest_next w;
    due = λ i. refl;
    decision = λ i. refl;
    rested = λ i. omega arith;
    last_own = lasting.last_is w;
    last_other = lasting.last_follows w line are;
    rest_is = λ i. refl;
  }

  pub after_third : (i : ℕ) → i < s.count → BeginsAfter s (outset_third w third before given) i (rest_next w i)
  after_third i inside =
      let l = lasts.last_at silence line silent bits i inside in
      let low = l.before in
      let next = l.next in
      record {
        alone = λ a. sym (lasts.rest_begins silence line silent bits i a.dominant).1;
        later = λ f. (let from = f.from in omega arith);
        inside = λ f. (let from = f.from in omega arith);
        in_time = λ f e. (let from = f.from in let own = l.own e in omega arith);
      }

  -- a station that a start of frame reaches before its next sample
  module _ (i : ℕ) (inside : i < s.count) (decides : 0 < w.decides i) (reached : is_reached_next w i (rested w i + B i) ≡ true) where
    by_decision : rested w i + B i ≤ decision_next w i
    by_decision = decided (w.decides i) refl decides
      where
        decided : (n : ℕ) → w.decides i ≡ n → 0 < n → rested w i + B i ≤ decision_next w i
        decided zero e some = absurd (omega arith)
        decided (suc n) e some =
            (let f : w.decides i * B i ≡ suc n * B i = ap (λ m. m * B i) e in let g : suc n * B i ≡ B i + n * B i = omega arith in omega arith)

    -- begins none by itself
    pub begins_none : begins_next w i ≡ false
    begins_none = false_from_ne_true (begins_next w i) (λ e. both_ways (is_reached_next w i (decision_next w i)) (reaching.begins_free silence line silent i e)
        (reaching.reached_later silence line silent i (rested w i + B i) (decision_next w i) inside by_decision reached))

    by_edge : (o : Option ℕ) → edge_next w i ≡ o → hard_from (due_next w i) (edge_next w i) ≤ rested w i + B i
    by_edge None none = absurd (both_ways (begins_next w i) begins_none (reaching.alone_begins silence line silent i inside none))
    by_edge (Some q) found =
        (let f = reaching.found_is silence line silent i q found in
        let e : hard_from (due_next w i) (edge_next w i) ≡ q = ap (hard_from (due_next w i)) found in
        elim (cases_lt (rested w i + B i) q) [
          | inl later ↦ absurd (both_ways (is_reached_next w i (rested w i + B i)) (f.before (rested w i + B i) later) reached)
          | inr early ↦ omega arith
        ])

    -- and its last bit before is bit 0
    pub last_none : last_next w i ≡ 0
    last_none =
        let x : ℕ = b.from i - suc (rested w i) in
        let up = by_edge (edge_next w i) refl in
        let long : 0 < B i = (let l = (line.book i inside).lengths.low in omega arith) in
        let low = div-mul-le_self (b.from i - suc (rested w i)) (B i) in
        let none : (b.from i - suc (rested w i)) / B i < 1 =
        lt_of_mul-lt-mul_right (B i) (let h : (b.from i - suc (rested w i)) / B i * B i < 1 * B i = omega arith in h) in
        lasting.last_follows w line are i begins_none ∙ (let e : (b.from i - suc (rested w i)) / B i ≡ 0 = omega arith in e)

    pub rest_none : rest_next w i ≡ w.place i
    rest_none = ap (λ n. w.place i + n * B i) last_none ∙ (let e : w.place i + 0 * B i ≡ w.place i = omega arith in e)
