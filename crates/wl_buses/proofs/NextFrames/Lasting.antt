-- After which bit each station begins the next frame.
use Rattle.std.proofs.Common.{◌≡◌, refl, sym, ap, ℕ, suc, ◌-◌, ◌/◌, ◌<◌, cond, true, false, List, arith}
use Rattle.wl_segments.specs.Lengths.{bit_quanta, sample_at}
use Rattle.wl_machine.specs.Stretch.{Input}
use Rattle.wl_buses.specs.OneFrame.Stations.{AreOnALine, Stations}
use Rattle.wl_buses.specs.OneFrame.Starts.{Start}
use Rattle.wl_buses.specs.OneFrame.Lines.{BeginsAfter}
use Rattle.wl_buses.specs.NextFrames.NextStarts.{AreResting, Resting, begins_next, decision_next, due_next, has_next, last_next, outset_next, rest_next, rested, start_next}
use Rattle.wl_buses.proofs.FirstFrame.Lasts as lasts
use Rattle.wl_buses.proofs.FirstFrame.Reaching.{IsSilence, Silence}

-- the stations as ones on a silent line
abbrev pub silence_of : Resting → Silence
silence_of w = record { stations = w.stations; has = has_next w; due = due_next w; decision = decision_next w; rested = rested w; joins = λ i. false }

pub silent_of : (w : Resting) → AreOnALine w.stations → AreResting w → IsSilence (silence_of w)
silent_of w line are = record {
  inside = are.inside;
  some = are.some;
  early = λ i inside. (let low = (line.book i inside).lengths.ps2_low in omega arith);
  idle = are.idle;
}

pub last_is : (w : Resting) (i : ℕ) → begins_next w i ≡ true → last_next w i ≡ w.decides i
last_is w i e = ap (λ c. cond c (w.decides i) (((start_next w).from i - suc (rested w i)) / bit_quanta (w.stations.lengths i))) e

module _ (w : Resting) (line : AreOnALine w.stations) (are : AreResting w) where
  abbrev s : Stations
  s = w.stations

  abbrev b : Start
  b = start_next w

  abbrev S : ℕ → ℕ
  S i = sample_at (s.lengths i)

  abbrev B : ℕ → ℕ
  B i = bit_quanta (s.lengths i)

  -- its last bit before
  pub last_follows : (i : ℕ) → begins_next w i ≡ false → last_next w i ≡ (b.from i - suc (rested w i)) / B i
  last_follows i e = ap (λ c. cond c (w.decides i) ((b.from i - suc (rested w i)) / B i)) e

  abbrev bits : lasts.Bits (silence_of w) line (silent_of w line are)
  bits = record {
    place = w.place;
    decides = w.decides;
    last = last_next w;
    rest = rest_next w;
    due = λ i. refl;
    decision = λ i. refl;
    rested = λ i. omega arith;
    last_own = last_is w;
    last_other = last_follows;
    rest_is = λ i. refl;
  }

  abbrev pub IsLast : ℕ → Type 0
  IsLast = lasts.IsLast (silence_of w) line (silent_of w line are) bits

  abbrev pub last_at : (i : ℕ) → i < s.count → IsLast i
  last_at = lasts.last_at (silence_of w) line (silent_of w line are) bits

  pub after_next : (before : ℕ → List Input) (i : ℕ) → i < s.count → BeginsAfter s (outset_next w before) i (rest_next w i)
  after_next past i inside =
      let l = last_at i inside in
      let before = l.before in
      let next = l.next in
      record {
        alone = λ a. sym (lasts.rest_begins (silence_of w) line (silent_of w line are) bits i a.dominant).1;
        later = λ f. (let from = f.from in omega arith);
        inside = λ f. (let from = f.from in omega arith);
        in_time = λ f e. (let from = f.from in let own = l.own e in omega arith);
      }
