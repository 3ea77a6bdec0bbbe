-- Each frame ends later at each node than the one before.
use Rattle.std.proofs.Common.{◌⊎◌, inl, inr, sym, subst, ℕ, zero, suc, ◌+◌, ◌*◌, ◌<◌, ◌≤◌, List, arith}
use Rattle.std.proofs.Math.Nat.{lt_of_mul-lt-mul_left, mul-le-mul_left}
use Rattle.wl_segments.specs.Lengths.{bit_quanta, sample_at}
use Rattle.wl_machine.specs.Stretch.{Input}
use Rattle.wl_phase.specs.Clocks.{IsSteady, Steady, steady_tick}
use Rattle.wl_phase.proofs.Callers.{floor_high}
use Rattle.wl_buses.specs.OneFrame.Expected.{Outset, expected_sample, past_at}
use Rattle.wl_buses.specs.OneFrame.Lines.{BeginsAfter}
use Rattle.wl_buses.specs.OneFrame.Starts.{BeginsAlone, FollowsHard}
use Rattle.wl_buses.specs.OneFrame.Stations.{AreOnALine, AreStations, HaveRoom, Stations}
use Rattle.wl_buses.proofs.FrameEnd.Below.{MachineLaws}
use Rattle.wl_buses.proofs.FrameEnd.Hearing.{samples_up}
use Rattle.wl_buses.specs.NextFrames.Frames.{FollowOneAnother, Frame, resting_of, third_sample}
use Rattle.wl_buses.specs.NextFrames.NextStarts.{AreResting, Resting, outset_next, rest_next}
use Rattle.wl_buses.proofs.CleanPlans.Extending.{RestNext}

-- the laws that this rests on
abbrev pub AfterNext : Type 0
AfterNext = (r : Resting) (before : ℕ → List Input) → AreOnALine r.stations → AreResting r → (i : ℕ) → i < r.stations.count → BeginsAfter r.stations (outset_next r before) i (rest_next r i)

-- a quantum takes a tick or more
quanta_take : (c : Steady) (q : ℕ) → IsSteady c → q ≤ steady_tick c q
quanta_take c q is =
    let high = floor_high c q is.divides in
    let slow : q * c.den ≤ q * c.num = mul-le-mul_left q is.not_fast in
    let less : c.den * q < c.den * suc (steady_tick c q) = omega arith in
    let under = lt_of_mul-lt-mul_left c.den {m = q} {n = suc (steady_tick c q)} less in
    omega arith

-- its start of frame is sampled after that
later_first : (s : Stations) (o : Outset) (i rest : ℕ) → 0 < bit_quanta (s.lengths i) → 0 < sample_at (s.lengths i) → BeginsAfter s o i rest → BeginsAlone s o.start i ⊎ FollowsHard s o.start i
    → rest + sample_at (s.lengths i) < expected_sample s o 0 i
later_first s o i rest long deep after (inl itself) = (let due = after.alone itself in let place = itself.place in omega arith)
later_first s o i rest long deep after (inr hard) = (let later = after.later hard in let place = hard.place in omega arith)

module _ (m : MachineLaws) (after : AfterNext) (rest : RestNext) (s : Stations) (are : AreStations s) (room : HaveRoom s) (fs : ℕ → Frame) (count : ℕ) (frames : FollowOneAnother s fs count) where
  abbrev T : ℕ → ℕ → ℕ
  T n i = third_sample s (fs n) i

  abbrev S : ℕ → ℕ → ℕ → ℕ
  S n j i = expected_sample s (fs n).outset j i

  grows_first : (n i : ℕ) → suc n < count → i < s.count → T n i < S (suc n) 0 i
  grows_first n i less inside =
      let f = frames.each n (omega arith) in
      let g = frames.each (suc n) less in
      let next = frames.next n less in
      let r = resting_of s (fs n) (fs (suc n)) next in
      let at : AreResting (resting_of s (fs n) (fs (suc n)) next) =
      rest s (fs n).outset (fs n).bits f.chase next.which next.decides are room f.outset f.ends f.won f.answer f.room next.more in
      let begins = after (resting_of s (fs n) (fs (suc n)) next) (past_at s (fs n).outset ((fs n).bits + 12)) are.line at i inside in
      let l = (are.line.book i inside).lengths in
      let low = l.low in
      let first =
      later_first s (fs (suc n)).outset i (rest_next (resting_of s (fs n) (fs (suc n)) next) i) (omega arith) (omega arith)
      (subst (λ o. BeginsAfter s o i (rest_next (resting_of s (fs n) (fs (suc n)) next) i)) (sym next.is) begins) (g.outset.begin i inside) in
      omega arith

  pub grows : (n bit i : ℕ) → suc n < count → i < s.count → T n i < S (suc n) bit i
  grows n bit i less inside =
      let f = frames.each (suc n) less in
      let first = grows_first n i less inside in
      let up = samples_up m s are room (fs (suc n)).outset f.outset (fs (suc n)).bits f.ends.none f.ends.there f.won f.chase f.answer.catch f.answer.room 0 bit i inside (omega arith) in
      omega arith

  at_least : (n i : ℕ) → n < count → i < s.count → n ≤ T n i
  at_least zero i less inside = omega arith
  at_least (suc n) i less inside = (let before = at_least n i (omega arith) inside in let more = grows n ((fs (suc n)).bits + 12) i less inside in omega arith)

  pub ends_later : (n i : ℕ) → n < count → i < s.count → n < steady_tick (s.clocks i) (suc (T n i))
  ends_later n i less inside = (let before = at_least n i less inside in let ticks = quanta_take (s.clocks i) (suc (T n i)) (are.line.steady i inside) in omega arith)
