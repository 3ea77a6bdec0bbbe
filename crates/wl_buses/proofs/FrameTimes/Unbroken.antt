-- Frames without a gap begin in time.
use Rattle.std.proofs.Common.{◌≡◌, ◌∙◌, ap, subst, ℕ, zero, suc, ◌+◌, ◌<◌, arith}
use Rattle.wl_buses.specs.OneFrame.Expected.{expected_sample}
use Rattle.wl_buses.specs.OneFrame.Stations.{AreOnALine, AreStations, HaveRoom, Stations}
use Rattle.wl_buses.specs.FrameEnd.Rests.{passing_bit}
use Rattle.wl_buses.specs.NextFrames.Frames.{FollowOneAnother, Frame, IsBegun, IsBegunAfter}
use Rattle.wl_buses.specs.FrameTimes.Times.{AreWinners, ComesWithin, HaveNoGap, TakeNoLonger, Times, start_place, frame_time, frames_time, tail_time}

-- the laws that this rests on
abbrev pub AddUp : Type 0
AddUp = (s : Stations) (t : Times) (one two i n j m k p : ℕ) → AreOnALine s → i < s.count → j < s.count → k < s.count → ComesWithin s t one j m k p → ComesWithin s t two i n j m
    → ComesWithin s t (one + two) i n k p

abbrev pub WinnerLaw : Type 0
WinnerLaw = (s : Stations) (a b : Frame) (t : Times) → AreStations s → HaveRoom s → (is : IsBegun s a) → (wins : IsBegun s b) → (next : IsBegunAfter s a b) → TakeNoLonger s t
    → next.decides wins.won.station ≡ 0
    → ComesWithin s t (frame_time t a.bits) wins.won.station (start_place s b wins.won.station) is.won.station (start_place s a is.won.station)

abbrev pub PassesLaw : Type 0
PassesLaw = (s : Stations) (f : Frame) (t : Times) → AreStations s → HaveRoom s → (b : IsBegun s f) → TakeNoLonger s t → (i : ℕ) → i < s.count
    → ComesWithin s t (tail_time t f.bits) i (expected_sample s f.outset (passing_bit f.bits i b.won.station) i) b.won.station (start_place s f b.won.station)

-- no time from a quantum to itself
at_once : (s : Stations) (t : Times) (i n : ℕ) → ComesWithin s t 0 i n i n
at_once s t i n = record { within = omega arith }

module _ (add : AddUp) (next_law : WinnerLaw) (passes_law : PassesLaw) (s : Stations) (frames : ℕ → Frame) (count : ℕ) (t : Times) (stations : AreStations s) (room : HaveRoom s)
    (are : FollowOneAnother s frames count) (take : TakeNoLonger s t) (winner : ℕ → ℕ) (wins : AreWinners s frames count are winner) (first : ℕ) where
  abbrev place : ℕ → ℕ
  place n = start_place s (frames n) (winner n)

  inside : (n : ℕ) → n < count → winner n < s.count
  inside n less = subst (λ k. k < s.count) (wins n less) (are.each n less).won.inside

  one_more : (n : ℕ) (less : suc n < count) → (are.next n less).decides (winner (suc n)) ≡ 0 → ComesWithin s t (frame_time t (frames n).bits) (winner (suc n)) (place (suc n)) (winner n) (place n)
  one_more n less now =
      let old = are.each n (omega arith) in
      let new = are.each (suc n) less in
      let e : new.won.station ≡ winner (suc n) = wins (suc n) less in
      let f : old.won.station ≡ winner n = wins n (omega arith) in
      subst (λ k. ComesWithin s t (frame_time t (frames n).bits) (winner (suc n)) (place (suc n)) k (start_place s (frames n) k)) f
      (subst (λ k. ComesWithin s t (frame_time t (frames n).bits) k (start_place s (frames (suc n)) k) old.won.station (start_place s (frames n) old.won.station)) e
      (next_law s (frames n) (frames (suc n)) t stations room old new (are.next n less) take (ap (are.next n less).decides e ∙ now)))

  pub begins : (n : ℕ) → HaveNoGap s frames count are winner first n → first + n < count
      → ComesWithin s t (frames_time t frames first n) (winner (first + n)) (place (first + n)) (winner first) (place first)
  begins zero none less = (let e : first ≡ first + 0 = omega arith in subst (λ k. ComesWithin s t 0 (winner k) (place k) (winner first) (place first)) e (at_once s t (winner first) (place first)))
  begins (suc n) none less =
      let e : suc (first + n) ≡ first + suc n = omega arith in
      let below : suc (first + n) < count = omega arith in
      let old = begins n (λ k lt few. none k lt (omega arith)) (omega arith) in
      let more = one_more (first + n) below (none n below (omega arith)) in
      subst (λ k. ComesWithin s t (frames_time t frames first (suc n)) (winner k) (place k) (winner first) (place first)) e
      (add s t (frames_time t frames first n) (frame_time t (frames (first + n)).bits) (winner (suc (first + n))) (place (suc (first + n))) (winner (first + n)) (place (first + n)) (winner first) (place first)
      stations.line (inside (suc (first + n)) below) (inside (first + n) (omega arith)) (inside first (omega arith)) old more)

  abbrev passing : (n i : ℕ) → ℕ
  passing n i = expected_sample s (frames n).outset (passing_bit (frames n).bits i (winner n)) i

  tail_by : (n i : ℕ) → n < count → i < s.count → ComesWithin s t (tail_time t (frames n).bits) i (passing n i) (winner n) (place n)
  tail_by n i less there =
      subst (λ k. ComesWithin s t (tail_time t (frames n).bits) i (expected_sample s (frames n).outset (passing_bit (frames n).bits i k) i) k (start_place s (frames n) k)) (wins n less)
      (passes_law s (frames n) t stations room (are.each n less) take i there)

  pub passes : (n : ℕ) → HaveNoGap s frames count are winner first n → first + n < count → (i : ℕ) → i < s.count
      → ComesWithin s t (frames_time t frames first n + tail_time t (frames (first + n)).bits) i (passing (first + n) i) (winner first) (place first)
  passes n none less i there =
      add s t (frames_time t frames first n) (tail_time t (frames (first + n)).bits) i (passing (first + n) i) (winner (first + n)) (place (first + n)) (winner first) (place first) stations.line there
      (inside (first + n) less) (inside first (omega arith)) (begins n none less) (tail_by (first + n) i less there)
