-- Of several frames a station finds one at a time, if there is room for acknowledgements and for rest.
use Rattle.std.proofs.Common.{◌≡◌, ℕ, suc, ◌+◌, ◌<◌, ◌≤◌, Bool, false, arith}
use Rattle.wl_segments.specs.Lengths.{sample_at}
use Rattle.wl_topology.specs.Driven.{driven}
use Rattle.wl_phase.specs.Clocks.{steady_tick}
use Rattle.wl_buses.specs.OneFrame.Expected.{expected_bits, expected_drove}
use Rattle.wl_buses.specs.OneFrame.Lines.{BeginsAfter}
use Rattle.wl_buses.specs.OneFrame.Stations.{AreStations, HaveRoom, Stations}
use Rattle.wl_buses.proofs.FrameEnd.Below.{MachineLaws}
use Rattle.wl_buses.specs.NextFrames.Frames.{FollowOneAnother, IsBegunAfter, Frame, IsBegun, frame_drove, frames_drove, resting_of, third_sample}
use Rattle.wl_buses.specs.NextFrames.NextStarts.{AreResting, rest_next, start_next}
use Rattle.wl_buses.specs.NextFrames.Frames.{frames_in_order}
use Rattle.wl_buses.specs.FrameEnd.Finds.{FindsTheEnd}
use Rattle.wl_buses.proofs.FrameEnd.Finding.{finds_the_end}
use Rattle.wl_buses.proofs.NextFrames.Found as windows
pub use Rattle.wl_buses.proofs.NextFrames.Found.{NothingFound, any_alone}

-- the laws that this rests on
abbrev pub RestAfter : Type 0
RestAfter = (s : Stations) (a b : Frame) → AreStations s → HaveRoom s → IsBegun s a → (next : IsBegunAfter s a b) → AreResting (resting_of s a b next)

module _ (m : MachineLaws) (nothing : NothingFound) (rest_after : RestAfter) (s : Stations) (are : AreStations s) (room : HaveRoom s) (fs : ℕ → Frame) (count : ℕ)
    (frames : FollowOneAnother s fs count) where
  abbrev T : ℕ → ℕ → ℕ
  T n i = third_sample s (fs n) i

  abbrev tick : ℕ → ℕ → ℕ
  tick k q = steady_tick (s.clocks k) q

  abbrev found : ℕ → ℕ → ℕ → Bool
  found n i q = driven s.count s.delay (frame_drove s (fs n)) i (tick i q)

  pub hears : (i : ℕ) → i < s.count → (n : ℕ) → n < count → FindsTheEnd s (fs n).outset (fs n).bits i
  hears i inside n less =
      let f = frames.each n less in
      finds_the_end m s are room (fs n).outset f.outset (fs n).bits f.ends.none f.ends.there f.won f.chase f.answer.catch f.answer.room i inside

  pub resting : (n : ℕ) (less : suc n < count) → AreResting (resting_of s (fs n) (fs (suc n)) (frames.next n less))
  resting n less = rest_after s (fs n) (fs (suc n)) are room (frames.each n (omega arith)) (frames.next n less)

  pub over_by_third : (n i : ℕ) → n < count → i < s.count → (expected_bits s (fs n).outset (suc (suc (fs n).bits))).from i + sample_at (s.lengths i) ≤ T n i
  over_by_third n i less inside = windows.over_by_third m nothing s are room fs count (frames_in_order s fs count frames) i inside (hears i inside) resting n less

  pub begins_after : (n : ℕ) (less : suc n < count) (i : ℕ) → i < s.count → BeginsAfter s (fs (suc n)).outset i (rest_next (resting_of s (fs n) (fs (suc n)) (frames.next n less)) i)
  begins_after n less i inside = windows.begins_after m nothing s are room fs count (frames_in_order s fs count frames) i inside (hears i inside) resting n less

  pub third_before : (n : ℕ) → suc n < count → (i : ℕ) → i < s.count → T n i < (fs (suc n)).outset.start.from i
  third_before n less i inside = windows.third_before m nothing s are room fs count (frames_in_order s fs count frames) i inside (hears i inside) resting n less

  pub silent_before : (n : ℕ) (less : suc n < count) (i : ℕ) → i < s.count → (q : ℕ) → q < (start_next (resting_of s (fs n) (fs (suc n)) (frames.next n less))).from i → found (suc n) i q ≡ false
  silent_before n less i inside = windows.silent_before m nothing s are room fs count (frames_in_order s fs count frames) i inside (hears i inside) resting n less

  pub by_third : (n : ℕ) (less : suc n < count) (i : ℕ) → i < s.count → (q : ℕ) → q < (start_next (resting_of s (fs n) (fs (suc n)) (frames.next n less))).from i → q ≤ T (suc n) i
  by_third n less i inside = windows.by_third m nothing s are room fs count (frames_in_order s fs count frames) i inside (hears i inside) resting n less

  pub thirds_up : (n g i : ℕ) → n ≤ g → g < count → i < s.count → T n i ≤ T g i
  thirds_up n g i low less inside = windows.thirds_up m nothing s are room fs count (frames_in_order s fs count frames) i inside (hears i inside) resting n g low less

  pub alone : (n i q : ℕ) → n < count → i < s.count → ((j : ℕ) → suc j ≡ n → T j i < q) → q ≤ T n i → driven s.count s.delay (frames_drove s fs count) i (tick i q) ≡ found n i q
  alone n i q less inside = windows.alone m nothing s are room fs count (frames_in_order s fs count frames) i inside (hears i inside) resting n q less

  pub silent_after : (i q : ℕ) → i < s.count → ((g : ℕ) → g < count → T g i < q) → driven s.count s.delay (frames_drove s fs count) i (tick i q) ≡ false
  silent_after i q inside = windows.silent_after m nothing s are room fs count (frames_in_order s fs count frames) i inside (hears i inside) resting q

  pub first_alone : 0 < count → (i rest q : ℕ) → i < s.count → BeginsAfter s (fs 0).outset i rest → q ≤ rest + sample_at (s.lengths i)
      → driven s.count s.delay (frames_drove s fs count) i (tick i q) ≡ driven s.count s.delay (expected_drove s (fs 0).outset (fs 0).bits) i (tick i q)
  first_alone some i rest q inside = windows.first_alone m nothing s are room fs count (frames_in_order s fs count frames) i inside (hears i inside) resting some rest q
