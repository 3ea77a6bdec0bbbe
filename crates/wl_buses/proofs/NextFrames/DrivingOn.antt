-- What a node drives that goes from frame to frame, quantum by quantum.
use Rattle.std.proofs.Common.{◌≡◌, ◌∙◌, inl, inr, ap, ℕ, zero, suc, ◌-◌, ◌<◌, ◌≤◌, false, arith}
use Rattle.std.proofs.lemmas.Bool.{cases_lt}
use Rattle.wl_level.specs.declared.Level.{Level}
use Rattle.wl_level.specs.Levels.{is_dominant}
use Rattle.wl_topology.proofs.Callers.{any_none}
use Rattle.wl_node.specs.declared.setup.NodeSetup.{NodeSetup}
use Rattle.wl_node.specs.History.{History}
use Rattle.wl_phase.specs.Clocks.{steady_tick}
use Rattle.wl_buses.specs.OneFrame.Expected.{IsOutset, Outset, expected_bits}
use Rattle.wl_buses.specs.OneFrame.Machines.{HasWon}
use Rattle.wl_buses.specs.OneFrame.Stations.{AreStations, HaveRoom, Stations}
use Rattle.wl_buses.specs.FrameEnd.Asked.{EndAsAsked, EndsBefore}
use Rattle.wl_buses.specs.FrameEnd.Finds.{FindsTheEnd}
use Rattle.wl_buses.specs.NextFrames.Frames.{AreInOrder, Frame, frame_drove, frames_drove, resting_of, third_sample}
use Rattle.wl_buses.specs.NextFrames.NextStarts.{AreResting}
use Rattle.wl_buses.specs.NextFrames.Runs.{GoesThroughInOrder, quiet_by}
use Rattle.wl_buses.proofs.OneFrame.Measures.{tick_next}
use Rattle.wl_buses.proofs.FrameEnd.Below.{MachineLaws}
use Rattle.wl_buses.proofs.NextFrames.Driving as driving
use Rattle.wl_buses.proofs.NextFrames.Found as windows
use Rattle.wl_buses.proofs.NextFrames.Found.{NothingFound, any_alone}

-- the law that this rests on
abbrev pub AskedLaw : Type 0
AskedLaw = (s : Stations) (o : Outset) (end : ℕ) → AreStations s → HaveRoom s → IsOutset s o → EndsBefore s o end → (won : HasWon s (expected_bits s o) o.frames end) → EndAsAsked s o end won.station won.frame

module _ (m : MachineLaws) (nothing : NothingFound) (asked : AskedLaw) (s : Stations) (are : AreStations s) (room : HaveRoom s) (fs : ℕ → Frame) (count : ℕ) (frames : AreInOrder s fs count)
    (i : ℕ) (inside : i < s.count) (hears : (n : ℕ) → n < count → FindsTheEnd s (fs n).outset (fs n).bits i)
    (resting : (n : ℕ) (less : suc n < count) → AreResting (resting_of s (fs n) (fs (suc n)) (frames.next n less))) (setup : NodeSetup) (levels : ℕ → Level) (node : ℕ → History)
    (goes : (n : ℕ) (less : n < count) → GoesThroughInOrder s fs count frames i 0 setup levels node n less) where
  abbrev tick : ℕ → ℕ
  tick q = steady_tick (s.clocks i) q

  abbrev T : ℕ → ℕ
  T n = third_sample s (fs n) i

  -- what one frame leaves at it
  module _ (n : ℕ) (less : n < count) where
    pub none_before : (t : ℕ) → t < tick ((fs n).outset.start.from i) → frame_drove s (fs n) i t ≡ false
    none_before =
        let f = frames.each n less in
        driving.before_none m s are room (fs n).outset f.outset (fs n).bits f.ends.none f.ends.there f.won (asked s (fs n).outset (fs n).bits are room f.outset f.ends f.won) i inside (hears n less).later

    pub none_after : (t : ℕ) → tick (suc (T n)) ≤ t → frame_drove s (fs n) i t ≡ false
    none_after =
        let f = frames.each n less in
        driving.after_none m s are room (fs n).outset f.outset (fs n).bits f.ends.none f.ends.there f.won (asked s (fs n).outset (fs n).bits are room f.outset f.ends f.won) i inside (hears n less).later

    there : (k t : ℕ) → quiet_by s fs i 0 n ≤ k → k ≤ T n → tick k ≤ t → t < tick (suc k) → frame_drove s (fs n) i t ≡ is_dominant (node (suc k)).drive
    there =
        let f = frames.each n less in
        driving.drives_there m s are room (fs n).outset f.outset (fs n).bits f.ends.none f.ends.there f.won (asked s (fs n).outset (fs n).bits are room f.outset f.ends f.won) i inside (hears n less).later
        f.won.frame setup levels node (quiet_by s fs i 0 n) (goes n less)

  -- the frame in whose time a quantum is
  record Window (k n : ℕ) : Type 0 where
    at : ℕ
    small : at ≤ n
    by : k ≤ T at
    after : (j : ℕ) → suc j ≡ at → T j < k

  window : (k n : ℕ) → k ≤ T n → Window k n
  window k zero by = record { at = 0; small = omega arith; by = by; after = λ j e. absurd (omega (arith, e)) }
  window k (suc n) by = elim (cases_lt (T n) k) [
    | inl more ↦ record {
      at = suc n;
      small = omega arith;
      by = by;
      after = λ j e. (let same : j ≡ n = omega (arith, e) in let f : T j ≡ T n = ap T same in omega arith);
    }
    | inr few ↦ (let x = window k n few in record { at = x.at; small = (let h = x.small in omega arith); by = x.by; after = x.after })
  ]

  quiet_low : (k n : ℕ) → ((j : ℕ) → suc j ≡ n → T j < k) → quiet_by s fs i 0 n ≤ k
  quiet_low k zero after = omega arith
  quiet_low k (suc n) after = (let h = after n (omega arith) in omega arith)

  drives_at : (k t n : ℕ) → n < count → k ≤ T n → ((j : ℕ) → suc j ≡ n → T j < k) → tick k ≤ t → t < tick (suc k) → frames_drove s fs count i t ≡ is_dominant (node (suc k)).drive
  drives_at k t n less by after low high =
      any_alone count n (λ g. frame_drove s (fs g) i t) less (λ g in_count apart. elim (cases_lt g n) [
        | inl sooner ↦
            (let last = after (n - 1) (omega arith) in
            let mono = windows.thirds_up m nothing s are room fs count frames i inside hears resting g (n - 1) (omega arith) (omega arith) in
            let time = tick_next s are i inside (suc (T g)) k (omega arith) in
            none_after g in_count t (omega arith))
        | inr later ↦
            (let e : suc (g - 1) ≡ g = omega (arith, apart, later) in
            let mono = windows.thirds_up m nothing s are room fs count frames i inside hears resting n (g - 1) (omega (arith, apart, later)) (omega arith) in
            let first = windows.third_before m nothing s are room fs count frames i inside hears resting (g - 1) (omega arith) in
            let f : (fs (suc (g - 1))).outset.start.from i ≡ (fs g).outset.start.from i = ap (λ j. (fs j).outset.start.from i) e in
            let time = tick_next s are i inside (suc k) ((fs g).outset.start.from i) (omega arith) in
            none_before g in_count t (omega arith))
      ])
      ∙ there n less k t (quiet_low k n after) by low high

  pub drives_on : 0 < count → (k t : ℕ) → k ≤ T (count - 1) → tick k ≤ t → t < tick (suc k) → frames_drove s fs count i t ≡ is_dominant (node (suc k)).drive
  drives_on some k t by low high =
      let x = window k (count - 1) by in
      drives_at k t x.at (let h = x.small in omega arith) x.by x.after low high

  -- before its first quantum it drives nothing, and after the last frame neither
  pub none_at_first : (t : ℕ) → t < tick 0 → frames_drove s fs count i t ≡ false
  none_at_first t early =
      any_none count (λ g. frame_drove s (fs g) i t) (λ g in_count. (let up = tick_next s are i inside 0 ((fs g).outset.start.from i) (omega arith) in none_before g in_count t (omega arith)))

  pub none_at_last : (n t : ℕ) → suc n ≡ count → tick (suc (T n)) ≤ t → frames_drove s fs count i t ≡ false
  none_at_last n t is low =
      any_none count (λ g. frame_drove s (fs g) i t) (λ g in_count. (let mono = windows.thirds_up m nothing s are room fs count frames i inside hears resting g n (omega arith) (omega arith) in
      let time = tick_next s are i inside (suc (T g)) (suc (T n)) (omega arith) in
      none_after g in_count t (omega arith)))
