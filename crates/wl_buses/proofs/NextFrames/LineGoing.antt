-- The nodes of a line go from frame to frame.
use Rattle.std.proofs.Common.{◌≡◌, ◌∙◌, inl, inr, sym, ap, ℕ, suc, ◌+◌, ◌-◌, ◌<◌, ◌≤◌, Bool, false, arith}
use Rattle.std.proofs.lemmas.Bool.{cases_lt}
use Rattle.wl_level.specs.declared.Level.{Level}
use Rattle.wl_level.specs.Levels.{is_dominant, level_of}
use Rattle.wl_segments.specs.Lengths.{sample_at}
use Rattle.wl_topology.specs.Driven.{driven}
use Rattle.wl_node.specs.declared.setup.NodeSetup.{NodeSetup}
use Rattle.wl_node.specs.History.{History, staying_history}
use Rattle.wl_phase.specs.Clocks.{steady_tick}
use Rattle.wl_plan.specs.Line.{Line}
use Rattle.wl_buses.specs.BothProofs.Expected.{IsExpected}
use Rattle.wl_buses.specs.BothProofs.Levels.{levels_before}
use Rattle.wl_buses.specs.OneFrame.Lines.{BeginsAfter, IsLineOf, node_after}
use Rattle.wl_buses.specs.OneFrame.Nodes.{IsRun}
use Rattle.wl_buses.specs.OneFrame.Stations.{AreStations, HaveRoom, Stations}
use Rattle.wl_buses.proofs.OneFrame.Lines.{finds_driven, run_of}
use Rattle.wl_buses.proofs.OneFrame.Measures.{tick_next}
use Rattle.wl_buses.specs.FrameEnd.Again.{RestsAgain}
use Rattle.wl_buses.proofs.FrameEnd.LineEnds.{DriveExpected, FindLevels}
use Rattle.wl_buses.proofs.FrameEnd.Below.{MachineLaws}
use Rattle.wl_buses.specs.NextFrames.Frames.{AreInOrder, FollowOneAnother, Frame, frame_drove, frames_drove, frames_in_order, third_sample}
use Rattle.wl_buses.specs.NextFrames.Lines.{BeginFrames, IsBeforeLast, LineGoes, finds_frames}
use Rattle.wl_buses.specs.NextFrames.Runs.{GoesThroughOne, HandsBetween}
use Rattle.wl_buses.proofs.NextFrames.DrivingOn as driving
use Rattle.wl_buses.proofs.NextFrames.DrivingOn.{AskedLaw}
use Rattle.wl_buses.proofs.NextFrames.LineResting as resting
use Rattle.wl_buses.proofs.NextFrames.Windows as windows
use Rattle.wl_buses.proofs.NextFrames.Windows.{NothingFound, RestAfter}

-- the law that this rests on
abbrev pub NodeLaw : Type 0
NodeLaw = (s : Stations) (frames : ℕ → Frame) (count : ℕ) → AreStations s → HaveRoom s → (are : FollowOneAnother s frames count) → (i : ℕ) → i < s.count → (setup : NodeSetup) → setup.segments ≡ s.lengths i
    → (levels : ℕ → Level) (node : ℕ → History) → IsRun setup levels node
    → ((n q : ℕ) → n < count → q ≤ third_sample s (frames n) i → levels q ≡ level_of (driven s.count s.delay (frames_drove s frames count) i (steady_tick (s.clocks i) q)))
    → (rest since : ℕ) → BeginsAfter s (frames 0).outset i rest → RestsAgain s ((frames 0).outset.past i) i levels node rest since → since ≤ rest + sample_at (s.lengths i)
    → HandsBetween s frames count are i setup node → (n : ℕ) (less : n < count) → GoesThroughOne s frames count are i since setup levels node n less

module _ (m : MachineLaws) (nothing : NothingFound) (rest_after : RestAfter) (asked : AskedLaw) (node_law : NodeLaw) (l : Line) (setups : ℕ → NodeSetup) (s : Stations)
    (line : IsLineOf l setups s) (are : AreStations s) (room : HaveRoom s) (fs : ℕ → Frame) (count : ℕ) (frames : FollowOneAnother s fs count) (some : 0 < count)
    (begin : BeginFrames l setups s fs count frames) where
  abbrev drove : ℕ → ℕ → Bool
  drove = frames_drove s fs count

  abbrev tick : ℕ → ℕ → ℕ
  tick k q = steady_tick (s.clocks k) q

  abbrev T : ℕ → ℕ → ℕ
  T n i = third_sample s (fs n) i

  abbrev levels : ℕ → ℕ → Level
  levels i = finds_frames l s fs count i

  abbrev node : ℕ → ℕ → History
  node i = node_after (setups i) (levels i)

  rests_first : (i : ℕ) → i < s.count → RestsAgain s ((fs 0).outset.past i) i (levels i) (node i) (begin.rest i) 0
  rests_first i inside = resting.rests_first m nothing rest_after l setups s line are room fs count frames some begin.rest begin.after begin.rests i inside

  pub goes : (i n : ℕ) (less : n < count) → i < s.count → GoesThroughOne s fs count frames i 0 (setups i) (levels i) (node i) n less
  goes i n less inside =
      node_law s fs count are room frames i inside (setups i) (line.segments i (let e = line.nodes in omega arith)) (levels i) (node i) (run_of (setups i) (levels i))
      (λ n q lt by. finds_driven l setups s line drove i q inside) (begin.rest i) 0 (begin.after i inside)
      (rests_first i inside) (omega arith) (begin.hands i inside) n less

  -- what each drives, quantum by quantum
  abbrev frames_at : AreInOrder s fs count
  frames_at = frames_in_order s fs count frames

  pub none_after : (n : ℕ) (less : n < count) (i : ℕ) (inside : i < s.count) (t : ℕ) → tick i (suc (T n i)) ≤ t → frame_drove s (fs n) i t ≡ false
  none_after n less i inside =
      driving.none_after m nothing asked s are room fs count frames_at i inside (windows.hears m nothing rest_after s are room fs count frames i inside)
      (windows.resting m nothing rest_after s are room fs count frames) (setups i) (levels i) (node i) (λ g in_count. goes i g in_count inside) n less

  pub drives_there : (i k t : ℕ) → i < s.count → k ≤ T (count - 1) i → tick i k ≤ t → t < tick i (suc k) → drove i t ≡ is_dominant (node i (suc k)).drive
  drives_there i k t inside by low high =
      driving.drives_on m nothing asked s are room fs count frames_at i inside (windows.hears m nothing rest_after s are room fs count frames i inside)
      (windows.resting m nothing rest_after s are room fs count frames) (setups i) (levels i) (node i) (λ g in_count. goes i g in_count inside) some k t by low high

  -- before its first quantum it drives nothing
  pub none_at_first : (i t : ℕ) → i < s.count → t < tick i 0 → drove i t ≡ false
  none_at_first i t inside early =
      driving.none_at_first m nothing asked s are room fs count frames_at i inside (windows.hears m nothing rest_after s are room fs count frames i inside)
      (windows.resting m nothing rest_after s are room fs count frames) (setups i) (levels i) (node i) (λ g in_count. goes i g in_count inside) t early

  is_expected : (stop : ℕ) → IsBeforeLast l s fs count stop → IsExpected l (λ i. stop) drove
  is_expected stop before = record {
    near = λ i j ni nj. omega arith;
    inside = λ i ni. before.inside;
    before = λ i t ni less early. (let e = line.nodes in none_at_first i t (omega arith) (let first = line.ticks i 0 ni in omega arith));
    drives = λ i k t ni less low high. (let e = line.nodes in
        let inside : i < s.count = omega arith in
        let one = line.ticks i k ni in
        let two = line.ticks i (suc k) ni in
        let last = before.sampled i (count - 1) inside (omega arith) in
        let few : k ≤ T (count - 1) i = elim (cases_lt (T (count - 1) i) k) [
          | inl more ↦ (let up = tick_next s are i inside (suc (T (count - 1) i)) k more in absurd (omega arith))
          | inr f ↦ f
        ] in
        drives_there i k t inside few (omega arith) (omega arith) ∙ sym (line.drives i (levels_before (levels i) (suc k)) ni));
  }

  pub line_goes : DriveExpected → FindLevels → (stop : ℕ) → IsBeforeLast l s fs count stop → LineGoes l setups s fs count frames stop
  line_goes driven_is seen_is stop before = record {
    drives = driven_is l (λ i. stop) drove line.causal (is_expected stop before);
    node = λ i k ni less. ap (staying_history (setups i)) (seen_is l (λ i. stop) drove line.causal (is_expected stop before) i k ni less);
    goes = goes;
  }
