-- A node goes from frame to frame, if there is room for acknowledgements and for rest.
use Rattle.std.proofs.Common.{◌≡◌, ℕ, suc, ◌+◌, ◌<◌, ◌≤◌, arith}
use Rattle.wl_level.specs.declared.Level.{Level}
use Rattle.wl_level.specs.Levels.{level_of}
use Rattle.wl_segments.specs.Lengths.{sample_at}
use Rattle.wl_topology.specs.Driven.{driven}
use Rattle.wl_node.specs.declared.setup.NodeSetup.{NodeSetup}
use Rattle.wl_node.specs.History.{History, unsent_of}
use Rattle.wl_phase.specs.Clocks.{steady_tick}
use Rattle.wl_buses.specs.OneFrame.Lines.{BeginsAfter}
use Rattle.wl_buses.specs.OneFrame.Nodes.{IsRun}
use Rattle.wl_buses.specs.OneFrame.Stations.{AreStations, HaveRoom, Stations}
use Rattle.wl_buses.specs.FrameEnd.Again.{RestsAgain}
use Rattle.wl_buses.specs.FrameEnd.Rests.{waiting_frame}
use Rattle.wl_buses.proofs.FrameEnd.Below.{MachineLaws}
use Rattle.wl_buses.specs.NextFrames.Frames.{FollowOneAnother, Frame, frame_drove, frames_drove, resting_of, third_sample}
use Rattle.wl_buses.specs.NextFrames.NextNodes.{HandsNext}
use Rattle.wl_buses.specs.NextFrames.Runs.{GoesThroughOne, HandsBetween}
use Rattle.wl_buses.specs.NextFrames.Frames.{frames_in_order}
use Rattle.wl_buses.proofs.NextFrames.Onward as onward
pub use Rattle.wl_buses.proofs.NextFrames.Onward.{FreeLaw, GoesOn, RestsLaw, ThroughLaw, WaitLaw}
use Rattle.wl_buses.proofs.NextFrames.Windows as windows
use Rattle.wl_buses.proofs.NextFrames.Windows.{NothingFound, RestAfter}
use Rattle.wl_buses.specs.BothProofs.Queues.{head_at}

module _ (m : MachineLaws) (nothing : NothingFound) (rest_after : RestAfter) (rests : RestsLaw) (free : FreeLaw) (wait : WaitLaw) (through : ThroughLaw)
    (s : Stations) (are : AreStations s) (room : HaveRoom s) (fs : ℕ → Frame) (count : ℕ) (frames : FollowOneAnother s fs count)
    (i : ℕ) (inside : i < s.count) (setup : NodeSetup) (segments : setup.segments ≡ s.lengths i) (levels : ℕ → Level) (node : ℕ → History) (run : IsRun setup levels node)
    (finds : (n q : ℕ) → n < count → q ≤ third_sample s (fs n) i → levels q ≡ level_of (driven s.count s.delay (frames_drove s fs count) i (steady_tick (s.clocks i) q)))
    (first_rest first_since : ℕ) (begins : BeginsAfter s (fs 0).outset i first_rest) (first : RestsAgain s ((fs 0).outset.past i) i levels node first_rest first_since)
    (early : first_since ≤ first_rest + sample_at (s.lengths i)) where
  abbrev T : ℕ → ℕ
  T n = third_sample s (fs n) i

  pub finds_alone : (n q : ℕ) → n < count → ((j : ℕ) → suc j ≡ n → T j < q) → q ≤ T n
      → levels q ≡ level_of (driven s.count s.delay (frame_drove s (fs n)) i (steady_tick (s.clocks i) q))
  finds_alone = onward.finds_alone m nothing rests free wait through s are room fs count (frames_in_order s fs count frames) i inside (windows.hears m nothing rest_after s are room fs count frames i inside) (windows.resting m nothing rest_after s are room fs count frames) setup segments levels node run finds first_rest first_since begins first early

  pub goes_on : (n : ℕ) (less : suc n < count) → GoesThroughOne s fs count frames i first_since setup levels node n (omega arith)
      → HandsNext (resting_of s (fs n) (fs (suc n)) (frames.next n less)) i (waiting_frame setup (node (T n))) (head_at setup (unsent_of setup (node (suc (T n)))))
      → GoesOn s fs count (frames_in_order s fs count frames) i first_since setup levels node n less
  goes_on = onward.goes_on m nothing rests free wait through s are room fs count (frames_in_order s fs count frames) i inside (windows.hears m nothing rest_after s are room fs count frames i inside) (windows.resting m nothing rest_after s are room fs count frames) setup segments levels node run finds first_rest first_since begins first early

  pub goes_first : (less : 0 < count) → GoesThroughOne s fs count frames i first_since setup levels node 0 less
  goes_first = onward.goes_first m nothing rests free wait through s are room fs count (frames_in_order s fs count frames) i inside (windows.hears m nothing rest_after s are room fs count frames i inside) (windows.resting m nothing rest_after s are room fs count frames) setup segments levels node run finds first_rest first_since begins first early

  pub chained : HandsBetween s fs count frames i setup node → (n : ℕ) (less : n < count) → GoesThroughOne s fs count frames i first_since setup levels node n less
  chained = onward.chained m nothing rests free wait through s are room fs count (frames_in_order s fs count frames) i inside (windows.hears m nothing rest_after s are room fs count frames i inside) (windows.resting m nothing rest_after s are room fs count frames) setup segments levels node run finds first_rest first_since begins first early
