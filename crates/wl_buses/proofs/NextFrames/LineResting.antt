-- The nodes of a line that rest before the first frame rest so, too, if all drive what is expected in all frames.
use Rattle.std.proofs.Common.{◌≡◌, ◌∙◌, sym, ap, ℕ, ◌+◌, ◌<◌, ◌≤◌}
use Rattle.wl_level.specs.declared.Level.{Level}
use Rattle.wl_level.specs.Levels.{level_of}
use Rattle.wl_segments.specs.Lengths.{sample_at}
use Rattle.wl_node.specs.declared.setup.NodeSetup.{NodeSetup}
use Rattle.wl_node.specs.History.{History}
use Rattle.wl_plan.specs.Line.{Line}
use Rattle.wl_buses.specs.OneFrame.Lines.{BeginsAfter, IsLineOf, RestsBefore, finds_expected, node_after}
use Rattle.wl_buses.specs.OneFrame.Stations.{AreStations, HaveRoom, Stations}
use Rattle.wl_buses.proofs.OneFrame.Lines.{finds_driven, finds_what_comes}
use Rattle.wl_buses.specs.FrameEnd.Again.{RestsAgain}
use Rattle.wl_buses.proofs.FrameEnd.Below.{MachineLaws}
use Rattle.wl_buses.specs.NextFrames.Frames.{FollowOneAnother, Frame, frames_drove}
use Rattle.wl_buses.specs.NextFrames.Lines.{finds_frames}
use Rattle.wl_buses.proofs.NextFrames.Histories.{rests_as}
use Rattle.wl_buses.proofs.NextFrames.Windows as windows
use Rattle.wl_buses.proofs.NextFrames.Windows.{NothingFound, RestAfter}

module _ (m : MachineLaws) (nothing : NothingFound) (rest_after : RestAfter) (l : Line) (setups : ℕ → NodeSetup) (s : Stations) (line : IsLineOf l setups s) (are : AreStations s)
    (room : HaveRoom s) (fs : ℕ → Frame) (count : ℕ) (frames : FollowOneAnother s fs count) (some : 0 < count) where
  -- up to its last bit before the first frame a node finds what is driven in that
  pub finds_first : (i rest q : ℕ) → i < s.count → BeginsAfter s (fs 0).outset i rest → q ≤ rest + sample_at (s.lengths i)
      → finds_frames l s fs count i q ≡ finds_expected l s (fs 0).outset (fs 0).bits i q
  finds_first i rest q inside begins by =
      finds_driven l setups s line (frames_drove s fs count) i q inside
      ∙ ap level_of (windows.first_alone m nothing rest_after s are room fs count frames some i rest q inside begins by)
      ∙ sym (finds_what_comes l setups s line (fs 0).outset (fs 0).bits i q inside)

module _ (m : MachineLaws) (nothing : NothingFound) (rest_after : RestAfter) (l : Line) (setups : ℕ → NodeSetup) (s : Stations) (line : IsLineOf l setups s) (are : AreStations s)
    (room : HaveRoom s) (fs : ℕ → Frame) (count : ℕ) (frames : FollowOneAnother s fs count) (some : 0 < count) (rest : ℕ → ℕ)
    (begins : (i : ℕ) → i < s.count → BeginsAfter s (fs 0).outset i (rest i))
    (rests : (i : ℕ) → i < s.count → RestsBefore s (fs 0).outset i (finds_expected l s (fs 0).outset (fs 0).bits i) (node_after (setups i) (finds_expected l s (fs 0).outset (fs 0).bits i)) (rest i)) where
  abbrev levels : ℕ → ℕ → Level
  levels i = finds_frames l s fs count i

  abbrev node : ℕ → ℕ → History
  node i = node_after (setups i) (levels i)

  pub rests_first : (i : ℕ) → i < s.count → RestsAgain s ((fs 0).outset.past i) i (levels i) (node i) (rest i) 0
  rests_first i inside =
      let r = rests_as s (fs 0).outset i (setups i) (levels i) (finds_expected l s (fs 0).outset (fs 0).bits i) (rest i) (λ q by. finds_first m nothing rest_after l setups s line are room fs count frames some i (rest i) q inside (begins i inside) by) (rests i inside) in
      record { sampled = r.sampled; clock = r.clock; stretch = r.stretch; over = r.over; counts = r.counts; drive = λ q low high. r.drive q high }
