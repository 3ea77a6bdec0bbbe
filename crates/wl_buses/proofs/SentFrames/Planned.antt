-- The nodes of a plan send by their queues, from its first frame on.
use Rattle.std.proofs.Common.{◌≡◌, ℕ, zero, suc, ◌+◌, ◌<◌, [], Some, arith}
use Rattle.wl_level.specs.declared.Level.{Level}
use Rattle.wl_segments.specs.Lengths.{sample_at}
use Rattle.wl_node.specs.declared.setup.NodeSetup.{NodeSetup}
use Rattle.wl_plan.specs.Line.{Line}
use Rattle.wl_buses.specs.BothProofs.Queues.{head_at, queued_contents}
use Rattle.wl_buses.specs.OneFrame.Lines.{BeginsAfter, IsLineOf, RestsBefore, finds_expected, node_after}
use Rattle.wl_buses.specs.OneFrame.Stations.{AreStations, HaveRoom, Stations}
use Rattle.wl_buses.proofs.OneFrame.Lines.{finds_driven, run_of}
use Rattle.wl_buses.specs.FirstFrame.FirstStarts.{AreIdle, HandTheFirst, Waiting, decision_quantum, first_outset, rest_first}
use Rattle.wl_buses.proofs.FrameEnd.Below.{MachineLaws}
use Rattle.wl_buses.specs.FirstFrame.Faults.{fault_count}
use Rattle.wl_buses.specs.NextFrames.Frames.{FollowOneAnother, Frame, frames_drove, resting_of}
use Rattle.wl_buses.specs.NextFrames.NextStarts.{decision_next}
use Rattle.wl_buses.specs.NextFrames.Lines.{finds_frames}
use Rattle.wl_buses.proofs.NextFrames.PoweredUp.{AfterFirst, RestFirst, begins_first, powered_up, rests_before}
use Rattle.wl_buses.proofs.NextFrames.Windows.{NothingFound, RestAfter}
use Rattle.wl_buses.proofs.NextFrames.LineResting.{rests_first}
use Rattle.wl_buses.specs.SentFrames.Sending.{ByQueues, PassesAll, LineSends, unsent_with}
use Rattle.wl_buses.proofs.SentFrames.Handing.{HandLaw}
use Rattle.wl_buses.proofs.SentFrames.Nexting.{FirstHanded, NextQueued, first_queued}

module _ (m : MachineLaws) (nothing : NothingFound) (rest_after : RestAfter) (after : AfterFirst) (rest : RestFirst) (hand_law : HandLaw) (first_law : FirstHanded)
    (next_law : NextQueued) (l : Line) (setups : ℕ → NodeSetup) (w : Waiting) (line : IsLineOf l setups w.stations) (are : AreStations w.stations) (room : HaveRoom w.stations) (idle : AreIdle w)
    (hand : HandTheFirst w setups) (queues : (i : ℕ) → w.frames i ≡ queued_contents (setups i).queue) (fs : ℕ → Frame) (count : ℕ) (frames : FollowOneAnother w.stations fs count) (some : 0 < count)
    (first : (fs 0).outset ≡ first_outset w) (by : ByQueues w.stations setups fs count frames)
    (none : (i : ℕ) → i < w.stations.count → ((node_after (setups i) (finds_frames l w.stations fs count i) (suc (rest_first w i + sample_at (w.stations.lengths i)))).frames ≡ [])
    × (fault_count (node_after (setups i) (finds_frames l w.stations fs count i) (suc (rest_first w i + sample_at (w.stations.lengths i)))) ≡ 0)) where
  abbrev s : Stations
  s = w.stations

  abbrev levels : ℕ → ℕ → Level
  levels i = finds_frames l s fs count i

  begins : (i : ℕ) → i < s.count → BeginsAfter s (fs 0).outset i (rest_first w i)
  begins = begins_first after w are.line idle (fs 0).outset first

  rests : (i : ℕ) → i < s.count → RestsBefore s (fs 0).outset i (finds_expected l s (fs 0).outset (fs 0).bits i) (node_after (setups i) (finds_expected l s (fs 0).outset (fs 0).bits i)) (rest_first w i)
  rests = rests_before rest l setups w line are room idle hand (fs 0).outset (fs 0).bits first (frames.each 0 some).ends.none

  passed : (i : ℕ) → i < s.count → PassesAll s setups fs count frames by i (node_after (setups i) (levels i))
  passed i inside =
      let x = none i inside in
      hand_law s setups fs count are room frames by i inside (line.segments i (let e = line.nodes in omega arith)) (levels i) (node_after (setups i) (levels i)) (run_of (setups i) (levels i))
      (λ n q lt up. finds_driven l setups s line (frames_drove s fs count) i q inside) (rest_first w i) 0 (begins i inside)
      (rests_first m nothing rest_after l setups s line are room fs count frames some (rest_first w) begins rests i inside) (omega arith) x.0 x.1

  sent_next : (n : ℕ) → n < count → (quantum : ℕ) × (head_at (setups (by.winner n)) (unsent_with s setups fs by.winner by.content (by.winner n) n) quantum ≡ Some (by.content n))
  sent_next zero less = (decision_quantum w (by.winner 0), first_queued first_law setups w are room idle hand fs count frames less first by)
  sent_next (suc n) less = (decision_next (resting_of s (fs n) (fs (suc n)) (frames.next n less)) (by.winner (suc n)), next_law s setups fs count are room frames by n less)

  pub line_sends : LineSends l setups s fs count frames by
  line_sends = record {
    begins = powered_up after rest l setups w line are room idle hand fs count frames some first (λ i inside. (passed i inside).hands);
    passes = passed;
    order = sent_next;
  }
