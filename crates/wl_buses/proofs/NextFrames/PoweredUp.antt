-- The nodes of a plan begin with its first frame, from their power-up on.
use Rattle.std.proofs.Common.{◌≡◌, sym, ap, subst, ℕ, suc, ◌+◌, ◌<◌, ◌≤◌, None, arith}
use Rattle.wl_segments.specs.Lengths.{sample_at}
use Rattle.wl_machine.specs.Frames.{stuffed_end}
use Rattle.wl_node.specs.declared.setup.NodeSetup.{NodeSetup}
use Rattle.wl_node.specs.History.{staying_history}
use Rattle.wl_plan.specs.Line.{Line}
use Rattle.wl_buses.specs.OneFrame.Expected.{Outset, expected_bits}
use Rattle.wl_buses.specs.OneFrame.Lines.{BeginsAfter, IsLineOf, RestsBefore, finds_expected, node_after}
use Rattle.wl_buses.specs.OneFrame.Machines.{bus_levels}
use Rattle.wl_buses.specs.OneFrame.Stations.{AreOnALine, AreStations, HaveRoom, Stations}
use Rattle.wl_buses.specs.FirstFrame.FirstStarts.{AreIdle, HandTheFirst, Waiting, first_outset, rest_first}
use Rattle.wl_buses.proofs.FirstFrame.Silent.{IsUntouched}
use Rattle.wl_buses.proofs.FrameEnd.Below.{MachineLaws}
use Rattle.wl_buses.proofs.FrameEnd.LineEnds.{levels_agree}
use Rattle.wl_buses.specs.NextFrames.Frames.{FollowOneAnother, Frame}
use Rattle.wl_buses.specs.NextFrames.Lines.{BeginFrames, finds_frames}
use Rattle.wl_buses.specs.NextFrames.Runs.{HandsBetween}
use Rattle.wl_buses.proofs.NextFrames.LineResting.{finds_first}
use Rattle.wl_buses.proofs.NextFrames.Windows.{NothingFound, RestAfter}

-- the laws that this rests on
abbrev pub AfterFirst : Type 0
AfterFirst = (w : Waiting) → AreOnALine w.stations → AreIdle w → (i : ℕ) → i < w.stations.count → BeginsAfter w.stations (first_outset w) i (rest_first w i)

abbrev pub RestFirst : Type 0
RestFirst = (l : Line) (setups : ℕ → NodeSetup) (w : Waiting) (length i : ℕ) → IsLineOf l setups w.stations → AreStations w.stations → HaveRoom w.stations → AreIdle w → HandTheFirst w setups
    → ((n : ℕ) → n < length → stuffed_end (bus_levels w.stations (expected_bits w.stations (first_outset w)) n) ≡ None) → i < w.stations.count
    → RestsBefore w.stations (first_outset w) i (finds_expected l w.stations (first_outset w) length i)
    (node_after (setups i) (finds_expected l w.stations (first_outset w) length i)) (rest_first w i)

-- after which bit each node begins the first frame, and that it rests before it
pub begins_first : AfterFirst → (w : Waiting) → AreOnALine w.stations → AreIdle w → (o : Outset) → o ≡ first_outset w → (i : ℕ) → i < w.stations.count → BeginsAfter w.stations o i (rest_first w i)
begins_first after w line idle o first i inside = subst (λ o. BeginsAfter w.stations o i (rest_first w i)) (sym first) (after w line idle i inside)

pub rests_before : RestFirst → (l : Line) (setups : ℕ → NodeSetup) (w : Waiting) → IsLineOf l setups w.stations → AreStations w.stations → HaveRoom w.stations → AreIdle w → HandTheFirst w setups
    → (o : Outset) (length : ℕ) → o ≡ first_outset w → ((n : ℕ) → n < length → stuffed_end (bus_levels w.stations (expected_bits w.stations o) n) ≡ None) → (i : ℕ) → i < w.stations.count
    → RestsBefore w.stations o i (finds_expected l w.stations o length i) (node_after (setups i) (finds_expected l w.stations o length i)) (rest_first w i)
rests_before rest l setups w line are room idle hand o length first none i inside =
    subst (λ o. RestsBefore w.stations o i (finds_expected l w.stations o length i) (node_after (setups i) (finds_expected l w.stations o length i)) (rest_first w i)) (sym first)
    (rest l setups w length i line are room idle hand (subst (λ o. (n : ℕ) → n < length → stuffed_end (bus_levels w.stations (expected_bits w.stations o) n) ≡ None) first none) inside)

pub powered_up : AfterFirst → RestFirst → (l : Line) (setups : ℕ → NodeSetup) (w : Waiting) → IsLineOf l setups w.stations → AreStations w.stations → HaveRoom w.stations → AreIdle w
    → HandTheFirst w setups → (frames : ℕ → Frame) (count : ℕ) (all : FollowOneAnother w.stations frames count) → 0 < count → (frames 0).outset ≡ first_outset w
    → ((i : ℕ) → i < w.stations.count → HandsBetween w.stations frames count all i (setups i) (node_after (setups i) (finds_frames l w.stations frames count i)))
    → BeginFrames l setups w.stations frames count all
powered_up after rest l setups w line are room idle hand frames count all some first hands = record {
  rest = rest_first w;
  after = begins_first after w are.line idle (frames 0).outset first;
  rests = rests_before rest l setups w line are room idle hand (frames 0).outset (frames 0).bits first (all.each 0 some).ends.none;
  hands = hands;
}

-- up to its last bit before the first frame nothing has passed a node
abbrev pub NothingFirst : Type 0
NothingFirst = (l : Line) (setups : ℕ → NodeSetup) (w : Waiting) (length i : ℕ) → IsLineOf l setups w.stations → AreStations w.stations → HaveRoom w.stations → AreIdle w → HandTheFirst w setups
    → ((n : ℕ) → n < length → stuffed_end (bus_levels w.stations (expected_bits w.stations (first_outset w)) n) ≡ None) → i < w.stations.count
    → (q : ℕ) → q ≤ suc (rest_first w i + sample_at (w.stations.lengths i))
    → IsUntouched (node_after (setups i) (finds_expected l w.stations (first_outset w) length i) q)

module _ (m : MachineLaws) (nothing : NothingFound) (rest_after : RestAfter) (after : AfterFirst) (none : NothingFirst) (l : Line) (setups : ℕ → NodeSetup) (w : Waiting)
    (line : IsLineOf l setups w.stations) (are : AreStations w.stations) (room : HaveRoom w.stations) (idle : AreIdle w) (hand : HandTheFirst w setups) (fs : ℕ → Frame) (count : ℕ)
    (frames : FollowOneAnother w.stations fs count) (some : 0 < count) (first : (fs 0).outset ≡ first_outset w) (i : ℕ) (inside : i < w.stations.count) where
  abbrev s : Stations
  s = w.stations

  begins : BeginsAfter s (fs 0).outset i (rest_first w i)
  begins = begins_first after w are.line idle (fs 0).outset first i inside

  none_first : (q : ℕ) → q ≤ suc (rest_first w i + sample_at (s.lengths i)) → IsUntouched (node_after (setups i) (finds_expected l s (fs 0).outset (fs 0).bits i) q)
  none_first q by =
      subst (λ o. IsUntouched (node_after (setups i) (finds_expected l s o (fs 0).bits i) q)) (sym first)
      (none l setups w (fs 0).bits i line are room idle hand
      (subst (λ o. (n : ℕ) → n < (fs 0).bits → stuffed_end (bus_levels s (expected_bits s o) n) ≡ None) first (frames.each 0 some).ends.none) inside q by)

  pub nothing_passed : (q : ℕ) → q ≤ suc (rest_first w i + sample_at (s.lengths i)) → IsUntouched (node_after (setups i) (finds_frames l s fs count i) q)
  nothing_passed q by =
      subst IsUntouched
      (sym (ap (staying_history (setups i)) (levels_agree (finds_frames l s fs count i) (finds_expected l s (fs 0).outset (fs 0).bits i) q (λ j less. finds_first m nothing rest_after l setups s line are room fs count frames some i (rest_first w i) j inside begins (omega arith))))) (none_first q by)
