-- The winner of a frame sends what its machine was handed.
use Rattle.std.proofs.Common.{◌≡◌, ◌∙◌, sym, ap, subst, ℕ, suc, ◌+◌, ◌<◌, max, true, false, [], length, replicate, Option, Some, None, arith}
use Rattle.std.specs.Prelude.{slice_get}
use Rattle.std.proofs.lemmas.Bool.{lt-ltb}
use Rattle.wl_level.specs.declared.Level.TheVariants.{Recessive}
use Rattle.wl_confine.specs.declared.Mode.TheVariants.{Active}
use Rattle.wl_frame.specs.Grammar.{Content}
use Rattle.wl_machine.specs.Stretch.{Stretch}
use Rattle.wl_machine.specs.Stretch.Sort.{Framing, Idle}
use Rattle.wl_machine.specs.Stretch.Input.{Sample}
use Rattle.wl_machine.specs.Judged.{head_of, stretch_after, stretch_of}
use Rattle.wl_machine.specs.States.{sample_of, stretch_by}
use Rattle.wl_machine.proofs.Callers.{stretch_next}
use Rattle.wl_node.specs.declared.setup.NodeSetup.{NodeSetup}
use Rattle.wl_buses.specs.BothProofs.Queues.{head_at}
use Rattle.wl_buses.proofs.BothProofs.Heads.{some_then, unsent_first}
use Rattle.wl_wire.specs.Wire.{sampled}
use Rattle.wl_buses.specs.OneFrame.Expected.{IsOutset, Outset, expected_bits, past_at}
use Rattle.wl_buses.specs.OneFrame.Machines.{HasWon, no_frame_sample}
use Rattle.wl_buses.specs.OneFrame.Stations.{AreStations, HaveRoom, Stations}
use Rattle.wl_buses.proofs.OneFrame.Waited.{takes_head}
use Rattle.wl_buses.specs.FirstFrame.FirstStarts.{AreIdle, HandTheFirst, Waiting, begins_first, decision_quantum, first_outset, handed_first, last_before, silent_past}
use Rattle.wl_buses.proofs.FirstFrame.Beginning.{MayTogether, idle_by}
use Rattle.wl_buses.specs.FrameEnd.Asked.{EndsBefore}
use Rattle.wl_buses.specs.NextFrames.Frames.{FollowOneAnother, Frame, IsBegun, IsBegunAfter, resting_of}
use Rattle.wl_buses.specs.NextFrames.NextStarts.{begins_next, decision_next}
use Rattle.wl_buses.proofs.NextFrames.Chaining.{FreeLaw}
use Rattle.wl_buses.proofs.NextFrames.Outset.{MayWait, begun}
use Rattle.wl_buses.proofs.NextFrames.Windows.{RestAfter}
use Rattle.wl_buses.proofs.NextFrames.Winning.{has_driven}
use Rattle.wl_buses.specs.SentFrames.Sending.{ByQueues, unsent_with}

-- the laws that this rests on
abbrev pub BegunLaw : Type 0
BegunLaw = (s : Stations) (o : Outset) (end : ℕ) → AreStations s → HaveRoom s → IsOutset s o → EndsBefore s o end → (won : HasWon s (expected_bits s o) o.frames end)
    → o.start.joins won.station ≡ false → stretch_of (o.past won.station) ≡ stretch_by (Framing (Some won.frame)) []

-- an idle machine that begins a frame begins the one that it is handed
takes : (s : Stretch) (o : Option Content) (c : Content) → s.sort ≡ Idle → stretch_after s (Sample (sample_of Recessive o Active)) ≡ stretch_by (Framing (Some c)) [] → o ≡ Some c
takes s None c idle e =
    (let stays : (stretch_after s (Sample (sample_of Recessive None Active))).sort ≡ Idle = ap (λ q. (stretch_after (stretch_by q s.own) (Sample (sample_of Recessive None Active))).sort) idle in
    let framing = ap (λ x. x.sort) e in
    cc)
takes s (Some d) c idle e = ap (λ x. head_of x.sort) (sym (takes_head s d idle) ∙ e)

-- who begins the first frame begins it with the frame on which it decided
pub first_begun : MayTogether → (w : Waiting) (o : Outset) → o ≡ first_outset w → (k : ℕ) (c : Content) → begins_first w k ≡ true → stretch_of (o.past k) ≡ stretch_by (Framing (Some c)) []
    → slice_get (w.frames k) (w.which k) ≡ Some c
first_begun together w o first k c begins framing =
    takes (stretch_of (replicate (max 11 (last_before w k)) no_frame_sample)) (slice_get (w.frames k) (w.which k)) c (idle_by together (max 11 (last_before w k)) (omega arith))
    (sym (stretch_next (replicate (max 11 (last_before w k)) no_frame_sample) (Sample (sampled Recessive (w.frames k) (handed_first (w.which k))))) ∙ sym (ap stretch_of past) ∙ framing)
  where
    past : o.past k ≡ silent_past true (w.frames k) (w.which k) (last_before w k)
    past = ap (λ o. o.past k) first ∙ ap (λ c. silent_past c (w.frames k) (w.which k) (last_before w k)) begins

-- of the first frame
pub first_handed : MayTogether → BegunLaw → (w : Waiting) (f : Frame) → AreStations w.stations → HaveRoom w.stations → (is : IsBegun w.stations f) → f.outset ≡ first_outset w
    → slice_get (w.frames is.won.station) (w.which is.won.station) ≡ Some is.won.frame
first_handed together began w f are room is first =
    first_begun together w f.outset first is.won.station is.won.frame
    (sym (ap (λ o. o.start.drives is.won.station) first) ∙ has_driven w.stations (expected_bits w.stations f.outset) f.bits is.won.station (ap (λ o. o.start.joins is.won.station) first) is.won.sends)
    (began w.stations f.outset f.bits are room is.outset is.ends is.won (ap (λ o. o.start.joins is.won.station) first))

-- of a later one
module _ (wait : MayWait) (rest_after : RestAfter) (free : FreeLaw) (began : BegunLaw) (s : Stations) (are : AreStations s) (room : HaveRoom s) where
  pub next_handed : (a b : Frame) → IsBegun s a → (is : IsBegun s b) → (after : IsBegunAfter s a b) → slice_get (a.outset.frames is.won.station) (after.which is.won.station) ≡ Some is.won.frame
  next_handed a b was is after =
      let begins : begins_next (resting_of s a b after) is.won.station ≡ true =
      sym (ap (λ o. o.start.drives is.won.station) after.is) ∙ has_driven s (expected_bits s b.outset) b.bits is.won.station (ap (λ o. o.start.joins is.won.station) after.is) is.won.sends in
      let x = begun wait (resting_of s a b after) (past_at s a.outset (a.bits + 12)) are.line (rest_after s a b are room was after) (free s a.outset a.bits are room was.outset was.ends was.won) is.won.station begins in
      x.1 ∙ ap (λ y. head_of y.sort) (sym x.2 ∙ sym (ap (λ o. stretch_of (o.past is.won.station)) after.is) ∙ began s b.outset b.bits are room is.outset is.ends is.won (ap (λ o. o.start.joins is.won.station) after.is))

  pub next_queued : (setups : ℕ → NodeSetup) (frames : ℕ → Frame) (count : ℕ) (all : FollowOneAnother s frames count) (by : ByQueues s setups frames count all) (n : ℕ) (less : suc n < count)
      → head_at (setups (by.winner (suc n))) (unsent_with s setups frames by.winner by.content (by.winner (suc n)) (suc n))
      (decision_next (resting_of s (frames n) (frames (suc n)) (all.next n less)) (by.winner (suc n))) ≡ Some (by.content (suc n))
  next_queued setups frames count all by n less =
      let b = all.each (suc n) less in
      let d = by.queues b.won.station n less b.won.inside in
      let e = next_handed (frames n) (frames (suc n)) (all.each n (omega arith)) (all.each (suc n) less) (all.next n less) in
      subst (λ w. head_at (setups w) (unsent_with s setups frames by.winner by.content w (suc n)) (decision_next (resting_of s (frames n) (frames (suc n)) (all.next n less)) w)
      ≡ Some (by.content (suc n))) (by.wins (suc n) less) (sym d.which ∙ e ∙ ap Some (by.wins_with (suc n) less))

-- as a law
abbrev pub FirstHanded : Type 0
FirstHanded = (w : Waiting) (f : Frame) → AreStations w.stations → HaveRoom w.stations → AreIdle w → (is : IsBegun w.stations f) → f.outset ≡ first_outset w
    → slice_get (w.frames is.won.station) (w.which is.won.station) ≡ Some is.won.frame

-- the first frame by the queue of its winner
pub first_queued : FirstHanded → (setups : ℕ → NodeSetup) (w : Waiting) → AreStations w.stations → HaveRoom w.stations → AreIdle w → HandTheFirst w setups → (frames : ℕ → Frame) (count : ℕ)
    (all : FollowOneAnother w.stations frames count) → 0 < count → (frames 0).outset ≡ first_outset w → (by : ByQueues w.stations setups frames count all)
    → head_at (setups (by.winner 0)) (unsent_with w.stations setups frames by.winner by.content (by.winner 0) 0) (decision_quantum w (by.winner 0)) ≡ Some (by.content 0)
first_queued first_law setups w are room idle hand frames count all some first by =
    let b = all.each 0 some in
    let own = first_law w (frames 0) are room idle (all.each 0 some) first in
    let has = lt-ltb (w.which b.won.station) (length (w.frames b.won.station)) (some_then (w.frames b.won.station) (w.which b.won.station) b.won.frame own) in
    subst (λ k. head_at (setups k) (unsent_with w.stations setups frames by.winner by.content k 0) (decision_quantum w k) ≡ Some (by.content 0)) (by.wins 0 some)
    (ap (λ u. head_at (setups b.won.station) u (decision_quantum w b.won.station)) (unsent_first (setups b.won.station)) ∙ hand.ready b.won.station b.won.inside has ∙ own ∙ ap Some (by.wins_with 0 some))

-- as a law
abbrev pub NextQueued : Type 0
NextQueued = (s : Stations) (setups : ℕ → NodeSetup) (frames : ℕ → Frame) (count : ℕ) → AreStations s → HaveRoom s → (all : FollowOneAnother s frames count) (by : ByQueues s setups frames count all)
    → (n : ℕ) (less : suc n < count) → head_at (setups (by.winner (suc n))) (unsent_with s setups frames by.winner by.content (by.winner (suc n)) (suc n))
    (decision_next (resting_of s (frames n) (frames (suc n)) (all.next n less)) (by.winner (suc n))) ≡ Some (by.content (suc n))
