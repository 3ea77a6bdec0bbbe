-- All frames of a line get through.
use Rattle.std.proofs.Common.{◌≡◌, ◌∙◌, ◌⊎◌, inl, inr, refl, sym, ap, subst, ℕ, zero, suc, ◌<◌, ◌≤◌, List, [], ◌∷◌, length, Some, arith}
use Rattle.std.proofs.lemmas.Bool.{cases_lt}
use Rattle.wl_level.specs.declared.Level.{Level}
use Rattle.wl_confine.specs.Counts.{no_counts}
use Rattle.wl_node.specs.declared.setup.Queued.{Queued}
use Rattle.wl_node.specs.declared.setup.NodeSetup.{NodeSetup}
use Rattle.wl_node.specs.History.{History, counters_of, error_count}
use Rattle.wl_phase.specs.Clocks.{steady_tick}
use Rattle.wl_plan.specs.Line.{Line}
use Rattle.wl_plan.specs.Simulation.{AreInside}
use Rattle.wl_buses.specs.OneFrame.Expected.{expected_sample}
use Rattle.wl_buses.specs.BothProofs.Queues.{ComeFrom, head_at, queued_contents, unsent_after}
use Rattle.wl_buses.proofs.BothProofs.Heads.{IsHandedBy}
use Rattle.wl_buses.specs.OneFrame.Lines.{IsLineOf, node_after}
use Rattle.wl_buses.specs.OneFrame.Stations.{AreStations, HaveRoom, Stations}
use Rattle.wl_buses.proofs.OneFrame.Lines.{run_of}
use Rattle.wl_buses.specs.NextFrames.Frames.{FollowOneAnother, Frame, third_sample}
use Rattle.wl_buses.specs.NextFrames.Lines.{IsBeforeLast, LineGoes, finds_frames}
use Rattle.wl_buses.specs.FirstFrame.Faults.{fault_count}
use Rattle.wl_buses.specs.FirstFrame.FirstStarts.{AreIdle, HandTheFirst, Waiting}
use Rattle.wl_buses.specs.SentFrames.Sending.{PassesAll, unsent_with}
use Rattle.wl_buses.specs.SentFrames.Winners.{passed_with, won_by}
use Rattle.wl_buses.specs.CleanPlans.Clean.{sent_contents}
use Rattle.wl_buses.specs.NextFrames.Silence.{AllAreSent, LineFallsSilent, StillRests}
use Rattle.wl_buses.specs.CleanLines.Lines.{EmptyEachQueue, FramesOfLine, LineGetsThrough, decision_of, line_history}
use Rattle.wl_buses.specs.FrameTimes.Times.{passing_sample}
use Rattle.wl_buses.proofs.CleanPlans.Nodes as nodes
use Rattle.wl_buses.proofs.CleanPlans.Nodes.{FaultsStay, FramesStay, IsKnown}
use Rattle.wl_buses.proofs.CleanPlans.Passed as passed
use Rattle.wl_buses.proofs.SentFrames.Nexting.{FirstHanded, NextQueued, first_queued}

-- the laws that this rests on
abbrev pub AllFine : Type 0
AllFine = (h : History) → fault_count h ≡ 0 → (error_count h ≡ 0) × (counters_of h ≡ no_counts)

abbrev pub GrowsLaw : Type 0
GrowsLaw = (s : Stations) (frames : ℕ → Frame) (count : ℕ) → AreStations s → HaveRoom s → FollowOneAnother s frames count → (n bit i : ℕ) → suc n < count → i < s.count
    → third_sample s (frames n) i < expected_sample s (frames (suc n)).outset bit i

module _ (faults : FaultsStay) (stay : FramesStay) (fine : AllFine) (grows : GrowsLaw) (l : Line) (setups : ℕ → NodeSetup) (w : Waiting) (on : IsLineOf l setups w.stations) (are : AreStations w.stations)
    (room : HaveRoom w.stations) (bus : FramesOfLine setups w) where
  abbrev s : Stations
  s = w.stations

  abbrev levels : ℕ → ℕ → Level
  levels i = finds_frames l s bus.frames bus.count i

  abbrev node : ℕ → ℕ → History
  node i = node_after (setups i) (levels i)

  abbrev HasAll : Type 0
  HasAll = (i : ℕ) → i < s.count → PassesAll s setups bus.frames bus.count bus.are bus.by i (node i)

  -- the frame with which a node wins is one that its queue handed it
  abbrev AreHanded : Type 0
  AreHanded = (n : ℕ) → n < bus.count → IsHandedBy (setups (bus.by.winner n)) (unsent_with s setups bus.frames bus.by.winner bus.by.content (bus.by.winner n) n) (bus.by.content n)

  own_handed : AreHanded → (i n : ℕ) → n < bus.count → i ≡ bus.by.winner n → IsHandedBy (setups i) (unsent_with s setups bus.frames bus.by.winner bus.by.content i n) (bus.by.content n)
  own_handed handed i n less e =
      subst (λ k. IsHandedBy (setups k) (unsent_with s setups bus.frames bus.by.winner bus.by.content k n) (bus.by.content n)) (sym e) (handed n less)

  none_left : AreHanded → (i : ℕ) → won_by bus.by.winner i bus.count ≡ length (setups i).queue → unsent_with s setups bus.frames bus.by.winner bus.by.content i bus.count ≡ []
  none_left handed i emptied =
      let left = passed.left_is s bus.frames bus.by.winner bus.by.content i (setups i) bus.count (own_handed handed i) bus.count (omega arith) in
      no_length (unsent_with s setups bus.frames bus.by.winner bus.by.content i bus.count) (omega arith)
    where
      no_length : (u : List Queued) → length u ≡ 0 → u ≡ []
      no_length [] e = refl
      no_length (q ∷ u) e = absurd (omega (arith, e))

  -- with empty queues no node has a frame left
  pub all_sent : HasAll → AreHanded → EmptyEachQueue setups w bus → AllAreSent l setups s bus.frames bus.count
  all_sent has handed emptied = record {
    before = λ i n inside e.
        nodes.none_before faults stay s setups bus.frames bus.count bus.are bus.by bus.some i inside (levels i) (node i) (run_of (setups i) (levels i))
        (has i inside) (none_left handed i (emptied i inside)) n e;
    after = λ i n inside e.
        nodes.none_after faults stay s setups bus.frames bus.count bus.are bus.by bus.some i inside (levels i) (node i) (run_of (setups i) (levels i))
        (has i inside) (none_left handed i (emptied i inside)) n e;
  }

  module _ (has : HasAll) (goes : LineGoes l setups s bus.frames bus.count bus.are l.stop)
      (ends : IsBeforeLast l s bus.frames bus.count l.stop ⊎ EmptyEachQueue setups w bus) (silent : EmptyEachQueue setups w bus → LineFallsSilent l setups s bus.frames bus.count bus.are l.stop)
      (handed : (n : ℕ) (less : n < bus.count)
      → head_at (setups (bus.by.winner n)) (unsent_with s setups bus.frames bus.by.winner bus.by.content (bus.by.winner n) n) (decision_of setups w bus n less) ≡ Some (bus.by.content n)) where
    are_handed : AreHanded
    are_handed n less = (decision_of setups w bus n less, handed n less)

    history_is : (i k : ℕ) → i < s.count → AreInside l i k → line_history l setups i k ≡ node i k
    history_is i k inside by_end = let count = on.nodes in goes.node i k (omega arith) by_end

    -- no quantum after the last frame, or a node that rests then
    module _ (i k : ℕ) (inside : i < s.count) (by_end : AreInside l i k) where
      abbrev z : ℕ
      z = nodes.z faults stay s setups bus.frames bus.count bus.are bus.by bus.some i inside (levels i) (node i) (run_of (setups i) (levels i)) (has i inside)

      z_is : suc z ≡ bus.count
      z_is = nodes.z_is faults stay s setups bus.frames bus.count bus.are bus.by bus.some i inside (levels i) (node i) (run_of (setups i) (levels i)) (has i inside)

      abbrev last : ℕ
      last = third_sample s (bus.frames z) i

      early_or_rests : (k ≤ suc last) ⊎ StillRests (node i) (suc last) k
      early_or_rests = elim (cases_lt (suc last) k) [
        | inr early ↦ inl early
        | inl late ↦ elim ends [
          | inl before ↦
              (let there = before.sampled i z inside z_is in
              let under = by_end (suc last) late in
              let count = on.nodes in
              let tick : l.instant i (suc last) ≡ steady_tick (s.clocks i) (suc last) = on.ticks i (suc last) (omega arith) in
              absurd (omega arith))
          | inr emptied ↦ inr ((silent emptied).rests i z k inside z_is (omega arith))
        ]
      ]

      known : IsKnown faults stay s setups bus.frames bus.count bus.are bus.by bus.some i inside (levels i) (node i) (run_of (setups i) (levels i)) (has i inside) k
      known =
          nodes.known faults stay s setups bus.frames bus.count bus.are bus.by bus.some i inside (levels i) (node i) (run_of (setups i) (levels i)) (has i inside) k early_or_rests

      all_fine : (error_count (line_history l setups i k) ≡ 0) × (counters_of (line_history l setups i k) ≡ no_counts)
      all_fine = fine (line_history l setups i k) (ap fault_count (history_is i k inside by_end) ∙ known.fine)

      first_part : (n : ℕ) × (n ≤ bus.count) × ((node i k).frames ≡ passed_with s bus.frames bus.by.winner bus.by.content i n)
      first_part = passed.part s bus.frames bus.by.winner bus.by.content i bus.count (node i k).frames known.more known.frames_are

      sent_part : ComeFrom (setups i) (sent_contents (node i k).frames) (queued_contents (unsent_after (setups i) (node i k).frames))
      sent_part =
          let x = first_part in
          subst (λ f. ComeFrom (setups i) (sent_contents f) (queued_contents (unsent_after (setups i) f))) (sym x.2)
          (passed.come_from s bus.frames bus.by.winner bus.by.content i (setups i) bus.count (own_handed are_handed i) x.0 x.1)

      frames_are : (line_history l setups i k).frames ≡ (node i k).frames
      frames_are = ap (λ h. h.frames) (history_is i k inside by_end)

      in_time : (n : ℕ) → n < bus.count → passing_sample s (bus.frames n) (bus.by.winner n) i < k → n < length (line_history l setups i k).frames
      in_time n less late =
          subst (λ f. n < length f) (sym frames_are)
          (nodes.in_time faults stay s setups bus.frames bus.count bus.are bus.by bus.some i inside (levels i) (node i) (run_of (setups i) (levels i)) (has i inside)
          (λ n bit less. grows s bus.frames bus.count are room bus.are n bit i less inside) 0 (λ n less. goes.goes i n less inside) n k less late)

    pub through : LineGetsThrough l setups w
    through = record {
      bus = bus;
      fine = λ i k inside by_end. (all_fine i k inside by_end).0;
      counters = λ i k inside by_end. (all_fine i k inside by_end).1;
      passed = λ i k inside by_end. (let x = first_part i k inside by_end in (x.0, x.1, frames_are i k inside by_end ∙ x.2));
      in_time = λ i k n inside by_end. in_time i k inside by_end n;
      sent = λ i k inside by_end.
          subst (λ f. ComeFrom (setups i) (sent_contents f) (queued_contents (unsent_after (setups i) f))) (sym (frames_are i k inside by_end)) (sent_part i k inside by_end);
      handed = handed;
      order = λ n less fifo.
          passed.next_in_order s bus.frames bus.by.winner bus.by.content (bus.by.winner n) (setups (bus.by.winner n)) bus.count (own_handed are_handed (bus.by.winner n)) fifo n less refl;
      goes = goes;
      ends = ends;
    }

-- the frame with which a node wins is the one that its queue handed it as it decided
pub handed_as : FirstHanded → NextQueued → (setups : ℕ → NodeSetup) (w : Waiting) → AreStations w.stations → HaveRoom w.stations → AreIdle w → HandTheFirst w setups → (bus : FramesOfLine setups w)
    → (n : ℕ) (less : n < bus.count)
    → head_at (setups (bus.by.winner n)) (unsent_with w.stations setups bus.frames bus.by.winner bus.by.content (bus.by.winner n) n) (decision_of setups w bus n less) ≡ Some (bus.by.content n)
handed_as first_law next_law setups w are room idle hand bus zero less = first_queued first_law setups w are room idle hand bus.frames bus.count bus.are less bus.first bus.by
handed_as first_law next_law setups w are room idle hand bus (suc n) less = next_law w.stations setups bus.frames bus.count are room bus.are bus.by n less
