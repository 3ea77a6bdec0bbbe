-- Who loses the arbitration has begun with its own next frame, and that has the greater field.
use Rattle.std.proofs.Common.{◌≡◌, ◌≢◌, ◌∙◌, refl, sym, ap, ℕ, ◌+◌, ◌<◌, cond, true, false, [], Some, arith}
use Rattle.std.proofs.lemmas.Bool.{eq-eqb, ne_eqb}
use Rattle.wl_frame.specs.Grammar.{Content}
use Rattle.wl_machine.specs.declared.state.Role.TheVariants.{Rx, Tx}
use Rattle.wl_machine.specs.Frames.{frame_role}
use Rattle.wl_machine.specs.Judged.{head_of, stretch_of}
use Rattle.wl_machine.specs.Stretch.Sort.{Framing}
use Rattle.wl_machine.specs.States.{stretch_by}
use Rattle.wl_wire.specs.InStep.{IsSender}
use Rattle.wl_wire.specs.Winner.{Beats, Lost}
use Rattle.wl_wire.specs.Wire.{Wire}
use Rattle.wl_buses.specs.OneFrame.Expected.{IsOutset, Outset, expected_bits, past_at}
use Rattle.wl_buses.specs.OneFrame.Machines.{HasWon}
use Rattle.wl_buses.specs.OneFrame.Stations.{AreStations, HaveRoom, Stations}
use Rattle.wl_buses.specs.FirstFrame.FirstStarts.{Waiting, first_outset}
use Rattle.wl_buses.proofs.FirstFrame.Beginning.{MayTogether}
use Rattle.wl_buses.specs.FrameEnd.Asked.{EndsBefore, stuffed_levels}
use Rattle.wl_buses.proofs.FrameEnd.Asked.{agrees, count_there, one_winner, wire}
use Rattle.wl_buses.proofs.FrameEnd.Below.{MachineLaws}
use Rattle.wl_buses.specs.NextFrames.Frames.{Frame, IsBegun, IsBegunAfter, resting_of}
use Rattle.wl_buses.specs.NextFrames.NextStarts.{begins_next}
use Rattle.wl_buses.proofs.NextFrames.Chaining.{FreeLaw}
use Rattle.wl_buses.proofs.NextFrames.Outset as outsets
use Rattle.wl_buses.proofs.NextFrames.Outset.{MayWait}
use Rattle.wl_buses.proofs.NextFrames.Windows.{RestAfter}
use Rattle.wl_buses.proofs.NextFrames.Winning.{CourseLaw, SameBits}
use Rattle.wl_buses.proofs.SentFrames.Winning.{AskedLaw, DriveLaw, begun, first, head_at_end, own_begun, stage}
use Rattle.wl_buses.proofs.SentFrames.Nexting.{first_begun}
use Rattle.wl_buses.specs.TakesPart.Takes.{BeganWith}

module _ (m : MachineLaws) (course : CourseLaw) (same_bits : SameBits) (drive : DriveLaw) (asked : AskedLaw) (s : Stations) (o : Outset) (end : ℕ) (are : AreStations s) (room : HaveRoom s)
    (is : IsOutset s o) (ends : EndsBefore s o end) (won : HasWon s (expected_bits s o) o.frames end) (alone : o.start.joins won.station ≡ false) where
  abbrev w : Wire
  w = wire m s are room o is end ends.none ends.there won end

  at_end : (k : ℕ) (inside : k < s.count) (drives : o.start.drives k ≡ true)
      → stretch_of (w.past k) ≡ stretch_by (Framing (Some (begun m course same_bits drive s o end are room is ends k inside drives).0)) (stuffed_levels s o end)
  at_end k inside drives =
      ap stretch_of (agrees m s are room o is end ends.none ends.there won end k inside) ∙ stage m course same_bits drive s o end are room is ends k inside drives end (omega arith)

  sender : IsSender w (stuffed_levels s o end) won.station won.frame
  sender =
      let a = asked s o end are room is ends won in
      record {
        framing = at_end won.station won.inside (first m course same_bits drive asked s o end are room is ends won alone) ∙ ap (λ h. stretch_by (Framing (Some h)) (stuffed_levels s o end)) (own_begun m course same_bits drive asked s o end are room is ends won alone);
        role = ap (λ h. frame_role h (stuffed_levels s o end)) (sym a.own) ∙ a.role won.station won.inside ∙ ap (λ b. cond b Tx Rx) (eq-eqb won.station won.station refl);
      }

  module _ (k : ℕ) (inside : k < s.count) (apart : k ≢ won.station) (drives : o.start.drives k ≡ true) where
    abbrev c : Content
    c = (begun m course same_bits drive s o end are room is ends k inside drives).0

    lost : Lost w (stuffed_levels s o end) k c
    lost =
        let a = asked s o end are room is ends won in
        record {
          framing = at_end k inside drives;
          role = ap (λ h. frame_role h (stuffed_levels s o end)) (sym (head_at_end m course same_bits drive s o end are room is ends k inside drives)) ∙ a.role k inside ∙ ap (λ b. cond b Tx Rx) (ne_eqb k won.station apart);
        }

    pub loses : (d : Content) × (stretch_of (o.past k) ≡ stretch_by (Framing (Some d)) []) × Beats won.frame d
    loses =
        let one = one_winner m s are room o is end ends.none ends.there won in
        let e = count_there m s are room o is end ends.none ends.there won end in
        let there = won.inside in (
          (begun m course same_bits drive s o end are room is ends k inside drives).0,
          (begun m course same_bits drive s o end are room is ends k inside drives).1,
          one.beats (stuffed_levels s o end) won.station k won.frame (begun m course same_bits drive s o end are room is ends k inside drives).0 (omega arith) (omega arith) sender lost,
        )

-- as a law
abbrev pub LosesLaw : Type 0
LosesLaw = (s : Stations) (o : Outset) (end : ℕ) → AreStations s → HaveRoom s → IsOutset s o → EndsBefore s o end → (won : HasWon s (expected_bits s o) o.frames end)
    → o.start.joins won.station ≡ false → (k : ℕ) → k < s.count → k ≢ won.station → o.start.drives k ≡ true → (d : Content) × (stretch_of (o.past k) ≡ stretch_by (Framing (Some d)) []) × Beats won.frame d

-- the loser of a later frame
module _ (wait : MayWait) (rest_after : RestAfter) (free : FreeLaw) (law : LosesLaw) (s : Stations) (are : AreStations s) (room : HaveRoom s) where
  pub next_loses : (a b : Frame) → IsBegun s a → (is : IsBegun s b) → (after : IsBegunAfter s a b) → (k : ℕ) → k < s.count → k ≢ is.won.station → b.outset.start.drives k ≡ true
      → BeganWith a.outset.frames after.which k is.won.frame
  next_loses a b was is after k inside apart drives =
      let begins : begins_next (resting_of s a b after) k ≡ true = sym (ap (λ o. o.start.drives k) after.is) ∙ drives in
      let x = outsets.begun wait (resting_of s a b after) (past_at s a.outset (a.bits + 12)) are.line (rest_after s a b are room was after) (free s a.outset a.bits are room was.outset was.ends was.won) k begins in
      let y = law s b.outset b.bits are room is.outset is.ends is.won (ap (λ o. o.start.joins is.won.station) after.is) k inside apart drives in
      record {
        frame = y.0;
        is = x.1 ∙ ap (λ z. head_of z.sort) (sym x.2 ∙ sym (ap (λ o. stretch_of (o.past k)) after.is) ∙ y.1);
        beaten = y.2;
      }

-- the loser of the first frame
pub first_loses : MayTogether → LosesLaw → (w : Waiting) (f : Frame) → AreStations w.stations → HaveRoom w.stations → (is : IsBegun w.stations f) → f.outset ≡ first_outset w → (k : ℕ) → k < w.stations.count
    → k ≢ is.won.station → f.outset.start.drives k ≡ true → BeganWith w.frames w.which k is.won.frame
first_loses together law w f are room is first k inside apart drives =
    let y = law w.stations f.outset f.bits are room is.outset is.ends is.won (ap (λ o. o.start.joins is.won.station) first) k inside apart drives in
    record {
      frame = y.0;
      is = first_begun together w f.outset first k y.0 (sym (ap (λ o. o.start.drives k) first) ∙ drives) y.1;
      beaten = y.2;
    }
