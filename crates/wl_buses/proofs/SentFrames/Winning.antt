-- The frame that has won is the one with which its machine has begun.
use Rattle.std.proofs.Common.{◌≡◌, ◌∙◌, inl, inr, sym, ap, subst, ℕ, zero, suc, ◌<◌, ◌≤◌, ◌&&◌, cond, Bool, true, false, List, [], ◌∷◌, ◌++◌, length, Option, Some, None, arith}
use Rattle.std.specs.Prelude.{nat_le}
use Rattle.wl_level.specs.declared.Level.{Level}
use Rattle.wl_level.specs.Levels.{is_dominant, level_of, same}
use Rattle.wl_level.specs.Places.{before}
use Rattle.wl_topology.specs.Driven.{any_below}
use Rattle.wl_topology.proofs.Callers.{any_same}
use Rattle.wl_frame.specs.Stuffing.{destuffed_bits, is_stuff}
use Rattle.wl_frame.specs.Grammar.{Content, bits_of, is_arbitration, layout_of}
use Rattle.wl_confine.specs.declared.ErrorKind.TheVariants.{Bit, Stuff}
use Rattle.wl_confine.specs.declared.Happened.{Happened}
use Rattle.wl_confine.specs.declared.Happened.TheVariants as happens
use Rattle.wl_machine.specs.declared.state.Role.{Role}
use Rattle.wl_machine.specs.declared.state.Role.TheVariants.{Rx, Tx}
use Rattle.wl_machine.specs.Stretch.{Flag, Input, Judgement, Sampled, Stretch, begins, continues}
use Rattle.wl_machine.specs.Stretch.Sort.{Flagging, Framing}
use Rattle.wl_machine.specs.Stretch.Input.{Sample}
use Rattle.wl_machine.specs.Flags.{error_flag, fails}
use Rattle.wl_machine.specs.Frames.{differing, frame_role, framing_by, framing_received, framing_sent, receiving, sending, sent_at, stuffed_end}
use Rattle.wl_machine.specs.Judged.{drive_by, drive_of, head_of, or_next, stretch_after, stretch_of}
use Rattle.wl_machine.specs.States.{stretch_by}
use Rattle.wl_machine.proofs.Callers.{stretch_next}
use Rattle.wl_wire.specs.InStep.{AreSoundFrames}
use Rattle.wl_wire.proofs.Callers.{some_same}
use Rattle.wl_wire.specs.Wire.{sampled}
use Rattle.wl_buses.specs.OneFrame.Expected.{IsOutset, Outset, expected_bits, expected_drove, expected_end, past_at, wants}
use Rattle.wl_buses.specs.OneFrame.Machines.{AllRight, AreMachines, GoesByMachines, HasWon, MayBeginOrJoin, SomeBegins, bus_levels}
use Rattle.wl_buses.specs.OneFrame.OneBit.{IsRight}
use Rattle.wl_buses.specs.OneFrame.Starts.{Start}
use Rattle.wl_buses.specs.OneFrame.Stations.{AreStations, HaveRoom, Stations}
use Rattle.wl_buses.proofs.OneFrame.Expecting.{drives_are}
use Rattle.wl_buses.specs.FrameEnd.Asked.{EndAsAsked, EndsBefore, begun_frame}
use Rattle.wl_buses.proofs.FrameEnd.Below.{MachineLaws}
use Rattle.wl_buses.proofs.NextFrames.Winning.{CourseLaw, SameBits, has_driven}

-- the laws that this rests on
abbrev pub DriveLaw : Type 0
DriveLaw = (s : Stations) (bits : ℕ → Start) (drove : ℕ → ℕ → Bool) (frames : ℕ → List Content) (past : ℕ → ℕ → List Input) (length : ℕ) → AreSoundFrames s.count frames
    → AreMachines s bits drove frames past length → SomeBegins s bits → (n : ℕ) → n < length → AllRight s bits drove n → stuffed_end (bus_levels s bits n) ≡ None
    → GoesByMachines s bits drove frames past n

abbrev pub AskedLaw : Type 0
AskedLaw = (s : Stations) (o : Outset) (end : ℕ) → AreStations s → HaveRoom s → IsOutset s o → EndsBefore s o end → (won : HasWon s (expected_bits s o) o.frames end) → EndAsAsked s o end won.station won.frame

-- A sample of the stuffed part leaves a frame with the head that it began with, if another stretch doesn't begin.
record Keeps (head : Option Content) (j : Judgement) : Type 0 where
  stays : (own later : List Level) (head_then : Option Content) → or_next j.next (stretch_by (Framing head) own) ≡ stretch_by (Framing head_then) later → head ≡ head_then

goes_on : (head : Option Content) (happened : Happened) → Keeps head (continues happened)
goes_on head happened = record { stays = λ own later then e. by then (ap (λ x. x.sort) e) }
  where
    by : (then : Option Content) → Framing head ≡ Framing then → head ≡ then
    by then e = cc

flags : (head : Option Content) (happened : Happened) (flag : Flag) (role : Role) → Keeps head (begins happened (Flagging flag role) [])
flags head happened flag role = record { stays = λ own later then e. by then (ap (λ x. x.sort) e) }
  where
    by : (then : Option Content) → Flagging flag role ≡ Framing then → head ≡ then
    by then e = cc

choice : (head : Option Content) (b : Bool) (x y : Judgement) → Keeps head x → Keeps head y → Keeps head (cond b x y)
choice head true x y p q = p
choice head false x y p q = q

differing_keeps : (head : Option Content) (dominant stuff early arbitration : Bool) (error free : Judgement) → Keeps head error → Keeps head free
    → Keeps head (cond dominant error (cond stuff (cond early free error) (cond arbitration (continues happens.Nothing) error)))
differing_keeps head true stuff early arbitration error free e f = e
differing_keeps head false true true arbitration error free e f = f
differing_keeps head false true false arbitration error free e f = e
differing_keeps head false false early true error free e f = goes_on head happens.Nothing
differing_keeps head false false early false error free e f = e

sending_keeps : (head : Option Content) (h : Content) (own : List Level) (x : Sampled) → Keeps head (sending h own x)
sending_keeps head h own x =
    choice head (same (sent_at h own (length own)) x.level) (continues happens.Nothing) (differing h own x) (goes_on head happens.Nothing)
    (differing_keeps head (is_dominant (sent_at h own (length own))) (is_stuff own (length own)) (nat_le (length (destuffed_bits own (length own))) (layout_of (bits_of h)).rtr)
    (is_arbitration (bits_of h) (length (destuffed_bits own (length own)))) (fails Tx x.mode Bit) (begins happens.TxFree (Flagging (error_flag x.mode) Tx) [])
    (flags head (happens.TxError Bit) (error_flag x.mode) Tx) (flags head happens.TxFree (error_flag x.mode) Tx))

receiving_keeps : (head : Option Content) (own : List Level) (x : Sampled) → Keeps head (receiving own x)
receiving_keeps head own x =
    choice head (is_stuff own (length own) && same x.level (before own (length own))) (fails Rx x.mode Stuff) (continues happens.Nothing) (flags head (happens.RxError Stuff) (error_flag x.mode) Rx)
    (goes_on head happens.Nothing)

framing_keeps : (role : Role) (head : Option Content) (own : List Level) (x : Sampled) → stuffed_end own ≡ None → Keeps head (framing_by role head own x)
framing_keeps Tx (Some h) own x e = subst (λ o. Keeps (Some h) (framing_sent h own o x)) (sym e) (sending_keeps (Some h) h own x)
framing_keeps Tx None own x e = subst (λ o. Keeps None (framing_received own o x)) (sym e) (receiving_keeps None own x)
framing_keeps Rx head own x e = subst (λ o. Keeps head (framing_received own o x)) (sym e) (receiving_keeps head own x)

module _ (m : MachineLaws) (course : CourseLaw) (same_bits : SameBits) (drive : DriveLaw) (s : Stations) (o : Outset) (end : ℕ) (are : AreStations s) (room : HaveRoom s)
    (is : IsOutset s o) (ends : EndsBefore s o end) where
  abbrev bits : ℕ → Start
  bits = expected_bits s o

  right : (n i : ℕ) → n < end → i < s.count → IsRight s (bits n) (expected_drove s o end) i
  right n i less inside = (same_bits s (expected_bits s o) (expected_drove s o end) end (λ j. expected_end s o end) are room (course s o end are room is ends.none) n less).right i inside

  machines : AreMachines s bits (expected_drove s o end) o.frames (past_at s o) end
  machines = record {
    earlier = is.earlier;
    handed = o.handed;
    reached = is.reached;
    begin = is.may;
    joins = is.joins;
    drives = λ n j less lt. drives_are m.steps m.errors m.winner m.stuffed m.six m.ten s are room o is n j;
    samples = λ n j less lt. ap (λ b. past_at s o n j ++ Sample (sampled (level_of b) (o.frames j) (o.handed n j)) ∷ [])
        (any_same s.count (wants s o n) (bits n).drives (λ i inside. sym (drives_are m.steps m.errors m.winner m.stuffed m.six m.ten s are room o is n i)) ∙ sym (right n j less lt));
  }

  -- a station that begins the frame
  module _ (k : ℕ) (inside : k < s.count) (drives : o.start.drives k ≡ true) where
    begun_by : (x : Stretch) → MayBeginOrJoin o.frames k x → is_dominant (drive_of x) ≡ true → (c : Content) × (x ≡ stretch_by (Framing (Some c)) [])
    begun_by x (inl (inl idle)) e = (let none : is_dominant (drive_of x) ≡ false = ap (λ q. is_dominant (drive_by q x.own)) idle in cc)
    begun_by x (inl (inr due)) e = (due.0, due.2)
    begun_by x (inr two) e = (let none : is_dominant (drive_of x) ≡ false = ap (λ y. is_dominant (drive_of y)) two.1 in cc)

    pub begun : (c : Content) × (stretch_of (o.past k) ≡ stretch_by (Framing (Some c)) [])
    begun = begun_by (stretch_of (o.past k)) (is.may k inside) (sym (is.drives k) ∙ drives)

    -- its machine has that frame up to the end of the stuffed part
    pub stage : (n : ℕ) → n ≤ end → stretch_of (past_at s o n k) ≡ stretch_by (Framing (Some begun.0)) (bus_levels s bits n)
    stage zero less = begun.1
    stage (suc n) less =
        let g = drive s (expected_bits s o) (expected_drove s o end) o.frames (past_at s o) end is.frames machines is.some n (omega arith) (λ i there j below. right j i (omega arith) there) (ends.none n (omega arith)) in
        let f = g.framing k inside (λ j below. right j k (omega arith) inside) in
        let x : Sampled = sampled (level_of (any_below s.count (wants s o n))) (o.frames k) (o.handed n k) in
        let e = sym (ap (λ t. stretch_after t (Sample (sampled (level_of (any_below s.count (wants s o n))) (o.frames k) (o.handed n k)))) (stage n (omega arith)))
        ∙ sym (stretch_next (past_at s o n k) (Sample (sampled (level_of (any_below s.count (wants s o n))) (o.frames k) (o.handed n k)))) ∙ f.1 in
        let h = (framing_keeps (frame_role (Some begun.0) (bus_levels s bits n)) (Some begun.0) (bus_levels s bits n) (sampled (level_of (any_below s.count (wants s o n))) (o.frames k) (o.handed n k)) (ends.none n (omega arith))).stays
        (bus_levels s bits n ++ level_of (any_below s.count (wants s o n)) ∷ []) (bus_levels s bits (suc n)) f.0 e in
        f.1 ∙ ap (λ q. stretch_by (Framing q) (bus_levels s bits (suc n))) (sym h)

    pub head_at_end : begun_frame s o end k ≡ Some begun.0
    head_at_end = ap (λ y. head_of y.sort) (stage end (omega arith))

-- and the winner
module _ (m : MachineLaws) (course : CourseLaw) (same_bits : SameBits) (drive : DriveLaw) (asked : AskedLaw) (s : Stations) (o : Outset) (end : ℕ) (are : AreStations s) (room : HaveRoom s)
    (is : IsOutset s o) (ends : EndsBefore s o end) (won : HasWon s (expected_bits s o) o.frames end) (alone : o.start.joins won.station ≡ false) where
  abbrev pub first : o.start.drives won.station ≡ true
  first = has_driven s (expected_bits s o) end won.station alone won.sends

  pub own_begun : (begun m course same_bits drive s o end are room is ends won.station won.inside first).0 ≡ won.frame
  own_begun =
      let a = asked s o end are room is ends won in
      some_same (begun m course same_bits drive s o end are room is ends won.station won.inside first).0 won.frame (sym (head_at_end m course same_bits drive s o end are room is ends won.station won.inside first) ∙ a.own)

  pub begun_with : stretch_of (o.past won.station) ≡ stretch_by (Framing (Some won.frame)) []
  begun_with = (begun m course same_bits drive s o end are room is ends won.station won.inside first).1 ∙ ap (λ h. stretch_by (Framing (Some h)) []) own_begun
