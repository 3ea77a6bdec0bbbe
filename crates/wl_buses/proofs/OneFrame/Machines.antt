-- What machines drive in a frame, by what they have sampled: they are those of a wire as long as all sample what is on the bus.
use Rattle.std.proofs.Common.{◌≡◌, ◌∙◌, ◌⊎◌, inl, inr, refl, sym, ap, subst, ℕ, zero, suc, ◌+◌, ◌-◌, ◌<◌, ◌≤◌, ◌&&◌, ◌||◌, not, cond, Bool, true, false, List, [], ◌∷◌, ◌++◌, length, take, Option, Some, None, is_some, arith}
use Rattle.std.specs.Prelude.{nat_le, MatchOption, slice_get}
use Rattle.std.proofs.lemmas.Bool.{both_ways, cases_Bool, cases_lt, and_parts, and_right, false_from_ne_true, not-true, or_cases, or_left, or_right}
use Rattle.std.proofs.lemmas.List.Sums.{fold-append}
use Rattle.std.proofs.lemmas.List.{length-append}
use Rattle.std.proofs.Math.Seq.{take-length}
use Rattle.std.proofs.lemmas.Option.{none-some}
use Rattle.wl_level.specs.declared.Level.{Level}
use Rattle.wl_level.specs.declared.Level.TheVariants.{Dominant, Recessive}
use Rattle.wl_level.specs.Levels.{is_dominant, level_of, opposite, same}
use Rattle.wl_level.specs.Places.{at, before, first_place, or_at}
use Rattle.wl_level.proofs.Callers.{at_front, at_new, first_is, none_first}
use Rattle.wl_confine.specs.declared.ErrorKind.TheVariants.{Bit, Stuff}
use Rattle.wl_confine.specs.declared.Happened.TheVariants as happens
use Rattle.wl_confine.specs.declared.Mode.{Mode}
use Rattle.wl_confine.specs.declared.Mode.TheVariants as modes
use Rattle.wl_topology.specs.Driven.{any_below, driven}
use Rattle.wl_topology.proofs.Callers.{any_from, any_same}
use Rattle.wl_frame.specs.Stuffing.{IsStuffedFront, Stuffs, destuffed_bits, ends_six, first_six, is_stuff}
use Rattle.wl_frame.specs.Grammar.{Content, IsContent, bits_of, is_arbitration, layout_of}
use Rattle.wl_frame.specs.Laws.{IsEdge, up_to_ack}
use Rattle.wl_frame.proofs.Callers.{length_more, same_back}
use Rattle.wl_machine.specs.declared.state.Role.{Role}
use Rattle.wl_machine.specs.declared.state.Role.TheVariants.{Tx, Rx}
use Rattle.wl_machine.specs.Stretch.{Input, Judgement, Sampled, Stretch, begins, continues}
use Rattle.wl_machine.specs.Stretch.Sort.{Idle, Framing, Flagging, Intermission}
use Rattle.wl_machine.specs.Stretch.Input.{Sample}
use Rattle.wl_machine.specs.Flags.{error_flag, fails}
use Rattle.wl_machine.specs.Frames.{differing, drive_up_to, frame_role, framing_by, framing_received, framing_sent, is_lost, sent_at, stuffed_drive, stuffed_end, tail_drive}
use Rattle.wl_machine.specs.BetweenFrames.{begun_head, idle_on}
use Rattle.wl_machine.specs.Judged.{drive_by, drive_of, judged, judged_by, or_next, stretch_after, stretch_of}
use Rattle.wl_machine.specs.Laws.{FoundSent}
use Rattle.wl_machine.specs.States.{stretch_by}
use Rattle.wl_machine.proofs.Callers.{ends_at, end_more, end_stays, role_first, role_next, role_receives, stretch_next}
use Rattle.wl_wire.specs.Wire.{Event, Handed, Wire, bus, drives_dominant, idle_wire, is_between, next_wire, sampled, stretch_at, wire_after}
use Rattle.wl_wire.specs.Wire.Event.{Bit as BusBit}
use Rattle.wl_wire.specs.InStep.{AreInFrame, AreInStep, AreSoundFrames, FindsNoError, Has, IsSender, is_fine, or_all}
use Rattle.wl_wire.proofs.Callers.{count_after, end_is, end_there, first_drive, not_both_roles, role_cases, sent_old, some_same}
use Rattle.wl_wire.specs.Winner.{HasOneWinner}
use Rattle.wl_buses.specs.OneFrame.Stations.{Stations}
use Rattle.wl_buses.specs.OneFrame.Starts.{Start}
use Rattle.wl_buses.specs.OneFrame.OneBit.{IsRight, sampled_at}
use Rattle.wl_buses.specs.OneFrame.Course.{RightUpTo, begins_with_edge, bus_bit, has_sent, since_edge, still_sends}
use Rattle.wl_buses.specs.OneFrame.Machines.{AllRight, AreMachines, SomeBegins, GoesByMachines, HasWon, MayBeginOrJoin, bus_levels, joins_by}
use Rattle.wl_buses.proofs.OneFrame.Joining.{joins_none}

-- the laws that this rests on
abbrev pub StayInStep : Type 0
StayInStep = (count : ℕ) (frames : ℕ → List Content) (events : List Event) → AreSoundFrames count frames → AreInStep (wire_after (idle_wire count frames) events)

abbrev pub FindNoErrors : Type 0
FindNoErrors = (count : ℕ) (frames : ℕ → List Content) (events : List Event) → AreSoundFrames count frames → FindsNoError (wire_after (idle_wire count frames) events)

abbrev pub LeastWins : Type 0
LeastWins = (count : ℕ) (frames : ℕ → List Content) (events : List Event) → AreSoundFrames count frames → HasOneWinner (wire_after (idle_wire count frames) events)

abbrev pub SendStuffed : Type 0
SendStuffed = (head : Content) (own : List Level) (end : ℕ) → IsContent head → stuffed_end own ≡ Some end → FoundSent head own end → Stuffs (take end own) (bits_of head)

abbrev pub SixOrFront : Type 0
SixOrFront = (y : List Level) → MatchOption (first_six y) (IsStuffedFront y) (λ k. ¬ IsStuffedFront y)

abbrev pub TenHaveEdge : Type 0
TenHaveEdge = (x y : List Level) (n : ℕ) → Stuffs y x → n + 10 ≤ length (up_to_ack y) → (k : ℕ) × (n ≤ k) × (k < n + 10) × IsEdge (up_to_ack y) k

-- one sample in the stuffed part: without an error the stretch goes on
differing_on : (dominant stuff early arbitration : Bool) (error free : Judgement) → is_fine error.happened ≡ false → is_fine free.happened ≡ false
    → is_fine (cond dominant error (cond stuff (cond early free error) (cond arbitration (continues happens.Nothing) error))).happened ≡ true
    → (cond dominant error (cond stuff (cond early free error) (cond arbitration (continues happens.Nothing) error))).next ≡ None
differing_on true stuff early arbitration error free e f h = cc
differing_on false true true arbitration error free e f h = cc
differing_on false true false arbitration error free e f h = cc
differing_on false false early true error free e f h = refl
differing_on false false early false error free e f h = cc

sending_on : (same_there : Bool) (other : Judgement) → (is_fine other.happened ≡ true → other.next ≡ None)
    → is_fine (cond same_there (continues happens.Nothing) other).happened ≡ true → (cond same_there (continues happens.Nothing) other).next ≡ None
sending_on true other h fine = refl
sending_on false other h fine = h fine

receiving_on : (six : Bool) (error : Judgement) → is_fine error.happened ≡ false → is_fine (cond six error (continues happens.Nothing)).happened ≡ true
    → (cond six error (continues happens.Nothing)).next ≡ None
receiving_on true error e h = cc
receiving_on false error e h = refl

sent_on : (head : Content) (own : List Level) (x : Sampled) → is_fine (framing_sent head own None x).happened ≡ true → (framing_sent head own None x).next ≡ None
sent_on head own x fine =
    sending_on (same (sent_at head own (length own)) x.level) (differing head own x)
    (differing_on (is_dominant (sent_at head own (length own))) (is_stuff own (length own)) (nat_le (length (destuffed_bits own (length own))) (layout_of (bits_of head)).rtr) (is_arbitration (bits_of head) (length (destuffed_bits own (length own)))) (fails Tx x.mode Bit)
    (begins happens.TxFree (Flagging (error_flag x.mode) Tx) []) refl refl)
    fine

received_on : (own : List Level) (x : Sampled) → is_fine (framing_received own None x).happened ≡ true → (framing_received own None x).next ≡ None
received_on own x fine = receiving_on (is_stuff own (length own) && same x.level (before own (length own))) (fails Rx x.mode Stuff) refl fine

fine_on : (role : Role) (head : Option Content) (own : List Level) (x : Sampled) → stuffed_end own ≡ None → is_fine (framing_by role head own x).happened ≡ true
    → (framing_by role head own x).next ≡ None
fine_on Tx (Some h) own x e fine = subst (λ o. (framing_sent h own o x).next ≡ None) (sym e) (sent_on h own x (subst (λ o. is_fine (framing_sent h own o x).happened ≡ true) e fine))
fine_on Tx None own x e fine = subst (λ o. (framing_received own o x).next ≡ None) (sym e) (received_on own x (subst (λ o. is_fine (framing_received own o x).happened ≡ true) e fine))
fine_on Rx head own x e fine = subst (λ o. (framing_received own o x).next ≡ None) (sym e) (received_on own x (subst (λ o. is_fine (framing_received own o x).happened ≡ true) e fine))

-- the stretch after such a sample
pub on_after : (s : Stretch) (x : Sampled) (head : Option Content) (own : List Level) → s ≡ stretch_by (Framing head) own → stuffed_end own ≡ None
    → is_fine (judged s x).happened ≡ true → stretch_after s (Sample x) ≡ stretch_by (Framing head) (own ++ x.level ∷ [])
on_after s x head own e none fine =
    ap (λ t. stretch_after t (Sample x)) e
    ∙ ap (λ n. or_next n (stretch_by (Framing head) (own ++ x.level ∷ []))) (fine_on (frame_role head own) head own x none (ap (λ t. is_fine (judged t x).happened) (sym e) ∙ fine))

-- an idle machine that samples a start of frame receives
idle_after : (s : Stretch) (x : Sampled) → s.sort ≡ Idle → x.level ≡ Dominant → (stretch_after s (Sample x)).sort ≡ Framing None
idle_after s x e d =
    ap (λ q. (or_next (judged_by q s.own x).next (stretch_by q (s.own ++ x.level ∷ []))).sort) e
    ∙ ap (λ l. (or_next (cond (is_dominant l) (begins happens.Nothing (Framing None) (x.level ∷ [])) (idle_on x.head)).next (stretch_by Idle (s.own ++ x.level ∷ []))).sort) d

-- what is not of a frame
pub not_between : (head : Option Content) (own : List Level) → 0 < length own → is_between (stretch_by (Framing head) own) ≡ true → ⊥
not_between None own some e = cc
not_between (Some head) [] some e = absurd (omega arith)
not_between (Some head) (l ∷ own) some e = cc

pub no_intermission : (head : Option Content) (role : Role) → Framing head ≡ Intermission role → ⊥
no_intermission head role e = cc

same_head : (a b : Option Content) → Framing a ≡ Framing b → a ≡ b
same_head a b e = cc

-- a head that is begun in the third bit of an intermission is the one that is handed
pub head_given : (role : Role) (mode : Mode) (head : Option Content) (h : Content) → begun_head role mode head ≡ Some h → head ≡ Some h
head_given Tx modes.Passive head h e = cc
head_given Tx modes.Active head h e = e
head_given Tx modes.Off head h e = e
head_given Rx mode head h e = e

pub some_of : (o : Option Content) → is_some o ≡ true → (h : Content) × (o ≡ Some h)
some_of None e = cc
some_of (Some h) e = (h, refl)

or_none : (a b : Bool) → a ≡ false → b ≡ false → (a || b) ≡ false
or_none a b e f = ap (λ x. x || b) e ∙ f

joined_only : (a b : Bool) → a ≡ false → (a || b) ≡ true → b ≡ true
joined_only a b e f = sym (ap (λ x. x || b) e) ∙ f

-- who drives dominant in the stuffed part is its transmitter
drives_by : (role : Role) (head : Option Content) (own : List Level) → is_dominant (stuffed_drive role head own) ≡ true → (h : Content) × (head ≡ Some h) × (role ≡ Tx)
drives_by Tx (Some h) own e = (h, refl, refl)
drives_by Tx None own e = cc
drives_by Rx head own e = cc

tail_silent : (role : Role) (bits : List Level) (n : ℕ) → n ≡ 0 → tail_drive role bits n ≡ Recessive
tail_silent Tx bits n e = refl
tail_silent Rx bits n e = ap (tail_drive Rx bits) e

-- the end of what is stuffed, one sample later
end_old : (o : Option ℕ) (b : Bool) (n : ℕ) → or_at o b n ≡ None → o ≡ None
end_old (Some k) b n e = cc
end_old None b n e = refl

pub none_before : (own : List Level) (x : Level) → stuffed_end (own ++ x ∷ []) ≡ None → stuffed_end own ≡ None
none_before own x e = end_old (stuffed_end own) _ _ (sym (end_more own x) ∙ e)

no_six : (head : Content) (own : List Level) (end : ℕ) → FoundSent head own end → (k : ℕ) → k < end → ends_six own k ≡ false
no_six head own end found k below = elim (cases_Bool (is_stuff own k)) [
  | inl due ↦
      (let turned : at own k ≡ opposite (before own k) = found k below ∙ ap (λ b. cond b (opposite (before own k)) (at (bits_of head) (length (destuffed_bits own k)))) due in
      and_right (is_stuff own k) (same (at own k) (before own k)) (ap (λ l. same l (before own k)) turned ∙ same_back (before own k)))
  | inr free ↦ ap (λ b. b && same (at own k) (before own k)) free
]

-- it does not lose where it finds what it sends
lost_cases : (s a : Bool) (b c : Level) → (is_dominant b ≡ true) ⊎ (c ≡ Recessive) → (not s && a && not (is_dominant b) && is_dominant c) ≡ false
lost_cases true a b c e = refl
lost_cases false false b c e = refl
lost_cases false true Dominant c e = refl
lost_cases false true Recessive c (inl d) = cc
lost_cases false true Recessive c (inr r) = ap is_dominant r

-- the level of the bus
pub first_any : (n : ℕ) (p : ℕ → Bool) → is_some (first_place p n) ≡ any_below n p
first_any zero p = refl
first_any (suc n) p = some_or (first_place p n) (p n) n ∙ ap (λ b. b || p n) (first_any n p)
  where
    some_or : (o : Option ℕ) (b : Bool) (n : ℕ) → is_some (or_at o b n) ≡ (is_some o || b)
    some_or (Some k) b n = refl
    some_or None true n = refl
    some_or None false n = refl

pub frames_after : (w : Wire) (events : List Event) → (wire_after w events).frames ≡ w.frames
frames_after w [] = refl
frames_after w (event ∷ events) = frames_after (next_wire w event) events

pub level_back : (b : Bool) → is_dominant (level_of b) ≡ b
level_back true = refl
level_back false = refl

or_not_self : (b : Bool) → (b || not b) ≡ true
or_not_self true = refl
or_not_self false = refl

pub levels_length : (s : Stations) (bits : ℕ → Start) (n : ℕ) → length (bus_levels s bits n) ≡ n
levels_length s bits zero = refl
levels_length s bits (suc n) = length_more (bus_levels s bits n) (level_of (bus_bit s bits n)) ∙ ap suc (levels_length s bits n)

-- what a station that joins the start of frame sends after bit n
pub record JoinsOn (s : Stations) (bits : ℕ → Start) (frames : ℕ → List Content) (past : ℕ → ℕ → List Input) (given : ℕ → ℕ → Handed) (n k : ℕ) : Type 0 where
  pub frame : Content
  pub handed : slice_get (frames k) (given 0 k).which ≡ Some frame
  pub silent : (bits 0).drives k ≡ false
  pub framing : stretch_of (past (suc n) k) ≡ stretch_by (Framing (Some frame)) (bus_levels s bits (suc n))
  pub sends : still_sends s bits 1 k ≡ true
  pub role : still_sends s bits (suc n) k ≡ true → frame_role (Some frame) (bus_levels s bits (suc n)) ≡ Tx
  pub still : frame_role (Some frame) (bus_levels s bits (suc n)) ≡ Tx → still_sends s bits (suc n) k ≡ true

module _ (steps : StayInStep) (errors : FindNoErrors) (winner : LeastWins) (stuffed : SendStuffed) (six : SixOrFront) (ten : TenHaveEdge)
    (s : Stations) (bits : ℕ → Start) (drove : ℕ → ℕ → Bool) (frames : ℕ → List Content) (past : ℕ → ℕ → List Input) (total : ℕ)
    (sound : AreSoundFrames s.count frames) (m : AreMachines s bits drove frames past total) (some : SomeBegins s bits) where
  abbrev own : ℕ → List Level
  own n = bus_levels s bits n

  abbrev bit : ℕ → Level
  bit n = level_of (bus_bit s bits n)

  -- the wire that these machines are on, if all samples are right
  events : ℕ → List Event
  events zero = m.earlier
  events (suc n) = events n ++ BusBit (m.handed n) ∷ []

  wire : ℕ → Wire
  wire n = wire_after (idle_wire s.count frames) (events n)

  abbrev at_wire : ℕ → ℕ → Stretch
  at_wire n k = stretch_at (wire n) k

  abbrev sample : ℕ → ℕ → Sampled
  sample n k = sampled (bus (wire n)) (frames k) (m.handed n k)

  wire_next : (n : ℕ) → wire (suc n) ≡ next_wire (wire n) (BusBit (m.handed n))
  unfolding wire events
  wire_next n = fold-append next_wire (idle_wire s.count frames) (events n) (BusBit (m.handed n) ∷ [])

  count_is : (n : ℕ) → (wire n).count ≡ s.count
  unfolding wire
  count_is n = count_after (idle_wire s.count frames) (events n)

  frames_are : (n : ℕ) → (wire n).frames ≡ frames
  unfolding wire
  frames_are n = frames_after (idle_wire s.count frames) (events n)

  past_next : (n k : ℕ) → (wire (suc n)).past k ≡ (wire n).past k ++ Sample (sample n k) ∷ []
  past_next n k =
      ap (λ w. w.past k) (wire_next n)
      ∙ ap (λ f. (wire n).past k ++ Sample (sampled (bus (wire n)) (f k) (m.handed n k)) ∷ []) (frames_are n)

  abbrev Agree : ℕ → Type 0
  Agree n = (k : ℕ) → k < s.count → (wire n).past k ≡ past n k

  drives_there : (n k : ℕ) → n ≤ total → k < s.count → (wire n).past k ≡ past n k → drives_dominant (wire n) k ≡ (bits n).drives k
  drives_there n k less lt e = ap (λ p. is_dominant (drive_of (stretch_of p))) e ∙ sym (m.drives n k less lt)

  bus_is : (n : ℕ) → n ≤ total → Agree n → bus (wire n) ≡ bit n
  bus_is n less agree =
      ap (λ c. level_of (is_some (first_place (drives_dominant (wire n)) c))) (count_is n)
      ∙ ap level_of (first_any s.count (drives_dominant (wire n)) ∙ any_same s.count (drives_dominant (wire n)) (bits n).drives (λ k lt. drives_there n k less lt (agree k lt)))

  agree_next : (n k : ℕ) → n < total → k < s.count → Agree n → IsRight s (bits n) drove k → (wire (suc n)).past k ≡ past (suc n) k
  agree_next n k less lt agree right =
      past_next n k
      ∙ ap (λ l. (wire n).past k ++ Sample (sampled l (frames k) (m.handed n k)) ∷ []) (bus_is n (omega arith) agree ∙ ap level_of (sym right))
      ∙ ap (λ p. p ++ Sample (sampled (level_of (driven s.count s.delay drove k (sampled_at s (bits n) k))) (frames k) (m.handed n k)) ∷ []) (agree k lt)
      ∙ sym (m.samples n k less lt)

  all_before : (n : ℕ) → AllRight s bits drove (suc n) → AllRight s bits drove n
  all_before n right i lt j below = right i lt j (omega arith)

  agree : (n : ℕ) → n ≤ total → AllRight s bits drove n → Agree n
  unfolding wire events
  agree zero less right k lt = sym (m.reached k lt)
  agree (suc n) less right k lt = agree_next n k (omega arith) lt (agree n (omega arith) (all_before n right)) (right k lt n (omega arith))

  at_bus : (n j : ℕ) → j < n → at (own n) j ≡ bit j
  at_bus zero j less = absurd (omega arith)
  at_bus (suc n) j less = elim (cases_lt j n) [
    | inl below ↦ (let e = levels_length s bits n in at_front (own n) (bit n ∷ []) j (omega arith) ∙ at_bus n j below)
    | inr last ↦ (let e : n ≡ j = omega arith in subst (λ i. at (own (suc n)) i ≡ bit i) e (ap (at (own (suc n))) (sym (levels_length s bits n)) ∙ at_new (own n) (bit n)))
  ]

  -- one bit later, in the stuffed part
  stretch_there : (n k : ℕ) → at_wire (suc n) k ≡ stretch_after (at_wire n k) (Sample (sample n k))
  stretch_there n k = ap stretch_of (past_next n k) ∙ stretch_next ((wire n).past k) (Sample (sample n k))

  fine_there : (n k : ℕ) (h : Handed) → k < s.count → is_fine (judged (at_wire n k) (sampled (bus (wire n)) (frames k) h)).happened ≡ true
  unfolding wire
  fine_there n k h lt =
      ap (λ f. is_fine (judged (at_wire n k) (sampled (bus (wire n)) (f k) h)).happened) (sym (frames_are n))
      ∙ errors s.count frames (events n) sound (BusBit (λ j. h)) k (sampled (bus (wire n)) ((wire n).frames k) h) (let e = count_is n in omega arith) refl

  next_stretch : (n k : ℕ) (head : Option Content) (levels : List Level) → k < s.count → at_wire n k ≡ stretch_by (Framing head) levels → stuffed_end levels ≡ None
      → at_wire (suc n) k ≡ stretch_by (Framing head) (levels ++ bus (wire n) ∷ [])
  next_stretch n k head levels lt e none = stretch_there n k ∙ on_after (at_wire n k) (sample n k) head levels e none (fine_there n k (m.handed n k) lt)

  -- one station in a frame: all are
  framed_from : (n k : ℕ) (head : Option Content) (levels : List Level) → k < s.count → 0 < length levels → at_wire n k ≡ stretch_by (Framing head) levels → AreInStep (wire n) → AreInFrame (wire n) levels
  framed_from n k head levels lt longer e (inl between) = absurd (not_between head levels longer (ap is_between (sym e) ∙ between k (let c = count_is n in omega arith)))
  framed_from n k head levels lt longer e (inr (inl i)) =
      (let each = i.1.each k (let c = count_is n in omega arith) in absurd (no_intermission head each.0 (ap (λ x. x.sort) (sym e ∙ each.1))))
  framed_from n k head levels lt longer e (inr (inr f)) =
      (let each = f.1.each k (let c = count_is n in omega arith) in subst (AreInFrame (wire n)) (ap (λ x. x.own) (sym each.1 ∙ e)) f.1)

  in_step : (n : ℕ) → AreInStep (wire n)
  unfolding wire
  in_step n = steps s.count frames (events n) sound

  -- at the start of frame
  agree_first : Agree 0
  agree_first = agree 0 (omega arith) (λ i lt j below. absurd (omega arith))

  due_by : (k : ℕ) → (x : Stretch) → MayBeginOrJoin frames k x → is_dominant (drive_of x) ≡ true → (head : Content) × Has frames k head × (x ≡ stretch_by (Framing (Some head)) [])
  due_by k x (inl (inl idle)) e = absurd (silent x idle e)
    where
      silent : (x : Stretch) → x.sort ≡ Idle → is_dominant (drive_of x) ≡ true → ⊥
      silent x i e = (let f : is_dominant (drive_of x) ≡ false = ap (λ q. is_dominant (drive_of (stretch_by q x.own))) i in cc)
  due_by k x (inl (inr due)) e = due
  due_by k x (inr two) e = (let f : is_dominant (drive_of x) ≡ false = ap (λ y. is_dominant (drive_of y)) two.1 in cc)

  due : (k : ℕ) → k < s.count → (bits 0).drives k ≡ true → (head : Content) × Has frames k head × (at_wire 0 k ≡ stretch_by (Framing (Some head)) [])
  due k lt e =
      (let d = due_by k (stretch_of (past 0 k)) (m.begin k lt) (sym (m.drives 0 k (omega arith) lt) ∙ e) in
      (d.0, d.1, ap stretch_of (agree_first k lt) ∙ d.2))

  first_dominant : bus_bit s bits 0 ≡ true
  first_dominant = any_from s.count some.0 (bits 0).drives some.1 some.2

  none_first_end : stuffed_end [] ≡ None
  none_first_end = refl

  -- in the frame, after bit n
  framed : (n : ℕ) → n < total → AllRight s bits drove n → stuffed_end (own n) ≡ None → AreInFrame (wire (suc n)) (own (suc n))
  framed zero less right none =
      (let d = due some.0 some.1 some.2 in
      let e = next_stretch 0 some.0 (Some d.0) [] some.1 d.2 none ∙ ap (λ l. stretch_by (Framing (Some d.0)) (l ∷ [])) (bus_is 0 (omega arith) agree_first) in
      framed_from 1 some.0 (Some d.0) (own 1) some.1 (omega arith) e (in_step 1))
  framed (suc n) less right none =
      (let f = framed n (omega arith) (all_before n right) (none_before (own n) (bit n) none) in
      let k = f.sender.0 in
      let lt : k < s.count = (let c = count_is (suc n) in let h = f.sender.1 in omega arith) in
      let e = next_stretch (suc n) k (Some f.sender.2) (own (suc n)) lt f.sender.3.framing none
      ∙ ap (λ l. stretch_by (Framing (Some f.sender.2)) (own (suc n) ++ l ∷ [])) (bus_is (suc n) (omega arith) (agree (suc n) (omega arith) right)) in
      framed_from (suc (suc n)) k (Some f.sender.2) (own (suc (suc n))) lt (let l = levels_length s bits (suc (suc n)) in omega arith) e (in_step (suc (suc n))))

  -- a station sends its frame, and hasn't lost
  abbrev Sends : ℕ → ℕ → Content → Type 0
  Sends n k h = (at_wire n k ≡ stretch_by (Framing (Some h)) (own n)) × (frame_role (Some h) (own n) ≡ Tx)

  is_sender : (n k : ℕ) (h : Content) → Sends n k h → IsSender (wire n) (own n) k h
  is_sender n k h x = record { framing = x.0; role = x.1 }

  drive_there : (n k : ℕ) (h : Content) → Sends n k h → stuffed_end (own n) ≡ None → drive_of (at_wire n k) ≡ sent_at h (own n) n
  drive_there n k h x none =
      ap drive_of x.0 ∙ ap (λ e. drive_up_to e (Some h) (own n)) none ∙ ap (λ r. stuffed_drive r (Some h) (own n)) x.1 ∙ ap (sent_at h (own n)) (levels_length s bits n)

  -- with the start of frame
  bus_first : bus (wire 0) ≡ Dominant
  bus_first = bus_is 0 (omega arith) agree_first ∙ ap level_of first_dominant

  own_first : own 1 ≡ Dominant ∷ []
  own_first = ap (λ b. level_of b ∷ []) first_dominant

  -- a machine in the third bit of its intermission takes it for that of the frame that it is handed
  third_takes : (k : ℕ) (role : Role) → k < s.count → stretch_of (past 0 k) ≡ stretch_by (Intermission role) (Recessive ∷ Recessive ∷ [])
      → at_wire 1 k ≡ stretch_by (Framing (begun_head role (m.handed 0 k).mode (slice_get (frames k) (m.handed 0 k).which))) (Dominant ∷ [])
  third_takes k role lt e =
      stretch_there 0 k ∙ ap (λ y. stretch_after y (Sample (sample 0 k))) (ap stretch_of (agree_first k lt) ∙ e)
      ∙ ap (λ l. stretch_after (stretch_by (Intermission role) (Recessive ∷ Recessive ∷ [])) (Sample (sampled l (frames k) (m.handed 0 k)))) bus_first

  third_joins : (k : ℕ) (role : Role) → k < s.count → stretch_of (past 0 k) ≡ stretch_by (Intermission role) (Recessive ∷ Recessive ∷ [])
      → (bits 0).joins k ≡ is_some (begun_head role (m.handed 0 k).mode (slice_get (frames k) (m.handed 0 k).which))
  third_joins k role lt e = m.joins k lt ∙ ap (λ y. joins_by y.sort (sampled Dominant (frames k) (m.handed 0 k))) e

  -- who begins the frame with it
  record Begun (k : ℕ) (h : Content) : Type 0 where
    has : Has frames k h
    sent : has_sent bits 0 k ≡ true

  begun_by : (k : ℕ) (h : Content) → k < s.count → 0 < total → Sends 1 k h → MayBeginOrJoin frames k (stretch_of (past 0 k)) → Begun k h
  begun_by k h lt less x (inl (inl idle)) =
      (let e = idle_after (at_wire 0 k) (sample 0 k) (ap (λ p. (stretch_of p).sort) (agree_first k lt) ∙ idle) bus_first in
      absurd (none-some h (same_head None (Some h) (sym e ∙ ap (λ y. y.sort) (sym (stretch_there 0 k) ∙ x.0)))))
  begun_by k h lt less x (inl (inr due)) =
      (let e = ap stretch_of (agree_first k lt) ∙ due.2 in
      let n = next_stretch 0 k (Some due.0) [] lt e none_first_end in
      let same = some_same due.0 h (same_head (Some due.0) (Some h) (ap (λ y. y.sort) (sym n ∙ x.0))) in
      let drives : (bits 0).drives k ≡ true = m.drives 0 k (omega arith) lt ∙ ap (λ y. is_dominant (drive_of y)) due.2 ∙ ap is_dominant (first_drive due.0 (sound.content k due.0 lt due.1)) in
      record { has = subst (Has frames k) same due.1; sent = or_left ((bits 0).drives k) ((bits 0).joins k) drives })
  begun_by k h lt less x (inr two) =
      (let e = third_takes k two.0 lt two.1 in
      let same = same_head (begun_head two.0 (m.handed 0 k).mode (slice_get (frames k) (m.handed 0 k).which)) (Some h) (ap (λ y. y.sort) (sym e ∙ x.0)) in
      record {
        has = ((m.handed 0 k).which, head_given two.0 (m.handed 0 k).mode (slice_get (frames k) (m.handed 0 k).which) h same);
        sent = or_right ((bits 0).drives k) ((bits 0).joins k) (third_joins k two.0 lt two.1 ∙ ap is_some same);
      })

  begins_with : (k : ℕ) → k < s.count → has_sent bits 0 k ≡ true → MayBeginOrJoin frames k (stretch_of (past 0 k)) → (h : Content) × Has frames k h × (at_wire 1 k ≡ stretch_by (Framing (Some h)) (own 1))
  begins_with k lt e (inl (inl idle)) =
      absurd (both_ways (has_sent bits 0 k) (or_none ((bits 0).drives k) ((bits 0).joins k)
      (m.drives 0 k (omega arith) lt ∙ ap (λ q. is_dominant (drive_by q (stretch_of (past 0 k)).own)) idle)
      (m.joins k lt ∙ ap (λ q. joins_by q (sampled Dominant (frames k) (m.handed 0 k))) idle)) e)
  begins_with k lt e (inl (inr due)) = (
    due.0,
    due.1,
    next_stretch 0 k (Some due.0) [] lt (ap stretch_of (agree_first k lt) ∙ due.2) none_first_end
        ∙ ap (λ l. stretch_by (Framing (Some due.0)) (l ∷ [])) (bus_is 0 (omega arith) agree_first),
  )
  begins_with k lt e (inr two) =
      (let x = third_takes k two.0 lt two.1 in
      let h = some_of (begun_head two.0 (m.handed 0 k).mode (slice_get (frames k) (m.handed 0 k).which))
      (sym (third_joins k two.0 lt two.1)
      ∙ joined_only ((bits 0).drives k) ((bits 0).joins k) (m.drives 0 k (omega arith) lt ∙ ap (λ y. is_dominant (drive_of y)) two.1) e) in (
        h.0,
        ((m.handed 0 k).which, head_given two.0 (m.handed 0 k).mode (slice_get (frames k) (m.handed 0 k).which) h.0 h.1),
        x ∙ ap (λ c. stretch_by (Framing c) (Dominant ∷ [])) h.1 ∙ ap (stretch_by (Framing (Some h.0))) (sym own_first),
      ))

  -- with which frame a station joins the start of frame
  record Joined (k : ℕ) : Type 0 where
    frame : Content
    handed : slice_get (frames k) (m.handed 0 k).which ≡ Some frame
    silent : (bits 0).drives k ≡ false
    first : at_wire 1 k ≡ stretch_by (Framing (Some frame)) (own 1)

  joined_by : (k : ℕ) → k < s.count → (bits 0).joins k ≡ true → MayBeginOrJoin frames k (stretch_of (past 0 k)) → Joined k
  joined_by k lt e (inl may) =
      absurd (both_ways ((bits 0).joins k) (m.joins k lt ∙ joins_none frames k (stretch_of (past 0 k)) (sampled Dominant (frames k) (m.handed 0 k)) may) e)
  joined_by k lt e (inr two) =
      (let h = some_of (begun_head two.0 (m.handed 0 k).mode (slice_get (frames k) (m.handed 0 k).which)) (sym (third_joins k two.0 lt two.1) ∙ e) in
      record {
        frame = h.0;
        handed = head_given two.0 (m.handed 0 k).mode (slice_get (frames k) (m.handed 0 k).which) h.0 h.1;
        silent = m.drives 0 k (omega arith) lt ∙ ap (λ y. is_dominant (drive_of y)) two.1;
        first = third_takes k two.0 lt two.1 ∙ ap (λ c. stretch_by (Framing c) (Dominant ∷ [])) h.1 ∙ ap (stretch_by (Framing (Some h.0))) (sym own_first);
      })

  -- at the bit before
  back : (n k : ℕ) (h : Content) → suc n < total → AllRight s bits drove (suc n) → stuffed_end (own (suc n)) ≡ None → k < s.count → Sends (suc (suc n)) k h → Sends (suc n) k h
  back n k h less right none lt x =
      (let f = framed n (omega arith) (all_before n right) (none_before (own n) (bit n) none) in
      let each = f.each k (let c = count_is (suc n) in omega arith) in
      let e = next_stretch (suc n) k each.0 (own (suc n)) lt each.1 none in
      let same = same_head each.0 (Some h) (ap (λ y. y.sort) (sym e ∙ x.0)) in
      (each.1 ∙ ap (λ c. stretch_by (Framing c) (own (suc n))) same, role))
    where
      role : frame_role (Some h) (own (suc n)) ≡ Tx
      role = elim (role_cases (frame_role (Some h) (own (suc n)))) [
        | inl t ↦ t
        | inr r ↦ absurd (not_both_roles (frame_role (Some h) (own (suc (suc n)))) x.1 (role_receives (Some h) (own (suc n)) (bit (suc n)) r))
      ]

  first_sends : (n k : ℕ) (h : Content) → n < total → AllRight s bits drove n → stuffed_end (own n) ≡ None → k < s.count → Sends (suc n) k h → Begun k h
  first_sends zero k h less right none lt x = begun_by k h lt less x (m.begin k lt)
  first_sends (suc n) k h less right none lt x =
      first_sends n k h (omega arith) (all_before n right) (none_before (own n) (bit n) none) lt (back n k h less right none lt x)

  -- what it drives is on the bus, if it has found that
  carries : (n k : ℕ) (h : Content) → n < total → AllRight s bits drove n → stuffed_end (own n) ≡ None → k < s.count → Sends n k h → FoundSent h (own (suc n)) (suc n)
      → (bits n).drives k ≡ bus_bit s bits n
  carries n k h less right none lt x found =
      sym (drives_there n k (omega arith) lt (agree n (omega arith) right k lt)) ∙ ap is_dominant (drive_there n k h x none ∙ sym (sent_old h (own n) (bit n) n (let e = levels_length s bits n in omega arith))
      ∙ sym (found n (omega arith)) ∙ at_bus (suc n) n (omega arith)) ∙ level_back (bus_bit s bits n)

  -- one bit, after which the stuffed part may end
  module _ (n : ℕ) (less : n < total) (right : AllRight s bits drove n) (none : stuffed_end (own n) ≡ None) where
    frame : AreInFrame (wire (suc n)) (own (suc n))
    frame = framed n less right none

    there : (k : ℕ) → k < s.count → k < (wire (suc n)).count
    there k lt = let c = count_is (suc n) in omega arith

    end_next : (b : Bool) × (stuffed_end (own (suc n)) ≡ or_at None b (suc n))
    end_next = (
      _,
      end_more (own n) (bit n) ∙ ap (λ o. or_at o (ends_at (own (suc n)) (length (own (suc n)))) (length (own (suc n)))) none
          ∙ ap (or_at None (ends_at (own (suc n)) (length (own (suc n))))) (levels_length s bits (suc n)),
    )

    found : (k : ℕ) (h : Content) → k < s.count → Sends (suc n) k h → FoundSent h (own (suc n)) (suc n)
    found k h lt x =
        subst (FoundSent h (own (suc n)))
        (ap (λ e. or_all e (length (own (suc n)))) end_next.1 ∙ ap (or_all (or_at None end_next.0 (suc n))) (levels_length s bits (suc n)) ∙ end_there end_next.0 (suc n))
        (frame.found k h (there k lt) (is_sender (suc n) k h x))

  still : (n k : ℕ) (h : Content) → n < total → AllRight s bits drove n → stuffed_end (own n) ≡ None → k < s.count → Sends (suc n) k h → still_sends s bits (suc n) k ≡ true
  still zero k h less right none lt x =
      (let d : has_sent bits 0 k ≡ true = (begun_by k h lt less x (m.begin k lt)).sent in
      ap (λ b. b && (b || not (bus_bit s bits 0))) d)
  still (suc n) k h less right none lt x =
      (let before = back n k h less right none lt x in
      let d = carries (suc n) k h less right none lt before (found (suc n) less right none k h lt x) in
      let old = still n k h (omega arith) (all_before n right) (none_before (own n) (bit n) none) lt before in
      ap (λ b. b && ((bits (suc n)).drives k || not (bus_bit s bits (suc n)))) old ∙ ap (λ b. b || not (bus_bit s bits (suc n))) d ∙ or_not_self (bus_bit s bits (suc n)))

  -- the head stays
  kept_head : (n k : ℕ) (h : Content) → n < total → AllRight s bits drove n → stuffed_end (own n) ≡ None → k < s.count → at_wire 1 k ≡ stretch_by (Framing (Some h)) (own 1)
      → at_wire (suc n) k ≡ stretch_by (Framing (Some h)) (own (suc n))
  kept_head zero k h less right none lt e = e
  kept_head (suc n) k h less right none lt e =
      next_stretch (suc n) k (Some h) (own (suc n)) lt (kept_head n k h (omega arith) (all_before n right) (none_before (own n) (bit n) none) lt e) none
      ∙ ap (λ l. stretch_by (Framing (Some h)) (own (suc n) ++ l ∷ [])) (bus_is (suc n) (omega arith) (agree (suc n) (omega arith) right))

  -- who still sends is a sender
  role_step : (n k : ℕ) (h : Content) → suc n < total → AllRight s bits drove (suc n) → stuffed_end (own (suc n)) ≡ None → k < s.count → Sends (suc n) k h
      → ((bits (suc n)).drives k || not (bus_bit s bits (suc n))) ≡ true → frame_role (Some h) (own (suc (suc n))) ≡ Tx
  role_step n k h less right none lt sends part =
      role_next h (own (suc n)) (bit (suc n)) ∙ ap (λ b. cond b Rx (frame_role (Some h) (own (suc n)))) not_lost ∙ sends.1
    where
      place : length (own (suc n)) ≡ suc n
      place = levels_length s bits (suc n)

      sent : sent_at h (own (suc (suc n))) (length (own (suc n))) ≡ drive_of (at_wire (suc n) k)
      sent =
          sent_old h (own (suc n)) (bit (suc n)) (length (own (suc n))) (omega arith) ∙ ap (sent_at h (own (suc n))) place ∙ sym (drive_there (suc n) k h sends none)

      which : (is_dominant (sent_at h (own (suc (suc n))) (length (own (suc n)))) ≡ true) ⊎ (at (own (suc (suc n))) (length (own (suc n))) ≡ Recessive)
      which = elim (or_cases ((bits (suc n)).drives k) (not (bus_bit s bits (suc n))) part) [
        | inl d ↦ inl (ap is_dominant sent ∙ drives_there (suc n) k (omega arith) lt (agree (suc n) (omega arith) right k lt) ∙ d)
        | inr r ↦ inr (at_new (own (suc n)) (bit (suc n)) ∙ ap level_of (not-true (bus_bit s bits (suc n)) r))
      ]

      not_lost : is_lost h (own (suc (suc n))) (length (own (suc n))) ≡ false
      not_lost =
          lost_cases (is_stuff (own (suc (suc n))) (length (own (suc n)))) (is_arbitration (bits_of h) (length (destuffed_bits (own (suc (suc n))) (length (own (suc n))))))
          (sent_at h (own (suc (suc n))) (length (own (suc n)))) (at (own (suc (suc n))) (length (own (suc n)))) which

  role_there : (n k : ℕ) (h : Content) → n < total → AllRight s bits drove n → stuffed_end (own n) ≡ None → k < s.count → at_wire 1 k ≡ stretch_by (Framing (Some h)) (own 1)
      → still_sends s bits (suc n) k ≡ true → frame_role (Some h) (own (suc n)) ≡ Tx
  role_there zero k h less right none lt e sends = role_first h (bit 0)
  role_there (suc n) k h less right none lt e sends =
      (let parts = and_parts (still_sends s bits (suc n) k) ((bits (suc n)).drives k || not (bus_bit s bits (suc n))) sends in
      let before = all_before n right in
      let old_none = none_before (own n) (bit n) none in
      let role = role_there n k h (omega arith) before old_none lt e parts.0 in
      role_step n k h less right none lt (kept_head n k h (omega arith) before old_none lt e, role) parts.1)

  began : (n k : ℕ) → still_sends s bits n k ≡ true → has_sent bits 0 k ≡ true
  began zero k e = e
  began (suc n) k e = began n k (and_parts (still_sends s bits n k) (has_sent bits n k || not (bus_bit s bits n)) e).0

  sends_now : (n k : ℕ) → n < total → AllRight s bits drove n → stuffed_end (own n) ≡ None → k < s.count → still_sends s bits (suc n) k ≡ true
      → (h : Content) × Has frames k h × Sends (suc n) k h
  sends_now n k less right none lt e =
      (let d = begins_with k lt (began (suc n) k e) (m.begin k lt) in (d.0, d.1, (kept_head n k d.0 less right none lt d.2, role_there n k d.0 less right none lt d.2 e)))

  -- how many bits have passed since an edge
  since_most : (n : ℕ) → since_edge s bits n ≤ n
  since_most zero = omega arith
  since_most (suc n) = elim (cases_Bool (begins_with_edge s bits (suc n))) [
    | inl edge ↦ (let e : since_edge s bits (suc n) ≡ 0 = ap (λ b. cond b 0 (suc (since_edge s bits n))) edge in omega arith)
    | inr plain ↦ (let e : since_edge s bits (suc n) ≡ suc (since_edge s bits n) = ap (λ b. cond b 0 (suc (since_edge s bits n))) plain in let old = since_most n in omega arith)
  ]

  since_by : (n j : ℕ) → j ≤ n → begins_with_edge s bits j ≡ true → since_edge s bits n ≤ n - j
  since_by zero j less edge = omega arith
  since_by (suc n) j less edge = elim (cases_Bool (begins_with_edge s bits (suc n))) [
    | inl here ↦ (let e : since_edge s bits (suc n) ≡ 0 = ap (λ b. cond b 0 (suc (since_edge s bits n))) here in omega arith)
    | inr plain ↦ (let e : since_edge s bits (suc n) ≡ suc (since_edge s bits n) = ap (λ b. cond b 0 (suc (since_edge s bits n))) plain in
        elim (cases_lt j (suc n)) [
          | inl below ↦ (let old = since_by n j (omega arith) edge in omega arith)
          | inr last ↦ (let same : j ≡ suc n = omega arith in let both : begins_with_edge s bits (suc n) ≡ true = ap (begins_with_edge s bits) (sym same) ∙ edge in cc)
        ])
  ]

  module _ (n : ℕ) (less : n < total) (right : AllRight s bits drove n) (none : stuffed_end (own n) ≡ None) where
    inside_frame : AreInFrame (wire (suc n)) (own (suc n))
    inside_frame = framed n less right none

    front : IsStuffedFront (own (suc n))
    front =
        (let f = inside_frame in
        let lt : f.sender.0 < s.count = (let c = count_is (suc n) in let h = f.sender.1 in omega arith) in
        let x : Sends (suc n) f.sender.0 f.sender.2 = (f.sender.3.framing, f.sender.3.role) in
        let sent = found n less right none f.sender.0 f.sender.2 lt x in
        let l = levels_length s bits (suc n) in
        subst (λ o. MatchOption o (IsStuffedFront (own (suc n))) (λ k. ¬ IsStuffedFront (own (suc n))))
        (none_first (ends_six (own (suc n))) (length (own (suc n))) (λ k below. no_six f.sender.2 (own (suc n)) (suc n) sent k (omega arith))) (six (own (suc n))))

    at_ack : (more : List Level) (j : ℕ) → j < suc n → at (up_to_ack (own (suc n) ++ more)) j ≡ bit j
    at_ack more j below =
        (let l = levels_length s bits (suc n) in
        let a = length-append (own (suc n)) more in
        let b = length-append (own (suc n) ++ more) (Recessive ∷ []) in
        at_front ((own (suc n) ++ more) ++ Recessive ∷ []) (Dominant ∷ []) j (omega arith) ∙ at_front (own (suc n) ++ more) (Recessive ∷ []) j (omega arith)
        ∙ at_front (own (suc n)) more j (omega arith) ∙ at_bus (suc n) j below)

    edge_by : (more : List Level) (k : ℕ) → 0 < k → k < suc n → IsEdge (up_to_ack (own (suc n) ++ more)) k → begins_with_edge s bits k ≡ true
    edge_by more zero some below edge = absurd (omega arith)
    edge_by more (suc j) some below edge =
        (let was : bus_bit s bits j ≡ false = sym (level_back (bus_bit s bits j)) ∙ ap is_dominant (sym (at_ack more j (omega arith)) ∙ edge.was) in
        let now : bus_bit s bits (suc j) ≡ true = sym (level_back (bus_bit s bits (suc j))) ∙ ap is_dominant (sym (at_ack more (suc j) below) ∙ edge.is) in
        ap (λ b. not b && bus_bit s bits (suc j)) was ∙ now)

    few_there : since_edge s bits n ≤ 9
    few_there = elim (cases_lt n 10) [
      | inl small ↦ (let e = since_most n in omega arith)
      | inr large ↦
          (let f = front in
          let l = levels_length s bits (suc n) in
          let a = length-append (own (suc n)) f.0 in
          let b = length-append (own (suc n) ++ f.0) (Recessive ∷ []) in
          let c = length-append ((own (suc n) ++ f.0) ++ Recessive ∷ []) (Dominant ∷ []) in
          let edge = ten f.1 (own (suc n) ++ f.0) (n - 9) f.2 (omega arith) in
          let low = edge.1 in
          let high = edge.2 in
          let by = since_by n edge.0 (omega arith) (edge_by f.0 edge.0 (omega arith) (omega arith) edge.3) in
          omega arith)
    ]

    drive_cases : (head : Option Content) (o : Option ℕ) → stuffed_end (own (suc n)) ≡ o → is_dominant (drive_up_to o head (own (suc n))) ≡ true
        → (h : Content) × (head ≡ Some h) × (frame_role head (own (suc n)) ≡ Tx)
    drive_cases head None e d = drives_by (frame_role head (own (suc n))) head (own (suc n)) d
    drive_cases head (Some end) e d =
        (let next = end_next n less right none in
        let same : suc n ≡ end = end_is next.0 (suc n) end (sym next.1 ∙ e) in
        let l = levels_length s bits (suc n) in
        let silent = tail_silent (frame_role head (own (suc n))) (destuffed_bits (own (suc n)) end) (length (own (suc n)) - end) (omega arith) in
        absurd (not_dominant (sym (ap is_dominant silent) ∙ d)))
      where
        not_dominant : is_dominant Recessive ≡ true → ⊥
        not_dominant e = cc

    right_one : (k : ℕ) → k < s.count → RightUpTo s bits drove (suc n) k → (wire (suc n)).past k ≡ past (suc n) k
    right_one k lt good = agree_next n k less lt (agree n (omega arith) right) (good n (omega arith))

    senders_there : (k : ℕ) → k < s.count → RightUpTo s bits drove (suc n) k → (bits (suc n)).drives k ≡ true → still_sends s bits (suc n) k ≡ true
    senders_there k lt good drives =
        (let e = right_one k lt good in
        let d = drives_there (suc n) k (omega arith) lt e ∙ drives in
        let each = inside_frame.each k (let c = count_is (suc n) in omega arith) in
        let which = drive_cases each.0 (stuffed_end (own (suc n))) refl (ap (λ x. is_dominant (drive_of x)) (sym each.1) ∙ d) in
        still n k which.0 less right none lt
        (each.1 ∙ ap (λ c. stretch_by (Framing c) (own (suc n))) which.1, ap (λ c. frame_role c (own (suc n))) (sym which.1) ∙ which.2))

    -- what a station that has joined the start of frame sends
    pub joins_on : (k : ℕ) → k < s.count → RightUpTo s bits drove (suc n) k → (bits 0).joins k ≡ true → JoinsOn s bits frames past m.handed n k
    joins_on k lt good e =
        (let j = joined_by k lt e (m.begin k lt) in
        let there = kept_head n k j.frame less right none lt j.first in
        record {
          frame = j.frame;
          handed = j.handed;
          silent = j.silent;
          framing = ap stretch_of (sym (right_one k lt good)) ∙ there;
          sends = ap (λ b. b && (b || not (bus_bit s bits 0))) (or_right ((bits 0).drives k) ((bits 0).joins k) e);
          role = λ sends. role_there n k j.frame less right none lt j.first sends;
          still = λ role. still n k j.frame less right none lt (there, role);
        })

    pub goes : GoesByMachines s bits drove frames past n
    goes = record {
      few = few_there;
      senders = senders_there;
      sends = λ k lt good e. (let x = sends_now n k less right none lt e in (x.0, x.1, ap stretch_of (sym (right_one k lt good)) ∙ x.2.0, x.2.1));
      framing = λ k lt good. (let each = inside_frame.each k (let c = count_is (suc n) in omega arith) in (each.0, ap stretch_of (sym (right_one k lt good)) ∙ each.1));
      fine = λ k h lt.
          ap (λ p. is_fine (judged (stretch_of p) (sampled (bit n) (frames k) h)).happened) (sym (agree n (omega arith) right k lt))
          ∙ ap (λ l. is_fine (judged (at_wire n k) (sampled l (frames k) h)).happened) (sym (bus_is n (omega arith) (agree n (omega arith) right)))
          ∙ fine_there n k h lt;
    }

  -- the end of what is stuffed
  not_ended : (n : ℕ) → stuffed_end (own (suc n)) ≡ Some (suc n) → (o : Option ℕ) → stuffed_end (own n) ≡ o → stuffed_end (own n) ≡ None
  not_ended n end None e = e
  not_ended n end (Some place) e =
      (let stays = end_stays (own n) (bit n) place e in
      let same : place ≡ suc n = (let both : Some place ≡ Some (suc n) = sym stays ∙ end in cc) in
      let first = first_is (ends_at (own n)) (suc (length (own n))) place e in
      let l = levels_length s bits n in
      let h = first.inside in
      absurd (omega arith))

  one_winner : (n : ℕ) → HasOneWinner (wire n)
  unfolding wire
  one_winner n = winner s.count frames (events n) sound

  pub won : (n : ℕ) → n ≤ total → AllRight s bits drove n → stuffed_end (own n) ≡ Some n → HasWon s bits frames n
  won zero less right end = (let both : None ≡ Some 0 = sym none_first_end ∙ end in cc)
  won (suc n) less right end =
      (let none = not_ended n end (stuffed_end (own n)) refl in
      let before = all_before n right in
      let f = framed n (omega arith) before none in
      let k = f.sender.0 in
      let h = f.sender.2 in
      let c = count_is (suc n) in
      let low = f.sender.1 in
      let lt : k < s.count = omega arith in
      let x : Sends (suc n) k h = (f.sender.3.framing, f.sender.3.role) in
      let has = (first_sends n k h (omega arith) before none lt x).has in
      let one = one_winner (suc n) in
      let alone : (j : ℕ) (a : Content) → j < s.count → Sends (suc n) j a → j ≡ k =
      λ j a inside y. one.alone (own (suc n)) (suc n) j k a h (omega arith) (omega arith) end (is_sender (suc n) j a y) (is_sender (suc n) k h x) in
      record {
        station = k;
        inside = lt;
        frame = h;
        own = has;
        stuffs =
            subst (λ y. Stuffs y (bits_of h)) (take_own (suc n))
            (stuffed h (own (suc n)) (suc n) (sound.content k h lt has) end (found n (omega arith) before none k h lt x));
        sends = still n k h (omega arith) before none lt x;
        alone = λ j inside other. false_from_ne_true (still_sends s bits (suc n) j)
            (λ e. (let y = sends_now n j (omega arith) before none inside e in other (alone j y.0 inside y.2)));
        beats = λ j inside other begins. (let d = begins_with j inside begins (m.begin j inside) in
            let there = kept_head n j d.0 (omega arith) before none inside d.2 in (
              d.0,
              d.1,
              elim (role_cases (frame_role (Some d.0) (own (suc n)))) [
                | inl t ↦ absurd (other (alone j d.0 inside (there, t)))
                | inr r ↦ one.beats (own (suc n)) k j h d.0 (omega arith) (omega arith) (is_sender (suc n) k h x) (record { framing = there; role = r })
              ],
            ));
      })
    where
      take_own : (n : ℕ) → take n (own n) ≡ own n
      take_own n = ap (λ i. take i (own n)) (sym (levels_length s bits n)) ∙ take-length (own n)
