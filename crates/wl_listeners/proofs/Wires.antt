-- A machine without frames adds nothing to the bus of machines in step.
use Rattle.std.proofs.Common.{◌≡◌, ◌≢◌, ◌∙◌, inl, inr, refl, sym, ap, subst, ℕ, ◌-◌, ◌<◌, ◌≤◌, Bool, true, ◌==◌, not, List, [], ◌∷◌, length, Option, Some, None, is_some, arith}
use Rattle.std.specs.Prelude.{slice_get}
use Rattle.std.specs.Cmp as cmp
use Rattle.std.proofs.lemmas.Bool.{and_from, and_parts, both_ways, cases_eq, ne_eqb, not_from_false}
use Rattle.std.proofs.lemmas.Option.{none-some, slice_get_past}
use Rattle.wl_level.specs.declared.Level.{Level}
use Rattle.wl_level.specs.declared.Level.TheVariants.{Recessive}
use Rattle.wl_level.specs.Levels.{is_dominant, level_of}
use Rattle.wl_level.specs.Places.{first_place}
use Rattle.wl_level.proofs.Callers.{first_is, first_none}
use Rattle.wl_frame.specs.Stuffing.{destuffed_bits}
use Rattle.wl_frame.specs.Grammar.{Content}
use Rattle.wl_machine.specs.declared.state.Role.TheVariants.{Rx}
use Rattle.wl_machine.specs.Stretch.{Sort}
use Rattle.wl_machine.specs.Stretch.Sort.{Integration, Idle, Framing, Flagging, Waiting, Delimiting, Intermission, Suspension, OffBus}
use Rattle.wl_machine.specs.Frames.{drive_up_to, frame_role, stuffed_drive, stuffed_end, tail_drive}
use Rattle.wl_machine.specs.Judged.{drive_by, drive_of, head_of}
use Rattle.wl_machine.specs.States.{stretch_by}
use Rattle.wl_wire.specs.Wire.{Event, Wire, bus, drives_dominant, idle_wire, is_between, is_between_by, next_wire, stretch_at, wire_after}
use Rattle.wl_wire.specs.Heads.{OwnHeads}
use Rattle.wl_wire.specs.InStep.{AreInFrame, AreInStep, Has}
use Rattle.wl_wire.specs.Winner.{HasOneWinner}
use Rattle.wl_wire.proofs.Callers.{role_cases}
use Rattle.wl_listeners.specs.Wires.{bus_beside, drives_beside}

-- a machine without frames stays so, and idle machines have no head
pub none_after : (w : Wire) (events : List Event) (k : ℕ) → w.frames k ≡ [] → (wire_after w events).frames k ≡ []
none_after w [] k none = none
none_after w (event ∷ events) k none = none_after (next_wire w event) events k none

no_idle_head : (count : ℕ) (frames : ℕ → List Content) (k : ℕ) → head_of (stretch_at (idle_wire count frames) k).sort ≡ None
no_idle_head count frames k = refl

pub idle_heads : (count : ℕ) (frames : ℕ → List Content) → OwnHeads (idle_wire count frames)
idle_heads count frames k c e = absurd (none-some c (sym (no_idle_head count frames k) ∙ e))

pub has_none : (xs : List Content) → xs ≡ [] → (c : Content) (n : ℕ) → slice_get xs n ≡ Some c → ⊥
has_none xs none c n is = none-some c (sym (slice_get_past xs n (let e = ap length none in omega arith)) ∙ is)

-- some place passes a test
some_from : (t : ℕ → Bool) (n k : ℕ) → k < n → t k ≡ true → (o : Option ℕ) → first_place t n ≡ o → is_some o ≡ true
some_from t n k less h None e = absurd (both_ways (t k) (first_none t n e k less) h)
some_from t n k less h (Some m) e = refl

some_by : (t : ℕ → Bool) (n : ℕ) (o : Option ℕ) → first_place t n ≡ o → is_some o ≡ true → (k : ℕ) × (k < n) × (t k ≡ true)
some_by t n None e h = cc
some_by t n (Some k) e h = let x = first_is t n k e in (k, x.inside, x.passes)

-- of three machines one that is none of two
third : (a b : ℕ) → (j : ℕ) × (j < 3) × (j ≢ a) × (j ≢ b)
third a b = elim (cases_eq 0 a) [
  | inl first ↦ elim (cases_eq 1 b) [
    | inl e ↦ (2, omega arith, (λ x. omega arith), (λ x. omega arith))
    | inr apart ↦ (1, omega arith, (λ x. omega arith), apart)
  ]
  | inr other ↦ elim (cases_eq 0 b) [
    | inl first ↦ elim (cases_eq 1 a) [
      | inl e ↦ (2, omega arith, (λ x. omega arith), (λ x. omega arith))
      | inr apart ↦ (1, omega arith, apart, (λ x. omega arith))
    ]
    | inr apart ↦ (0, omega arith, other, apart)
  ]
]

-- between frames who drives dominant has a frame
begins_one : (s : Sort) (own : List Level) → is_between_by s own ≡ true → is_dominant (drive_by s own) ≡ true → (c : Content) × (head_of s ≡ Some c)
begins_one Integration own b d = cc
begins_one Idle own b d = cc
begins_one (Framing None) own b d = cc
begins_one (Framing (Some head)) [] b d = (head, refl)
begins_one (Framing (Some head)) (x ∷ own) b d = cc
begins_one (Flagging flag role) own b d = cc
begins_one (Waiting flag role flagged) own b d = cc
begins_one (Delimiting role) own b d = cc
begins_one (Intermission role) own b d = cc
begins_one Suspension own b d = cc
begins_one OffBus own b d = cc

-- what a receiver drives, by the end of the stuffed part
abbrev drives_received : List Level → Option ℕ → Level
drives_received own None = Recessive
drives_received own (Some end) = tail_drive Rx (destuffed_bits own end) (length own - end)

drive_there : (w : Wire) (own : List Level) (k : ℕ) (head : Option Content) → stretch_at w k ≡ stretch_by (Framing head) own → frame_role head own ≡ Rx
    → (o : Option ℕ) → stuffed_end own ≡ o → drives_dominant w k ≡ is_dominant (drives_received own o)
drive_there w own k head e role None over =
    ap (λ s. is_dominant (drive_of s)) e ∙ ap (λ o. is_dominant (drive_up_to o head own)) over ∙ ap (λ r. is_dominant (stuffed_drive r head own)) role
drive_there w own k head e role (Some end) over =
    ap (λ s. is_dominant (drive_of s)) e ∙ ap (λ o. is_dominant (drive_up_to o head own)) over
    ∙ ap (λ r. is_dominant (tail_drive r (destuffed_bits own end) (length own - end))) role

module _ (w : Wire) (listener : ℕ) (step : AreInStep w) (heads : OwnHeads w) (winner : HasOneWinner w) (inside : listener < w.count) (three : 3 ≤ w.count)
    (none : (c : Content) → Has w.frames listener c → ⊥) where
  record Another : Type 0 where
    pub machine : ℕ
    pub there : machine < w.count
    pub other : machine ≢ listener
    pub drives : drives_dominant w machine ≡ true

  no_head : (c : Content) → head_of (stretch_at w listener).sort ≡ Some c → ⊥
  no_head c e = none c (heads listener c e)

  between : is_between (stretch_at w listener) ≡ true → drives_dominant w listener ≡ true → ⊥
  between b d = let x = begins_one (stretch_at w listener).sort (stretch_at w listener).own b d in no_head x.0 x.1

  module _ (own : List Level) (f : AreInFrame w own) where
    receives : (head : Option Content) → stretch_at w listener ≡ stretch_by (Framing head) own → frame_role head own ≡ Rx
    receives None e = refl
    receives (Some c) e = absurd (no_head c (ap (λ s. head_of s.sort) e))

    -- of those that are in the frame one alone sends it after the stuffed part
    others_receive : (j end : ℕ) → j < w.count → stuffed_end own ≡ Some end → j ≢ f.sender.0 → (head : Option Content)
        → stretch_at w j ≡ stretch_by (Framing head) own → frame_role head own ≡ Rx
    others_receive j end less over apart None e = refl
    others_receive j end less over apart (Some c) e = elim (role_cases (frame_role (Some c) own)) [
      | inl sends ↦ absurd (apart (winner.alone own end j f.sender.0 c f.sender.2 less f.sender.1 over (record { framing = e; role = sends }) f.sender.3))
      | inr receives ↦ receives
    ]

    acknowledges : (o : Option ℕ) → stuffed_end own ≡ o → drives_dominant w listener ≡ true → Another
    acknowledges None over d =
        let mine = f.each listener inside in
        absurd (both_ways (drives_dominant w listener) (drive_there w own listener mine.0 mine.1 (receives mine.0 mine.1) None over) d)
    acknowledges (Some end) over d =
        let mine = f.each listener inside in
        let j = third listener f.sender.0 in
        let small : j.0 < 3 = j.1 in
        let there : j.0 < w.count = omega arith in
        let its = f.each j.0 there in
        record {
          machine = j.0;
          there = there;
          other = j.2;
          drives = drive_there w own j.0 its.0 its.1 (others_receive j.0 end there over j.3 its.0 its.1) (Some end) over
              ∙ sym (drive_there w own listener mine.0 mine.1 (receives mine.0 mine.1) (Some end) over) ∙ d;
        }

  another : AreInStep w → drives_dominant w listener ≡ true → Another
  another (inl b) d = absurd (between (b listener inside) d)
  another (inr (inl i)) d = absurd (both_ways (drives_dominant w listener) (ap (λ s. is_dominant (drive_of s)) (i.1.each listener inside).1) d)
  another (inr (inr f)) d = acknowledges f.0 f.1 (stuffed_end f.0) refl d

  beside : (k : ℕ) → k ≢ listener → drives_dominant w k ≡ true → drives_beside w listener k ≡ true
  beside k apart d = and_from (drives_dominant w k) (not (k == listener)) d (not_from_false (k == listener) (ne_eqb k listener apart))

  onto : is_some (first_place (drives_dominant w) w.count) ≡ true → is_some (first_place (drives_beside w listener) w.count) ≡ true
  onto h =
      let x = some_by (drives_dominant w) w.count (first_place (drives_dominant w) w.count) refl h in
      elim (cases_eq x.0 listener) [
        | inl e ↦
            (let y = another step (subst (λ m. drives_dominant w m ≡ true) e x.2) in
            some_from (drives_beside w listener) w.count y.machine y.there (beside y.machine y.other y.drives) (first_place (drives_beside w listener) w.count) refl)
        | inr apart ↦
            some_from (drives_beside w listener) w.count x.0 x.1 (beside x.0 apart x.2) (first_place (drives_beside w listener) w.count) refl
      ]

  back : is_some (first_place (drives_beside w listener) w.count) ≡ true → is_some (first_place (drives_dominant w) w.count) ≡ true
  back h =
      let x = some_by (drives_beside w listener) w.count (first_place (drives_beside w listener) w.count) refl h in
      some_from (drives_dominant w) w.count x.0 x.1 (and_parts (drives_dominant w x.0) (not (x.0 == listener)) x.2).0 (first_place (drives_dominant w) w.count) refl

  pub same_bus : bus w ≡ bus_beside w listener
  same_bus = ap level_of (cmp.both_ways (is_some (first_place (drives_dominant w) w.count)) (is_some (first_place (drives_beside w listener) w.count)) onto back)
