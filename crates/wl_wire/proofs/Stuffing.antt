-- All machines in the stuffed part of a frame, one bit of the bus later.
use Rattle.std.proofs.Common.{◌≡◌, ◌≢◌, ℕ, suc, ◌<◌, ◌≤◌, ◌∙◌, List, [], ◌∷◌, ◌++◌, length, Bool, true, false, cond, not, ◌&&◌, Option, Some, None, refl, sym, ap, subst, arith, inl, inr, ◌⊎◌}
use Rattle.std.specs.Prelude.{nat_le, slice_get}
use Rattle.std.proofs.lemmas.Bool.{cases_Bool, cases_lt, and_right}
use Rattle.wl_level.specs.declared.Level.{Level}
use Rattle.wl_level.specs.declared.Level.TheVariants.{Dominant, Recessive}
use Rattle.wl_level.specs.Levels.{is_dominant, same, opposite}
use Rattle.wl_level.specs.Places.{at, before, or_at}
use Rattle.wl_level.proofs.Callers.{at_new, at_old, before_old, first_none}
use Rattle.wl_confine.specs.declared.ErrorKind.TheVariants.{Bit, Stuff}
use Rattle.wl_confine.specs.declared.Mode.{Mode}
use Rattle.wl_confine.specs.declared.Happened.TheVariants as happens
use Rattle.wl_frame.specs.Stuffing.{is_stuff, destuffed_bits}
use Rattle.wl_frame.specs.Grammar.{Content, IsContent, bits_of, is_arbitration, layout_of}
use Rattle.wl_frame.specs.Laws.{HaveSameField}
use Rattle.wl_frame.proofs.Callers.{stuff_old, kept_old, length_more, same_back}
use Rattle.wl_machine.specs.declared.state.Role.{Role}
use Rattle.wl_machine.specs.declared.state.Role.TheVariants.{Tx, Rx}
use Rattle.wl_machine.specs.Stretch.{Sort, Stretch, Sampled, Judgement, continues, begins}
use Rattle.wl_machine.specs.Stretch.Sort.{Framing, Flagging}
use Rattle.wl_machine.specs.Stretch.Input.{Sample}
use Rattle.wl_machine.specs.Flags.{fails, error_flag}
use Rattle.wl_machine.specs.Frames.{stuffed_end, sent_at, is_lost, frame_role, differing, framing_by, framing_sent, framing_received, drive_up_to, stuffed_drive}
use Rattle.wl_machine.specs.Judged.{judged, or_next, stretch_after, drive_of, head_of}
use Rattle.wl_machine.specs.Laws.{FoundSent}
use Rattle.wl_machine.specs.States.{sample_of, stretch_by}
use Rattle.wl_machine.proofs.Callers.{end_more, role_next, role_receives, ends_at, front_kept, HasRest}
use Rattle.wl_wire.specs.Wire.{Wire, Handed, Bit, stretch_at, bus, next_wire}
use Rattle.wl_wire.specs.InStep.{AreSoundFrames, AreInFrame, IsSender, or_all, stuffed_length, is_fine}
use Rattle.wl_wire.proofs.Events.{OwnHeads, sample_at, at_bit}
use Rattle.wl_wire.proofs.Bus.{Drives, level_cases, not_both, bus_dominant, bus_recessive, bus_driven}

-- the law of the arbitration
abbrev pub ArbitrationDecides : Type 0
ArbitrationDecides =
    (loser winner : Content) (front more rest : List Level) → IsContent loser → IsContent winner → ¬ HaveSameField loser winner
    → bits_of loser ≡ front ++ more → bits_of winner ≡ front ++ rest → at (bits_of loser) (length front) ≡ Recessive
    → is_arbitration (bits_of loser) (length front) ≡ true

-- a machine is in this frame, and receives
pub record Receives (w : Wire) (own : List Level) (k : ℕ) (head : Option Content) : Type 0 where
  pub framing : stretch_at w k ≡ stretch_by (Framing head) own
  pub role : frame_role head own ≡ Rx

-- one of the two
abbrev pub IsMember : Wire → List Level → ℕ → Type 0
IsMember w own k = ((head : Content) × IsSender w own k head) ⊎ ((head : Option Content) × Receives w own k head)

pub role_cases : (role : Role) → (role ≡ Tx) ⊎ (role ≡ Rx)
role_cases Tx = inl refl
role_cases Rx = inr refl

pub not_both_roles : (role : Role) → role ≡ Tx → role ≡ Rx → ⊥
not_both_roles Tx t r = cc
not_both_roles Rx t r = cc

member_by : (w : Wire) (own : List Level) (k : ℕ) (head : Option Content) → stretch_at w k ≡ stretch_by (Framing head) own → IsMember w own k
member_by w own k None e = inr (None, record { framing = e; role = refl })
member_by w own k (Some head) e = elim (role_cases (frame_role (Some head) own)) [
  | inl t ↦ inl (head, record { framing = e; role = t })
  | inr r ↦ inr (Some head, record { framing = e; role = r })
]

pub member : (w : Wire) (own : List Level) → AreInFrame w own → (k : ℕ) → k < w.count → IsMember w own k
member w own f k lt = member_by w own k (f.each k lt).0 (f.each k lt).1

pub some_same : (a b : Content) → Some a ≡ Some b → a ≡ b
some_same a b e = cc

-- a machine sends one frame
pub one_head : (w : Wire) (own : List Level) (k : ℕ) (a b : Content) → IsSender w own k a → IsSender w own k b → a ≡ b
one_head w own k a b p q = some_same a b (ap (λ s. head_of s.sort) (sym p.framing ∙ q.framing))

pub sends_content : (w : Wire) (own : List Level) (k : ℕ) (head : Content) → AreSoundFrames w.count w.frames → OwnHeads w → k < w.count → IsSender w own k head → IsContent head
sends_content w own k head sound heads lt s = sound.content k head lt (heads k head (ap (λ t. head_of t.sort) s.framing))

-- two machines send frames of which the arbitration can decide
pub sends_apart : (w : Wire) (own : List Level) (j k : ℕ) (a b : Content) → AreSoundFrames w.count w.frames → OwnHeads w → j < w.count → k < w.count → j ≢ k
    → IsSender w own j a → IsSender w own k b → ¬ HaveSameField a b
sends_apart w own j k a b sound heads lj lk ne p q =
    sound.apart j k a b lj lk ne (heads j a (ap (λ t. head_of t.sort) p.framing)) (heads k b (ap (λ t. head_of t.sort) q.framing))

-- a stretch that goes on
pub after_none : (s : Stretch) (x : Sampled) (sort : Sort) (own : List Level) → s ≡ stretch_by sort own → (judged s x).next ≡ None
    → stretch_after s (Sample x) ≡ stretch_by sort (own ++ x.level ∷ [])
after_none s x sort own e h = ap (λ n. or_next n (stretch_by s.sort (s.own ++ x.level ∷ []))) h ∙ ap (λ t. stretch_by t.sort (t.own ++ x.level ∷ [])) e

-- what a sender sends depends on what was before alone
pub sent_old : (head : Content) (own : List Level) (b : Level) (k : ℕ) → k ≤ length own → sent_at head (own ++ b ∷ []) k ≡ sent_at head own k
sent_old head own b k h =
    ap (λ s. cond s (opposite (before (own ++ b ∷ []) k)) (at (bits_of head) (length (destuffed_bits (own ++ b ∷ []) k)))) (stuff_old own b k h)
    ∙ ap (λ l. cond (is_stuff own k) (opposite l) (at (bits_of head) (length (destuffed_bits (own ++ b ∷ []) k)))) (before_old own b k h)
    ∙ ap (λ ls. cond (is_stuff own k) (opposite (before own k)) (at (bits_of head) (length ls))) (kept_old own b k h)

pub found_old : (head : Content) (own : List Level) (b : Level) (m : ℕ) → m ≤ length own → FoundSent head own m → FoundSent head (own ++ b ∷ []) m
found_old head own b m h found k lt = at_old own b k (omega arith) ∙ found k lt ∙ sym (sent_old head own b k (omega arith))

pub lost_here : (head : Content) (own : List Level) (b : Level) → is_lost head (own ++ b ∷ []) (length own)
    ≡ (not (is_stuff own (length own)) && is_arbitration (bits_of head) (length (destuffed_bits own (length own))) && not (is_dominant (sent_at head own (length own))) && is_dominant b)
lost_here head own b =
    ap (λ s. not s && is_arbitration (bits_of head) (length (destuffed_bits (own ++ b ∷ []) (length own))) && not (is_dominant (sent_at head (own ++ b ∷ []) (length own))) && is_dominant (at (own ++ b ∷ []) (length own)))
    (stuff_old own b (length own) (omega arith))
    ∙ ap (λ ls. not (is_stuff own (length own)) && is_arbitration (bits_of head) (length ls) && not (is_dominant (sent_at head (own ++ b ∷ []) (length own))) && is_dominant (at (own ++ b ∷ []) (length own)))
    (kept_old own b (length own) (omega arith))
    ∙ ap (λ l. not (is_stuff own (length own)) && is_arbitration (bits_of head) (length (destuffed_bits own (length own))) && not (is_dominant l) && is_dominant (at (own ++ b ∷ []) (length own)))
    (sent_old head own b (length own) (omega arith))
    ∙ ap (λ l. not (is_stuff own (length own)) && is_arbitration (bits_of head) (length (destuffed_bits own (length own))) && not (is_dominant (sent_at head own (length own))) && is_dominant l)
    (at_new own b)

pub no_loss : (s a : Bool) (b : Level) → (not s && a && not (is_dominant b) && is_dominant b) ≡ false
no_loss true a b = refl
no_loss false true Dominant = refl
no_loss false true Recessive = refl
no_loss false false b = refl

pub end_there : (t : Bool) (n : ℕ) → or_all (or_at None t n) n ≡ n
end_there true n = refl
end_there false n = refl

pub end_is : (t : Bool) (n m : ℕ) → or_at None t n ≡ Some m → n ≡ m
end_is true n m e = cc
end_is false n m e = cc

module _ (decides : ArbitrationDecides) (w : Wire) (own : List Level) (sound : AreSoundFrames w.count w.frames) (heads : OwnHeads w) (f : AreInFrame w own)
    (none : stuffed_end own ≡ None) where
  abbrev place : ℕ
  place = length own

  abbrev kept : List Level
  kept = destuffed_bits own (length own)

  sends_drive : (k : ℕ) (head : Content) → IsSender w own k head → drive_of (stretch_at w k) ≡ sent_at head own place
  sends_drive k head s =
      ap drive_of s.framing ∙ ap (λ e. drive_up_to e (Some head) own) none ∙ ap (λ r. stuffed_drive r (Some head) own) s.role

  receives_drive : (k : ℕ) (head : Option Content) → Receives w own k head → drive_of (stretch_at w k) ≡ Recessive
  receives_drive k head r =
      ap drive_of r.framing ∙ ap (λ e. drive_up_to e head own) none ∙ ap (λ role. stuffed_drive role head own) r.role

  -- a sender of the level that the bus has
  record Carrier : Type 0 where
    machine : ℕ
    inside : machine < w.count
    head : Content
    sends : IsSender w own machine head
    carries : sent_at head own place ≡ bus w

  dominant_carrier : bus w ≡ Dominant → (d : Drives w) → IsMember w own d.machine → Carrier
  dominant_carrier e d (inl m) =
      record { machine = d.machine; inside = d.inside; head = m.0; sends = m.1; carries = sym (sends_drive d.machine m.0 m.1) ∙ d.dominant ∙ sym e }
  dominant_carrier e d (inr m) = absurd (not_both (drive_of (stretch_at w d.machine)) d.dominant (receives_drive d.machine m.0 m.1))

  carrier : Carrier
  carrier = elim (level_cases (bus w)) [
    | inl e ↦ (let d : Drives w = bus_dominant w e in dominant_carrier e d (member w own f d.machine d.inside))
    | inr e ↦ record {
      machine = f.sender.0;
      inside = f.sender.1;
      head = f.sender.2;
      sends = f.sender.3;
      carries = sym (sends_drive f.sender.0 f.sender.2 f.sender.3) ∙ bus_recessive w e f.sender.0 f.sender.1 ∙ sym e;
    }
  ]

  -- a stuff bit is what all senders send
  stuff_sent : (head : Content) → is_stuff own place ≡ true → sent_at head own place ≡ opposite (before own place)
  stuff_sent head due = ap (λ s. cond s (opposite (before own place)) (at (bits_of head) (length kept))) due

  bit_sent : (head : Content) → is_stuff own place ≡ false → sent_at head own place ≡ at (bits_of head) (length kept)
  bit_sent head free = ap (λ s. cond s (opposite (before own place)) (at (bits_of head) (length kept))) free

  no_sixth : (is_stuff own place && same (bus w) (before own place)) ≡ false
  no_sixth = elim (cases_Bool (is_stuff own place)) [
    | inl due ↦
        and_right (is_stuff own place) (same (bus w) (before own place))
        (ap (λ l. same l (before own place)) (sym carrier.carries ∙ stuff_sent carrier.head due) ∙ same_back (before own place))
    | inr free ↦ ap (λ b. b && same (bus w) (before own place)) free
  ]

  -- a sender finds a dominant bit of the arbitration where it sends a recessive one
  pub record Loses (head : Content) : Type 0 where
    pub free : is_stuff own place ≡ false
    pub arbitration : is_arbitration (bits_of head) (length kept) ≡ true
    pub recessive : sent_at head own place ≡ Recessive
    pub dominant : bus w ≡ Dominant

  pub found_here : (k : ℕ) (head : Content) → k < w.count → IsSender w own k head → FoundSent head own place
  found_here k head lt s = subst (FoundSent head own) (ap (λ e. or_all e (length own)) none) (f.found k head lt s)

  rest_of_bits : (k : ℕ) (head : Content) → k < w.count → IsSender w own k head → HasRest (bits_of head) kept
  rest_of_bits k head lt s =
      front_kept head own place (sends_content w own k head sound heads lt s) (λ j below. first_none (ends_at own) (suc place) none j (omega arith))
      (found_here k head lt s) place (omega arith)

  other_machine : (k : ℕ) (head : Content) → IsSender w own k head → sent_at head own place ≡ Recessive → bus w ≡ Dominant → k ≢ carrier.machine
  other_machine k head s r d e =
      let same_head : head ≡ carrier.head =
      one_head w own carrier.machine head carrier.head (record { framing = ap (stretch_at w) (sym e) ∙ s.framing; role = s.role }) carrier.sends in
      not_both (bus w) d (sym carrier.carries ∙ ap (λ c. sent_at c own place) (sym same_head) ∙ r)

  is_free_there : (head : Content) → sent_at head own place ≡ Recessive → bus w ≡ Dominant → is_stuff own place ≡ false
  is_free_there head r d = elim (cases_Bool (is_stuff own place)) [
    | inl due ↦ absurd (not_both (bus w) d (sym carrier.carries ∙ stuff_sent carrier.head due ∙ sym (stuff_sent head due) ∙ r))
    | inr free ↦ free
  ]

  loses : (k : ℕ) (head : Content) → k < w.count → IsSender w own k head → sent_at head own place ≡ Recessive → bus w ≡ Dominant → Loses head
  loses k head lt s r d =
      let free : is_stuff own place ≡ false = is_free_there head r d in
      let mine : HasRest (bits_of head) kept = rest_of_bits k head lt s in
      let other : HasRest (bits_of carrier.head) kept = rest_of_bits carrier.machine carrier.head carrier.inside carrier.sends in
      record {
        free = free;
        arbitration =
            decides head carrier.head kept mine.rest other.rest (sends_content w own k head sound heads lt s)
            (sends_content w own carrier.machine carrier.head sound heads carrier.inside carrier.sends)
            (sends_apart w own k carrier.machine head carrier.head sound heads lt carrier.inside (other_machine k head s r d) s carrier.sends)
            mine.joined other.joined (sym (bit_sent head free) ∙ r);
        recessive = r;
        dominant = d;
      }

  -- what becomes of a sender
  pub fate : (k : ℕ) (head : Content) → k < w.count → IsSender w own k head → (sent_at head own place ≡ bus w) ⊎ Loses head
  fate k head lt s = elim (level_cases (sent_at head own place)) [
    | inl d ↦ inl (d ∙ sym (bus_driven w k lt (sends_drive k head s ∙ d)))
    | inr r ↦ elim (level_cases (bus w)) [
      | inl d ↦ inr (loses k head lt s r d)
      | inr e ↦ inl (r ∙ sym e)
    ]
  ]

  -- each machine goes on
  module _ (given : Option Content) (mode : Mode) where
    abbrev found_level : Sampled
    found_level = sample_of (bus w) given mode

    receives_on : (k : ℕ) (head : Option Content) → Receives w own k head → judged (stretch_at w k) found_level ≡ continues happens.Nothing
    receives_on k head r =
        ap (λ s. judged s found_level) r.framing ∙ ap (λ role. framing_by role head own found_level) r.role
        ∙ ap (λ e. framing_received own e found_level) none
        ∙ ap (λ b. cond b (fails Rx mode Stuff) (continues happens.Nothing)) no_sixth

    sends_judged : (k : ℕ) (head : Content) → IsSender w own k head
        → judged (stretch_at w k) found_level ≡ cond (same (sent_at head own place) (bus w)) (continues happens.Nothing) (differing head own found_level)
    sends_judged k head s =
        ap (λ t. judged t found_level) s.framing ∙ ap (λ role. framing_by role (Some head) own found_level) s.role
        ∙ ap (λ e. framing_sent head own e found_level) none

    same_levels : (a b : Level) → a ≡ b → same a b ≡ true
    same_levels Dominant Dominant e = refl
    same_levels Recessive Recessive e = refl
    same_levels Dominant Recessive e = cc
    same_levels Recessive Dominant e = cc

    differing_on : (head : Content) → Loses head → differing head own found_level ≡ continues happens.Nothing
    differing_on head l =
        let late : Judgement = cond (is_arbitration (bits_of head) (length kept)) (continues happens.Nothing) (fails Tx mode Bit) in
        ap (λ d. cond (is_dominant d) (fails Tx mode Bit)
        (cond (is_stuff own place) (cond (nat_le (length kept) (layout_of (bits_of head)).rtr) (begins happens.TxFree (Flagging (error_flag mode) Tx) []) (fails Tx mode Bit)) late)) l.recessive
        ∙ ap (λ s. cond s (cond (nat_le (length kept) (layout_of (bits_of head)).rtr) (begins happens.TxFree (Flagging (error_flag mode) Tx) []) (fails Tx mode Bit)) late) l.free
        ∙ ap (λ a. cond a (continues happens.Nothing) (fails Tx mode Bit)) l.arbitration

    sends_on : (k : ℕ) (head : Content) → k < w.count → IsSender w own k head → judged (stretch_at w k) found_level ≡ continues happens.Nothing
    sends_on k head lt s = sends_judged k head s ∙ elim (fate k head lt s) [
      | inl e ↦ ap (λ b. cond b (continues happens.Nothing) (differing head own found_level)) (same_levels (sent_at head own place) (bus w) e)
      | inr l ↦ either (same (sent_at head own place) (bus w)) (continues happens.Nothing) (differing head own found_level) (differing_on head l)
    ]
      where
        either : (b : Bool) (j k : Judgement) → k ≡ j → cond b j k ≡ j
        either true j k e = refl
        either false j k e = e

    pub stuffed_on : (k : ℕ) → k < w.count → judged (stretch_at w k) found_level ≡ continues happens.Nothing
    stuffed_on k lt = elim (member w own f k lt) [
      | inl m ↦ sends_on k m.0 lt m.1
      | inr m ↦ receives_on k m.0 m.1
    ]

  -- and the frame is one bit longer
  pub kept_role : (head : Content) → frame_role (Some head) own ≡ Tx → sent_at head own place ≡ bus w → frame_role (Some head) (own ++ bus w ∷ []) ≡ Tx
  kept_role head role found =
      role_next head own (bus w)
      ∙ ap (λ l. cond l Rx (frame_role (Some head) own)) (lost_here head own (bus w)
      ∙ ap (λ l. not (is_stuff own place) && is_arbitration (bits_of head) (length kept) && not (is_dominant l) && is_dominant (bus w)) found
      ∙ no_loss (is_stuff own place) (is_arbitration (bits_of head) (length kept)) (bus w))
      ∙ role

  carried_role : frame_role (Some carrier.head) (own ++ bus w ∷ []) ≡ Tx
  carried_role = kept_role carrier.head carrier.sends.role carrier.carries

  lost_role : (head : Content) → Loses head → frame_role (Some head) (own ++ bus w ∷ []) ≡ Rx
  lost_role head l =
      role_next head own (bus w)
      ∙ ap (λ b. cond b Rx (frame_role (Some head) own)) (lost_here head own (bus w)
      ∙ ap (λ s. not s && is_arbitration (bits_of head) (length kept) && not (is_dominant (sent_at head own place)) && is_dominant (bus w)) l.free
      ∙ ap (λ a. a && not (is_dominant (sent_at head own place)) && is_dominant (bus w)) l.arbitration
      ∙ ap (λ d. not (is_dominant d) && is_dominant (bus w)) l.recessive ∙ ap is_dominant l.dominant)

  -- all machines one bit later
  module _ (handed : ℕ → Handed) where
    abbrev later : Wire
    later = next_wire w (Bit handed)

    abbrev longer : List Level
    longer = own ++ bus w ∷ []

    pub next_stretch : (k : ℕ) (lt : k < w.count) → stretch_at later k ≡ stretch_by (Framing (f.each k lt).0) longer
    next_stretch k lt =
        at_bit w handed k
        ∙ after_none (stretch_at w k) (sample_at w handed k) (Framing (f.each k lt).0) own (f.each k lt).1
        (ap (λ j. j.next) (stuffed_on (slice_get (w.frames k) (handed k).which) (handed k).mode k lt))

    -- who sends then sent before, and found what it sent
    sent_before : (k : ℕ) (head : Content) → k < w.count → IsSender later longer k head → IsSender w own k head
    sent_before k head lt s = record {
      framing = (f.each k lt).1 ∙ ap (λ o. stretch_by (Framing o) own) (ap (λ t. head_of t.sort) (sym (next_stretch k lt) ∙ s.framing));
      role = elim (role_cases (frame_role (Some head) own)) [
        | inl t ↦ t
        | inr r ↦ absurd (not_both_roles (frame_role (Some head) longer) s.role (role_receives (Some head) own (bus w) r))
      ];
    }

    found_bit : (k : ℕ) (head : Content) → k < w.count → IsSender later longer k head → sent_at head own place ≡ bus w
    found_bit k head lt s = elim (fate k head lt (sent_before k head lt s)) [
      | inl e ↦ e
      | inr l ↦ absurd (not_both_roles (frame_role (Some head) longer) s.role (lost_role head l))
    ]

    found_more : (k : ℕ) (head : Content) → k < w.count → IsSender later longer k head → FoundSent head longer (suc place)
    found_more k head lt s n below = elim (cases_lt n place) [
      | inl old ↦ found_old head own (bus w) place (omega arith) (found_here k head lt (sent_before k head lt s)) n old
      | inr new ↦
          (let here : place ≡ n = omega arith in
          subst (λ m. at longer m ≡ sent_at head longer m) here
          (at_new own (bus w) ∙ sym (found_bit k head lt s) ∙ sym (sent_old head own (bus w) place (omega arith))))
    ]

    pub end_next : stuffed_end longer ≡ or_at None (ends_at longer (length longer)) (length longer)
    end_next = end_more own (bus w) ∙ ap (λ o. or_at o (ends_at longer (length longer)) (length longer)) none

    pub all_stuffed : stuffed_length longer ≡ suc place
    all_stuffed = ap (λ e. or_all e (length longer)) end_next ∙ end_there (ends_at longer (length longer)) (length longer) ∙ length_more own (bus w)

    pub stuffed_bit : AreInFrame later longer
    stuffed_bit = record {
      begun = (let e : length longer ≡ suc place = length_more own (bus w) in omega arith);
      each = λ k lt. ((f.each k lt).0, next_stretch k lt);
      sender = (
        carrier.machine,
        carrier.inside,
        carrier.head,
        record {
          framing =
              next_stretch carrier.machine carrier.inside
              ∙ ap (λ o. stretch_by (Framing o) longer) (ap (λ t. head_of t.sort) (sym (f.each carrier.machine carrier.inside).1 ∙ carrier.sends.framing));
          role = carried_role;
        },
      );
      found = λ k head lt s. subst (FoundSent head longer) (sym all_stuffed) (found_more k head lt s);
      tail = λ end e.
          (let here : length longer ≡ end = end_is (ends_at longer (length longer)) (length longer) end (sym end_next ∙ e) in
          (omega arith, omega arith));
    }

  pub stuffed_fine : (handed : ℕ → Handed) (k : ℕ) → k < w.count → is_fine (judged (stretch_at w k) (sample_at w handed k)).happened ≡ true
  stuffed_fine handed k lt = ap (λ j. is_fine j.happened) (stuffed_on (slice_get (w.frames k) (handed k).which) (handed k).mode k lt)
