-- All machines in the ten bits after the stuffed part, one bit of the bus later.
use Rattle.std.proofs.Common.{◌≡◌, ◌≢◌, ℕ, ◌+◌, ◌-◌, ◌<◌, ◌≤◌, ◌∙◌, List, [], ◌∷◌, ◌++◌, length, Bool, true, false, cond, not, ◌&&◌, Option, Some, None, refl, sym, ap, subst, arith, inl, inr}
use Rattle.std.specs.Prelude.{◌==◌, slice_get}
use Rattle.std.proofs.lemmas.Bool.{cases_eq, ne_eqb, and_right}
use Rattle.wl_level.specs.declared.Level.{Level}
use Rattle.wl_level.specs.declared.Level.TheVariants.{Dominant, Recessive}
use Rattle.wl_level.proofs.Callers.{length_more}
use Rattle.wl_confine.specs.declared.ErrorKind.TheVariants.{Crc}
use Rattle.wl_confine.specs.declared.Mode.{Mode}
use Rattle.wl_confine.specs.declared.Happened.TheVariants as happens_there
use Rattle.wl_frame.specs.Stuffing.{destuffed_bits}
use Rattle.wl_frame.specs.Grammar.{Content, bits_of, content_of, is_crc_right}
use Rattle.wl_machine.specs.declared.state.Role.{Role}
use Rattle.wl_machine.specs.declared.state.Role.TheVariants.{Tx, Rx}
use Rattle.wl_machine.specs.Stretch.{Sampled, Judgement, Ended, continues}
use Rattle.wl_machine.specs.Stretch.Ended.{Sent, Received}
use Rattle.wl_machine.specs.Stretch.Sort.{Framing, Intermission}
use Rattle.wl_machine.specs.Flags.{fails}
use Rattle.wl_machine.specs.Frames.{stuffed_end, frame_role, framing_by, framing_sent, framing_received, drive_up_to, tail_drive, sent_tail, received_tail, acknowledging, last_bit, unanswered}
use Rattle.wl_machine.specs.Judged.{judged, or_next, drive_of, head_of, role_of}
use Rattle.wl_machine.specs.Laws.{FoundSent}
use Rattle.wl_machine.specs.States.{IsTail, sample_of, stretch_by}
use Rattle.wl_machine.proofs.Callers.{end_stays, role_receives, tail_sends, kept_is_all}
use Rattle.wl_wire.specs.Wire.{Wire, Handed, Bit, stretch_at, bus, next_wire}
use Rattle.wl_wire.specs.InStep.{AreSoundFrames, AreInIntermission, AreInFrame, AreInStep, IsSender, or_all, stuffed_length, is_fine}
use Rattle.wl_wire.specs.Outcome.{completed, is_acked}
use Rattle.wl_wire.proofs.Bus.{bus_driven, bus_silent}
use Rattle.wl_wire.proofs.Events.{OwnHeads, sample_at, at_bit}
use Rattle.wl_wire.proofs.Quiet.{read_back}
use Rattle.wl_wire.proofs.Stuffing.{IsMember, Receives, member, role_cases, not_both_roles, sends_content, sends_apart, after_none, found_old}

-- The stretch goes on without an error, with or without an acknowledgement, and with these frames completed.
pub record GoesOnBy (acked : Bool) (got : List Ended) (j : Judgement) : Type 0 where
  pub next : j.next ≡ None
  pub fine : is_fine j.happened ≡ true
  pub acked_is : is_acked j.happened ≡ acked
  pub got_is : completed j.ended ≡ got

-- the intermission begins
pub record EndsBy (role : Role) (got : List Ended) (j : Judgement) : Type 0 where
  pub next : j.next ≡ Some (stretch_by (Intermission role) [])
  pub fine : is_fine j.happened ≡ true
  pub acked_is : is_acked j.happened ≡ false
  pub got_is : completed j.ended ≡ got

-- the last bit of the end of frame, of who sent it, and of who received it
abbrev ended_sent : Content → Judgement
ended_sent head = record { happened = happens_there.Sent; ended = Sent head; next = Some (stretch_by (Intermission Tx) []) }

abbrev reception : List Level → Judgement
reception bits = record { happened = happens_there.Nothing; ended = Received (content_of bits); next = None }

-- a transmitter in these bits
sent_on : (head : Content) (n : ℕ) (given : Option Content) (mode : Mode) → n ≢ 1 → n ≢ 9 → GoesOnBy false [] (sent_tail head n (sample_of Recessive given mode))
sent_on head n given mode slot last =
    subst (GoesOnBy false [])
    (sym (ap (λ b. cond b (unanswered mode) (cond (n == 9) (ended_sent head) (continues happens_there.Nothing))) (ne_eqb n 1 slot)
    ∙ ap (λ b. cond b (ended_sent head) (continues happens_there.Nothing)) (ne_eqb n 9 last)))
    (record { next = refl; fine = refl; acked_is = refl; got_is = refl })

sent_slot : (head : Content) (n : ℕ) (given : Option Content) (mode : Mode) → n ≡ 1 → GoesOnBy false [] (sent_tail head n (sample_of Dominant given mode))
sent_slot head n given mode slot =
    subst (λ m. GoesOnBy false [] (sent_tail head m (sample_of Dominant given mode))) (sym slot) (record { next = refl; fine = refl; acked_is = refl; got_is = refl })

sent_end : (head : Content) (n : ℕ) (given : Option Content) (mode : Mode) → n ≡ 9 → EndsBy Tx (Sent head ∷ []) (sent_tail head n (sample_of Recessive given mode))
sent_end head n given mode last =
    subst (λ m. EndsBy Tx (Sent head ∷ []) (sent_tail head m (sample_of Recessive given mode))) (sym last) (record { next = refl; fine = refl; acked_is = refl; got_is = refl })

-- a receiver, where the CRC is right
abbrev pub got_at : List Level → ℕ → List Ended
got_at bits n = cond (n == 8) (Received (content_of bits) ∷ []) []

received_by : (bits : List Level) (mode : Mode) (right wrong : Bool) → wrong ≡ false
    → GoesOnBy false (cond right (Received (content_of bits) ∷ []) []) (cond wrong (fails Rx mode Crc) (cond right (reception bits) (continues happens_there.Nothing)))
received_by bits mode true true e = cc
received_by bits mode false true e = cc
received_by bits mode true false e = record { next = refl; fine = refl; acked_is = refl; got_is = refl }
received_by bits mode false false e = record { next = refl; fine = refl; acked_is = refl; got_is = refl }

received_on : (bits : List Level) (n : ℕ) (given : Option Content) (mode : Mode) → is_crc_right bits ≡ true → n ≢ 1 → n ≢ 9
    → GoesOnBy (n == 1) (got_at bits n) (received_tail bits n (sample_of Recessive given mode))
received_on bits n given mode crc slot last =
    let x : Sampled = sample_of Recessive given mode in
    let rest : Judgement = cond (n == 2 && not (is_crc_right bits)) (fails Rx mode Crc) (cond (n == 8) (reception bits) (continues happens_there.Nothing)) in
    subst (λ b. GoesOnBy b (got_at bits n) (received_tail bits n x)) (sym (ne_eqb n 1 slot))
    (subst (GoesOnBy false (got_at bits n))
    (sym (ap (λ b. cond b (acknowledging bits x) (cond (n == 9) (last_bit x) rest)) (ne_eqb n 1 slot) ∙ ap (λ b. cond b (last_bit x) rest) (ne_eqb n 9 last)))
    (received_by bits mode (n == 8) (n == 2 && not (is_crc_right bits)) (and_right (n == 2) (not (is_crc_right bits)) (ap not crc))))

received_slot : (bits : List Level) (n : ℕ) (given : Option Content) (mode : Mode) → is_crc_right bits ≡ true → n ≡ 1
    → GoesOnBy (n == 1) (got_at bits n) (received_tail bits n (sample_of Dominant given mode))
received_slot bits n given mode crc slot =
    subst (λ m. GoesOnBy (m == 1) (got_at bits m) (received_tail bits m (sample_of Dominant given mode))) (sym slot)
    (subst (GoesOnBy true []) (sym (ap (λ b. cond (not b) (continues happens_there.Nothing) (continues happens_there.Acked)) crc))
    (record { next = refl; fine = refl; acked_is = refl; got_is = refl }))

received_end : (bits : List Level) (n : ℕ) (given : Option Content) (mode : Mode) → n ≡ 9 → EndsBy Rx [] (received_tail bits n (sample_of Recessive given mode))
received_end bits n given mode last =
    subst (λ m. EndsBy Rx [] (received_tail bits m (sample_of Recessive given mode))) (sym last) (record { next = refl; fine = refl; acked_is = refl; got_is = refl })

-- what the next of these bits gives to a machine in this role
abbrev pub acked_in : Role → ℕ → Bool
acked_in Tx n = false
acked_in Rx n = n == 1

abbrev pub got_in : Role → List Level → ℕ → List Ended
got_in Tx bits n = []
got_in Rx bits n = got_at bits n

module _ (w : Wire) (own : List Level) (sound : AreSoundFrames w.count w.frames) (heads : OwnHeads w) (f : AreInFrame w own)
    (end : ℕ) (over : stuffed_end own ≡ Some end) where
  abbrev place : ℕ
  place = length own - end

  abbrev kept : List Level
  kept = destuffed_bits own end

  found_to_end : (k : ℕ) (head : Content) → k < w.count → IsSender w own k head → FoundSent head own end
  found_to_end k head lt s = subst (FoundSent head own) (ap (λ e. or_all e (length own)) over) (f.found k head lt s)

  -- what all have is what a sender sent
  pub kept_is : (k : ℕ) (head : Content) → k < w.count → IsSender w own k head → kept ≡ bits_of head
  kept_is k head lt s = kept_is_all head own end (sends_content w own k head sound heads lt s) over (found_to_end k head lt s)

  -- so there is one
  pub same_head : (j k : ℕ) (a b : Content) → j < w.count → k < w.count → IsSender w own j a → IsSender w own k b → a ≡ b
  same_head j k a b lj lk p q =
      sym (read_back a (sends_content w own j a sound heads lj p)).content
      ∙ ap content_of (sym (kept_is j a lj p) ∙ kept_is k b lk q)
      ∙ (read_back b (sends_content w own k b sound heads lk q)).content

  pub one_sender : (j k : ℕ) (a b : Content) → j < w.count → k < w.count → IsSender w own j a → IsSender w own k b → j ≡ k
  one_sender j k a b lj lk p q = elim (cases_eq j k) [
    | inl e ↦ e
    | inr apart ↦
        (let e : a ≡ b = same_head j k a b lj lk p q in
        absurd (sends_apart w own j k a b sound heads lj lk apart p q (ap (λ c. c.extended) e, ap (λ c. c.id) e, ap (λ c. c.remote) e)))
  ]

  -- a machine that isn't the sender receives
  record Answers : Type 0 where
    machine : ℕ
    inside : machine < w.count
    head : Option Content
    receives : Receives w own machine head

  answers_by : (k : ℕ) → k < w.count → f.sender.0 ≢ k → IsMember w own k → Answers
  answers_by k lt apart (inl m) = absurd (apart (one_sender f.sender.0 k f.sender.2 m.0 f.sender.1 lt f.sender.3 m.1))
  answers_by k lt apart (inr m) = record { machine = k; inside = lt; head = m.0; receives = m.1 }

  answers_at : (k : ℕ) → k < w.count → f.sender.0 ≢ k → Answers
  answers_at k lt apart = answers_by k lt apart (member w own f k lt)

  answers : Answers
  answers = elim (cases_eq f.sender.0 0) [
    | inl first ↦ answers_at 1 (let two : 2 ≤ w.count = sound.two in omega arith) (λ e. omega (arith, e, first))
    | inr other ↦ answers_at 0 (let two : 2 ≤ w.count = sound.two in omega arith) other
  ]

  pub crc : is_crc_right kept ≡ true
  crc = ap is_crc_right (kept_is f.sender.0 f.sender.2 f.sender.1 f.sender.3) ∙ (read_back f.sender.2 (sends_content w own f.sender.0 f.sender.2 sound heads f.sender.1 f.sender.3)).crc

  -- what each drives
  sender_drives : (k : ℕ) (head : Content) → IsSender w own k head → drive_of (stretch_at w k) ≡ Recessive
  sender_drives k head s =
      ap drive_of s.framing ∙ ap (λ e. drive_up_to e (Some head) own) over ∙ ap (λ r. tail_drive r kept place) s.role

  receiver_drives : (k : ℕ) (head : Option Content) → Receives w own k head → drive_of (stretch_at w k) ≡ cond (place == 1) Dominant Recessive
  receiver_drives k head r =
      ap drive_of r.framing ∙ ap (λ e. drive_up_to e head own) over ∙ ap (λ role. tail_drive role kept place) r.role
      ∙ ap (λ c. cond ((place == 1) && c) Dominant Recessive) crc ∙ slot_alone (place == 1)
    where
      slot_alone : (b : Bool) → cond (b && true) Dominant Recessive ≡ cond b Dominant Recessive
      slot_alone true = refl
      slot_alone false = refl

  bus_in_slot : (place == 1) ≡ true → bus w ≡ Dominant
  bus_in_slot slot =
      bus_driven w answers.machine answers.inside (receiver_drives answers.machine answers.head answers.receives ∙ ap (λ b. cond b Dominant Recessive) slot)

  silent_member : (place == 1) ≡ false → (k : ℕ) → IsMember w own k → drive_of (stretch_at w k) ≡ Recessive
  silent_member slot k (inl m) = sender_drives k m.0 m.1
  silent_member slot k (inr m) = receiver_drives k m.0 m.1 ∙ ap (λ b. cond b Dominant Recessive) slot

  bus_elsewhere : (place == 1) ≡ false → bus w ≡ Recessive
  bus_elsewhere slot = bus_silent w (λ k lt. silent_member slot k (member w own f k lt))

  module _ (handed : ℕ → Handed) where
    abbrev given : ℕ → Option Content
    given k = slice_get (w.frames k) (handed k).which

    abbrev mode : ℕ → Mode
    mode k = (handed k).mode

    sends_judged : (k : ℕ) (head : Content) (l : Level) → IsSender w own k head → bus w ≡ l
        → judged (stretch_at w k) (sample_at w handed k) ≡ sent_tail head place (sample_of l (given k) (mode k))
    sends_judged k head l s e =
        ap (λ t. judged t (sample_at w handed k)) s.framing ∙ ap (λ role. framing_by role (Some head) own (sample_at w handed k)) s.role
        ∙ ap (λ o. framing_sent head own o (sample_at w handed k)) over
        ∙ ap (λ b. sent_tail head place (sample_of b (given k) (mode k))) e

    receives_judged : (k : ℕ) (head : Option Content) (l : Level) → Receives w own k head → bus w ≡ l
        → judged (stretch_at w k) (sample_at w handed k) ≡ received_tail kept place (sample_of l (given k) (mode k))
    receives_judged k head l r e =
        ap (λ t. judged t (sample_at w handed k)) r.framing ∙ ap (λ role. framing_by role head own (sample_at w handed k)) r.role
        ∙ ap (λ o. framing_received own o (sample_at w handed k)) over
        ∙ ap (λ b. received_tail kept place (sample_of b (given k) (mode k))) e

    role_is : (k : ℕ) (head : Option Content) (role : Role) → stretch_at w k ≡ stretch_by (Framing head) own → frame_role head own ≡ role → role_of (stretch_at w k) ≡ role
    role_is k head role e r = ap role_of e ∙ r

    abbrev GoesOnIn : ℕ → Role → Judgement → Type 0
    GoesOnIn k role j = GoesOnBy (acked_in role place) (got_in role kept place) j

    as_role : (k : ℕ) (role : Role) → role_of (stretch_at w k) ≡ role → GoesOnIn k role (judged (stretch_at w k) (sample_at w handed k))
        → GoesOnIn k (role_of (stretch_at w k)) (judged (stretch_at w k) (sample_at w handed k))
    as_role k role e g = subst (λ r. GoesOnIn k r (judged (stretch_at w k) (sample_at w handed k))) (sym e) g

    in_slot : place ≡ 1 → (k : ℕ) → IsMember w own k → GoesOnIn k (role_of (stretch_at w k)) (judged (stretch_at w k) (sample_at w handed k))
    in_slot slot k (inl m) =
        as_role k Tx (role_is k (Some m.0) Tx m.1.framing m.1.role)
        (subst (GoesOnBy false []) (sym (sends_judged k m.0 Dominant m.1 (bus_in_slot (ap (λ n. n == 1) slot)))) (sent_slot m.0 place (given k) (mode k) slot))
    in_slot slot k (inr m) =
        as_role k Rx (role_is k m.0 Rx m.1.framing m.1.role)
        (subst (GoesOnBy (place == 1) (got_at kept place)) (sym (receives_judged k m.0 Dominant m.1 (bus_in_slot (ap (λ n. n == 1) slot)))) (received_slot kept place (given k) (mode k) crc slot))

    elsewhere : place ≢ 1 → place ≢ 9 → (k : ℕ) → IsMember w own k → GoesOnIn k (role_of (stretch_at w k)) (judged (stretch_at w k) (sample_at w handed k))
    elsewhere slot last k (inl m) =
        as_role k Tx (role_is k (Some m.0) Tx m.1.framing m.1.role)
        (subst (GoesOnBy false []) (sym (sends_judged k m.0 Recessive m.1 (bus_elsewhere (ne_eqb place 1 slot)))) (sent_on m.0 place (given k) (mode k) slot last))
    elsewhere slot last k (inr m) =
        as_role k Rx (role_is k m.0 Rx m.1.framing m.1.role)
        (subst (GoesOnBy (place == 1) (got_at kept place)) (sym (receives_judged k m.0 Recessive m.1 (bus_elsewhere (ne_eqb place 1 slot)))) (received_on kept place (given k) (mode k) crc slot last))

    pub goes_on_there : place ≢ 9 → (k : ℕ) → k < w.count → GoesOnBy (acked_in (role_of (stretch_at w k)) place) (got_in (role_of (stretch_at w k)) kept place) (judged (stretch_at w k) (sample_at w handed k))
    goes_on_there apart k lt = elim (cases_eq place 1) [
      | inl slot ↦ in_slot slot k (member w own f k lt)
      | inr off ↦ elsewhere off apart k (member w own f k lt)
    ]

    pub sender_ends : place ≡ 9 → (k : ℕ) (head : Content) → IsSender w own k head → EndsBy Tx (Sent head ∷ []) (judged (stretch_at w k) (sample_at w handed k))
    sender_ends last k head s =
        subst (EndsBy Tx (Sent head ∷ [])) (sym (sends_judged k head Recessive s (bus_elsewhere (ap (λ n. n == 1) last)))) (sent_end head place (given k) (mode k) last)

    pub receiver_ends : place ≡ 9 → (k : ℕ) (head : Option Content) → Receives w own k head → EndsBy Rx [] (judged (stretch_at w k) (sample_at w handed k))
    receiver_ends last k head r =
        subst (EndsBy Rx []) (sym (receives_judged k head Recessive r (bus_elsewhere (ap (λ n. n == 1) last)))) (received_end kept place (given k) (mode k) last)

    member_ends : place ≡ 9 → (k : ℕ) → IsMember w own k → (role : Role) × (got : List Ended) × EndsBy role got (judged (stretch_at w k) (sample_at w handed k))
    member_ends last k (inl m) = (Tx, Sent m.0 ∷ [], sender_ends last k m.0 m.1)
    member_ends last k (inr m) = (Rx, [], receiver_ends last k m.0 m.1)

    pub ends_there : place ≡ 9 → (k : ℕ) → k < w.count → (role : Role) × (got : List Ended) × EndsBy role got (judged (stretch_at w k) (sample_at w handed k))
    ends_there e k lt = member_ends e k (member w own f k lt)

    pub tail_fine : (k : ℕ) → k < w.count → is_fine (judged (stretch_at w k) (sample_at w handed k)).happened ≡ true
    tail_fine k lt = elim (cases_eq place 9) [
      | inl e ↦ (ends_there e k lt).2.fine
      | inr apart ↦ (goes_on_there apart k lt).fine
    ]

    -- the frame goes on
    abbrev later : Wire
    later = next_wire w (Bit handed)

    abbrev longer : List Level
    longer = own ++ bus w ∷ []

    pub next_stretch : place ≢ 9 → (k : ℕ) (lt : k < w.count) → stretch_at later k ≡ stretch_by (Framing (f.each k lt).0) longer
    next_stretch apart k lt =
        at_bit w handed k
        ∙ after_none (stretch_at w k) (sample_at w handed k) (Framing (f.each k lt).0) own (f.each k lt).1 (goes_on_there apart k lt).next

    sent_before : place ≢ 9 → (k : ℕ) (head : Content) → k < w.count → IsSender later longer k head → IsSender w own k head
    sent_before apart k head lt s = record {
      framing = (f.each k lt).1 ∙ ap (λ o. stretch_by (Framing o) own) (ap (λ t. head_of t.sort) (sym (next_stretch apart k lt) ∙ s.framing));
      role = elim (role_cases (frame_role (Some head) own)) [
        | inl t ↦ t
        | inr r ↦ absurd (not_both_roles (frame_role (Some head) longer) s.role (role_receives (Some head) own (bus w) r))
      ];
    }

    pub still_over : stuffed_end longer ≡ Some end
    still_over = end_stays own (bus w) end over

    inside : (end ≤ length own) × (length own < end + 10)
    inside = f.tail end over

    pub is_tail : IsTail place end own
    is_tail = record {
      found = over;
      place_is = (let a : end ≤ length own = inside.0 in omega arith);
      below = (let a : end ≤ length own = inside.0 in let b : length own < end + 10 = inside.1 in omega arith);
    }

    found_still : place ≢ 9 → (k : ℕ) (head : Content) → k < w.count → IsSender later longer k head → FoundSent head longer (stuffed_length longer)
    found_still apart k head lt s =
        subst (FoundSent head longer) (sym (ap (λ e. or_all e (length longer)) still_over))
        (found_old head own (bus w) end inside.0 (found_to_end k head lt (sent_before apart k head lt s)))

    tail_within : place ≢ 9 → (n : ℕ) → stuffed_end longer ≡ Some n → (n ≤ length longer) × (length longer < n + 10)
    tail_within apart n e =
        let here : end ≡ n = some_place (sym still_over ∙ e) in
        let more : length longer ≡ length own + 1 = length_more own (bus w) in
        let a : end ≤ length own = inside.0 in
        let b : length own < end + 10 = inside.1 in
        (omega arith, omega (arith, apart))
      where
        some_place : Some end ≡ Some n → end ≡ n
        some_place p = cc

    pub frame_goes_on : place ≢ 9 → AreInFrame later longer
    frame_goes_on apart = record {
      begun = (let more : length longer ≡ length own + 1 = length_more own (bus w) in omega arith);
      each = λ k lt. ((f.each k lt).0, next_stretch apart k lt);
      sender = (
        f.sender.0,
        f.sender.1,
        f.sender.2,
        record {
          framing =
              next_stretch apart f.sender.0 f.sender.1
              ∙ ap (λ o. stretch_by (Framing o) longer) (ap (λ t. head_of t.sort) (sym (f.each f.sender.0 f.sender.1).1 ∙ f.sender.3.framing));
          role = tail_sends f.sender.2 place end own (bus w) is_tail f.sender.3.role;
        },
      );
      found = found_still apart;
      tail = tail_within apart;
    }

    -- the frame ends
    pub frame_ends : place ≡ 9 → AreInIntermission later []
    frame_ends e = record {
      each = λ k lt. (
        (ends_there e k lt).0,
        at_bit w handed k ∙ ap (λ n. or_next n (stretch_by (stretch_at w k).sort ((stretch_at w k).own ++ bus w ∷ []))) (ends_there e k lt).2.next,
      );
      short = omega arith;
    }

    pub tail_bit : AreInStep later
    tail_bit = elim (cases_eq place 9) [
      | inl e ↦ inr (inl ([], frame_ends e))
      | inr apart ↦ inr (inr (longer, frame_goes_on apart))
    ]
