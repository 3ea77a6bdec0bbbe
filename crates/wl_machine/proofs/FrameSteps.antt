-- Frames, one sample later: what each function of the machine owes.
use Rattle.std.proofs.Common.{◌≡◌, ℕ, ◌+◌, ◌-◌, ◌<◌, ◌≤◌, ◌∙◌, List, [], ◌∷◌, ◌++◌, length, Bool, true, false, not, cond, ◌&&◌, Option, Some, None, refl, sym, ap, subst, arith, inl, inr, ◌⊎◌}
use Rattle.std.specs.Prelude.{nat_le, nat_eq}
use Rattle.std.proofs.lemmas.Bool.{le-leb, lt-leb, ne_eqb, and_from, and_right, cases_lt}
use Rattle.wl_level.specs.declared.Level.{Level}
use Rattle.wl_level.specs.declared.Level.TheVariants.{Dominant, Recessive}
use Rattle.wl_level.specs.Levels.{same, is_dominant, opposite}
use Rattle.wl_level.specs.Places.{at, before}
use Rattle.wl_confine.specs.declared.ErrorKind.TheVariants.{Bit, Stuff, Form, Crc, Ack}
use Rattle.wl_confine.specs.declared.Mode.{Mode}
use Rattle.wl_confine.specs.declared.Mode.TheVariants.{Active, Passive, Off}
use Rattle.wl_confine.specs.declared.Happened.{Happened}
use Rattle.wl_confine.specs.declared.Happened.TheVariants as happens
use Rattle.wl_frame.specs.Stuffing.{is_stuff, destuffed_bits}
use Rattle.wl_frame.specs.Grammar.{Content, bits_of, is_arbitration, is_crc_right, content_of, layout_of}
use Rattle.wl_machine.specs.declared.progress.Progress.{Progress}
use Rattle.wl_machine.specs.declared.progress.Step.{Step}
use Rattle.wl_machine.specs.declared.state.Role.TheVariants.{Tx, Rx}
use Rattle.wl_machine.specs.declared.state.State.TheVariants as states
use Rattle.wl_machine.specs.Stretch.{Sampled, Ended, Judgement, continues, begins}
use Rattle.wl_machine.specs.Stretch.Sort.{Framing, Flagging, Intermission}
use Rattle.wl_machine.specs.Stretch.Ended.{Sent, Received}
use Rattle.wl_machine.specs.Flags.{error_flag, fails}
use Rattle.wl_machine.specs.Frames.{stuffed_end, sent_at, frame_role, framing, framing_by, framing_sent, framing_received, sending, differing, receiving, unanswered, acknowledging, last_bit, sent_tail, received_tail}
use Rattle.wl_machine.specs.States.{IsIn, IsAtState, IsStuffedPart, IsTail, IsReceivedTail, Meets, stretch_by, done_of}
use Rattle.wl_machine.proofs.Steps.{says, meets_by}
use Rattle.wl_machine.proofs.Framed.{due_by_run, role_receives, lost_next, tail_next, tail_bits, tail_sends}

-- which judgement is asked

pub received_is : (head : Option Content) (own : List Level) (x : Sampled) → frame_role head own ≡ Rx → framing head own x ≡ framing_received own (stuffed_end own) x
received_is head own x role = ap (λ r. framing_by r head own x) role

pub sent_is : (head : Content) (own : List Level) (x : Sampled) → frame_role (Some head) own ≡ Tx → framing (Some head) own x ≡ framing_sent head own (stuffed_end own) x
sent_is head own x role = ap (λ r. framing_by r (Some head) own x) role

pub receiving_is : (head : Option Content) (own : List Level) (x : Sampled) → frame_role head own ≡ Rx → stuffed_end own ≡ None → framing head own x ≡ receiving own x
receiving_is head own x role going = received_is head own x role ∙ ap (λ e. framing_received own e x) going

pub sending_is : (head : Content) (own : List Level) (x : Sampled) → frame_role (Some head) own ≡ Tx → stuffed_end own ≡ None → framing (Some head) own x ≡ sending head own x
sending_is head own x role going = sent_is head own x role ∙ ap (λ e. framing_sent head own e x) going

pub received_tail_is : (head : Option Content) (own : List Level) (x : Sampled) (place end : ℕ) → frame_role head own ≡ Rx → IsTail place end own
    → framing head own x ≡ received_tail (destuffed_bits own end) place x
received_tail_is head own x place end role t =
    let place_is : place + end ≡ length own = t.place_is in
    let here : length own - end ≡ place = omega arith in
    received_is head own x role ∙ ap (λ e. framing_received own e x) t.found ∙ ap (λ n. received_tail (destuffed_bits own end) n x) here

pub sent_tail_is : (head : Content) (own : List Level) (x : Sampled) (place end : ℕ) → frame_role (Some head) own ≡ Tx → IsTail place end own
    → framing (Some head) own x ≡ sent_tail head place x
sent_tail_is head own x place end role t =
    let place_is : place + end ≡ length own = t.place_is in
    let here : length own - end ≡ place = omega arith in
    sent_is head own x role ∙ ap (λ e. framing_sent head own e x) t.found ∙ ap (λ n. sent_tail head n x) here

-- a frame goes on
pub frame_on : (m : Progress) (step : Step) (head : Option Content) (own : List Level) (x : Sampled) (happened : Happened) → framing head own x ≡ continues happened
    → step ≡ says happened → IsIn m (stretch_by (Framing head) (own ++ x.level ∷ [])) → Meets m step (stretch_by (Framing head) own) x
frame_on m step head own x happened e is p = meets_by m step (stretch_by (Framing head) own) x (continues happened) e (ap (λ a. a.happened) is) (ap (λ a. a.done) is) p

-- a receiver's tail goes on
pub received_tail_on : (m : Progress) (step : Step) (head : Option Content) (own : List Level) (x : Sampled) (place end : ℕ) (right : Bool) (bits : List Level) (happened : Happened) (ended : Ended)
    → frame_role head own ≡ Rx → IsReceivedTail place end right bits own → place < 9
    → received_tail (destuffed_bits own end) place x ≡ record { happened = happened; ended = ended; next = None }
    → step ≡ record { happened = happened; done = done_of ended } → m.state ≡ states.ReceivedTail (place + 1) right → m.bits.items ≡ bits
    → Meets m step (stretch_by (Framing head) own) x
received_tail_on m step head own x place end right bits happened ended role t below e is at b =
    meets_by m step (stretch_by (Framing head) own) x (record { happened = happened; ended = ended; next = None })
    (received_tail_is head own x place end role t.tail ∙ e) (ap (λ a. a.happened) is) (ap (λ a. a.done) is)
    (subst (λ st. IsAtState st m.bits.items m.sent.items (Framing head) (own ++ x.level ∷ [])) (sym at) (
      head,
      refl,
      role_receives head own x.level role,
      end,
      record {
        tail = tail_next place end own x.level t.tail below;
        bits_are = b ∙ t.bits_are ∙ sym (tail_bits place end own x.level t.tail);
        right_is = t.right_is ∙ ap is_crc_right (sym b);
      },
    ))

-- a transmitter's tail goes on
pub sent_tail_on : (m : Progress) (step : Step) (head : Content) (own : List Level) (x : Sampled) (place end : ℕ)
    → frame_role (Some head) own ≡ Tx → IsTail place end own → place < 9 → sent_tail head place x ≡ continues happens.Nothing
    → step ≡ says happens.Nothing → m.state ≡ states.SentTail (place + 1) → Meets m step (stretch_by (Framing (Some head)) own) x
sent_tail_on m step head own x place end role t below e is at =
    frame_on m step (Some head) own x happens.Nothing (sent_tail_is head own x place end role t ∙ e) is
    (subst (λ st. IsAtState st m.bits.items m.sent.items (Framing (Some head)) (own ++ x.level ∷ [])) (sym at)
    (head, refl, tail_sends head place end own x.level t role, end, tail_next place end own x.level t below))

-- a transmitter's tail, by its place

pub sent_unanswered : (head : Content) (place : ℕ) (x : Sampled) → place ≡ 1 → is_dominant x.level ≡ false → sent_tail head place x ≡ unanswered x.mode
sent_unanswered head place x one d = ap (λ n. sent_tail head n x) one ∙ ap (λ b. cond b (continues happens.Nothing) (unanswered x.mode)) d

pub sent_answered : (head : Content) (place : ℕ) (x : Sampled) → place ≡ 1 → is_dominant x.level ≡ true → sent_tail head place x ≡ continues happens.Nothing
sent_answered head place x one d = ap (λ n. sent_tail head n x) one ∙ ap (λ b. cond b (continues happens.Nothing) (unanswered x.mode)) d

abbrev sent_cond : Content → Sampled → Bool → Bool → Bool → Judgement
sent_cond head x one dominant nine =
    cond one (cond (is_dominant x.level) (continues happens.Nothing) (unanswered x.mode))
    (cond dominant (fails Tx x.mode Bit)
    (cond nine (record { happened = happens.Sent; ended = Sent head; next = Some (stretch_by (Intermission Tx) []) }) (continues happens.Nothing)))

pub sent_next : (head : Content) (place : ℕ) (x : Sampled) → (place ≡ 1 → ⊥) → is_dominant x.level ≡ false → (place ≡ 9 → ⊥) → sent_tail head place x ≡ continues happens.Nothing
sent_next head place x one d nine =
    ap (λ b. sent_cond head x b (is_dominant x.level) (nat_eq place 9)) (ne_eqb place 1 one)
    ∙ ap (λ b. sent_cond head x false b (nat_eq place 9)) d
    ∙ ap (sent_cond head x false false) (ne_eqb place 9 nine)

-- a receiver's tail, by its place

pub answered : (bits : List Level) (x : Sampled) (right : Bool) → right ≡ is_crc_right bits → right ≡ true → is_dominant x.level ≡ true
    → received_tail bits 1 x ≡ continues happens.Acked
answered bits x right e r d =
    ap (λ b. cond (not b) (continues happens.Nothing) (cond (is_dominant x.level) (continues happens.Acked) (fails Rx x.mode Bit))) (sym e ∙ r)
    ∙ ap (λ b. cond b (continues happens.Acked) (fails Rx x.mode Bit)) d

pub not_answered : (bits : List Level) (x : Sampled) (right : Bool) → right ≡ is_crc_right bits → right ≡ false → received_tail bits 1 x ≡ continues happens.Nothing
not_answered bits x right e r =
    ap (λ b. cond (not b) (continues happens.Nothing) (cond (is_dominant x.level) (continues happens.Acked) (fails Rx x.mode Bit))) (sym e ∙ r)

pub last_is : (bits : List Level) (place : ℕ) (x : Sampled) → place ≡ 9 → received_tail bits place x ≡ last_bit x
last_is bits place x nine = ap (λ n. received_tail bits n x) nine

abbrev received_cond : List Level → Sampled → Bool → Bool → Bool → Bool → Bool → Judgement
received_cond bits x one nine dominant wrong eight =
    cond one (acknowledging bits x) (cond nine (last_bit x) (cond dominant (fails Rx x.mode Form) (cond wrong (fails Rx x.mode Crc)
    (cond eight (record { happened = happens.Nothing; ended = Received (content_of bits); next = None }) (continues happens.Nothing)))))

received_by : (bits : List Level) (place : ℕ) (x : Sampled) → (place ≡ 1 → ⊥) → (place ≡ 9 → ⊥) → is_dominant x.level ≡ false
    → (nat_eq place 2 && not (is_crc_right bits)) ≡ false → received_tail bits place x ≡ received_cond bits x false false false false (nat_eq place 8)
received_by bits place x one nine d w =
    ap (λ b. received_cond bits x b (nat_eq place 9) (is_dominant x.level) (nat_eq place 2 && not (is_crc_right bits)) (nat_eq place 8)) (ne_eqb place 1 one)
    ∙ ap (λ b. received_cond bits x false b (is_dominant x.level) (nat_eq place 2 && not (is_crc_right bits)) (nat_eq place 8)) (ne_eqb place 9 nine)
    ∙ ap (λ b. received_cond bits x false false b (nat_eq place 2 && not (is_crc_right bits)) (nat_eq place 8)) d
    ∙ ap (λ b. received_cond bits x false false false b (nat_eq place 8)) w

pub received_now : (bits : List Level) (place : ℕ) (x : Sampled) → is_dominant x.level ≡ false → place ≡ 8
    → received_tail bits place x ≡ record { happened = happens.Nothing; ended = Received (content_of bits); next = None }
received_now bits place x d eight =
    ap (λ n. received_tail bits n x) eight
    ∙ ap (λ b. received_cond bits x false false b false true) d

pub received_next : (bits : List Level) (place : ℕ) (x : Sampled) → (place ≡ 1 → ⊥) → (place ≡ 9 → ⊥) → is_dominant x.level ≡ false
    → (nat_eq place 2 && not (is_crc_right bits)) ≡ false → (place ≡ 8 → ⊥) → received_tail bits place x ≡ continues happens.Nothing
received_next bits place x one nine d w eight = received_by bits place x one nine d w ∙ ap (received_cond bits x false false false false) (ne_eqb place 8 eight)

-- the CRC sequence is not found wrong here
pub not_wrong : (place : ℕ) (right : Bool) (bits : List Level) → ((place ≡ 2) × (right ≡ true)) ⊎ (place ≡ 2 → ⊥) → right ≡ is_crc_right bits
    → (nat_eq place 2 && not (is_crc_right bits)) ≡ false
not_wrong place right bits (inl h) e = ap (λ b. nat_eq place 2 && not b) (sym e ∙ h.1) ∙ and_right (nat_eq place 2) false refl
not_wrong place right bits (inr h) e = ap (λ b. b && not (is_crc_right bits)) (ne_eqb place 2 h)

pub unanswered_fails : (mode : Mode) → (mode ≡ Passive → ⊥) → unanswered mode ≡ fails Tx mode Ack
unanswered_fails Active h = refl
unanswered_fails Passive h = absurd (h refl)
unanswered_fails Off h = refl

-- up to the end of the stuffed part

same_turned : (a b : Level) → same a b ≡ same b a
same_turned Dominant Dominant = refl
same_turned Dominant Recessive = refl
same_turned Recessive Dominant = refl
same_turned Recessive Recessive = refl

-- a sixth equal sample, as the run tells it
pub six_is : (own : List Level) (x last : Level) (run : ℕ) (bits : List Level) → IsStuffedPart last run bits own
    → (is_stuff own (length own) && same x (before own (length own))) ≡ (nat_le 5 run && same last x)
six_is own x last run bits p =
    ap (λ s. s && same x (before own (length own))) (due_by_run last run bits own p)
    ∙ ap (λ l. nat_le 5 run && same x l) (sym p.last_is)
    ∙ ap (λ b. nat_le 5 run && b) (same_turned x last)

pub receiving_six : (head : Option Content) (own : List Level) (x : Sampled) (last : Level) (run : ℕ) (bits : List Level) → frame_role head own ≡ Rx → IsStuffedPart last run bits own
    → 5 ≤ run → same last x.level ≡ true → framing head own x ≡ fails Rx x.mode Stuff
receiving_six head own x last run bits role p due six =
    receiving_is head own x role p.going_on
    ∙ ap (λ b. cond b (fails Rx x.mode Stuff) (continues happens.Nothing)) (six_is own x.level last run bits p ∙ and_from (nat_le 5 run) (same last x.level) (le-leb 5 run due) six)

no_six : (last x : Level) (run : ℕ) → (5 ≤ run → same last x ≡ false) → (nat_le 5 run && same last x) ≡ false
no_six last x run h = elim (cases_lt run 5) [
  | inl short ↦ ap (λ b. b && same last x) (lt-leb 5 run short)
  | inr due ↦ and_right (nat_le 5 run) (same last x) (h due)
]

pub receiving_on : (head : Option Content) (own : List Level) (x : Sampled) (last : Level) (run : ℕ) (bits : List Level) → frame_role head own ≡ Rx → IsStuffedPart last run bits own
    → (5 ≤ run → same last x.level ≡ false) → framing head own x ≡ continues happens.Nothing
receiving_on head own x last run bits role p h =
    receiving_is head own x role p.going_on
    ∙ ap (λ b. cond b (fails Rx x.mode Stuff) (continues happens.Nothing)) (six_is own x.level last run bits p ∙ no_six last x.level run h)

-- the level that a transmitter sends
pub sent_level_is : (head : Content) (own : List Level) (last : Level) (run : ℕ) (bits sent : List Level) → IsStuffedPart last run bits own → sent ≡ bits_of head
    → cond (nat_le 5 run) (opposite last) (at sent (length bits)) ≡ sent_at head own (length own)
sent_level_is head own last run bits sent p s =
    ap (λ b. cond b (opposite last) (at sent (length bits))) (sym (due_by_run last run bits own p))
    ∙ ap (λ l. cond (is_stuff own (length own)) (opposite l) (at sent (length bits))) p.last_is
    ∙ ap (λ b. cond (is_stuff own (length own)) (opposite (before own (length own))) (at sent (length b))) p.bits_are
    ∙ ap (λ b. cond (is_stuff own (length own)) (opposite (before own (length own))) (at b (length (destuffed_bits own (length own))))) s

pub sending_same : (head : Content) (own : List Level) (x : Sampled) → frame_role (Some head) own ≡ Tx → stuffed_end own ≡ None
    → same (sent_at head own (length own)) x.level ≡ true → framing (Some head) own x ≡ continues happens.Nothing
sending_same head own x role going e =
    sending_is head own x role going ∙ ap (λ b. cond b (continues happens.Nothing) (differing head own x)) e

pub sending_differs : (head : Content) (own : List Level) (x : Sampled) → frame_role (Some head) own ≡ Tx → stuffed_end own ≡ None
    → same (sent_at head own (length own)) x.level ≡ false → framing (Some head) own x ≡ differing head own x
sending_differs head own x role going e =
    sending_is head own x role going ∙ ap (λ b. cond b (continues happens.Nothing) (differing head own x)) e

-- an equal sample is no loss
pub not_lost_same : (head : Content) (own : List Level) (x : Level) → same (sent_at head own (length own)) x ≡ true → lost_next head own x ≡ false
not_lost_same head own x e =
    no_loss (not (is_stuff own (length own)) && is_arbitration (bits_of head) (length (destuffed_bits own (length own)))) (sent_at head own (length own)) x e
  where
    no_loss : (b : Bool) (sent x : Level) → same sent x ≡ true → (b && not (is_dominant sent) && is_dominant x) ≡ false
    no_loss true Dominant Dominant e = refl
    no_loss true Dominant Recessive e = cc
    no_loss true Recessive Dominant e = cc
    no_loss true Recessive Recessive e = refl
    no_loss false sent x e = refl

-- after five equal samples a transmitter sends the other level
pub sent_opposite : (last x sent : Level) (bits : List Level) (run : ℕ) (place : ℕ) → sent ≡ cond (nat_le 5 run) (opposite last) (at bits place) → same sent x ≡ true → 5 ≤ run → same last x ≡ false
sent_opposite last x sent bits run place s e due = other last x sent (s ∙ ap (λ b. cond b (opposite last) (at bits place)) (le-leb 5 run due)) e
  where
    other : (last x sent : Level) → sent ≡ opposite last → same sent x ≡ true → same last x ≡ false
    other Dominant Dominant sent s e = (let no : false ≡ true = sym (ap (λ l. same l Dominant) s) ∙ e in cc)
    other Dominant Recessive sent s e = refl
    other Recessive Dominant sent s e = refl
    other Recessive Recessive sent s e = (let no : false ≡ true = sym (ap (λ l. same l Recessive) s) ∙ e in cc)

abbrev differ_cond : Content → Sampled → Bool → Bool → Bool → Bool → Judgement
differ_cond head x dominant stuff early arbitration =
    cond dominant (fails Tx x.mode Bit)
    (cond stuff (cond early (begins happens.TxFree (Flagging (error_flag x.mode) Tx) []) (fails Tx x.mode Bit))
    (cond arbitration (continues happens.Nothing) (fails Tx x.mode Bit)))

-- the judgement of a difference, by what the code asks
differing_is : (head : Content) (own : List Level) (x : Sampled) (last : Level) (run : ℕ) (bits : List Level) (sent : Level) → IsStuffedPart last run bits own → sent ≡ sent_at head own (length own)
    → differing head own x ≡ differ_cond head x (is_dominant sent) (nat_le 5 run) (nat_le (length bits) (layout_of (bits_of head)).rtr) (is_arbitration (bits_of head) (length bits))
differing_is head own x last run bits sent p s =
    ap (λ l. differ_cond head x (is_dominant l) (is_stuff own (length own)) (nat_le (length (destuffed_bits own (length own))) (layout_of (bits_of head)).rtr) (is_arbitration (bits_of head) (length (destuffed_bits own (length own))))) (sym s)
    ∙ ap (λ b. differ_cond head x (is_dominant sent) b (nat_le (length (destuffed_bits own (length own))) (layout_of (bits_of head)).rtr) (is_arbitration (bits_of head) (length (destuffed_bits own (length own))))) (due_by_run last run bits own p)
    ∙ ap (λ b. differ_cond head x (is_dominant sent) (nat_le 5 run) (nat_le (length b) (layout_of (bits_of head)).rtr) (is_arbitration (bits_of head) (length b))) (sym p.bits_are)

module _ (head : Content) (own : List Level) (x : Sampled) (last : Level) (run : ℕ) (bits : List Level) (sent : Level) (p : IsStuffedPart last run bits own) (s : sent ≡ sent_at head own (length own)) where
  abbrev early : Bool
  early = nat_le (length bits) (layout_of (bits_of head)).rtr

  abbrev arbitrates : Bool
  arbitrates = is_arbitration (bits_of head) (length bits)

  pub differ_dominant : is_dominant sent ≡ true → differing head own x ≡ fails Tx x.mode Bit
  differ_dominant d = differing_is head own x last run bits sent p s ∙ ap (λ b. differ_cond head x b (nat_le 5 run) early arbitrates) d

  pub differ_early : is_dominant sent ≡ false → 5 ≤ run → length bits ≤ (layout_of (bits_of head)).rtr
      → differing head own x ≡ begins happens.TxFree (Flagging (error_flag x.mode) Tx) []
  differ_early d due e =
      differing_is head own x last run bits sent p s ∙ ap (λ b. differ_cond head x b (nat_le 5 run) early arbitrates) d
      ∙ ap (λ b. differ_cond head x false b early arbitrates) (le-leb 5 run due) ∙ ap (λ b. differ_cond head x false true b arbitrates) (le-leb _ _ e)

  pub differ_late : is_dominant sent ≡ false → 5 ≤ run → (layout_of (bits_of head)).rtr < length bits → differing head own x ≡ fails Tx x.mode Bit
  differ_late d due e =
      differing_is head own x last run bits sent p s ∙ ap (λ b. differ_cond head x b (nat_le 5 run) early arbitrates) d
      ∙ ap (λ b. differ_cond head x false b early arbitrates) (le-leb 5 run due) ∙ ap (λ b. differ_cond head x false true b arbitrates) (lt-leb _ _ e)

  pub differ_lost : is_dominant sent ≡ false → run < 5 → is_arbitration (bits_of head) (length bits) ≡ true → differing head own x ≡ continues happens.Nothing
  differ_lost d short a =
      differing_is head own x last run bits sent p s ∙ ap (λ b. differ_cond head x b (nat_le 5 run) early arbitrates) d
      ∙ ap (λ b. differ_cond head x false b early arbitrates) (lt-leb 5 run short) ∙ ap (differ_cond head x false false early) a

  pub differ_error : is_dominant sent ≡ false → run < 5 → is_arbitration (bits_of head) (length bits) ≡ false → differing head own x ≡ fails Tx x.mode Bit
  differ_error d short a =
      differing_is head own x last run bits sent p s ∙ ap (λ b. differ_cond head x b (nat_le 5 run) early arbitrates) d
      ∙ ap (λ b. differ_cond head x false b early arbitrates) (lt-leb 5 run short) ∙ ap (differ_cond head x false false early) a

  -- a dominant sample where recessive was sent in the arbitration is a loss
  pub is_loss : is_dominant sent ≡ false → run < 5 → is_arbitration (bits_of head) (length bits) ≡ true → same sent x.level ≡ false → lost_next head own x.level ≡ true
  is_loss d short a e =
      ap (λ b. not b && is_arbitration (bits_of head) (length (destuffed_bits own (length own))) && not (is_dominant (sent_at head own (length own))) && is_dominant x.level)
      (due_by_run last run bits own p ∙ lt-leb 5 run short)
      ∙ ap (λ b. is_arbitration (bits_of head) (length b) && not (is_dominant (sent_at head own (length own))) && is_dominant x.level) (sym p.bits_are)
      ∙ ap (λ b. b && not (is_dominant (sent_at head own (length own))) && is_dominant x.level) a
      ∙ ap (λ l. not (is_dominant l) && is_dominant x.level) (sym s)
      ∙ loss sent x.level d e
    where
      loss : (sent x : Level) → is_dominant sent ≡ false → same sent x ≡ false → (not (is_dominant sent) && is_dominant x) ≡ true
      loss Dominant x d e = cc
      loss Recessive Dominant d e = refl
      loss Recessive Recessive d e = cc
