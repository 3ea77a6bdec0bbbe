-- One machine at the end of a frame, place by place.
use Rattle.std.proofs.Common.{◌≡◌, ◌≢◌, ◌∙◌, inl, inr, refl, sym, ap, subst, ℕ, zero, suc, ◌+◌, ◌-◌, ◌<◌, ◌&&◌, not, cond, Bool, true, false, List, [], ◌∷◌, ◌++◌, length, replicate, Option, Some, None, arith, append_assoc, append-nil}
use Rattle.std.specs.Prelude.{◌==◌}
use Rattle.std.proofs.lemmas.Bool.{both_ways, cases_eq, cases_lt, eqb-true, le-ltb, lt-ltb, ne_eqb}
use Rattle.wl_level.specs.declared.Level.{Level}
use Rattle.wl_level.specs.declared.Level.TheVariants.{Dominant, Recessive}
use Rattle.wl_level.specs.Levels.{is_dominant, level_of}
use Rattle.wl_confine.specs.declared.ErrorKind.TheVariants.{Bit, Crc, Form}
use Rattle.wl_confine.specs.declared.Mode.{Mode}
use Rattle.wl_confine.specs.declared.Happened.TheVariants as happens
use Rattle.wl_frame.specs.Stuffing.{destuffed_bits}
use Rattle.wl_frame.specs.Grammar.{Content, content_of, is_crc_right}
use Rattle.wl_frame.proofs.Callers.{kept_old, length_more}
use Rattle.wl_machine.specs.declared.state.Role.{Role}
use Rattle.wl_machine.specs.declared.state.Role.TheVariants.{Rx, Tx}
use Rattle.wl_machine.specs.Stretch.{Ended, Judgement, Sampled, Stretch, begins, continues, free}
use Rattle.wl_machine.specs.BetweenFrames.{after_intermission}
use Rattle.wl_confine.specs.declared.Mode.TheVariants.{Active}
use Rattle.wl_machine.specs.Stretch.Ended.{NoFrame, Received, Sent}
use Rattle.wl_machine.specs.Stretch.Input.{Sample}
use Rattle.wl_machine.specs.Stretch.Sort.{Framing, Intermission}
use Rattle.wl_machine.specs.Flags.{fails}
use Rattle.wl_machine.specs.Frames.{drive_up_to, frame_role, framing_by, framing_received, framing_sent, last_bit, received_tail, sent_tail, stuffed_end, tail_drive, unanswered}
use Rattle.wl_machine.specs.Judged.{drive_of, judged, or_next, stretch_after}
use Rattle.wl_machine.specs.States.{sample_of, stretch_by}
use Rattle.wl_machine.proofs.Callers.{end_stays, role_receives, tail_sends}
use Rattle.wl_wire.specs.InStep.{is_fine}
use Rattle.wl_wire.proofs.Callers.{role_cases}
use Rattle.wl_buses.specs.FrameEnd.Ends.{GoesToEnd, end_bit, end_drive, end_frame, end_levels, end_stretch}

-- what a sample does
abbrev JudgedAs : (next : Option Stretch) → (ended : Ended) → Judgement → Type 0
JudgedAs next ended j = (j.next ≡ next) × (is_fine j.happened ≡ true) × (j.ended ≡ ended)

other_place : (n m k : ℕ) → m ≢ k → (n == m) ≡ true → (n == k) ≡ false
other_place n m k apart e = ne_eqb n k (λ f. (let g = eqb-true n m e in apart (sym g ∙ f)))

-- the intermission begins after the last bit of the end of frame
abbrev begins_pause : Role → (last : Bool) → Option Stretch
begins_pause role last = cond last (Some (stretch_by (Intermission role) [])) None

abbrev is_sent : Content → Judgement
is_sent h = record { happened = happens.Sent; ended = Sent h; next = Some (stretch_by (Intermission Tx) []) }

-- a transmitter, by what place it is
sent_by : (h : Content) (mode : Mode) (slot last : Bool) → (slot ≡ true → last ≡ false)
    → JudgedAs (begins_pause Tx last) (cond last (Sent h) NoFrame)
    (cond slot (cond (is_dominant (level_of slot)) (continues happens.Nothing) (unanswered mode))
    (cond (is_dominant (level_of slot)) (fails Tx mode Bit) (cond last (is_sent h) (continues happens.Nothing))))
sent_by h mode true true apart = absurd (both_ways true (apart refl) refl)
sent_by h mode true false apart = (refl, refl, refl)
sent_by h mode false true apart = (refl, refl, refl)
sent_by h mode false false apart = (refl, refl, refl)

sender_judges : (h : Content) (n : ℕ) (given : Option Content) (mode : Mode)
    → JudgedAs (begins_pause Tx (n == 9)) (cond (n == 9) (Sent h) NoFrame) (sent_tail h n (sample_of (level_of (n == 1)) given mode))
sender_judges h n given mode = sent_by h mode (n == 1) (n == 9) (other_place n 1 9 (λ e. omega (arith, e)))

-- a receiver
received_by : (bits : List Level) (mode : Mode) (slot last got crc : Bool) (wrong : Bool) → crc ≡ true → wrong ≡ false → (slot ≡ true → last ≡ false) → (slot ≡ true → got ≡ false) → (last ≡ true → got ≡ false)
    → JudgedAs (begins_pause Rx last) (cond got (Received (content_of bits)) NoFrame)
    (cond slot (cond (not crc) (continues happens.Nothing) (cond (is_dominant (level_of slot)) (continues happens.Acked) (fails Rx mode Bit)))
    (cond last (last_bit (sample_of (level_of slot) None mode))
    (cond (is_dominant (level_of slot)) (fails Rx mode Form) (cond wrong (fails Rx mode Crc) (cond got (record { happened = happens.Nothing; ended = Received (content_of bits); next = None }) (continues happens.Nothing))))))
received_by bits mode slot last got false wrong c w a b d = cc
received_by bits mode slot last got true true c w a b d = cc
received_by bits mode true true got true false c w a b d = absurd (both_ways true (a refl) refl)
received_by bits mode true false true true false c w a b d = absurd (both_ways true (b refl) refl)
received_by bits mode true false false true false c w a b d = (refl, refl, refl)
received_by bits mode false true true true false c w a b d = absurd (both_ways true (d refl) refl)
received_by bits mode false true false true false c w a b d = (refl, refl, refl)
received_by bits mode false false true true false c w a b d = (refl, refl, refl)
received_by bits mode false false false true false c w a b d = (refl, refl, refl)

right_crc : (b c : Bool) → c ≡ true → (b && not c) ≡ false
right_crc true c e = ap not e
right_crc false c e = refl

receiver_judges : (bits : List Level) (n : ℕ) (given : Option Content) (mode : Mode) → is_crc_right bits ≡ true
    → JudgedAs (begins_pause Rx (n == 9)) (cond (n == 8) (Received (content_of bits)) NoFrame) (received_tail bits n (sample_of (level_of (n == 1)) given mode))
receiver_judges bits n given mode crc =
    received_by bits mode (n == 1) (n == 9) (n == 8) (is_crc_right bits) (n == 2 && not (is_crc_right bits)) crc (right_crc (n == 2) (is_crc_right bits) crc)
    (other_place n 1 9 (λ e. omega (arith, e))) (other_place n 1 8 (λ e. omega (arith, e))) (other_place n 9 8 (λ e. omega (arith, e)))

-- the end of one frame
module _ (head : Option Content) (own : List Level) (over : stuffed_end own ≡ Some (length own)) (crc : is_crc_right (destuffed_bits own (length own)) ≡ true) where
  abbrev bits : List Level
  bits = destuffed_bits own (length own)

  abbrev role : Role
  role = frame_role head own

  abbrev upto : ℕ → List Level
  upto n = own ++ end_levels n

  upto_next : (n : ℕ) → upto n ++ level_of (end_bit n) ∷ [] ≡ upto (suc n)
  upto_next n = append_assoc own (end_levels n) (level_of (end_bit n) ∷ [])

  upto_length : (n : ℕ) → length (upto n) ≡ n + length own
  upto_length zero = ap length (append-nil own) ∙ (let e : length own ≡ 0 + length own = omega arith in e)
  upto_length (suc n) = (let e = upto_length n in let f = length_more (upto n) (level_of (end_bit n)) in ap length (sym (upto_next n)) ∙ omega arith)

  end_there : (n : ℕ) → stuffed_end (upto n) ≡ Some (length own)
  end_there zero = ap stuffed_end (append-nil own) ∙ over
  end_there (suc n) = ap stuffed_end (sym (upto_next n)) ∙ end_stays (upto n) (level_of (end_bit n)) (length own) (end_there n)

  bits_there : (n : ℕ) → destuffed_bits (upto n) (length own) ≡ bits
  bits_there zero = ap (λ v. destuffed_bits v (length own)) (append-nil own)
  bits_there (suc n) =
      (let e = upto_length n in
      ap (λ v. destuffed_bits v (length own)) (sym (upto_next n)) ∙ kept_old (upto n) (level_of (end_bit n)) (length own) (omega arith) ∙ bits_there n)

  place_there : (n : ℕ) → length (upto n) - length own ≡ n
  place_there n = let e = upto_length n in omega arith

  sends_there : (h : Content) (n : ℕ) → n < 10 → head ≡ Some h → role ≡ Tx → frame_role head (upto n) ≡ Tx
  sends_there h zero below is sends = ap (frame_role head) (append-nil own) ∙ sends
  sends_there h (suc n) below is sends =
      (let e = upto_length n in
      let before : frame_role (Some h) (upto n) ≡ Tx = ap (λ o. frame_role o (upto n)) (sym is) ∙ sends_there h n (omega arith) is sends in
      ap (λ o. frame_role o (upto (suc n))) is ∙ ap (frame_role (Some h)) (sym (upto_next n))
      ∙ tail_sends h n (length own) (upto n) (level_of (end_bit n)) (record { found = end_there n; place_is = sym e; below = omega arith }) before)

  receives_there : (n : ℕ) → role ≡ Rx → frame_role head (upto n) ≡ Rx
  receives_there zero r = ap (frame_role head) (append-nil own) ∙ r
  receives_there (suc n) r = ap (frame_role head) (sym (upto_next n)) ∙ role_receives head (upto n) (level_of (end_bit n)) (receives_there n r)

  no_sender : (o : Option Content) → frame_role o own ≡ Tx → (h : Content) × (o ≡ Some h)
  no_sender None e = absurd (rx_tx e)
    where
      rx_tx : Rx ≡ Tx → ⊥
      rx_tx e = cc
  no_sender (Some h) e = (h, refl)

  -- in the frame
  module _ (n : ℕ) (below : n < 10) (given : Option Content) (mode : Mode) where
    abbrev x : Sampled
    x = sample_of (level_of (end_bit n)) given mode

    abbrev there : Stretch
    there = stretch_by (Framing head) (upto n)

    there_is : end_stretch head own n ≡ there
    there_is = ap (λ b. cond b there (stretch_by (Intermission role) (replicate (n - 10) Recessive))) (lt-ltb n 10 below)

    sent_there : (h : Content) → head ≡ Some h → role ≡ Tx → judged there x ≡ sent_tail h n x
    sent_there h is sends =
        ap (λ r. framing_by r head (upto n) x) (sends_there h n below is sends) ∙ ap (λ o. framing_by Tx o (upto n) x) is
        ∙ ap (λ o. framing_sent h (upto n) o x) (end_there n) ∙ ap (λ m. sent_tail h m x) (place_there n)

    received_there : role ≡ Rx → judged there x ≡ received_tail bits n x
    received_there r =
        ap (λ y. framing_by y head (upto n) x) (receives_there n r) ∙ ap (λ o. framing_received (upto n) o x) (end_there n)
        ∙ ap (λ m. received_tail (destuffed_bits (upto n) (length own)) m x) (place_there n) ∙ ap (λ b. received_tail b n x) (bits_there n)

    as_judged : JudgedAs (begins_pause role (n == 9)) (end_frame role head bits n) (judged there x)
    as_judged = elim (role_cases role) [
      | inl sends ↦
          (let h = no_sender head sends in
          subst (λ r. JudgedAs (begins_pause r (n == 9)) (end_frame r head bits n) (judged there x)) (sym sends)
          (subst (λ o. JudgedAs (begins_pause Tx (n == 9)) (end_frame Tx o bits n) (judged there x)) (sym h.1)
          (subst (JudgedAs (begins_pause Tx (n == 9)) (cond (n == 9) (Sent h.0) NoFrame)) (sym (sent_there h.0 h.1 sends)) (sender_judges h.0 n given mode))))
      | inr r ↦
          subst (λ y. JudgedAs (begins_pause y (n == 9)) (end_frame y head bits n) (judged there x)) (sym r)
          (subst (JudgedAs (begins_pause Rx (n == 9)) (cond (n == 8) (Received (content_of bits)) NoFrame)) (sym (received_there r)) (receiver_judges bits n given mode crc))
    ]

    after_there : or_next (begins_pause role (n == 9)) (stretch_by (Framing head) (upto n ++ level_of (end_bit n) ∷ [])) ≡ end_stretch head own (suc n)
    after_there = elim (cases_eq n 9) [
      | inl last ↦ subst (λ m. or_next (begins_pause role (m == 9)) (stretch_by (Framing head) (upto m ++ level_of (end_bit m) ∷ [])) ≡ end_stretch head own (suc m)) (sym last) refl
      | inr more ↦
          ap (λ b. or_next (begins_pause role b) (stretch_by (Framing head) (upto n ++ level_of (end_bit n) ∷ []))) (ne_eqb n 9 more)
          ∙ ap (stretch_by (Framing head)) (upto_next n)
          ∙ sym (ap (λ b. cond b (stretch_by (Framing head) (upto (suc n))) (stretch_by (Intermission role) (replicate (suc n - 10) Recessive))) (lt-ltb (suc n) 10 (omega (arith, more))))
    ]

    abbrev Goes : Stretch → Type 0
    Goes s = (stretch_after s (Sample x) ≡ end_stretch head own (suc n)) × (is_fine (judged s x).happened ≡ true) × ((judged s x).ended ≡ end_frame role head bits n)

    goes_there : Goes there
    goes_there = (
      ap (λ o. or_next o (stretch_by (Framing head) (upto n ++ level_of (end_bit n) ∷ []))) as_judged.0 ∙ after_there,
      as_judged.1,
      as_judged.2,
    )

    frame_goes : GoesToEnd head own n x
    frame_goes = let t = subst Goes (sym there_is) goes_there in record { next = t.0; fine = t.1; ended = t.2 }

  -- what it drives
  tail_by : (r : Role) (n : ℕ) → is_dominant (tail_drive r bits n) ≡ end_drive r n
  tail_by Tx n = refl
  tail_by Rx n = ap (λ c. is_dominant (cond ((n == 1) && c) Dominant Recessive)) crc ∙ slot_alone (n == 1)
    where
      slot_alone : (b : Bool) → is_dominant (cond (b && true) Dominant Recessive) ≡ b
      slot_alone true = refl
      slot_alone false = refl

  role_there : (n : ℕ) → n < 10 → frame_role head (upto n) ≡ role
  role_there n below = elim (role_cases role) [
    | inl sends ↦ (let h = no_sender head sends in sends_there h.0 n below h.1 sends ∙ sym sends)
    | inr r ↦ receives_there n r ∙ sym r
  ]

  no_drive : (r : Role) (n : ℕ) → n ≢ 1 → false ≡ end_drive r n
  no_drive Tx n apart = refl
  no_drive Rx n apart = sym (ne_eqb n 1 apart)

  pub drives : (n : ℕ) → is_dominant (drive_of (end_stretch head own n)) ≡ end_drive role n
  drives n = elim (cases_lt n 10) [
    | inl below ↦
        ap (λ b. is_dominant (drive_of (cond b (stretch_by (Framing head) (upto n)) (stretch_by (Intermission role) (replicate (n - 10) Recessive))))) (lt-ltb n 10 below)
        ∙ ap (λ o. is_dominant (drive_up_to o head (upto n))) (end_there n)
        ∙ ap (λ r. is_dominant (tail_drive r (destuffed_bits (upto n) (length own)) (length (upto n) - length own))) (role_there n below)
        ∙ ap (λ b. is_dominant (tail_drive role b (length (upto n) - length own))) (bits_there n)
        ∙ ap (λ m. is_dominant (tail_drive role bits m)) (place_there n)
        ∙ tail_by role n
    | inr over_all ↦
        ap (λ b. is_dominant (drive_of (cond b (stretch_by (Framing head) (upto n)) (stretch_by (Intermission role) (replicate (n - 10) Recessive))))) (le-ltb n 10 over_all)
        ∙ no_drive role n (λ e. omega (arith, e))
  ]

  -- in the intermission
  no_end : (r : Role) (n : ℕ) → n ≢ 8 → n ≢ 9 → NoFrame ≡ end_frame r head bits n
  no_end r n a b = by r head (ne_eqb n 8 a) (ne_eqb n 9 b)
    where
      by : (r : Role) (o : Option Content) → (n == 8) ≡ false → (n == 9) ≡ false → NoFrame ≡ end_frame r o bits n
      by Tx None a b = refl
      by Tx (Some h) a b = ap (λ c. cond c (Sent h) NoFrame) (sym b)
      by Rx o a b = ap (λ c. cond c (Received (content_of bits)) NoFrame) (sym a)

  pause_goes : (given : Option Content) (mode : Mode) → (GoesToEnd head own 10 (sample_of Recessive given mode)) × (GoesToEnd head own 11 (sample_of Recessive given mode))
  pause_goes given mode = (
    record { next = refl; fine = refl; ended = no_end role 10 (λ e. omega (arith, e)) (λ e. omega (arith, e)) },
    record { next = refl; fine = refl; ended = no_end role 11 (λ e. omega (arith, e)) (λ e. omega (arith, e)) },
  )

  goes_by : (n : ℕ) (given : Option Content) (mode : Mode) → n < 12 → GoesToEnd head own n (sample_of (level_of (end_bit n)) given mode)
  goes_by n given mode below = elim (cases_lt n 10) [
    | inl framing ↦ frame_goes n framing given mode
    | inr pause ↦ elim (cases_eq n 10) [
      | inl first ↦ subst (λ m. GoesToEnd head own m (sample_of (level_of (end_bit m)) given mode)) (sym first) (pause_goes given mode).0
      | inr other ↦ subst (λ m. GoesToEnd head own m (sample_of (level_of (end_bit m)) given mode)) (let e : 11 ≡ n = omega (arith, other) in e) (pause_goes given mode).1
    ]
  ]

  pub goes : (n : ℕ) (x : Sampled) → n < 12 → x.level ≡ level_of (end_bit n) → GoesToEnd head own n x
  goes n x below e = subst (λ l. GoesToEnd head own n (sample_of l x.head x.mode)) (sym e) (goes_by n x.head x.mode below)

  -- the third bit of the intermission
  abbrev pause : Stretch
  pause = end_stretch head own 12

  third_by : (given : Option Content) (mode : Mode) → judged pause (sample_of Recessive given mode) ≡ begins happens.Nothing (after_intermission role mode given) []
  third_by given mode = refl

  after_active : (r : Role) (given : Option Content) → after_intermission r Active given ≡ free given
  after_active Tx given = refl
  after_active Rx given = refl

  pub third_fine : (x : Sampled) → x.level ≡ Recessive → is_fine (judged pause x).happened ≡ true
  third_fine x e = subst (λ l. is_fine (judged pause (sample_of l x.head x.mode)).happened ≡ true) (sym e) (ap (λ j. is_fine j.happened) (third_by x.head x.mode))

  pub third : (x : Sampled) → x.level ≡ Recessive → x.mode ≡ Active → stretch_after pause (Sample x) ≡ stretch_by (free x.head) []
  third x e active =
      ap (λ l. stretch_after pause (Sample (sample_of l x.head x.mode))) e
      ∙ ap (λ md. stretch_after pause (Sample (sample_of Recessive x.head md))) active
      ∙ ap (λ r. stretch_by r []) (after_active role x.head)
