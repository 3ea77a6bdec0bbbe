-- A machine after the ACK slot: ten recessive samples to the third bit of the intermission, with the frame sent or received on the way.
use Rattle.std.proofs.Common.{◌≡◌, ◌∙◌, inl, inr, refl, sym, ap, subst, ℕ, zero, suc, ◌+◌, ◌-◌, ◌*◌, ◌<◌, ◌≤◌, List, [], ◌∷◌, ◌++◌, length, replicate, Bool, true, false, cond, not, ◌&&◌, Some, None, arith, append-nil}
use Rattle.std.specs.Prelude.{◌==◌, nat_le}
use Rattle.std.proofs.lemmas.Bool.{cases_lt, cases_eq, le-leb, lt-leb, ne_eqb, and_right}
use Rattle.wl_level.specs.declared.Level.{Level}
use Rattle.wl_level.specs.declared.Level.TheVariants.{Dominant, Recessive}
use Rattle.wl_level.specs.Levels.{is_dominant}
use Rattle.wl_level.proofs.Callers.{snoc, length_more}
use Rattle.wl_confine.specs.declared.Happened.TheVariants.{Nothing, Sent}
use Rattle.wl_confine.specs.declared.ErrorKind.TheVariants.{Bit, Form}
use Rattle.wl_frame.specs.Stuffing.{Stuffs, destuffed_bits}
use Rattle.wl_frame.specs.Grammar.{Content, IsContent, bits_of, content_of, is_crc_right}
use Rattle.wl_frame.specs.Laws.{up_to_ack}
use Rattle.wl_frame.proofs.Callers.{kept_old}
use Rattle.wl_machine.specs.declared.state.Role.TheVariants.{Tx, Rx}
use Rattle.wl_machine.specs.Stretch.{Stretch, Sampled, continues, begins}
use Rattle.wl_machine.specs.Stretch.Sort.{Framing, Flagging, Intermission}
use Rattle.wl_machine.specs.Stretch.Flag.{OverloadFlag}
use Rattle.wl_machine.specs.Stretch.Ended.{Received, Sent as SentFrame}
use Rattle.wl_machine.specs.Flags.{fails}
use Rattle.wl_machine.specs.Frames.{stuffed_end, frame_role, framing_by, framing_sent, framing_received, received_tail, sent_tail, drive_up_to, tail_drive}
use Rattle.wl_machine.specs.BetweenFrames.{after_intermission, begun_head}
use Rattle.wl_machine.specs.Judged.{judged, or_next, drive_of}
use Rattle.wl_machine.specs.States.{stretch_by}
use Rattle.wl_machine.proofs.Callers.{end_stays, tail_sends}
use Rattle.wl_node.specs.declared.setup.Passed.{Passed}
use Rattle.wl_node.specs.History.{passed_frames}
use Rattle.wl_buses.proofs.OneSender.Frames as frames
use Rattle.wl_buses.proofs.OneSender.Frames.{FrameGoes}
use Rattle.wl_buses.proofs.OneSender.Nodes.{calm_nothing, calm_sent}
use Rattle.wl_buses.proofs.OneSender.Silence.{Leaves, Waits}

module _ (goes : FrameGoes) (head : Content) (c : IsContent head) (y : List Level) (is : Stuffs y (bits_of head)) where
  abbrev last : ℕ
  last = length y

  -- the frame's samples with n recessive ones after the slot
  abbrev tail : ℕ → List Level
  tail n = up_to_ack y ++ replicate n Recessive

  tail_more : (n : ℕ) → tail (suc n) ≡ tail n ++ Recessive ∷ []
  tail_more n = snoc (up_to_ack y) Recessive n

  tail_none : tail 0 ≡ up_to_ack y
  tail_none = append-nil (up_to_ack y)

  tail_length : (n : ℕ) → length (tail n) ≡ last + 2 + n
  tail_length zero = ap length tail_none ∙ frames.line_length goes head c y is ∙ omega arith
  tail_length (suc n) = ap length (tail_more n) ∙ length_more (tail n) Recessive ∙ ap (λ k. k + 1) (tail_length n) ∙ omega arith

  tail_end : (n : ℕ) → stuffed_end (tail n) ≡ Some last
  tail_end zero = ap stuffed_end (tail_none ∙ sym (frames.own_all goes head c y is)) ∙ frames.end_at goes head c y is (suc (suc last)) (omega arith) (omega arith)
  tail_end (suc n) = ap stuffed_end (tail_more n) ∙ end_stays (tail n) Recessive last (tail_end n)

  tail_sent : (n : ℕ) → n ≤ 8 → frame_role (Some head) (tail n) ≡ Tx
  tail_sent zero h = ap (frame_role (Some head)) (tail_none ∙ sym (frames.own_all goes head c y is)) ∙ frames.sends goes head c y is (suc (suc last)) (omega arith)
  tail_sent (suc n) h =
      ap (frame_role (Some head)) (tail_more n)
      ∙ tail_sends head (n + 2) last (tail n) Recessive (record { found = tail_end n; place_is = (let e = tail_length n in omega arith); below = omega arith }) (tail_sent n (omega arith))

  tail_kept : (n : ℕ) → destuffed_bits (tail n) last ≡ bits_of head
  tail_kept zero =
      ap (λ v. destuffed_bits v last) tail_none
      ∙ kept_old (y ++ Recessive ∷ []) Dominant last (let e = length_more y Recessive in omega arith)
      ∙ kept_old y Recessive last (omega arith) ∙ is.content
  tail_kept (suc n) = ap (λ v. destuffed_bits v last) (tail_more n) ∙ kept_old (tail n) Recessive last (let e = tail_length n in omega arith) ∙ tail_kept n

  place : (n : ℕ) → length (tail n) - last ≡ n + 2
  place n = let e = tail_length n in omega arith

  -- what is driven
  tail_silent : (n : ℕ) → drive_of (stretch_by (Framing None) (tail n)) ≡ Recessive
  tail_silent n =
      ap (λ e. drive_up_to e None (tail n)) (tail_end n) ∙ ap (tail_drive Rx (destuffed_bits (tail n) last)) (place n)
      ∙ ap (λ b. cond (b && is_crc_right (destuffed_bits (tail n) last)) Dominant Recessive) (ne_eqb (n + 2) 1 (λ e. omega arith))

  tail_quiet : (n : ℕ) → n ≤ 8 → drive_of (stretch_by (Framing (Some head)) (tail n)) ≡ Recessive
  tail_quiet n h =
      ap (λ e. drive_up_to e (Some head) (tail n)) (tail_end n) ∙ ap (λ r. tail_drive r (destuffed_bits (tail n) last) (length (tail n) - last)) (tail_sent n h)

  -- what a receiver makes of the next sample
  received : (n : ℕ) (x : Sampled) → judged (stretch_by (Framing None) (tail n)) x ≡ received_tail (bits_of head) (n + 2) x
  received n x =
      ap (λ o. framing_received (tail n) o x) (tail_end n) ∙ ap (λ k. received_tail (destuffed_bits (tail n) last) k x) (place n)
      ∙ ap (λ v. received_tail v (n + 2) x) (tail_kept n)

  sent : (n : ℕ) (x : Sampled) → n ≤ 8 → judged (stretch_by (Framing (Some head)) (tail n)) x ≡ sent_tail head (n + 2) x
  sent n x h =
      ap (λ r. framing_by r (Some head) (tail n) x) (tail_sent n h) ∙ ap (λ o. framing_sent head (tail n) o x) (tail_end n)
      ∙ ap (λ k. sent_tail head k x) (place n)

  crc : is_crc_right (bits_of head) ≡ true
  crc = frames.crc_of head c

  received_on : (n : ℕ) (x : Sampled) → n < 6 → x.level ≡ Recessive → judged (stretch_by (Framing None) (tail n)) x ≡ continues Nothing
  received_on n x h now =
      received n x
      ∙ rw (
        ne_eqb (n + 2) 1 (λ e. omega arith),
        ne_eqb (n + 2) 9 (λ e. omega arith),
        ne_eqb (n + 2) 8 (λ e. omega arith),
        ap is_dominant now,
        and_right (n + 2 == 2) (not (is_crc_right (bits_of head))) (ap not crc),
      ) refl

  sent_on : (n : ℕ) (x : Sampled) → n < 7 → x.level ≡ Recessive → judged (stretch_by (Framing (Some head)) (tail n)) x ≡ continues Nothing
  sent_on n x h now =
      sent n x (omega arith) ∙ rw (ne_eqb (n + 2) 1 (λ e. omega arith), ne_eqb (n + 2) 9 (λ e. omega arith), ap is_dominant now) refl

  -- in the last but one bit of the end of frame it is received, and in the last one sent
  received_there : (x : Sampled) → x.level ≡ Recessive
      → judged (stretch_by (Framing None) (tail 6)) x ≡ record { happened = Nothing; ended = Received (content_of (bits_of head)); next = None }
  received_there x now =
      received 6 x ∙ ap (λ b. cond b (fails Rx x.mode Form) (record { happened = Nothing; ended = Received (content_of (bits_of head)); next = None })) (ap is_dominant now)

  received_last : (x : Sampled) → x.level ≡ Recessive → judged (stretch_by (Framing None) (tail 7)) x ≡ begins Nothing (Intermission Rx) []
  received_last x now = received 7 x ∙ ap (λ b. cond b (begins Nothing (Flagging OverloadFlag Rx) []) (begins Nothing (Intermission Rx) [])) (ap is_dominant now)

  sent_there : (x : Sampled) → x.level ≡ Recessive
      → judged (stretch_by (Framing (Some head)) (tail 7)) x ≡ record { happened = Sent; ended = SentFrame head; next = Some (stretch_by (Intermission Tx) []) }
  sent_there x now =
      sent 7 x (omega arith)
      ∙ ap (λ b. cond b (fails Tx x.mode Bit) (record { happened = Sent; ended = SentFrame head; next = Some (stretch_by (Intermission Tx) []) })) (ap is_dominant now)

  content : content_of (bits_of head) ≡ head
  content = frames.read_of head c

  module _ (base S B : ℕ) (gone : List Passed) where
    -- the frame as it is kept
    abbrev pub kept : (sent : Bool) (bit : ℕ) → List Passed
    kept sent bit = record { sent = sent; quantum = base + bit * B + S; frame = head } ∷ []

    abbrev receives : ℕ → Stretch
    receives n = cond (nat_le n 7) (stretch_by (Framing None) (tail n)) (stretch_by (Intermission Rx) (replicate (n - 8) Recessive))

    abbrev transmits : ℕ → Stretch
    transmits n = cond (nat_le n 7) (stretch_by (Framing (Some head)) (tail n)) (stretch_by (Intermission Tx) (replicate (n - 8) Recessive))

    abbrev pub received_by : ℕ → List Passed
    received_by n = cond (nat_le n 6) gone (gone ++ kept false 6)

    abbrev pub sent_by : ℕ → List Passed
    sent_by n = cond (nat_le n 7) gone (gone ++ kept true 7)

    abbrev Step : (stretch : ℕ → Stretch) (passed : ℕ → List Passed) (n : ℕ) (x : Sampled) → Type 0
    Step stretch passed n x = (more : List Passed) × (passed (suc n) ≡ passed n ++ more) × Leaves (stretch n) (base + n * B + S) x more (stretch (suc n))

    -- a step that makes nothing happen and goes on
    goes_on : (n : ℕ) (x : Sampled) (s next : Stretch) → judged s x ≡ continues Nothing → stretch_by s.sort (s.own ++ Recessive ∷ []) ≡ next
        → Leaves s (base + n * B + S) x [] next
    goes_on n x s next e f = record {
      calm = calm_nothing (judged s x).happened (ap (λ j. j.happened) e);
      ended = ap (λ j. passed_frames (base + n * B + S) j.ended) e;
      stretch = ap (λ j. or_next j.next (stretch_by s.sort (s.own ++ Recessive ∷ []))) e ∙ f;
    }

    goes_new : (n : ℕ) (x : Sampled) (s next : Stretch) → judged s x ≡ begins Nothing next.sort next.own → Leaves s (base + n * B + S) x [] next
    goes_new n x s next e = record {
      calm = calm_nothing (judged s x).happened (ap (λ j. j.happened) e);
      ended = ap (λ j. passed_frames (base + n * B + S) j.ended) e;
      stretch = ap (λ j. or_next j.next (stretch_by s.sort (s.own ++ Recessive ∷ []))) e;
    }

    rests : (x : Sampled) → x.level ≡ Recessive → judged (stretch_by (Intermission Rx) []) x ≡ continues Nothing
    rests x now = ap (λ b. cond b (begins Nothing (Flagging OverloadFlag Rx) []) (continues Nothing)) (ap is_dominant now)

    rests_again : (x : Sampled) → x.level ≡ Recessive → judged (stretch_by (Intermission Rx) (Recessive ∷ [])) x ≡ continues Nothing
    rests_again x now = ap (λ b. cond b (begins Nothing (Flagging OverloadFlag Rx) []) (continues Nothing)) (ap is_dominant now)

    rests_sent : (x : Sampled) → x.level ≡ Recessive → judged (stretch_by (Intermission Tx) []) x ≡ continues Nothing
    rests_sent x now = ap (λ b. cond b (begins Nothing (Flagging OverloadFlag Tx) []) (continues Nothing)) (ap is_dominant now)

    rests_sent_again : (x : Sampled) → x.level ≡ Recessive → judged (stretch_by (Intermission Tx) (Recessive ∷ [])) x ≡ continues Nothing
    rests_sent_again x now = ap (λ b. cond b (begins Nothing (Flagging OverloadFlag Tx) []) (continues Nothing)) (ap is_dominant now)

    receives_on : (n : ℕ) (x : Sampled) → n < 10 → x.level ≡ Recessive → Step receives received_by n x
    receives_on n x less now = elim (cases_lt n 6) [
      | inl early ↦ (
        [],
        ap (λ b. cond b gone (gone ++ kept false 6)) (le-leb (suc n) 6 early ∙ sym (le-leb n 6 (omega arith))) ∙ sym (append-nil (received_by n)),
        subst (λ s. Leaves s (base + n * B + S) x [] (receives (suc n))) (sym (early_is n (omega arith)))
            (goes_on n x (stretch_by (Framing None) (tail n)) (receives (suc n)) (received_on n x early now) (ap (stretch_by (Framing None)) (sym (tail_more n)) ∙ sym (early_is (suc n) (omega arith)))),
      )
      | inr late ↦ elim (cases_eq n 6) [
        | inl six ↦ subst (λ k. Step receives received_by k x) (sym six) (
          kept false 6,
          refl,
          record {
            calm = calm_nothing (judged (stretch_by (Framing None) (tail 6)) x).happened (ap (λ j. j.happened) (received_there x now));
            ended = ap (λ j. passed_frames (base + 6 * B + S) j.ended) (received_there x now) ∙ ap (λ f. record { sent = false; quantum = base + 6 * B + S; frame = f } ∷ []) content;
            stretch =
                ap (λ j. or_next j.next (stretch_by (Framing None) (tail 6 ++ Recessive ∷ []))) (received_there x now) ∙ ap (stretch_by (Framing None)) (sym (tail_more 6));
          },
        )
        | inr not_six ↦ elim (cases_eq n 7) [
          | inl seven ↦ subst (λ k. Step receives received_by k x) (sym seven) (
            [],
            sym (append-nil (gone ++ kept false 6)),
            goes_new 7 x (stretch_by (Framing None) (tail 7)) (stretch_by (Intermission Rx) []) (received_last x now),
          )
          | inr not_seven ↦ elim (cases_eq n 8) [
            | inl eight ↦ subst (λ k. Step receives received_by k x) (sym eight) (
              [],
              sym (append-nil (gone ++ kept false 6)),
              goes_on 8 x (stretch_by (Intermission Rx) []) (stretch_by (Intermission Rx) (Recessive ∷ [])) (rests x now) refl,
            )
            | inr not_eight ↦
                (let nine : n ≡ 9 = omega (arith, less, late, not_six, not_seven, not_eight) in
                subst (λ k. Step receives received_by k x) (sym nine) (
                  [],
                  sym (append-nil (gone ++ kept false 6)),
                  goes_on 9 x (stretch_by (Intermission Rx) (Recessive ∷ [])) (stretch_by (Intermission Rx) (Recessive ∷ Recessive ∷ [])) (rests_again x now) refl,
                ))
          ]
        ]
      ]
    ]
      where
        early_is : (k : ℕ) → k ≤ 7 → receives k ≡ stretch_by (Framing None) (tail k)
        early_is k h = ap (λ b. cond b (stretch_by (Framing None) (tail k)) (stretch_by (Intermission Rx) (replicate (k - 8) Recessive))) (le-leb k 7 h)

    transmits_on : (n : ℕ) (x : Sampled) → n < 10 → x.level ≡ Recessive → Step transmits sent_by n x
    transmits_on n x less now = elim (cases_lt n 7) [
      | inl early ↦ (
        [],
        ap (λ b. cond b gone (gone ++ kept true 7)) (le-leb (suc n) 7 early ∙ sym (le-leb n 7 (omega arith))) ∙ sym (append-nil (sent_by n)),
        subst (λ s. Leaves s (base + n * B + S) x [] (transmits (suc n))) (sym (early_is n (omega arith)))
            (goes_on n x (stretch_by (Framing (Some head)) (tail n)) (transmits (suc n)) (sent_on n x early now)
            (ap (stretch_by (Framing (Some head))) (sym (tail_more n)) ∙ sym (early_is (suc n) (omega arith)))),
      )
      | inr late ↦ elim (cases_eq n 7) [
        | inl seven ↦ subst (λ k. Step transmits sent_by k x) (sym seven) (
          kept true 7,
          refl,
          record {
            calm = calm_sent (judged (stretch_by (Framing (Some head)) (tail 7)) x).happened (ap (λ j. j.happened) (sent_there x now));
            ended = ap (λ j. passed_frames (base + 7 * B + S) j.ended) (sent_there x now);
            stretch = ap (λ j. or_next j.next (stretch_by (Framing (Some head)) (tail 7 ++ Recessive ∷ []))) (sent_there x now);
          },
        )
        | inr not_seven ↦ elim (cases_eq n 8) [
          | inl eight ↦ subst (λ k. Step transmits sent_by k x) (sym eight) (
            [],
            sym (append-nil (gone ++ kept true 7)),
            goes_on 8 x (stretch_by (Intermission Tx) []) (stretch_by (Intermission Tx) (Recessive ∷ [])) (rests_sent x now) refl,
          )
          | inr not_eight ↦
              (let nine : n ≡ 9 = omega (arith, less, late, not_seven, not_eight) in
              subst (λ k. Step transmits sent_by k x) (sym nine) (
                [],
                sym (append-nil (gone ++ kept true 7)),
                goes_on 9 x (stretch_by (Intermission Tx) (Recessive ∷ [])) (stretch_by (Intermission Tx) (Recessive ∷ Recessive ∷ [])) (rests_sent_again x now) refl,
              ))
        ]
      ]
    ]
      where
        early_is : (k : ℕ) → k ≤ 7 → transmits k ≡ stretch_by (Framing (Some head)) (tail k)
        early_is k h = ap (λ b. cond b (stretch_by (Framing (Some head)) (tail k)) (stretch_by (Intermission Tx) (replicate (k - 8) Recessive))) (le-leb k 7 h)

    -- a receiver
    pub after_receiving : Waits base S B
    after_receiving = record {
      stretch = receives;
      passed = received_by;
      silent = λ n h. elim (cases_lt 7 n) [
        | inl late ↦ ap (λ b. drive_of (cond b (stretch_by (Framing None) (tail n)) (stretch_by (Intermission Rx) (replicate (n - 8) Recessive)))) (lt-leb n 7 late)
        | inr early ↦ ap (λ b. drive_of (cond b (stretch_by (Framing None) (tail n)) (stretch_by (Intermission Rx) (replicate (n - 8) Recessive)))) (le-leb n 7 early) ∙ tail_silent n
      ];
      on = receives_on;
      over = λ x now mode. ap (λ b. cond b (begins Nothing (Framing (begun_head Rx x.mode x.head)) (x.level ∷ [])) (begins Nothing (after_intermission Rx x.mode x.head) [])) (ap is_dominant now);
      enough = 10;
      many = omega arith;
      awaits = λ h. record {
        awaits = refl;
        takes = λ x now none.
            ap (λ l. cond (is_dominant l) (begins Nothing (Framing (begun_head Rx x.mode x.head)) (l ∷ [])) (begins Nothing (after_intermission Rx x.mode x.head) [])) now
            ∙ ap (λ o. begins Nothing (Framing o) (Dominant ∷ [])) none;
      };
    }

    -- a transmitter
    pub after_sending : Waits base S B
    after_sending = record {
      stretch = transmits;
      passed = sent_by;
      silent = λ n h. elim (cases_lt 7 n) [
        | inl late ↦ ap (λ b. drive_of (cond b (stretch_by (Framing (Some head)) (tail n)) (stretch_by (Intermission Tx) (replicate (n - 8) Recessive)))) (lt-leb n 7 late)
        | inr early ↦ ap (λ b. drive_of (cond b (stretch_by (Framing (Some head)) (tail n)) (stretch_by (Intermission Tx) (replicate (n - 8) Recessive)))) (le-leb n 7 early) ∙ tail_quiet n (omega arith)
      ];
      on = transmits_on;
      over = λ x now mode.
          ap (λ b. cond b (begins Nothing (Framing (begun_head Tx x.mode x.head)) (x.level ∷ [])) (begins Nothing (after_intermission Tx x.mode x.head) [])) (ap is_dominant now)
          ∙ ap (λ m. begins Nothing (after_intermission Tx m x.head) []) mode;
      enough = 11;
      many = omega arith;
      awaits = λ h. absurd (omega arith);
    }

    pub received_first : after_receiving.stretch 0 ≡ stretch_by (Framing None) (frames.own goes head c y is (suc (suc last)))
    unfolding after_receiving
    received_first = ap (stretch_by (Framing None)) (tail_none ∙ sym (frames.own_all goes head c y is))

    pub sent_first : after_sending.stretch 0 ≡ stretch_by (Framing (Some head)) (frames.own goes head c y is (suc (suc last)))
    unfolding after_sending
    sent_first = ap (stretch_by (Framing (Some head))) (tail_none ∙ sym (frames.own_all goes head c y is))

    pub received_passed : (n : ℕ) → after_receiving.passed n ≡ received_by n
    unfolding after_receiving
    received_passed n = refl

    pub sent_passed : (n : ℕ) → after_sending.passed n ≡ sent_by n
    unfolding after_sending
    sent_passed n = refl

    pub receiving_enough : after_receiving.enough ≡ 10
    unfolding after_receiving
    receiving_enough = refl

  -- a node that has sampled the slot drives recessive
  pub received_quiet : drive_of (stretch_by (Framing None) (frames.own goes head c y is (suc (suc last)))) ≡ Recessive
  received_quiet = ap (λ v. drive_of (stretch_by (Framing None) v)) (frames.own_all goes head c y is ∙ sym tail_none) ∙ tail_silent 0

  pub sent_quiet : drive_of (stretch_by (Framing (Some head)) (frames.own goes head c y is (suc (suc last)))) ≡ Recessive
  sent_quiet = ap (λ v. drive_of (stretch_by (Framing (Some head)) v)) (frames.own_all goes head c y is ∙ sym tail_none) ∙ tail_quiet 0 (omega arith)
