-- What a sample in a frame can do, case by case.
use Rattle.std.proofs.Common.{◌≡◌, ℕ, List, [], length, Bool, true, false, not, cond, ◌&&◌, Some, None, refl}
use Rattle.std.specs.Prelude.{nat_le, ◌==◌}
use Rattle.std.proofs.lemmas.Bool.{eqb-true, eqb-false, eq-eqb, and_parts, not-true, both_ways}
use Rattle.wl_level.specs.declared.Level.{Level}
use Rattle.wl_level.specs.Levels.{is_dominant, same}
use Rattle.wl_level.specs.Places.{before}
use Rattle.wl_frame.specs.Stuffing.{is_stuff, destuffed_bits}
use Rattle.wl_frame.specs.Grammar.{Content, bits_of, layout_of, is_arbitration, is_crc_right, content_of}
use Rattle.wl_confine.specs.declared.ErrorKind.TheVariants.{Bit, Stuff, Form, Crc}
use Rattle.wl_confine.specs.declared.Happened.TheVariants as happens
use Rattle.wl_machine.specs.declared.state.Role.TheVariants.{Tx, Rx}
use Rattle.wl_machine.specs.Stretch.{Sampled, Judgement, continues, begins}
use Rattle.wl_machine.specs.Stretch.Sort.{Flagging, Intermission}
use Rattle.wl_machine.specs.Stretch.Ended.{Sent, Received}
use Rattle.wl_machine.specs.Flags.{fails, error_flag}
use Rattle.wl_machine.specs.Frames.{sent_at, sending, differing, sent_tail, unanswered, receiving, received_tail, acknowledging, last_bit}

right_is : (b : Bool) → not b ≡ false → b ≡ true
right_is true e = refl
right_is false e = cc

not_and : (a b : Bool) → (a && b) ≡ false → a ≡ true → b ≡ false
not_and true b e f = e
not_and false b e f = cc

-- choices one after another
module _ {A : Type 0} (P : A → Type 0) where
  two_ways : (b : Bool) (i j : A) → (b ≡ true → P i) → (b ≡ false → P j) → P (cond b i j)
  two_ways true i j p q = p refl
  two_ways false i j p q = q refl

  three_ways : (b c : Bool) (i j k : A) → (b ≡ true → P i) → (b ≡ false → c ≡ true → P j) → (b ≡ false → c ≡ false → P k) → P (cond b i (cond c j k))
  three_ways true c i j k p q r = p refl
  three_ways false true i j k p q r = q refl refl
  three_ways false false i j k p q r = r refl refl

  four_ways : (b c d : Bool) (h i j k : A) → (b ≡ true → P h) → (b ≡ false → c ≡ true → P i) → (b ≡ false → c ≡ false → d ≡ true → P j)
      → (b ≡ false → c ≡ false → d ≡ false → P k) → P (cond b h (cond c i (cond d j k)))
  four_ways true c d h i j k p q r t = p refl
  four_ways false true d h i j k p q r t = q refl refl
  four_ways false false true h i j k p q r t = r refl refl refl
  four_ways false false false h i j k p q r t = t refl refl refl

module _ (P : Judgement → Type 0) (x : Sampled) where
  -- a transmitter in the stuffed part
  module _ (c : Content) (own : List Level) where
    due_cases : P (fails Tx x.mode Bit) → P (begins happens.TxFree (Flagging (error_flag x.mode) Tx) [])
        → P (cond (nat_le (length (destuffed_bits own (length own))) (layout_of (bits_of c)).rtr) (begins happens.TxFree (Flagging (error_flag x.mode) Tx) []) (fails Tx x.mode Bit))
    due_cases fail free = two_ways P _ _ _ (λ e. free) (λ e. fail)

    pub differing_cases : P (fails Tx x.mode Bit) → P (begins happens.TxFree (Flagging (error_flag x.mode) Tx) []) → P (continues happens.Nothing) → P (differing c own x)
    differing_cases fail free lost = four_ways P _ _ _ _ _ _ _ (λ e. fail) (λ e f. due_cases fail free) (λ e f g. lost) (λ e f g. fail)

    -- the arbitration is lost by a recessive bit of it
    pub lost_cases : P (fails Tx x.mode Bit) → P (begins happens.TxFree (Flagging (error_flag x.mode) Tx) [])
        → (is_dominant (sent_at c own (length own)) ≡ false → is_stuff own (length own) ≡ false → is_arbitration (bits_of c) (length (destuffed_bits own (length own))) ≡ true → P (continues happens.Nothing))
        → P (differing c own x)
    lost_cases fail free lost = four_ways P _ _ _ _ _ _ _ (λ e. fail) (λ e f. due_cases fail free) (λ e f g. lost e f g) (λ e f g. fail)

    -- where a stuff bit is due the arbitration isn't lost
    pub differing_due : is_stuff own (length own) ≡ true → P (fails Tx x.mode Bit) → P (begins happens.TxFree (Flagging (error_flag x.mode) Tx) []) → P (differing c own x)
    differing_due due fail free = three_ways P _ _ _ _ _ (λ e. fail) (λ e f. due_cases fail free) (λ e f. absurd (both_ways (is_stuff own (length own)) f due))

    pub sending_cases : (same (sent_at c own (length own)) x.level ≡ true → P (continues happens.Nothing))
        → (same (sent_at c own (length own)) x.level ≡ false → P (differing c own x)) → P (sending c own x)
    sending_cases on off = two_ways P _ _ _ on off

  -- a receiver there
  pub receiving_cases : (own : List Level) → (is_stuff own (length own) ≡ true → same x.level (before own (length own)) ≡ true → P (fails Rx x.mode Stuff))
      → ((is_stuff own (length own) && same x.level (before own (length own))) ≡ false → P (continues happens.Nothing)) → P (receiving own x)
  receiving_cases own six on =
      two_ways P _ _ _
      (λ e. six (and_parts (is_stuff own (length own)) (same x.level (before own (length own))) e).0 (and_parts (is_stuff own (length own)) (same x.level (before own (length own))) e).1) on

  -- a transmitter after the stuffed part
  abbrev pub frame_sent : Content → Judgement
  frame_sent c = record { happened = happens.Sent; ended = Sent c; next = Some (record { sort = Intermission Tx; own = [] }) }

  pub sent_tail_cases : (c : Content) (n : ℕ)
      → (n ≡ 1 → is_dominant x.level ≡ true → P (continues happens.Nothing))
      → (n ≡ 1 → is_dominant x.level ≡ false → P (unanswered x.mode))
      → ((n ≡ 1 → ⊥) → is_dominant x.level ≡ true → P (fails Tx x.mode Bit))
      → (n ≡ 9 → is_dominant x.level ≡ false → P (frame_sent c))
      → ((n ≡ 1 → ⊥) → (n ≡ 9 → ⊥) → is_dominant x.level ≡ false → P (continues happens.Nothing))
      → P (sent_tail c n x)
  sent_tail_cases c n answered none fail sent on =
      four_ways P (n == 1) (is_dominant x.level) (n == 9) _ (fails Tx x.mode Bit) (frame_sent c) (continues happens.Nothing)
      (λ one. two_ways P (is_dominant x.level) (continues happens.Nothing) (unanswered x.mode) (answered (eqb-true n 1 one)) (none (eqb-true n 1 one)))
      (λ no d. fail (eqb-false n 1 no) d) (λ no r nine. sent (eqb-true n 9 nine) r) (λ no r nine. on (eqb-false n 1 no) (eqb-false n 9 nine) r)

  -- a receiver there
  module _ (bits : List Level) where
    pub acknowledging_cases : (is_crc_right bits ≡ false → P (continues happens.Nothing))
        → (is_crc_right bits ≡ true → is_dominant x.level ≡ true → P (continues happens.Acked))
        → (is_crc_right bits ≡ true → is_dominant x.level ≡ false → P (fails Rx x.mode Bit)) → P (acknowledging bits x)
    acknowledging_cases wrong acked fail =
        three_ways P (not (is_crc_right bits)) (is_dominant x.level) (continues happens.Nothing) (continues happens.Acked) (fails Rx x.mode Bit)
        (λ e. wrong (not-true (is_crc_right bits) e)) (λ e d. acked (right_is (is_crc_right bits) e) d) (λ e d. fail (right_is (is_crc_right bits) e) d)

    abbrev pub frame_received : Judgement
    frame_received = record { happened = happens.Nothing; ended = Received (content_of bits); next = None }

    pub received_tail_cases : (n : ℕ)
        → (n ≡ 1 → P (acknowledging bits x))
        → (n ≡ 9 → P (last_bit x))
        → ((n ≡ 1 → ⊥) → (n ≡ 9 → ⊥) → is_dominant x.level ≡ true → P (fails Rx x.mode Form))
        → (n ≡ 2 → is_crc_right bits ≡ false → is_dominant x.level ≡ false → P (fails Rx x.mode Crc))
        → (n ≡ 8 → is_dominant x.level ≡ false → P frame_received)
        → ((n ≡ 1 → ⊥) → (n ≡ 9 → ⊥) → (n ≡ 2 → is_crc_right bits ≡ true) → is_dominant x.level ≡ false → P (continues happens.Nothing))
        → P (received_tail bits n x)
    received_tail_cases n slot last form crc got on =
        four_ways P (n == 1) (n == 9) (is_dominant x.level) (acknowledging bits x) (last_bit x) (fails Rx x.mode Form)
        (cond ((n == 2) && not (is_crc_right bits)) (fails Rx x.mode Crc) (cond (n == 8) frame_received (continues happens.Nothing)))
        (λ one. slot (eqb-true n 1 one)) (λ no nine. last (eqb-true n 9 nine)) (λ no nine d. form (eqb-false n 1 no) (eqb-false n 9 nine) d)
        (λ no nine r. three_ways P ((n == 2) && not (is_crc_right bits)) (n == 8) (fails Rx x.mode Crc) frame_received (continues happens.Nothing)
        (λ two. crc (eqb-true n 2 (and_parts (n == 2) (not (is_crc_right bits)) two).0) (not-true (is_crc_right bits) (and_parts (n == 2) (not (is_crc_right bits)) two).1) r)
        (λ two eight. got (eqb-true n 8 eight) r)
        (λ two eight. on (eqb-false n 1 no) (eqb-false n 9 nine) (λ e. right_is (is_crc_right bits) (not_and (n == 2) (not (is_crc_right bits)) two (eq-eqb n 2 e))) r))
