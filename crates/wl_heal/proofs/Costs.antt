-- What samples can count at most, if each bit that is driven dominant is found dominant: a credit goes down with each count, and up by a sample's rate.
use Rattle.std.proofs.Common.{◌≡◌, ◌∙◌, ℕ, zero, suc, ◌+◌, ◌-◌, ◌<◌, ◌≤◌, List, [], ◌∷◌, ◌++◌, length, Bool, true, false, not, cond, ◌&&◌, Option, Some, None, refl, sym, ap, subst, arith}
use Rattle.std.specs.Prelude.{◌==◌, ◌||◌, nat_le}
use Rattle.std.specs.List.{list_any}
use Rattle.std.proofs.lemmas.Bool.{cond_both, eqb-true, both_ways, lt-leb}
use Rattle.wl_level.specs.declared.Level.{Level}
use Rattle.wl_level.specs.declared.Level.TheVariants.{Dominant, Recessive}
use Rattle.wl_level.specs.Levels.{is_dominant, same}
use Rattle.wl_level.specs.Places.{at, run_at_end, run_before}
use Rattle.wl_frame.specs.Stuffing.{destuffed_bits}
use Rattle.wl_frame.specs.Grammar.{Content}
use Rattle.wl_confine.specs.declared.ErrorKind.{ErrorKind}
use Rattle.wl_confine.specs.declared.ErrorKind.TheVariants.{Bit, Stuff, Form, Crc}
use Rattle.wl_confine.specs.declared.Mode.{Mode}
use Rattle.wl_confine.specs.declared.Mode.TheVariants.{Active, Passive, Off}
use Rattle.wl_confine.specs.declared.Happened.{Happened}
use Rattle.wl_confine.specs.declared.Happened.TheVariants as happens
use Rattle.wl_confine.specs.Counts.{Counts, counts_after, mode_of, off_at, passive_at}
use Rattle.wl_machine.specs.declared.state.Role.{Role}
use Rattle.wl_machine.specs.declared.state.Role.TheVariants.{Tx, Rx}
use Rattle.wl_machine.specs.Stretch.{Flag, Sort, Stretch, Sampled, Input, Judgement, continues, begins, free}
use Rattle.wl_machine.specs.Stretch.Flag.{ActiveFlag, OverloadFlag, PassiveFlag}
use Rattle.wl_machine.specs.Stretch.Sort.{Integration, Idle, Framing, Flagging, Waiting, Delimiting, Intermission, Suspension, OffBus}
use Rattle.wl_machine.specs.Stretch.Input.{Sample}
use Rattle.wl_machine.specs.BetweenFrames.{after_intermission, begun_head, idle_on, recessive_runs}
use Rattle.wl_machine.specs.Flags.{error_flag, error_of, fails, delimiter_error, dominant_flag, is_after_flag, is_each_eighth, long_from, dominant_run, flag_bit_of}
use Rattle.wl_machine.specs.Frames.{stuffed_end, frame_role, framing_by, framing_sent, framing_received, unanswered}
use Rattle.wl_machine.specs.Judged.{judged, judged_by, stretch_after, stretch_of, drive_by}
use Rattle.wl_machine.specs.States.{sample_of}
use Rattle.wl_heal.specs.Costs.{FindsItsDominant, counts_on}
use Rattle.wl_heal.proofs.Cases.{differing_cases, sending_cases, receiving_cases, sent_tail_cases, acknowledging_cases, received_tail_cases}
use Rattle.wl_heal.proofs.Phases.{wait_phase, wait_up, wait_counts, wait_first, phase_small}
use Rattle.wl_heal.proofs.Possible.{IsPossible, IsPossibleBy, possible, possible_next}
use Rattle.wl_heal.proofs.Samples.{going, either, longer, run_same, run_up, run_other}

-- the equal samples at the end of a list
abbrev pub equal_run : List Level → ℕ
equal_run own = run_at_end Dominant own + run_at_end Recessive own

pub equal_up : (own : List Level) (l : Level) → equal_run (own ++ l ∷ []) ≤ suc (equal_run own)
equal_up own Dominant = let a = run_up Dominant Dominant own in let b = (run_other own).0 in omega arith
equal_up own Recessive = let a = run_up Recessive Recessive own in let b = (run_other own).1 in omega arith

-- so many before the sixth of them
pub equal_last : (own : List Level) (l : Level) → (run_at_end l (own ++ l ∷ []) == 6) ≡ true → 5 ≤ equal_run own
equal_last own Dominant e = let a = run_up Dominant Dominant own in let f = eqb-true (run_at_end Dominant (own ++ Dominant ∷ [])) 6 e in omega arith
equal_last own Recessive e = let a = run_up Recessive Recessive own in let f = eqb-true (run_at_end Recessive (own ++ Recessive ∷ [])) 6 e in omega arith

-- what happens adds so much to the TEC
abbrev pub tec_of : Happened → ℕ
tec_of (happens.TxError kind) = 8
tec_of happens.PassiveAck = 8
tec_of happens.TxFlagBit = 8
tec_of happens.TxLong = 8
tec_of happened = 0

owed_credit : Bool → ℕ → ℕ
owed_credit owed run = cond owed 8 run

-- how much more than one for each sample a transmitter may count from here on
abbrev pub credit_by : Sort → List Level → ℕ
credit_by (Flagging (PassiveFlag unacknowledged) Tx) own = cond (unacknowledged && not (list_any is_dominant own)) 8 (equal_run own)
credit_by (Flagging flag Tx) own = length own
credit_by (Waiting flag Tx flagged) own = 6 + wait_phase flag flagged own
credit_by sort own = 7

abbrev pub credit : Stretch → ℕ
credit s = credit_by s.sort s.own

most_credit : (sort : Sort) (own : List Level) → IsPossibleBy sort own → credit_by sort own ≤ 13
most_credit (Flagging ActiveFlag Tx) own h = omega arith
most_credit (Flagging OverloadFlag Tx) own h = omega arith
most_credit (Flagging (PassiveFlag unacknowledged) Tx) own h =
    let a = h.0 in let b = h.1 in either (λ (k : ℕ). k ≤ 13) (unacknowledged && not (list_any is_dominant own)) 8 (equal_run own) (omega arith) (omega arith)
most_credit (Flagging ActiveFlag Rx) own h = omega arith
most_credit (Flagging OverloadFlag Rx) own h = omega arith
most_credit (Flagging (PassiveFlag unacknowledged) Rx) own h = omega arith
most_credit (Waiting flag Tx flagged) own h = let s = phase_small (long_from flag) (dominant_run flag flagged own) in omega arith
most_credit (Waiting flag Rx flagged) own h = omega arith
most_credit Integration own h = omega arith
most_credit Idle own h = omega arith
most_credit (Framing head) own h = omega arith
most_credit (Delimiting role) own h = omega arith
most_credit (Intermission role) own h = omega arith
most_credit Suspension own h = omega arith
most_credit OffBus own h = omega arith

freed : (head : Option Content) → credit_by (free head) [] ≡ 7
freed None = refl
freed (Some c) = refl

after : (role : Role) (mode : Mode) (head : Option Content) → credit_by (after_intermission role mode head) [] ≡ 7
after Tx Passive head = refl
after Tx Active head = freed head
after Tx Off head = freed head
after Rx mode head = freed head

flagged_credit : (role : Role) (mode : Mode) → (credit_by (Flagging (error_flag mode) role) [] ≤ 7) × (credit_by (Flagging (error_flag mode) Tx) [] ≡ 0)
flagged_credit Tx Active = (omega arith, refl)
flagged_credit Tx Passive = (omega arith, refl)
flagged_credit Tx Off = (omega arith, refl)
flagged_credit Rx Active = (omega arith, refl)
flagged_credit Rx Passive = (omega arith, refl)
flagged_credit Rx Off = (omega arith, refl)

failed : (role : Role) (mode : Mode) (kind : ErrorKind) → tec_of (error_of role kind) + credit_by (Flagging (error_flag mode) role) [] ≤ 8
failed Tx mode kind = let f = (flagged_credit Tx mode).1 in omega arith
failed Rx mode kind = let f = (flagged_credit Rx mode).0 in omega arith

overload : (role : Role) → credit_by (Flagging OverloadFlag role) [] ≤ 7
overload Tx = omega arith
overload Rx = omega arith

module _ (x : Sampled) where
  abbrev P : Sort → List Level → Judgement → Type 0
  P sort own j = tec_of j.happened + credit (going sort own x.level j) ≤ suc (credit_by sort own)

  module _ (frame : Option Content) (own : List Level) where
    abbrev F : Judgement → Type 0
    F = P (Framing frame) own

    on : F (continues happens.Nothing)
    on = omega arith

    received : (o : Option ℕ) → F (framing_received own o x)
    received None = receiving_cases F x own (λ a b. failed Rx x.mode Stuff) (λ a. on)
    received (Some end) =
        received_tail_cases F x (destuffed_bits own end) (length own - end)
        (λ one. acknowledging_cases F x (destuffed_bits own end) (λ w. on) (λ r d. omega arith) (λ r d. failed Rx x.mode Bit))
        (λ nine. either F (is_dominant x.level) (begins happens.Nothing (Flagging OverloadFlag Rx) []) (begins happens.Nothing (Intermission Rx) []) (omega arith) (omega arith))
        (λ a b d. failed Rx x.mode Form) (λ a b d. failed Rx x.mode Crc) (λ a b. omega arith) (λ a b d e. on)

    sent : (c : Content) (o : Option ℕ) → F (framing_sent c own o x)
    sent c None = sending_cases F x c own (λ a. on) (λ a. differing_cases F x c own (failed Tx x.mode Bit) (let f = (flagged_credit Tx x.mode).0 in omega arith) on)
    sent c (Some end) =
        sent_tail_cases F x c (length own - end) (λ a b. on) (λ a b. none x.mode) (λ a b. failed Tx x.mode Bit) (λ a b. omega arith) (λ a b d. on)
      where
        none : (mode : Mode) → F (unanswered mode)
        none Passive = omega arith
        none Active = omega arith
        none Off = omega arith

  framed : (role : Role) (frame : Option Content) (own : List Level) → P (Framing frame) own (framing_by role frame own x)
  framed Tx None own = received None own (stuffed_end own)
  framed Tx (Some c) own = sent (Some c) own c (stuffed_end own)
  framed Rx frame own = received frame own (stuffed_end own)

  idles : (own : List Level) (head : Option Content) → P Idle own (idle_on head)
  idles own None = omega arith
  idles own (Some c) = omega arith

  flag_goes : (flag : Flag) (role : Role) (own : List Level) → length own < 6 → (length own ≡ 5 → credit_by (Waiting flag role (own ++ x.level ∷ [])) [] ≤ suc (credit_by (Flagging flag role) own))
      → credit_by (Flagging flag role) (own ++ x.level ∷ []) ≤ suc (credit_by (Flagging flag role) own)
      → x.level ≡ Dominant → P (Flagging flag role) own (dominant_flag flag role own x)
  flag_goes flag role own few end on d =
      let h : (happened : Happened) → tec_of happened ≡ 0 → P (Flagging flag role) own (cond (length own == 5) (begins happened (Waiting flag role (own ++ x.level ∷ [])) []) (continues happened)) =
      λ happened z. cond_both (length own == 5) (begins happened (Waiting flag role (own ++ x.level ∷ [])) []) (continues happened) (P (Flagging flag role) own)
      (λ e. let f = end (eqb-true (length own) 5 e) in omega arith) (λ e. omega arith) in
      h (cond (is_dominant x.level) happens.Nothing (flag_bit_of role)) (ap (λ l. tec_of (cond (is_dominant l) happens.Nothing (flag_bit_of role))) d)

-- a wait
pub after_none : (flag : Flag) (own : List Level) → is_after_flag flag Tx own ≡ false
after_none ActiveFlag own = refl
after_none OverloadFlag own = refl
after_none (PassiveFlag unacknowledged) own = refl

waits : (flag : Flag) (role : Role) (flags own : List Level) (l : Level) (head : Option Content) (mode : Mode)
    → P (sample_of l head mode) (Waiting flag role flags) own (judged_by (Waiting flag role flags) own (sample_of l head mode))
waits flag Rx flags own Recessive head mode = omega arith
waits flag Tx flags own Recessive head mode = omega arith
waits flag Rx flags own Dominant head mode =
    either (P (sample_of Dominant head mode) (Waiting flag Rx flags) own) (is_after_flag flag Rx own) (continues happens.RxAfterFlag)
    (cond (is_each_eighth (long_from flag) (dominant_run flag flags (own ++ Dominant ∷ []))) (continues happens.RxLong) (continues happens.Nothing)) (omega arith)
    (either (P (sample_of Dominant head mode) (Waiting flag Rx flags) own) (is_each_eighth (long_from flag) (dominant_run flag flags (own ++ Dominant ∷ []))) (continues happens.RxLong) (continues happens.Nothing)
    (omega arith) (omega arith))
waits flag Tx flags own Dominant head mode =
    let x = sample_of Dominant head mode in
    let up = wait_up flag flags own in
    cond_both (is_after_flag flag Tx own) (continues happens.RxAfterFlag)
    (cond (is_each_eighth (long_from flag) (dominant_run flag flags (own ++ Dominant ∷ []))) (continues happens.TxLong) (continues happens.Nothing)) (P x (Waiting flag Tx flags) own)
    (λ e. absurd (both_ways (is_after_flag flag Tx own) (after_none flag own) e))
    (λ n. cond_both (is_each_eighth (long_from flag) (dominant_run flag flags (own ++ Dominant ∷ []))) (continues happens.TxLong) (continues happens.Nothing) (P x (Waiting flag Tx flags) own)
    (λ e. let both = wait_counts flag flags own e in let a = both.0 in let b = both.1 in omega arith) (λ e. omega arith))

-- a passive flag
none_at : (own : List Level) (k : ℕ) → list_any is_dominant own ≡ false → at own k ≡ Recessive
none_at [] k e = refl
none_at (Dominant ∷ own) k e = cc
none_at (Recessive ∷ own) zero e = refl
none_at (Recessive ∷ own) (suc k) e = none_at own k e

none_run : (own : List Level) (n : ℕ) → list_any is_dominant own ≡ false → run_before Dominant own n ≡ 0
none_run own zero e = refl
none_run own (suc n) e = ap (λ l. cond (same l Dominant) (suc (run_before Dominant own n)) 0) (none_at own n e)

any_more : (own : List Level) (l : Level) → list_any is_dominant (own ++ l ∷ []) ≡ (list_any is_dominant own || is_dominant l)
any_more [] Dominant = refl
any_more [] Recessive = refl
any_more (Dominant ∷ own) l = refl
any_more (Recessive ∷ own) l = any_more own l

or_none : (b : Bool) → (b || false) ≡ b
or_none true = refl
or_none false = refl

or_one : (b : Bool) → (b || true) ≡ true
or_one true = refl
or_one false = refl

flag_ends : (role : Role) (unacknowledged : Bool) (own : List Level) (l : Level) (happened : Happened)
    → ((run_at_end l (own ++ l ∷ []) == 6) ≡ true → tec_of happened + credit_by (Waiting (PassiveFlag unacknowledged) role (own ++ l ∷ [])) [] ≤ suc (credit_by (Flagging (PassiveFlag unacknowledged) role) own))
    → tec_of happened + credit_by (Flagging (PassiveFlag unacknowledged) role) (own ++ l ∷ []) ≤ suc (credit_by (Flagging (PassiveFlag unacknowledged) role) own)
    → (head : Option Content) (mode : Mode) → P (sample_of l head mode) (Flagging (PassiveFlag unacknowledged) role) own
    (cond (run_at_end l (own ++ l ∷ []) == 6) (begins happened (Waiting (PassiveFlag unacknowledged) role (own ++ l ∷ [])) []) (continues happened))
flag_ends role unacknowledged own l happened ends on head mode =
    cond_both (run_at_end l (own ++ l ∷ []) == 6) (begins happened (Waiting (PassiveFlag unacknowledged) role (own ++ l ∷ [])) []) (continues happened)
    (P (sample_of l head mode) (Flagging (PassiveFlag unacknowledged) role) own) (λ e. ends e) (λ e. on)

passes : (unacknowledged : Bool) (role : Role) (own : List Level) (l : Level) (head : Option Content) (mode : Mode) → (unacknowledged ≡ true → role ≡ Tx)
    → P (sample_of l head mode) (Flagging (PassiveFlag unacknowledged) role) own (judged_by (Flagging (PassiveFlag unacknowledged) role) own (sample_of l head mode))
passes true Rx own l head mode h = let e = h refl in cc
passes false Rx own l head mode h = flag_ends Rx false own l happens.Nothing (λ e. omega arith) (omega arith) head mode
passes false Tx own l head mode h =
    flag_ends Tx false own l happens.Nothing (λ e. let five = equal_last own l e in omega arith) (let up = equal_up own l in omega arith) head mode
passes true Tx own Recessive head mode h =
    flag_ends Tx true own Recessive happens.Nothing
    (λ e. let five = equal_last own Recessive e in either (λ (k : ℕ). 0 + (6 + 0) ≤ suc k) (not (list_any is_dominant own)) 8 (equal_run own) (omega arith) (omega arith))
    (subst (λ b. 0 + cond (not b) 8 (equal_run (own ++ Recessive ∷ [])) ≤ suc (cond (not (list_any is_dominant own)) 8 (equal_run own))) (sym (any_more own Recessive ∙ or_none (list_any is_dominant own)))
    (two (not (list_any is_dominant own)) (equal_up own Recessive))) head mode
  where
    two : (b : Bool) → equal_run (own ++ Recessive ∷ []) ≤ suc (equal_run own) → 0 + cond b 8 (equal_run (own ++ Recessive ∷ [])) ≤ suc (cond b 8 (equal_run own))
    two true up = omega arith
    two false up = omega arith
passes true Tx own Dominant head mode h =
    flag_ends Tx true own Dominant (cond (not (list_any is_dominant own)) happens.PassiveAck happens.Nothing) (ends (list_any is_dominant own) refl)
    (subst (λ b. tec_of (cond (not (list_any is_dominant own)) happens.PassiveAck happens.Nothing) + cond (not b) 8 (equal_run (own ++ Dominant ∷ [])) ≤ suc (cond (not (list_any is_dominant own)) 8 (equal_run own)))
    (sym (any_more own Dominant ∙ or_one (list_any is_dominant own))) (goes_on (list_any is_dominant own) refl)) head mode
  where
    first : list_any is_dominant own ≡ false → run_at_end Dominant (own ++ Dominant ∷ []) ≡ 1
    first e = run_same Dominant own ∙ ap suc (none_run own (length own) e)

    ends : (b : Bool) → list_any is_dominant own ≡ b → (run_at_end Dominant (own ++ Dominant ∷ []) == 6) ≡ true
        → tec_of (cond (not b) happens.PassiveAck happens.Nothing) + (6 + 0) ≤ suc (cond (not b) 8 (equal_run own))
    ends true e six = let five = equal_last own Dominant six in omega arith
    ends false e six = let one = first e in let f = eqb-true (run_at_end Dominant (own ++ Dominant ∷ [])) 6 six in absurd (omega arith)

    goes_on : (b : Bool) → list_any is_dominant own ≡ b → tec_of (cond (not b) happens.PassiveAck happens.Nothing) + equal_run (own ++ Dominant ∷ []) ≤ suc (cond (not b) 8 (equal_run own))
    goes_on true e = let up = equal_up own Dominant in omega arith
    goes_on false e = let one = first e in let z = (run_other own).0 in omega arith

by_sort : (x : Sampled) (sort : Sort) (own : List Level) → IsPossibleBy sort own → (drive_by sort own ≡ Dominant → x.level ≡ Dominant) → P x sort own (judged_by sort own x)
by_sort x Integration own h d =
    either (P x Integration own) (run_at_end Recessive (own ++ x.level ∷ []) == 11) (begins happens.Nothing (free x.head) []) (continues happens.Nothing) (let f = freed x.head in omega arith) (omega arith)
by_sort x Idle own h d = either (P x Idle own) (is_dominant x.level) (begins happens.Nothing (Framing None) (x.level ∷ [])) (idle_on x.head) (omega arith) (idles x own x.head)
by_sort x (Framing frame) own h d = framed x (frame_role frame own) frame own
by_sort x (Flagging ActiveFlag Tx) own h d =
    flag_goes x ActiveFlag Tx own h (λ five. let z = wait_first ActiveFlag (own ++ x.level ∷ []) (let m = longer own x.level in omega arith) in omega arith) (let m = longer own x.level in omega arith) (d refl)
by_sort x (Flagging ActiveFlag Rx) own h d = flag_goes x ActiveFlag Rx own h (λ five. omega arith) (omega arith) (d refl)
by_sort x (Flagging OverloadFlag Tx) own h d =
    flag_goes x OverloadFlag Tx own h (λ five. let z = wait_first OverloadFlag (own ++ x.level ∷ []) (let m = longer own x.level in omega arith) in omega arith) (let m = longer own x.level in omega arith) (d refl)
by_sort x (Flagging OverloadFlag Rx) own h d = flag_goes x OverloadFlag Rx own h (λ five. omega arith) (omega arith) (d refl)
by_sort x (Flagging (PassiveFlag unacknowledged) role) own h d = passes unacknowledged role own x.level x.head x.mode h.2
by_sort x (Waiting flag role flags) own h d = waits flag role flags own x.level x.head x.mode
by_sort x (Delimiting role) own h d =
    either (P x (Delimiting role) own) (not (is_dominant x.level))
    (cond (length own == 7) (begins happens.Nothing (Intermission role) []) (continues happens.Nothing))
    (cond (length own == 7) (begins happens.Nothing (Flagging OverloadFlag role) []) (fails role x.mode (delimiter_error role)))
    (either (P x (Delimiting role) own) (length own == 7) (begins happens.Nothing (Intermission role) []) (continues happens.Nothing) (omega arith) (omega arith))
    (either (P x (Delimiting role) own) (length own == 7) (begins happens.Nothing (Flagging OverloadFlag role) []) (fails role x.mode (delimiter_error role)) (let o = overload role in omega arith) (failed role x.mode (delimiter_error role)))
by_sort x (Intermission role) own h d =
    either (P x (Intermission role) own) (length own == 2)
    (cond (is_dominant x.level) (begins happens.Nothing (Framing (begun_head role x.mode x.head)) (x.level ∷ [])) (begins happens.Nothing (after_intermission role x.mode x.head) []))
    (cond (is_dominant x.level) (begins happens.Nothing (Flagging OverloadFlag role) []) (continues happens.Nothing))
    (either (P x (Intermission role) own) (is_dominant x.level) (begins happens.Nothing (Framing (begun_head role x.mode x.head)) (x.level ∷ [])) (begins happens.Nothing (after_intermission role x.mode x.head) [])
    (omega arith) (let a = after role x.mode x.head in omega arith))
    (either (P x (Intermission role) own) (is_dominant x.level) (begins happens.Nothing (Flagging OverloadFlag role) []) (continues happens.Nothing) (let o = overload role in omega arith) (omega arith))
by_sort x Suspension own h d =
    either (P x Suspension own) (is_dominant x.level) (begins happens.Nothing (Framing None) (x.level ∷ []))
    (cond (length own == 7) (begins happens.Nothing (free x.head) []) (continues happens.Nothing)) (omega arith)
    (either (P x Suspension own) (length own == 7) (begins happens.Nothing (free x.head) []) (continues happens.Nothing) (let f = freed x.head in omega arith) (omega arith))
by_sort x OffBus own h d =
    either (P x OffBus own) (recessive_runs (own ++ x.level ∷ []) == 128) (begins happens.Recovered (free x.head) []) (continues happens.Nothing) (let f = freed x.head in omega arith) (omega arith)

-- what is counted is no more
added_up : (c : Counts) (h : Happened) → (counts_after c h).tec ≤ c.tec + tec_of h
added_up c happens.Nothing = omega arith
added_up c (happens.RxError kind) = omega arith
added_up c happens.RxAfterFlag = omega arith
added_up c happens.RxFlagBit = omega arith
added_up c happens.RxLong = omega arith
added_up c (happens.TxError kind) = omega arith
added_up c happens.TxFree = omega arith
added_up c happens.PassiveAck = omega arith
added_up c happens.TxFlagBit = omega arith
added_up c happens.TxLong = omega arith
added_up c happens.Sent = omega arith
added_up c happens.Acked = omega arith
added_up c happens.Recovered = omega arith

tec_along : (xs : List Sampled) (s : Stretch) (c : Counts) → IsPossible s → FindsItsDominant s xs → (counts_on c s xs).tec ≤ c.tec + (length xs + credit s)
tec_along [] s c p h = omega arith
tec_along (x ∷ xs) s c p h =
    let rest = tec_along xs (stretch_after s (Sample x)) (counts_after c (judged s x).happened) (possible_next s (Sample x) p) h.1 in
    let here = added_up c (judged s x).happened in
    let step : tec_of (judged s x).happened + credit (stretch_after s (Sample x)) ≤ suc (credit s) = by_sort x s.sort s.own p h.0 in
    omega arith

pub tec_counts : (past : List Input) (xs : List Sampled) (c : Counts) → FindsItsDominant (stretch_of past) xs → (counts_on c (stretch_of past) xs).tec ≤ c.tec + (length xs + 13)
tec_counts past xs c h =
    let most = most_credit (stretch_of past).sort (stretch_of past).own (possible past) in
    let all = tec_along xs (stretch_of past) c (possible past) h in
    omega arith

-- a machine with a TEC below 256 is on the bus
pub on_bus : (c : Counts) → c.tec < 256 → mode_of c ≡ Off → ⊥
on_bus c h e = by (nat_le passive_at c.tec || nat_le passive_at c.rec) (sym (ap (λ b. cond b Off (cond (nat_le passive_at c.tec || nat_le passive_at c.rec) Passive Active)) (lt-leb off_at c.tec h)) ∙ e)
  where
    by : (b : Bool) → cond b Passive Active ≡ Off → ⊥
    by true e = cc
    by false e = cc
