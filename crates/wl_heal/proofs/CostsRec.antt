-- What samples can count at most as a receiver's, as `Costs` says of a transmitter's: in sixteenths.
use Rattle.std.proofs.Common.{◌≡◌, ℕ, ◌+◌, ◌-◌, ◌*◌, ◌<◌, ◌≤◌, List, [], ◌∷◌, ◌++◌, length, Bool, true, false, not, cond, ◌&&◌, Option, Some, None, refl, ap, arith, inl, inr}
use Rattle.std.specs.Prelude.{◌==◌, nat_lt, ◌/◌}
use Rattle.std.specs.List.{list_any}
use Rattle.std.proofs.lemmas.Bool.{cond_both, eqb-true, both_ways, cases_lt, ltb-true}
use Rattle.wl_level.specs.declared.Level.{Level}
use Rattle.wl_level.specs.declared.Level.TheVariants.{Dominant, Recessive}
use Rattle.wl_level.specs.Levels.{is_dominant}
use Rattle.wl_level.specs.Places.{run_at_end}
use Rattle.wl_frame.specs.Stuffing.{destuffed_bits}
use Rattle.wl_frame.specs.Grammar.{Content}
use Rattle.wl_confine.specs.declared.ErrorKind.{ErrorKind}
use Rattle.wl_confine.specs.declared.ErrorKind.TheVariants.{Bit, Stuff, Form, Crc}
use Rattle.wl_confine.specs.declared.Mode.{Mode}
use Rattle.wl_confine.specs.declared.Mode.TheVariants.{Active, Passive, Off}
use Rattle.wl_confine.specs.declared.Happened.{Happened}
use Rattle.wl_confine.specs.declared.Happened.TheVariants as happens
use Rattle.wl_confine.specs.Counts.{Counts, counts_after, lowered_rec}
use Rattle.wl_machine.specs.declared.state.Role.{Role}
use Rattle.wl_machine.specs.declared.state.Role.TheVariants.{Tx, Rx}
use Rattle.wl_machine.specs.Stretch.{Flag, Sort, Stretch, Sampled, Input, Judgement, continues, begins, free}
use Rattle.wl_machine.specs.Stretch.Flag.{ActiveFlag, OverloadFlag, PassiveFlag}
use Rattle.wl_machine.specs.Stretch.Sort.{Integration, Idle, Framing, Flagging, Waiting, Delimiting, Intermission, Suspension, OffBus}
use Rattle.wl_machine.specs.Stretch.Input.{Sample}
use Rattle.wl_machine.specs.BetweenFrames.{after_intermission, begun_head, idle_on, recessive_runs}
use Rattle.wl_machine.specs.Flags.{error_flag, error_of, fails, delimiter_error, dominant_flag, is_after_flag, is_each_eighth, long_from, dominant_run, flag_bit_of}
use Rattle.wl_machine.specs.Frames.{stuffed_end, frame_role, framing_by, framing_sent, framing_received, unanswered}
use Rattle.wl_machine.specs.Judged.{judged, judged_by, stretch_after, stretch_of, drive_by}
use Rattle.wl_machine.specs.States.{sample_of}
use Rattle.wl_heal.specs.Costs.{FindsItsDominant, counts_on}
use Rattle.wl_heal.proofs.Cases.{differing_cases, sending_cases, receiving_cases, sent_tail_cases, acknowledging_cases, received_tail_cases}
use Rattle.wl_heal.proofs.Costs.{equal_run, equal_up, equal_last, after_none}
use Rattle.wl_heal.proofs.Phases.{wait_phase, wait_up, wait_counts, wait_first, phase_small}
use Rattle.wl_heal.proofs.Possible.{IsPossible, IsPossibleBy, possible, possible_next}
use Rattle.wl_heal.proofs.Samples.{going, either, longer, run_last}

-- what happens adds so much to the REC, times 16
abbrev pub rec_of : Happened → ℕ
rec_of (happens.RxError kind) = 16
rec_of happens.RxAfterFlag = 128
rec_of happens.RxFlagBit = 128
rec_of happens.RxLong = 128
rec_of happened = 0

-- how many sixteenths more than 17 for each sample a receiver may count from here on
abbrev pub credit_by : Sort → List Level → ℕ
credit_by (Flagging (PassiveFlag unacknowledged) Rx) own = 18 + 17 * equal_run own
credit_by (Flagging ActiveFlag Rx) own = 18 + 17 * length own
credit_by (Waiting flag Rx flagged) own = cond (is_after_flag flag Rx own) 120 (17 * wait_phase flag flagged own - 8)
credit_by sort own = 17

abbrev pub credit : Stretch → ℕ
credit s = credit_by s.sort s.own

-- the last samples are of one level
equal_small : (own : List Level) → run_at_end Recessive own < 6 → run_at_end Dominant own < 6 → equal_run own ≤ 5
equal_small own r d = elim (cases_lt 0 (run_at_end Recessive own)) [
  | inl some ↦ elim (cases_lt 0 (run_at_end Dominant own)) [
    | inl both ↦ (let e = run_last Recessive own (length own) some in let f = run_last Dominant own (length own) both in cc)
    | inr none ↦ omega arith
  ]
  | inr none ↦ omega arith
]

most_credit : (sort : Sort) (own : List Level) → IsPossibleBy sort own → credit_by sort own ≤ 120
most_credit (Flagging ActiveFlag Rx) own h = omega arith
most_credit (Flagging OverloadFlag Rx) own h = omega arith
most_credit (Flagging (PassiveFlag unacknowledged) Rx) own h = let five = equal_small own h.0 h.1 in omega arith
most_credit (Flagging flag Tx) own h = by flag
  where
    by : (flag : Flag) → credit_by (Flagging flag Tx) own ≤ 120
    by ActiveFlag = omega arith
    by OverloadFlag = omega arith
    by (PassiveFlag unacknowledged) = omega arith
most_credit (Waiting flag Rx flagged) own h =
    let s = phase_small (long_from flag) (dominant_run flag flagged own) in
    either (λ (k : ℕ). k ≤ 120) (is_after_flag flag Rx own) 120 (17 * wait_phase flag flagged own - 8) (omega arith) (omega arith)
most_credit (Waiting flag Tx flagged) own h = omega arith
most_credit Integration own h = omega arith
most_credit Idle own h = omega arith
most_credit (Framing head) own h = omega arith
most_credit (Delimiting role) own h = omega arith
most_credit (Intermission role) own h = omega arith
most_credit Suspension own h = omega arith
most_credit OffBus own h = omega arith

freed : (head : Option Content) → credit_by (free head) [] ≡ 17
freed None = refl
freed (Some c) = refl

after : (role : Role) (mode : Mode) (head : Option Content) → credit_by (after_intermission role mode head) [] ≡ 17
after Tx Passive head = refl
after Tx Active head = freed head
after Tx Off head = freed head
after Rx mode head = freed head

flagged_credit : (role : Role) (mode : Mode) → credit_by (Flagging (error_flag mode) role) [] ≤ 18
flagged_credit Tx Active = omega arith
flagged_credit Tx Passive = omega arith
flagged_credit Tx Off = omega arith
flagged_credit Rx Active = omega arith
flagged_credit Rx Passive = omega arith
flagged_credit Rx Off = omega arith

failed : (role : Role) (mode : Mode) (kind : ErrorKind) → rec_of (error_of role kind) + credit_by (Flagging (error_flag mode) role) [] ≤ 34
failed Tx mode kind = let f = flagged_credit Tx mode in omega arith
failed Rx mode kind = let f = flagged_credit Rx mode in omega arith

overload : (role : Role) → credit_by (Flagging OverloadFlag role) [] ≤ 17
overload Tx = omega arith
overload Rx = omega arith

module _ (x : Sampled) where
  abbrev P : Sort → List Level → Judgement → Type 0
  P sort own j = rec_of j.happened + credit (going sort own x.level j) ≤ credit_by sort own + 17

  module _ (frame : Option Content) (own : List Level) where
    abbrev F : Judgement → Type 0
    F = P (Framing frame) own

    on : F (continues happens.Nothing)
    on = omega arith

    received : (o : Option ℕ) → F (framing_received own o x)
    received None = receiving_cases F x own (λ a b. failed Rx x.mode Stuff) (λ a. on)
    received (Some end) =
        received_tail_cases F x (destuffed_bits own end) (length own - end)
        (λ one. acknowledging_cases F x (destuffed_bits own end) (λ w. on) (λ r d. omega arith) (λ r d. failed Rx x.mode Bit))
        (λ nine. either F (is_dominant x.level) (begins happens.Nothing (Flagging OverloadFlag Rx) []) (begins happens.Nothing (Intermission Rx) []) (omega arith) (omega arith))
        (λ a b d. failed Rx x.mode Form) (λ a b d. failed Rx x.mode Crc) (λ a b. omega arith) (λ a b d e. on)

    sent : (c : Content) (o : Option ℕ) → F (framing_sent c own o x)
    sent c None = sending_cases F x c own (λ a. on) (λ a. differing_cases F x c own (failed Tx x.mode Bit) (let f = flagged_credit Tx x.mode in omega arith) on)
    sent c (Some end) =
        sent_tail_cases F x c (length own - end) (λ a b. on) (λ a b. none x.mode) (λ a b. failed Tx x.mode Bit) (λ a b. omega arith) (λ a b d. on)
      where
        none : (mode : Mode) → F (unanswered mode)
        none Passive = omega arith
        none Active = omega arith
        none Off = omega arith

  framed : (role : Role) (frame : Option Content) (own : List Level) → P (Framing frame) own (framing_by role frame own x)
  framed Tx None own = received None own (stuffed_end own)
  framed Tx (Some c) own = sent (Some c) own c (stuffed_end own)
  framed Rx frame own = received frame own (stuffed_end own)

  idles : (own : List Level) (head : Option Content) → P Idle own (idle_on head)
  idles own None = omega arith
  idles own (Some c) = omega arith

  flag_goes : (flag : Flag) (role : Role) (own : List Level) → length own < 6 → (length own ≡ 5 → credit_by (Waiting flag role (own ++ x.level ∷ [])) [] ≤ credit_by (Flagging flag role) own + 17)
      → credit_by (Flagging flag role) (own ++ x.level ∷ []) ≤ credit_by (Flagging flag role) own + 17
      → x.level ≡ Dominant → P (Flagging flag role) own (dominant_flag flag role own x)
  flag_goes flag role own few end on d =
      let h : (happened : Happened) → rec_of happened ≡ 0 → P (Flagging flag role) own (cond (length own == 5) (begins happened (Waiting flag role (own ++ x.level ∷ [])) []) (continues happened)) =
      λ happened z. cond_both (length own == 5) (begins happened (Waiting flag role (own ++ x.level ∷ [])) []) (continues happened) (P (Flagging flag role) own)
      (λ e. let f = end (eqb-true (length own) 5 e) in omega arith) (λ e. omega arith) in
      h (cond (is_dominant x.level) happens.Nothing (flag_bit_of role)) (ap (λ l. rec_of (cond (is_dominant l) happens.Nothing (flag_bit_of role))) d)

-- a wait
after_more : (flag : Flag) (own : List Level) (l : Level) → is_after_flag flag Rx (own ++ l ∷ []) ≡ false
after_more ActiveFlag [] l = refl
after_more ActiveFlag (a ∷ own) l = refl
after_more OverloadFlag [] l = refl
after_more OverloadFlag (a ∷ own) l = refl
after_more (PassiveFlag unacknowledged) [] l = refl
after_more (PassiveFlag unacknowledged) (a ∷ own) l = refl

-- the first sample of a wait
after_first : (flag : Flag) (flags own : List Level) → IsPossibleBy (Waiting flag Rx flags) own → is_after_flag flag Rx own ≡ true → wait_phase flag flags own ≡ 0
after_first ActiveFlag flags [] h e = wait_first ActiveFlag flags h
after_first ActiveFlag flags (a ∷ own) h e = cc
after_first OverloadFlag flags own h e = cc
after_first (PassiveFlag unacknowledged) flags [] h e = refl
after_first (PassiveFlag unacknowledged) flags (a ∷ own) h e = cc

waits : (flag : Flag) (role : Role) (flags own : List Level) (l : Level) (head : Option Content) (mode : Mode) → IsPossibleBy (Waiting flag role flags) own
    → P (sample_of l head mode) (Waiting flag role flags) own (judged_by (Waiting flag role flags) own (sample_of l head mode))
waits flag Rx flags own Recessive head mode h = omega arith
waits flag Tx flags own Recessive head mode h = omega arith
waits flag Tx flags own Dominant head mode h =
    cond_both (is_after_flag flag Tx own) (continues happens.RxAfterFlag)
    (cond (is_each_eighth (long_from flag) (dominant_run flag flags (own ++ Dominant ∷ []))) (continues happens.TxLong) (continues happens.Nothing))
    (P (sample_of Dominant head mode) (Waiting flag Tx flags) own) (λ e. absurd (both_ways (is_after_flag flag Tx own) (after_none flag own) e))
    (λ n. either (P (sample_of Dominant head mode) (Waiting flag Tx flags) own) (is_each_eighth (long_from flag) (dominant_run flag flags (own ++ Dominant ∷ []))) (continues happens.TxLong) (continues happens.Nothing)
    (omega arith) (omega arith))
waits flag Rx flags own Dominant head mode h =
    let x = sample_of Dominant head mode in
    let up = wait_up flag flags own in
    let now : credit_by (Waiting flag Rx flags) (own ++ Dominant ∷ []) ≡ 17 * wait_phase flag flags (own ++ Dominant ∷ []) - 8 =
    ap (λ b. cond b 120 (17 * wait_phase flag flags (own ++ Dominant ∷ []) - 8)) (after_more flag own Dominant) in
    cond_both (is_after_flag flag Rx own) (continues happens.RxAfterFlag)
    (cond (is_each_eighth (long_from flag) (dominant_run flag flags (own ++ Dominant ∷ []))) (continues happens.RxLong) (continues happens.Nothing)) (P x (Waiting flag Rx flags) own)
    (λ e. let z = after_first flag flags own h e in
    let was : credit_by (Waiting flag Rx flags) own ≡ 120 = ap (λ b. cond b 120 (17 * wait_phase flag flags own - 8)) e in omega arith)
    (λ n. let was : credit_by (Waiting flag Rx flags) own ≡ 17 * wait_phase flag flags own - 8 = ap (λ b. cond b 120 (17 * wait_phase flag flags own - 8)) n in
    cond_both (is_each_eighth (long_from flag) (dominant_run flag flags (own ++ Dominant ∷ []))) (continues happens.RxLong) (continues happens.Nothing) (P x (Waiting flag Rx flags) own)
    (λ e. let both = wait_counts flag flags own e in let a = both.0 in let b = both.1 in omega arith) (λ e. omega arith))

-- a passive flag
passes : (unacknowledged : Bool) (role : Role) (own : List Level) (l : Level) (head : Option Content) (mode : Mode)
    → P (sample_of l head mode) (Flagging (PassiveFlag unacknowledged) role) own (judged_by (Flagging (PassiveFlag unacknowledged) role) own (sample_of l head mode))
passes unacknowledged role own l head mode =
    by (cond (unacknowledged && is_dominant l && not (list_any is_dominant own)) happens.PassiveAck happens.Nothing) (weight (unacknowledged && is_dominant l && not (list_any is_dominant own))) role
  where
    weight : (b : Bool) → rec_of (cond b happens.PassiveAck happens.Nothing) ≡ 0
    weight true = refl
    weight false = refl

    by : (happened : Happened) → rec_of happened ≡ 0 → (role : Role) → P (sample_of l head mode) (Flagging (PassiveFlag unacknowledged) role) own
        (cond (run_at_end l (own ++ l ∷ []) == 6) (begins happened (Waiting (PassiveFlag unacknowledged) role (own ++ l ∷ [])) []) (continues happened))
    by happened z Tx =
        either (P (sample_of l head mode) (Flagging (PassiveFlag unacknowledged) Tx) own) (run_at_end l (own ++ l ∷ []) == 6)
        (begins happened (Waiting (PassiveFlag unacknowledged) Tx (own ++ l ∷ [])) []) (continues happened) (omega arith) (omega arith)
    by happened z Rx =
        let up = equal_up own l in
        cond_both (run_at_end l (own ++ l ∷ []) == 6) (begins happened (Waiting (PassiveFlag unacknowledged) Rx (own ++ l ∷ [])) []) (continues happened)
        (P (sample_of l head mode) (Flagging (PassiveFlag unacknowledged) Rx) own) (λ e. let five = equal_last own l e in omega arith) (λ e. omega arith)

by_sort : (x : Sampled) (sort : Sort) (own : List Level) → IsPossibleBy sort own → (drive_by sort own ≡ Dominant → x.level ≡ Dominant) → P x sort own (judged_by sort own x)
by_sort x Integration own h d =
    either (P x Integration own) (run_at_end Recessive (own ++ x.level ∷ []) == 11) (begins happens.Nothing (free x.head) []) (continues happens.Nothing) (let f = freed x.head in omega arith) (omega arith)
by_sort x Idle own h d = either (P x Idle own) (is_dominant x.level) (begins happens.Nothing (Framing None) (x.level ∷ [])) (idle_on x.head) (omega arith) (idles x own x.head)
by_sort x (Framing frame) own h d = framed x (frame_role frame own) frame own
by_sort x (Flagging ActiveFlag Rx) own h d =
    flag_goes x ActiveFlag Rx own h (λ five. omega arith) (let m = longer own x.level in omega arith) (d refl)
by_sort x (Flagging ActiveFlag Tx) own h d = flag_goes x ActiveFlag Tx own h (λ five. omega arith) (omega arith) (d refl)
by_sort x (Flagging OverloadFlag Rx) own h d =
    flag_goes x OverloadFlag Rx own h (λ five. let z = wait_first OverloadFlag (own ++ x.level ∷ []) (let m = longer own x.level in omega arith) in omega arith) (omega arith) (d refl)
by_sort x (Flagging OverloadFlag Tx) own h d = flag_goes x OverloadFlag Tx own h (λ five. omega arith) (omega arith) (d refl)
by_sort x (Flagging (PassiveFlag unacknowledged) role) own h d = passes unacknowledged role own x.level x.head x.mode
by_sort x (Waiting flag role flags) own h d = waits flag role flags own x.level x.head x.mode h
by_sort x (Delimiting role) own h d =
    either (P x (Delimiting role) own) (not (is_dominant x.level))
    (cond (length own == 7) (begins happens.Nothing (Intermission role) []) (continues happens.Nothing))
    (cond (length own == 7) (begins happens.Nothing (Flagging OverloadFlag role) []) (fails role x.mode (delimiter_error role)))
    (either (P x (Delimiting role) own) (length own == 7) (begins happens.Nothing (Intermission role) []) (continues happens.Nothing) (omega arith) (omega arith))
    (either (P x (Delimiting role) own) (length own == 7) (begins happens.Nothing (Flagging OverloadFlag role) []) (fails role x.mode (delimiter_error role)) (let o = overload role in omega arith) (failed role x.mode (delimiter_error role)))
by_sort x (Intermission role) own h d =
    either (P x (Intermission role) own) (length own == 2)
    (cond (is_dominant x.level) (begins happens.Nothing (Framing (begun_head role x.mode x.head)) (x.level ∷ [])) (begins happens.Nothing (after_intermission role x.mode x.head) []))
    (cond (is_dominant x.level) (begins happens.Nothing (Flagging OverloadFlag role) []) (continues happens.Nothing))
    (either (P x (Intermission role) own) (is_dominant x.level) (begins happens.Nothing (Framing (begun_head role x.mode x.head)) (x.level ∷ [])) (begins happens.Nothing (after_intermission role x.mode x.head) [])
    (omega arith) (let a = after role x.mode x.head in omega arith))
    (either (P x (Intermission role) own) (is_dominant x.level) (begins happens.Nothing (Flagging OverloadFlag role) []) (continues happens.Nothing) (let o = overload role in omega arith) (omega arith))
by_sort x Suspension own h d =
    either (P x Suspension own) (is_dominant x.level) (begins happens.Nothing (Framing None) (x.level ∷ []))
    (cond (length own == 7) (begins happens.Nothing (free x.head) []) (continues happens.Nothing)) (omega arith)
    (either (P x Suspension own) (length own == 7) (begins happens.Nothing (free x.head) []) (continues happens.Nothing) (let f = freed x.head in omega arith) (omega arith))
by_sort x OffBus own h d =
    either (P x OffBus own) (recessive_runs (own ++ x.level ∷ []) == 128) (begins happens.Recovered (free x.head) []) (continues happens.Nothing) (let f = freed x.head in omega arith) (omega arith)

-- what is counted is no more
added_up : (c : Counts) (h : Happened) → 16 * (counts_after c h).rec ≤ 16 * c.rec + rec_of h
added_up c happens.Nothing = omega arith
added_up c (happens.RxError kind) = omega arith
added_up c happens.RxAfterFlag = omega arith
added_up c happens.RxFlagBit = omega arith
added_up c happens.RxLong = omega arith
added_up c (happens.TxError kind) = omega arith
added_up c happens.TxFree = omega arith
added_up c happens.PassiveAck = omega arith
added_up c happens.TxFlagBit = omega arith
added_up c happens.TxLong = omega arith
added_up c happens.Sent = omega arith
added_up c happens.Acked = cond_both (nat_lt lowered_rec c.rec) lowered_rec (c.rec - 1) (λ (k : ℕ). 16 * k ≤ 16 * c.rec + 0) (λ e. let f = ltb-true lowered_rec c.rec e in omega arith) (λ e. omega arith)
added_up c happens.Recovered = omega arith

rec_along : (xs : List Sampled) (s : Stretch) (c : Counts) → IsPossible s → FindsItsDominant s xs → 16 * (counts_on c s xs).rec ≤ 16 * c.rec + (17 * length xs + credit s)
rec_along [] s c p h = omega arith
rec_along (x ∷ xs) s c p h =
    let rest = rec_along xs (stretch_after s (Sample x)) (counts_after c (judged s x).happened) (possible_next s (Sample x) p) h.1 in
    let here = added_up c (judged s x).happened in
    let step : rec_of (judged s x).happened + credit (stretch_after s (Sample x)) ≤ credit s + 17 = by_sort x s.sort s.own p h.0 in
    omega arith

pub rec_counts : (past : List Input) (xs : List Sampled) (c : Counts) → FindsItsDominant (stretch_of past) xs
    → (counts_on c (stretch_of past) xs).rec ≤ c.rec + (length xs + (length xs + 120) / 16)
rec_counts past xs c h =
    let most = most_credit (stretch_of past).sort (stretch_of past).own (possible past) in
    let all = rec_along xs (stretch_of past) c (possible past) h in
    omega arith
