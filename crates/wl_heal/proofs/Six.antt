-- Six dominant samples bring an error active machine into a flag, or into the wait after one.
use Rattle.std.proofs.Common.{◌≡◌, ◌∙◌, ℕ, suc, ◌-◌, ◌<◌, ◌≤◌, List, [], ◌∷◌, ◌++◌, length, Bool, true, false, cond, Option, Some, None, inl, inr, refl, sym, ap, subst, arith}
use Rattle.std.specs.Prelude.{◌==◌}
use Rattle.std.proofs.lemmas.Bool.{cond_both, ne_eqb, cases_lt, both_ways, and_from}
use Rattle.wl_level.specs.declared.Level.{Level}
use Rattle.wl_level.specs.declared.Level.TheVariants.{Dominant, Recessive}
use Rattle.wl_level.specs.Levels.{same, opposite}
use Rattle.wl_level.specs.Places.{or_at, run_at_end, before, at}
use Rattle.wl_frame.specs.Stuffing.{destuffed_bits}
use Rattle.wl_frame.specs.Grammar.{Content, bits_of}
use Rattle.wl_confine.specs.declared.Mode.{Mode}
use Rattle.wl_confine.specs.declared.Mode.TheVariants.{Active}
use Rattle.wl_confine.specs.declared.Happened.TheVariants as happens
use Rattle.wl_machine.specs.declared.state.Role.{Role}
use Rattle.wl_machine.specs.declared.state.Role.TheVariants.{Tx, Rx}
use Rattle.wl_machine.specs.Stretch.{Flag, Sort, Stretch, Sampled, Judgement, continues, begins}
use Rattle.wl_machine.specs.Stretch.Flag.{ActiveFlag, OverloadFlag, PassiveFlag}
use Rattle.wl_machine.specs.Stretch.Sort.{Integration, Idle, Framing, Flagging, Waiting, Delimiting, Intermission, Suspension, OffBus}
use Rattle.wl_machine.specs.Stretch.Input.{Sample}
use Rattle.wl_machine.specs.BetweenFrames.{begun_head}
use Rattle.wl_machine.specs.Flags.{delimiter_error, fails, is_after_flag, is_each_eighth, long_from, dominant_run, long_of}
use Rattle.wl_machine.specs.Frames.{stuffed_end, sent_at, frame_role, framing_by, framing_sent, framing_received}
use Rattle.wl_machine.specs.Judged.{judged_by, stretch_after, drive_by}
use Rattle.wl_machine.specs.States.{sample_of, stretch_by}
use Rattle.wl_machine.proofs.Callers.{end_more, end_stays, ends_at}
use Rattle.wl_heal.specs.Joining.{is_apart_by}
use Rattle.wl_heal.proofs.Cases.{differing_cases, differing_due, sending_cases, receiving_cases, sent_tail_cases, acknowledging_cases, received_tail_cases}
use Rattle.wl_heal.proofs.Possible.{IsPossibleBy}
use Rattle.wl_heal.proofs.Samples.{going, either, longer, run_same, run_last, five_due}

-- how many dominant samples it takes at most
abbrev pub down_in_frame : Option ℕ → List Level → ℕ
down_in_frame None own = suc (5 - run_at_end Dominant own)
down_in_frame (Some end) own = cond (length own - end == 1) 2 1

abbrev pub down_by : Sort → List Level → ℕ
down_by (Framing head) own = down_in_frame (stuffed_end own) own
down_by (Flagging (PassiveFlag unacknowledged) role) own = 6 - run_at_end Dominant own
down_by (Flagging flag role) own = 0
down_by (Waiting flag role flagged) own = 0
down_by (Delimiting role) own = 1
down_by sort own = 6

abbrev pub down_of : Stretch → ℕ
down_of s = down_by s.sort s.own

module _ (head : Option Content) (n : ℕ) where
  abbrev x : Sampled
  x = sample_of Dominant head Active

  abbrev Goal : Sort → List Level → Judgement → Type 0
  Goal sort own j = down_of (going sort own Dominant j) ≤ n

  module _ (frame : Option Content) (own : List Level) where
    abbrev P : Judgement → Type 0
    P = Goal (Framing frame) own

    flagged : (role : Role) → P (begins happens.Nothing (Flagging ActiveFlag role) [])
    flagged role = omega arith

    stuffed_on : stuffed_end own ≡ None → run_at_end Dominant own < 5 → down_in_frame None own ≤ suc n → down_in_frame (stuffed_end (own ++ Dominant ∷ [])) (own ++ Dominant ∷ []) ≤ n
    stuffed_on e few h =
        subst (λ o. down_in_frame o (own ++ Dominant ∷ []) ≤ n)
        (sym (end_more own Dominant ∙ ap (λ o. or_at o (ends_at (own ++ Dominant ∷ []) (length (own ++ Dominant ∷ []))) (length (own ++ Dominant ∷ []))) e))
        (by (ends_at (own ++ Dominant ∷ []) (length (own ++ Dominant ∷ []))))
      where
        by : (b : Bool) → down_in_frame (or_at None b (length (own ++ Dominant ∷ []))) (own ++ Dominant ∷ []) ≤ n
        by true = subst (λ b. cond b 2 1 ≤ n) (sym (ne_eqb (length (own ++ Dominant ∷ []) - length (own ++ Dominant ∷ [])) 1 (λ e. omega arith))) (omega arith)
        by false = let more = run_same Dominant own in omega arith

    slot_on : (end : ℕ) → stuffed_end own ≡ Some end → length own - end ≡ 1 → down_in_frame (Some end) own ≤ suc n → down_in_frame (stuffed_end (own ++ Dominant ∷ [])) (own ++ Dominant ∷ []) ≤ n
    slot_on end e one h =
        let two : down_in_frame (Some end) own ≡ 2 = ap (λ k. cond (k == 1) 2 1) one in
        let long = longer own Dominant in
        subst (λ o. down_in_frame o (own ++ Dominant ∷ []) ≤ n) (sym (end_stays own Dominant end e))
        (subst (λ b. cond b 2 1 ≤ n) (sym (ne_eqb (length (own ++ Dominant ∷ []) - end) 1 (λ f. omega arith))) (omega arith))

    sends : (c : Content) → (o : Option ℕ) → stuffed_end own ≡ o → down_in_frame o own ≤ suc n → P (framing_sent c own o x)
    sends c None e h = elim (cases_lt (run_at_end Dominant own) 5) [
      | inl few ↦ (let on = stuffed_on e few h in sending_cases P x c own (λ s. on) (λ s. differing_cases P x c own (omega arith) (omega arith) on))
      | inr five ↦ sending_cases P x c own
          (λ s. absurd (both_ways (same (sent_at c own (length own)) Dominant)
          (ap (λ b. same (cond b (opposite (before own (length own))) (at (bits_of c) (length (destuffed_bits own (length own))))) Dominant) (five_due Dominant own five)
          ∙ ap (λ l. same (opposite l) Dominant) (run_last Dominant own (length own) (omega arith))) s))
          (λ s. differing_due P x c own (five_due Dominant own five) (omega arith) (omega arith))
    ]
    sends c (Some end) e h =
        sent_tail_cases P x c (length own - end) (λ one d. slot_on end e one h) (λ one r. cc) (λ no d. omega arith) (λ nine r. cc) (λ no nine r. cc)

    receives : (o : Option ℕ) → stuffed_end own ≡ o → down_in_frame o own ≤ suc n → P (framing_received own o x)
    receives None e h = elim (cases_lt (run_at_end Dominant own) 5) [
      | inl few ↦ (let on = stuffed_on e few h in receiving_cases P x own (λ due s. omega arith) (λ f. on))
      | inr five ↦ receiving_cases P x own (λ due s. omega arith)
          (λ f. absurd (both_ways _ f (and_from _ _ (five_due Dominant own five) (ap (same Dominant) (run_last Dominant own (length own) (omega arith))))))
    ]
    receives (Some end) e h =
        received_tail_cases P x (destuffed_bits own end) (length own - end)
        (λ one. let on = slot_on end e one h in acknowledging_cases P x (destuffed_bits own end) (λ w. on) (λ r d. on) (λ r d. omega arith))
        (λ nine. omega arith) (λ no nine d. omega arith) (λ two w r. cc) (λ eight r. cc) (λ no nine two r. cc)

  framed : (role : Role) (frame : Option Content) (own : List Level) → down_in_frame (stuffed_end own) own ≤ suc n → Goal (Framing frame) own (framing_by role frame own x)
  framed Tx None own h = receives None own (stuffed_end own) refl h
  framed Tx (Some c) own h = sends (Some c) own c (stuffed_end own) refl h
  framed Rx frame own h = receives frame own (stuffed_end own) refl h

  waits : (flag : Flag) (role : Role) (flags own : List Level) → Goal (Waiting flag role flags) own (judged_by (Waiting flag role flags) own x)
  waits flag role flags own =
      either (Goal (Waiting flag role flags) own) (is_after_flag flag role own) (continues happens.RxAfterFlag)
      (cond (is_each_eighth (long_from flag) (dominant_run flag flags (own ++ Dominant ∷ []))) (continues (long_of role)) (continues happens.Nothing)) (omega arith)
      (either (Goal (Waiting flag role flags) own) (is_each_eighth (long_from flag) (dominant_run flag flags (own ++ Dominant ∷ []))) (continues (long_of role)) (continues happens.Nothing) (omega arith) (omega arith))

  -- one dominant sample less
  pub down_next : (sort : Sort) (own : List Level) → is_apart_by sort ≡ false → down_by sort own ≤ suc n → Goal sort own (judged_by sort own x)
  down_next Integration own a h = cc
  down_next OffBus own a h = cc
  down_next Idle own a h = omega arith
  down_next (Framing frame) own a h = framed (frame_role frame own) frame own h
  down_next (Flagging ActiveFlag role) own a h =
      either (Goal (Flagging ActiveFlag role) own) (length own == 5) (begins happens.Nothing (Waiting ActiveFlag role (own ++ Dominant ∷ [])) []) (continues happens.Nothing) (omega arith) (omega arith)
  down_next (Flagging OverloadFlag role) own a h =
      either (Goal (Flagging OverloadFlag role) own) (length own == 5) (begins happens.Nothing (Waiting OverloadFlag role (own ++ Dominant ∷ [])) []) (continues happens.Nothing) (omega arith) (omega arith)
  down_next (Flagging (PassiveFlag unacknowledged) role) own a h =
      let more = run_same Dominant own in
      either (Goal (Flagging (PassiveFlag unacknowledged) role) own) (run_at_end Dominant (own ++ Dominant ∷ []) == 6)
      (begins _ (Waiting (PassiveFlag unacknowledged) role (own ++ Dominant ∷ [])) []) (continues _) (omega arith) (omega arith)
  down_next (Waiting flag role flags) own a h = waits flag role flags own
  down_next (Delimiting role) own a h =
      either (Goal (Delimiting role) own) (length own == 7) (begins happens.Nothing (Flagging OverloadFlag role) []) (fails role Active (delimiter_error role)) (omega arith) (omega arith)
  down_next (Intermission role) own a h =
      either (Goal (Intermission role) own) (length own == 2) (begins happens.Nothing (Framing (begun_head role Active head)) (Dominant ∷ [])) (begins happens.Nothing (Flagging OverloadFlag role) []) (omega arith) (omega arith)
  down_next Suspension own a h = omega arith

pub down_most : (sort : Sort) (own : List Level) → down_by sort own ≤ 6
down_most (Framing frame) own = by (stuffed_end own)
  where
    by : (o : Option ℕ) → down_in_frame o own ≤ 6
    by None = omega arith
    by (Some end) = either (λ (k : ℕ). k ≤ 6) (length own - end == 1) 2 1 (omega arith) (omega arith)
down_most (Flagging ActiveFlag role) own = omega arith
down_most (Flagging OverloadFlag role) own = omega arith
down_most (Flagging (PassiveFlag unacknowledged) role) own = omega arith
down_most (Waiting flag role flagged) own = omega arith
down_most (Delimiting role) own = omega arith
down_most Integration own = omega arith
down_most Idle own = omega arith
down_most (Intermission role) own = omega arith
down_most Suspension own = omega arith
down_most OffBus own = omega arith

-- a dominant flag, or the wait after a flag, and how many bits the flag has to come
abbrev pub is_down_by : Sort → Bool
is_down_by (Flagging ActiveFlag role) = true
is_down_by (Flagging OverloadFlag role) = true
is_down_by (Waiting flag role flagged) = true
is_down_by sort = false

abbrev pub flag_left : Sort → List Level → ℕ
flag_left (Flagging flag role) own = 6 - length own
flag_left sort own = 0

pub flag_most : (sort : Sort) (own : List Level) → flag_left sort own ≤ 7
flag_most (Flagging flag role) own = omega arith
flag_most Integration own = omega arith
flag_most Idle own = omega arith
flag_most (Framing frame) own = omega arith
flag_most (Waiting flag role flagged) own = omega arith
flag_most (Delimiting role) own = omega arith
flag_most (Intermission role) own = omega arith
flag_most Suspension own = omega arith
flag_most OffBus own = omega arith

pub record IsDown (most : ℕ) (s : Stretch) : Type 0 where
  pub down : is_down_by s.sort ≡ true
  pub left : flag_left s.sort s.own ≤ most

pub is_down : (sort : Sort) (own : List Level) → IsPossibleBy sort own → down_by sort own ≤ 0 → IsDown 6 (stretch_by sort own)
is_down (Flagging ActiveFlag role) own p h = record { down = refl; left = omega arith }
is_down (Flagging OverloadFlag role) own p h = record { down = refl; left = omega arith }
is_down (Flagging (PassiveFlag unacknowledged) role) own p h = let few = p.1 in absurd (omega arith)
is_down (Waiting flag role flagged) own p h = record { down = refl; left = omega arith }
is_down (Framing frame) own p h = absurd (by (stuffed_end own) h)
  where
    by : (o : Option ℕ) → down_in_frame o own ≤ 0 → ⊥
    by None g = omega arith
    by (Some end) g = no (length own - end == 1) g
      where
        no : (b : Bool) → cond b 2 1 ≤ 0 → ⊥
        no true f = omega (arith, f)
        no false f = omega (arith, f)
is_down (Delimiting role) own p h = absurd (omega (arith, h))
is_down Integration own p h = absurd (omega (arith, h))
is_down Idle own p h = absurd (omega (arith, h))
is_down (Intermission role) own p h = absurd (omega (arith, h))
is_down Suspension own p h = absurd (omega (arith, h))
is_down OffBus own p h = absurd (omega (arith, h))

-- a dominant sample in a flag or a wait
pub stays_down : (sort : Sort) (own : List Level) (n : ℕ) (head : Option Content) (mode : Mode) → IsPossibleBy sort own → IsDown (suc n) (stretch_by sort own)
    → IsDown n (stretch_after (stretch_by sort own) (Sample (sample_of Dominant head mode)))
stays_down (Flagging ActiveFlag role) own n head mode p d =
    let left : 6 - length own ≤ suc n = d.left in
    let long = longer own Dominant in
    cond_both (length own == 5) (begins happens.Nothing (Waiting ActiveFlag role (own ++ Dominant ∷ [])) []) (continues happens.Nothing) (λ j. IsDown n (going (Flagging ActiveFlag role) own Dominant j))
    (λ e. record { down = refl; left = omega arith }) (λ e. record { down = refl; left = omega arith })
stays_down (Flagging OverloadFlag role) own n head mode p d =
    let left : 6 - length own ≤ suc n = d.left in
    let long = longer own Dominant in
    cond_both (length own == 5) (begins happens.Nothing (Waiting OverloadFlag role (own ++ Dominant ∷ [])) []) (continues happens.Nothing) (λ j. IsDown n (going (Flagging OverloadFlag role) own Dominant j))
    (λ e. record { down = refl; left = omega arith }) (λ e. record { down = refl; left = omega arith })
stays_down (Waiting flag role flags) own n head mode p d =
    either (λ j. IsDown n (going (Waiting flag role flags) own Dominant j)) (is_after_flag flag role own) (continues happens.RxAfterFlag)
    (cond (is_each_eighth (long_from flag) (dominant_run flag flags (own ++ Dominant ∷ []))) (continues (long_of role)) (continues happens.Nothing)) (record { down = refl; left = omega arith })
    (either (λ j. IsDown n (going (Waiting flag role flags) own Dominant j)) (is_each_eighth (long_from flag) (dominant_run flag flags (own ++ Dominant ∷ []))) (continues (long_of role)) (continues happens.Nothing)
    (record { down = refl; left = omega arith }) (record { down = refl; left = omega arith }))
stays_down (Flagging (PassiveFlag unacknowledged) role) own n head mode p d = let e = d.down in cc
stays_down (Framing frame) own n head mode p d = let e = d.down in cc
stays_down (Delimiting role) own n head mode p d = let e = d.down in cc
stays_down Integration own n head mode p d = let e = d.down in cc
stays_down Idle own n head mode p d = let e = d.down in cc
stays_down (Intermission role) own n head mode p d = let e = d.down in cc
stays_down Suspension own n head mode p d = let e = d.down in cc
stays_down OffBus own n head mode p d = let e = d.down in cc

-- who drives recessive there waits, and a recessive sample begins its delimiter
pub delimits : (sort : Sort) (own : List Level) (n : ℕ) (head : Option Content) (mode : Mode) → IsDown n (stretch_by sort own) → drive_by sort own ≡ Recessive
    → (role : Role) × (stretch_after (stretch_by sort own) (Sample (sample_of Recessive head mode)) ≡ stretch_by (Delimiting role) (Recessive ∷ []))
delimits (Waiting flag role flags) own n head mode d r = (role, refl)
delimits (Flagging ActiveFlag role) own n head mode d r = cc
delimits (Flagging OverloadFlag role) own n head mode d r = cc
delimits (Flagging (PassiveFlag unacknowledged) role) own n head mode d r = let e = d.down in cc
delimits (Framing frame) own n head mode d r = let e = d.down in cc
delimits (Delimiting role) own n head mode d r = let e = d.down in cc
delimits Integration own n head mode d r = let e = d.down in cc
delimits Idle own n head mode d r = let e = d.down in cc
delimits (Intermission role) own n head mode d r = let e = d.down in cc
delimits Suspension own n head mode d r = let e = d.down in cc
delimits OffBus own n head mode d r = let e = d.down in cc

-- a flag that is over drives no more
pub flag_over : (sort : Sort) (own : List Level) → IsPossibleBy sort own → IsDown 0 (stretch_by sort own) → drive_by sort own ≡ Recessive
flag_over (Waiting flag role flags) own p d = refl
flag_over (Flagging ActiveFlag role) own p d = let left : 6 - length own ≤ 0 = d.left in absurd (omega arith)
flag_over (Flagging OverloadFlag role) own p d = let left : 6 - length own ≤ 0 = d.left in absurd (omega arith)
flag_over (Flagging (PassiveFlag unacknowledged) role) own p d = let e = d.down in cc
flag_over (Framing frame) own p d = let e = d.down in cc
flag_over (Delimiting role) own p d = refl
flag_over Integration own p d = refl
flag_over Idle own p d = refl
flag_over (Intermission role) own p d = refl
flag_over Suspension own p d = refl
flag_over OffBus own p d = refl
