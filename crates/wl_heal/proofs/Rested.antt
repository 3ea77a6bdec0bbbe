-- How many recessive samples came last at least, by the running stretch, and how a frame that is sent has begun.
use Rattle.std.proofs.Common.{◌≡◌, ◌∙◌, ℕ, suc, ◌+◌, ◌-◌, ◌≤◌, List, [], ◌∷◌, ◌++◌, length, Bool, true, false, not, cond, Option, Some, None, refl, sym, ap, subst, arith}
use Rattle.std.specs.Prelude.{◌==◌}
use Rattle.std.proofs.lemmas.Bool.{cond_both, eqb-true, not-true}
use Rattle.wl_level.specs.declared.Level.{Level}
use Rattle.wl_level.specs.declared.Level.TheVariants.{Dominant, Recessive}
use Rattle.wl_level.specs.Levels.{is_dominant}
use Rattle.wl_level.specs.Places.{or_at, run_at_end}
use Rattle.wl_level.proofs.Callers.{recessive_from, dominant_from}
use Rattle.wl_frame.specs.Stuffing.{destuffed_bits}
use Rattle.wl_frame.specs.Grammar.{Content}
use Rattle.wl_confine.specs.declared.Mode.{Mode}
use Rattle.wl_confine.specs.declared.Mode.TheVariants.{Active, Passive, Off}
use Rattle.wl_confine.specs.declared.Happened.{Happened}
use Rattle.wl_confine.specs.declared.Happened.TheVariants as happens
use Rattle.wl_machine.specs.declared.state.Role.{Role}
use Rattle.wl_machine.specs.declared.state.Role.TheVariants.{Tx, Rx}
use Rattle.wl_machine.specs.Stretch.{Flag, Sort, Stretch, Sampled, Judgement, continues, begins, free}
use Rattle.wl_machine.specs.Stretch.Flag.{ActiveFlag, OverloadFlag, PassiveFlag}
use Rattle.wl_machine.specs.Stretch.Sort.{Integration, Idle, Framing, Flagging, Waiting, Delimiting, Intermission, Suspension, OffBus}
use Rattle.wl_machine.specs.BetweenFrames.{after_intermission, begun_head, idle_on}
use Rattle.wl_machine.specs.Flags.{fails, delimiter_error, is_after_flag, is_each_eighth, long_from, dominant_run, long_of}
use Rattle.wl_machine.specs.Frames.{stuffed_end, frame_role, framing_by, framing_sent, framing_received, unanswered}
use Rattle.wl_machine.specs.Judged.{judged_by}
use Rattle.wl_machine.proofs.Callers.{end_more, end_stays, ends_at}
use Rattle.wl_heal.specs.Joining.{is_apart_by}
use Rattle.wl_heal.proofs.Cases.{differing_cases, sending_cases, receiving_cases, sent_tail_cases, acknowledging_cases, received_tail_cases}
use Rattle.wl_heal.proofs.Possible.{waiting_on}
use Rattle.wl_heal.proofs.Samples.{going, either, longer}

-- the recessive samples that have come in a row at least; eleven where the number doesn't matter
abbrev pub rested_in_frame : Option ℕ → List Level → ℕ
rested_in_frame None [] = 11
rested_in_frame None (l ∷ own) = 0
rested_in_frame (Some end) own = (length own - end) - 2

abbrev pub rested : Sort → List Level → ℕ
rested Idle own = 11
rested Suspension own = 11
rested (Framing head) own = rested_in_frame (stuffed_end own) own
rested (Delimiting role) own = length own
rested (Intermission role) own = 8 + length own
rested sort own = 0

abbrev pub rested_of : Stretch → ℕ
rested_of s = rested s.sort s.own

-- one sample later
abbrev pub most_after : Level → ℕ → ℕ
most_after Dominant n = 0
most_after Recessive n = suc n

module _ (x : Sampled) where
  abbrev G : Sort → List Level → Judgement → Type 0
  G sort own j = rested_of (going sort own x.level j) ≤ most_after x.level (rested sort own)

  none_yet : (l : Level) (n : ℕ) → rested (Framing None) (l ∷ []) ≤ n
  none_yet Dominant n = omega arith
  none_yet Recessive n = omega arith

  freed : (l : Level) (n : ℕ) → 10 ≤ n → l ≡ Recessive → (head : Option Content) → rested (free head) [] ≤ most_after l n
  freed Dominant n le e head = cc
  freed Recessive n le e None = omega arith
  freed Recessive n le e (Some c) = omega arith

  up : (l : Level) (n : ℕ) → is_dominant l ≡ false → most_after l n ≡ suc n
  up Dominant n e = cc
  up Recessive n e = refl

  longer_none : (own : List Level) (l : Level) → rested_in_frame None (own ++ l ∷ []) ≡ 0
  longer_none [] l = refl
  longer_none (k ∷ own) l = refl

  module _ (frame : Option Content) (own : List Level) where
    abbrev P : Judgement → Type 0
    P = G (Framing frame) own

    stuffed_on : stuffed_end own ≡ None → rested_in_frame (stuffed_end (own ++ x.level ∷ [])) (own ++ x.level ∷ []) ≤ most_after x.level (rested_in_frame (stuffed_end own) own)
    stuffed_on e =
        subst (λ o. rested_in_frame o (own ++ x.level ∷ []) ≤ most_after x.level (rested_in_frame (stuffed_end own) own))
        (sym (end_more own x.level ∙ ap (λ o. or_at o (ends_at (own ++ x.level ∷ []) (length (own ++ x.level ∷ []))) (length (own ++ x.level ∷ []))) e))
        (by (ends_at (own ++ x.level ∷ []) (length (own ++ x.level ∷ []))))
      where
        by : (b : Bool) → rested_in_frame (or_at None b (length (own ++ x.level ∷ []))) (own ++ x.level ∷ []) ≤ most_after x.level (rested_in_frame (stuffed_end own) own)
        by true = omega arith
        by false = subst (λ n. n ≤ most_after x.level (rested_in_frame (stuffed_end own) own)) (sym (longer_none own x.level)) (omega arith)

    tail_rests : (end : ℕ) → stuffed_end own ≡ Some end → is_dominant x.level ≡ false
        → rested_in_frame (stuffed_end (own ++ x.level ∷ [])) (own ++ x.level ∷ []) ≤ most_after x.level (rested_in_frame (stuffed_end own) own)
    tail_rests end e r =
        let long = longer own x.level in
        subst (λ o. rested_in_frame o (own ++ x.level ∷ []) ≤ most_after x.level (rested_in_frame (stuffed_end own) own)) (sym (end_stays own x.level end e))
        (subst (λ o. rested_in_frame (Some end) (own ++ x.level ∷ []) ≤ most_after x.level (rested_in_frame o own)) (sym e)
        (subst (λ n. rested_in_frame (Some end) (own ++ x.level ∷ []) ≤ n) (sym (up x.level (rested_in_frame (Some end) own) r)) (omega arith)))

    ends : (end : ℕ) → stuffed_end own ≡ Some end → length own - end ≡ 9 → is_dominant x.level ≡ false → 8 ≤ most_after x.level (rested_in_frame (stuffed_end own) own)
    ends end e nine r =
        subst (λ o. 8 ≤ most_after x.level (rested_in_frame o own)) (sym e) (subst (λ n. 8 ≤ n) (sym (up x.level (rested_in_frame (Some end) own) r)) (omega arith))

    slot : (end : ℕ) → stuffed_end own ≡ Some end → length own - end ≡ 1
        → rested_in_frame (stuffed_end (own ++ x.level ∷ [])) (own ++ x.level ∷ []) ≤ most_after x.level (rested_in_frame (stuffed_end own) own)
    slot end e one =
        let long = longer own x.level in
        subst (λ o. rested_in_frame o (own ++ x.level ∷ []) ≤ most_after x.level (rested_in_frame (stuffed_end own) own)) (sym (end_stays own x.level end e)) (omega arith)

    sends : (c : Content) (o : Option ℕ) → stuffed_end own ≡ o → P (framing_sent c own o x)
    sends c None e = sending_cases P x c own (λ s. stuffed_on e) (λ s. differing_cases P x c own (omega arith) (omega arith) (stuffed_on e))
    sends c (Some end) e =
        sent_tail_cases P x c (length own - end) (λ one d. slot end e one) (λ one r. none x.mode) (λ no d. omega arith) (λ nine r. ends end e nine r) (λ no nine r. tail_rests end e r)
      where
        none : (mode : Mode) → P (unanswered mode)
        none Passive = omega arith
        none Active = omega arith
        none Off = omega arith

    receives : (o : Option ℕ) → stuffed_end own ≡ o → P (framing_received own o x)
    receives None e = receiving_cases P x own (λ due s. omega arith) (λ f. stuffed_on e)
    receives (Some end) e =
        received_tail_cases P x (destuffed_bits own end) (length own - end)
        (λ one. acknowledging_cases P x (destuffed_bits own end) (λ w. slot end e one) (λ r d. slot end e one) (λ r d. omega arith))
        (λ nine. cond_both (is_dominant x.level) (begins happens.Nothing (Flagging OverloadFlag Rx) []) (begins happens.Nothing (Intermission Rx) []) P (λ d. omega arith) (λ r. ends end e nine r))
        (λ no nine d. omega arith) (λ two w r. omega arith) (λ eight r. tail_rests end e r) (λ no nine two r. tail_rests end e r)

  framed : (role : Role) (frame : Option Content) (own : List Level) → G (Framing frame) own (framing_by role frame own x)
  framed Tx None own = receives None own (stuffed_end own) refl
  framed Tx (Some c) own = sends (Some c) own c (stuffed_end own) refl
  framed Rx frame own = receives frame own (stuffed_end own) refl

  idles : (own : List Level) (head : Option Content) → is_dominant x.level ≡ false → G Idle own (idle_on head)
  idles own None r = subst (λ n. 11 ≤ n) (sym (up x.level 11 r)) (omega arith)
  idles own (Some c) r = subst (λ n. 11 ≤ n) (sym (up x.level 11 r)) (omega arith)

  after : (role : Role) (mode : Mode) (head : Option Content) (n : ℕ) → 10 ≤ n → is_dominant x.level ≡ false → rested (after_intermission role mode head) [] ≤ most_after x.level n
  after Tx Passive head n le r = subst (λ m. 11 ≤ m) (sym (up x.level n r)) (omega arith)
  after Tx Active head n le r = freed x.level n le (recessive_from x.level r) head
  after Tx Off head n le r = freed x.level n le (recessive_from x.level r) head
  after Rx mode head n le r = freed x.level n le (recessive_from x.level r) head

  flags_on : (flag : Flag) (role : Role) (own : List Level) (b : Bool) (h : Happened) (flags : List Level) → G (Flagging flag role) own (cond b (begins h (Waiting flag role flags) []) (continues h))
  flags_on flag role own b h flags = either (G (Flagging flag role) own) b (begins h (Waiting flag role flags) []) (continues h) (omega arith) (omega arith)

  pub rested_next : (sort : Sort) (own : List Level) → is_apart_by sort ≡ false → G sort own (judged_by sort own x)
  rested_next Integration own a = cc
  rested_next OffBus own a = cc
  rested_next Idle own a =
      cond_both (is_dominant x.level) (begins happens.Nothing (Framing None) (x.level ∷ [])) (idle_on x.head) (G Idle own) (λ d. none_yet x.level (most_after x.level 11)) (idles own x.head)
  rested_next (Framing frame) own a = framed (frame_role frame own) frame own
  rested_next (Flagging ActiveFlag role) own a = flags_on ActiveFlag role own (length own == 5) _ (own ++ x.level ∷ [])
  rested_next (Flagging OverloadFlag role) own a = flags_on OverloadFlag role own (length own == 5) _ (own ++ x.level ∷ [])
  rested_next (Flagging (PassiveFlag unacknowledged) role) own a = flags_on (PassiveFlag unacknowledged) role own (run_at_end x.level (own ++ x.level ∷ []) == 6) _ (own ++ x.level ∷ [])
  rested_next (Waiting flag role flags) own a =
      cond_both (not (is_dominant x.level)) (begins happens.Nothing (Delimiting role) (x.level ∷ [])) (waiting_on flag role flags own x) (G (Waiting flag role flags) own)
      (λ r. subst (λ n. 1 ≤ n) (sym (up x.level 0 (not-true (is_dominant x.level) r))) (omega arith))
      (λ d. either (G (Waiting flag role flags) own) (is_after_flag flag role own) (continues happens.RxAfterFlag)
      (cond (is_each_eighth (long_from flag) (dominant_run flag flags (own ++ x.level ∷ []))) (continues (long_of role)) (continues happens.Nothing)) (omega arith)
      (either (G (Waiting flag role flags) own) (is_each_eighth (long_from flag) (dominant_run flag flags (own ++ x.level ∷ []))) (continues (long_of role)) (continues happens.Nothing) (omega arith) (omega arith)))
  rested_next (Delimiting role) own a =
      let long = longer own x.level in
      cond_both (not (is_dominant x.level)) (cond (length own == 7) (begins happens.Nothing (Intermission role) []) (continues happens.Nothing))
      (cond (length own == 7) (begins happens.Nothing (Flagging OverloadFlag role) []) (fails role x.mode (delimiter_error role))) (G (Delimiting role) own)
      (λ r. let more : most_after x.level (length own) ≡ suc (length own) = up x.level (length own) (not-true (is_dominant x.level) r) in
      cond_both (length own == 7) (begins happens.Nothing (Intermission role) []) (continues happens.Nothing) (G (Delimiting role) own)
      (λ e. let f = eqb-true (length own) 7 e in omega arith) (λ e. omega arith))
      (λ d. either (G (Delimiting role) own) (length own == 7) (begins happens.Nothing (Flagging OverloadFlag role) []) (fails role x.mode (delimiter_error role)) (omega arith) (omega arith))
  rested_next (Intermission role) own a =
      let long = longer own x.level in
      cond_both (length own == 2)
      (cond (is_dominant x.level) (begins happens.Nothing (Framing (begun_head role x.mode x.head)) (x.level ∷ [])) (begins happens.Nothing (after_intermission role x.mode x.head) []))
      (cond (is_dominant x.level) (begins happens.Nothing (Flagging OverloadFlag role) []) (continues happens.Nothing)) (G (Intermission role) own)
      (λ e. let two = eqb-true (length own) 2 e in
      cond_both (is_dominant x.level) (begins happens.Nothing (Framing (begun_head role x.mode x.head)) (x.level ∷ [])) (begins happens.Nothing (after_intermission role x.mode x.head) []) (G (Intermission role) own)
      (λ d. none_yet x.level (most_after x.level (8 + length own))) (λ r. after role x.mode x.head (8 + length own) (omega arith) r))
      (λ e. cond_both (is_dominant x.level) (begins happens.Nothing (Flagging OverloadFlag role) []) (continues happens.Nothing) (G (Intermission role) own)
      (λ d. omega arith) (λ r. let more : most_after x.level (8 + length own) ≡ suc (8 + length own) = up x.level (8 + length own) r in omega arith))
  rested_next Suspension own a =
      cond_both (is_dominant x.level) (begins happens.Nothing (Framing None) (x.level ∷ [])) (cond (length own == 7) (begins happens.Nothing (free x.head) []) (continues happens.Nothing)) (G Suspension own)
      (λ d. none_yet x.level (most_after x.level 11))
      (λ r. either (G Suspension own) (length own == 7) (begins happens.Nothing (free x.head) []) (continues happens.Nothing) (freed x.level 11 (omega arith) (recessive_from x.level r) x.head)
      (subst (λ n. 11 ≤ n) (sym (up x.level 11 r)) (omega arith)))

-- how a machine came to send a frame: it went on with it, it has just decided to, or the third bit of an intermission was dominant
pub data From (f : Content) (sort : Sort) (own : List Level) (level : Level) (s : Stretch) : Type 0 where
  goes : sort ≡ Framing (Some f) → s.own ≡ own ++ level ∷ [] → From f sort own level s
  decided : s.own ≡ [] → From f sort own level s
  third : 10 ≤ rested sort own → level ≡ Dominant → s.own ≡ level ∷ [] → From f sort own level s

module _ (f : Content) (x : Sampled) where
  abbrev C : Sort → List Level → Judgement → Type 0
  C sort own j = (going sort own x.level j).sort ≡ Framing (Some f) → From f sort own x.level (going sort own x.level j)

  on : (sort : Sort) (own : List Level) (h : Happened) → C sort own (continues h)
  on sort own h e = goes e refl

  freely : (sort : Sort) (own : List Level) (h : Happened) (head : Option Content) → C sort own (begins h (free head) [])
  freely sort own h None e = cc
  freely sort own h (Some c) e = decided refl

  resting : (sort : Sort) (own : List Level) (role : Role) (mode : Mode) (head : Option Content) → C sort own (begins happens.Nothing (after_intermission role mode head) [])
  resting sort own Tx Passive head e = cc
  resting sort own Tx Active head e = freely sort own happens.Nothing head e
  resting sort own Tx Off head e = freely sort own happens.Nothing head e
  resting sort own Rx mode head e = freely sort own happens.Nothing head e

  module _ (frame : Option Content) (own : List Level) where
    abbrev F : Judgement → Type 0
    F = C (Framing frame) own

    got : (o : Option ℕ) → F (framing_received own o x)
    got None = receiving_cases F x own (λ due s e. cc) (λ g. on (Framing frame) own happens.Nothing)
    got (Some end) =
        received_tail_cases F x (destuffed_bits own end) (length own - end)
        (λ one. acknowledging_cases F x (destuffed_bits own end) (λ w. on (Framing frame) own happens.Nothing) (λ r d. on (Framing frame) own happens.Acked) (λ r d e. cc))
        (λ nine. either F (is_dominant x.level) (begins happens.Nothing (Flagging OverloadFlag Rx) []) (begins happens.Nothing (Intermission Rx) []) (λ e. cc) (λ e. cc))
        (λ no nine d e. cc) (λ two w r e. cc) (λ eight r e. goes e refl) (λ no nine two r. on (Framing frame) own happens.Nothing)

    sent : (c : Content) (o : Option ℕ) → F (framing_sent c own o x)
    sent c None = sending_cases F x c own (λ s. on (Framing frame) own happens.Nothing) (λ s. differing_cases F x c own (λ e. cc) (λ e. cc) (on (Framing frame) own happens.Nothing))
    sent c (Some end) =
        sent_tail_cases F x c (length own - end) (λ one d. on (Framing frame) own happens.Nothing) (λ one r. none x.mode) (λ no d e. cc) (λ nine r e. cc) (λ no nine r. on (Framing frame) own happens.Nothing)
      where
        none : (mode : Mode) → F (unanswered mode)
        none Passive e = cc
        none Active e = cc
        none Off e = cc

  framed_from : (role : Role) (frame : Option Content) (own : List Level) → C (Framing frame) own (framing_by role frame own x)
  framed_from Tx None own = got None own (stuffed_end own)
  framed_from Tx (Some c) own = sent (Some c) own c (stuffed_end own)
  framed_from Rx frame own = got frame own (stuffed_end own)

  begun : (own : List Level) → C Idle own (idle_on x.head)
  begun own = by x.head
    where
      by : (o : Option Content) → C Idle own (idle_on o)
      by None e = cc
      by (Some c) e = decided refl

  pub sends_from : (sort : Sort) (own : List Level) → is_apart_by sort ≡ false → C sort own (judged_by sort own x)
  sends_from Integration own a = cc
  sends_from OffBus own a = cc
  sends_from Idle own a = either (C Idle own) (is_dominant x.level) (begins happens.Nothing (Framing None) (x.level ∷ [])) (idle_on x.head) (λ e. cc) (begun own)
  sends_from (Framing frame) own a = framed_from (frame_role frame own) frame own
  sends_from (Flagging ActiveFlag role) own a = either (C (Flagging ActiveFlag role) own) (length own == 5) (begins _ (Waiting ActiveFlag role (own ++ x.level ∷ [])) []) (continues _) (λ e. cc) (λ e. cc)
  sends_from (Flagging OverloadFlag role) own a = either (C (Flagging OverloadFlag role) own) (length own == 5) (begins _ (Waiting OverloadFlag role (own ++ x.level ∷ [])) []) (continues _) (λ e. cc) (λ e. cc)
  sends_from (Flagging (PassiveFlag unacknowledged) role) own a =
      either (C (Flagging (PassiveFlag unacknowledged) role) own) (run_at_end x.level (own ++ x.level ∷ []) == 6) (begins _ (Waiting (PassiveFlag unacknowledged) role (own ++ x.level ∷ [])) []) (continues _) (λ e. cc) (λ e. cc)
  sends_from (Waiting flag role flags) own a =
      either (C (Waiting flag role flags) own) (not (is_dominant x.level)) (begins happens.Nothing (Delimiting role) (x.level ∷ [])) (waiting_on flag role flags own x) (λ e. cc)
      (either (C (Waiting flag role flags) own) (is_after_flag flag role own) (continues happens.RxAfterFlag)
      (cond (is_each_eighth (long_from flag) (dominant_run flag flags (own ++ x.level ∷ []))) (continues (long_of role)) (continues happens.Nothing)) (λ e. cc)
      (either (C (Waiting flag role flags) own) (is_each_eighth (long_from flag) (dominant_run flag flags (own ++ x.level ∷ []))) (continues (long_of role)) (continues happens.Nothing) (λ e. cc) (λ e. cc)))
  sends_from (Delimiting role) own a =
      either (C (Delimiting role) own) (not (is_dominant x.level)) (cond (length own == 7) (begins happens.Nothing (Intermission role) []) (continues happens.Nothing))
      (cond (length own == 7) (begins happens.Nothing (Flagging OverloadFlag role) []) (fails role x.mode (delimiter_error role)))
      (either (C (Delimiting role) own) (length own == 7) (begins happens.Nothing (Intermission role) []) (continues happens.Nothing) (λ e. cc) (λ e. cc))
      (either (C (Delimiting role) own) (length own == 7) (begins happens.Nothing (Flagging OverloadFlag role) []) (fails role x.mode (delimiter_error role)) (λ e. cc) (λ e. cc))
  sends_from (Intermission role) own a =
      cond_both (length own == 2)
      (cond (is_dominant x.level) (begins happens.Nothing (Framing (begun_head role x.mode x.head)) (x.level ∷ [])) (begins happens.Nothing (after_intermission role x.mode x.head) []))
      (cond (is_dominant x.level) (begins happens.Nothing (Flagging OverloadFlag role) []) (continues happens.Nothing)) (C (Intermission role) own)
      (λ e. let two = eqb-true (length own) 2 e in
      cond_both (is_dominant x.level) (begins happens.Nothing (Framing (begun_head role x.mode x.head)) (x.level ∷ [])) (begins happens.Nothing (after_intermission role x.mode x.head) []) (C (Intermission role) own)
      (λ d g. third (omega arith) (dominant_from x.level d) refl) (λ r. resting (Intermission role) own role x.mode x.head))
      (λ e. either (C (Intermission role) own) (is_dominant x.level) (begins happens.Nothing (Flagging OverloadFlag role) []) (continues happens.Nothing) (λ g. cc) (λ g. cc))
  sends_from Suspension own a =
      either (C Suspension own) (is_dominant x.level) (begins happens.Nothing (Framing None) (x.level ∷ [])) (cond (length own == 7) (begins happens.Nothing (free x.head) []) (continues happens.Nothing)) (λ e. cc)
      (either (C Suspension own) (length own == 7) (begins happens.Nothing (free x.head) []) (continues happens.Nothing) (freely Suspension own happens.Nothing x.head) (λ e. cc))
