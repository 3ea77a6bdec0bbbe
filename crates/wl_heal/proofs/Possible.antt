-- What is so in the running stretch of every machine, whatever has reached it: it is no longer than its sort allows.
use Rattle.std.proofs.Common.{◌≡◌, ◌∙◌, ℕ, ◌+◌, ◌-◌, ◌<◌, ◌≤◌, List, [], ◌∷◌, ◌++◌, length, Bool, true, false, not, cond, Option, Some, None, refl, sym, ap, arith}
use Rattle.std.specs.Prelude.{◌==◌, fold}
use Rattle.std.proofs.lemmas.Bool.{cond_both, eqb-true, eqb-false}
use Rattle.wl_level.specs.declared.Level.{Level}
use Rattle.wl_level.specs.declared.Level.TheVariants.{Dominant, Recessive}
use Rattle.wl_level.specs.Levels.{is_dominant}
use Rattle.wl_level.specs.Places.{or_at, run_at_end}
use Rattle.wl_frame.specs.Stuffing.{destuffed_bits}
use Rattle.wl_frame.specs.Grammar.{Content}
use Rattle.wl_confine.specs.declared.Mode.{Mode}
use Rattle.wl_confine.specs.declared.Mode.TheVariants.{Active, Passive, Off}
use Rattle.wl_confine.specs.declared.Happened.TheVariants as happens
use Rattle.wl_machine.specs.declared.state.Role.{Role}
use Rattle.wl_machine.specs.declared.state.Role.TheVariants.{Tx, Rx}
use Rattle.wl_machine.specs.Stretch.{Flag, Sort, Stretch, Sampled, Input, Judgement, continues, begins, free}
use Rattle.wl_machine.specs.Stretch.Flag.{ActiveFlag, OverloadFlag, PassiveFlag}
use Rattle.wl_machine.specs.Stretch.Sort.{Integration, Idle, Framing, Flagging, Waiting, Delimiting, Intermission, Suspension, OffBus}
use Rattle.wl_machine.specs.Stretch.Input.{Sample, SwitchedOff}
use Rattle.wl_machine.specs.Flags.{error_flag, is_after_flag, is_each_eighth, long_from, dominant_run, long_of}
use Rattle.wl_machine.specs.BetweenFrames.{after_intermission, idle_on, recessive_runs}
use Rattle.wl_machine.specs.Frames.{stuffed_end, frame_role, framing_by, framing_sent, framing_received, unanswered}
use Rattle.wl_machine.specs.Judged.{judged_by, stretch_after, stretch_of}
use Rattle.wl_machine.specs.States.{stretch_by}
use Rattle.wl_machine.proofs.Callers.{end_more, end_stays, ends_at}
use Rattle.wl_heal.proofs.Cases.{differing_cases, sending_cases, receiving_cases, sent_tail_cases, acknowledging_cases, received_tail_cases}
use Rattle.wl_heal.proofs.Samples.{going, either, longer, run_up, run_other}

-- a frame has ten bits at most after its stuffed part
abbrev pub HasTail : List Level → Type 0
HasTail own = (end : ℕ) → stuffed_end own ≡ Some end → (end ≤ length own) × (length own < end + 10)

abbrev pub IsPossibleBy : Sort → List Level → Type 0
IsPossibleBy Integration own = run_at_end Recessive own < 11
IsPossibleBy (Framing head) own = HasTail own
IsPossibleBy (Flagging (PassiveFlag unacknowledged) role) own = (run_at_end Recessive own < 6) × (run_at_end Dominant own < 6) × (unacknowledged ≡ true → role ≡ Tx)
IsPossibleBy (Flagging flag role) own = length own < 6
IsPossibleBy (Waiting (PassiveFlag unacknowledged) role flagged) own = Unit {0}
IsPossibleBy (Waiting flag role flagged) own = length flagged ≤ 6
IsPossibleBy (Delimiting role) own = length own < 8
IsPossibleBy (Intermission role) own = length own < 3
IsPossibleBy Suspension own = length own < 8
IsPossibleBy OffBus own = recessive_runs own ≡ 128 → ⊥
IsPossibleBy sort own = Unit {0}

abbrev pub IsPossible : Stretch → Type 0
IsPossible s = IsPossibleBy s.sort s.own

-- a list without samples
none_ended : HasTail []
none_ended end e = cc

one_ended : (l : Level) → HasTail (l ∷ [])
one_ended Dominant end e = cc
one_ended Recessive end e = cc

pub some_same : (a b : ℕ) → Some a ≡ Some b → a ≡ b
some_same a b e = cc

freed : (head : Option Content) → IsPossible (stretch_by (free head) [])
freed None = tt
freed (Some c) = none_ended

behind_intermission : (role : Role) (mode : Mode) (head : Option Content) → IsPossible (stretch_by (after_intermission role mode head) [])
behind_intermission Tx Passive head = omega arith
behind_intermission Tx Active head = freed head
behind_intermission Tx Off head = freed head
behind_intermission Rx mode head = freed head

flagged : (mode : Mode) (role : Role) → IsPossible (stretch_by (Flagging (error_flag mode) role) [])
flagged Active role = omega arith
flagged Passive role = (omega arith, omega arith, λ e. cc)
flagged Off role = (omega arith, omega arith, λ e. cc)

-- a dominant sample of a wait
abbrev pub waiting_on : Flag → Role → List Level → List Level → Sampled → Judgement
waiting_on flag role flags own x =
    cond (is_after_flag flag role own) (continues happens.RxAfterFlag)
    (cond (is_each_eighth (long_from flag) (dominant_run flag flags (own ++ x.level ∷ []))) (continues (long_of role)) (continues happens.Nothing))

module _ (x : Sampled) where
  abbrev Goes : Sort → List Level → Judgement → Type 0
  Goes sort own j = IsPossible (going sort own x.level j)

  integrates : (own : List Level) → run_at_end Recessive own < 11 → Goes Integration own (judged_by Integration own x)
  integrates own h =
      let more = run_up Recessive x.level own in
      cond_both (run_at_end Recessive (own ++ x.level ∷ []) == 11) _ _ (Goes Integration own) (λ e. freed x.head)
      (λ e. let f = eqb-false (run_at_end Recessive (own ++ x.level ∷ [])) 11 e in omega arith)

  idles : (own : List Level) → Goes Idle own (judged_by Idle own x)
  idles own = either (Goes Idle own) (is_dominant x.level) _ _ (one_ended x.level) (by x.head)
    where
      by : (head : Option Content) → Goes Idle own (idle_on head)
      by None = tt
      by (Some c) = none_ended

  intermits : (role : Role) (own : List Level) → length own < 3 → Goes (Intermission role) own (judged_by (Intermission role) own x)
  intermits role own h =
      let more = longer own x.level in
      cond_both (length own == 2) _ _ (Goes (Intermission role) own)
      (λ e. either (Goes (Intermission role) own) (is_dominant x.level) _ _ (one_ended x.level) (behind_intermission role x.mode x.head))
      (λ e. let f = eqb-false (length own) 2 e in either (Goes (Intermission role) own) (is_dominant x.level) _ _ (omega arith) (omega arith))

  suspends : (own : List Level) → length own < 8 → Goes Suspension own (judged_by Suspension own x)
  suspends own h =
      let more = longer own x.level in
      either (Goes Suspension own) (is_dominant x.level) _ _ (one_ended x.level)
      (cond_both (length own == 7) (begins happens.Nothing (free x.head) []) (continues happens.Nothing) (Goes Suspension own) (λ e. freed x.head)
      (λ e. let f = eqb-false (length own) 7 e in omega arith))

  offs : (own : List Level) → Goes OffBus own (judged_by OffBus own x)
  offs own = cond_both (recessive_runs (own ++ x.level ∷ []) == 128) (begins happens.Recovered (free x.head) []) (continues happens.Nothing) (Goes OffBus own) (λ e. freed x.head) (λ e. eqb-false (recessive_runs (own ++ x.level ∷ [])) 128 e)

  delimits : (role : Role) (own : List Level) → length own < 8 → Goes (Delimiting role) own (judged_by (Delimiting role) own x)
  delimits role own h =
      let more = longer own x.level in
      cond_both (not (is_dominant x.level)) _ _ (Goes (Delimiting role) own)
      (λ e. cond_both (length own == 7) _ _ (Goes (Delimiting role) own) (λ f. omega arith) (λ f. let g = eqb-false (length own) 7 f in omega arith))
      (λ e. either (Goes (Delimiting role) own) (length own == 7) _ _ (omega arith) (flagged x.mode role))

  waits : (flag : Flag) (role : Role) (flags own : List Level) → IsPossibleBy (Waiting flag role flags) own → Goes (Waiting flag role flags) own (judged_by (Waiting flag role flags) own x)
  waits flag role flags own h =
      either (Goes (Waiting flag role flags) own) (not (is_dominant x.level)) (begins happens.Nothing (Delimiting role) (x.level ∷ [])) (waiting_on flag role flags own x) (omega arith)
      (either (Goes (Waiting flag role flags) own) (is_after_flag flag role own) (continues happens.RxAfterFlag)
      (cond (is_each_eighth (long_from flag) (dominant_run flag flags (own ++ x.level ∷ []))) (continues (long_of role)) (continues happens.Nothing)) (still flag h)
      (either (Goes (Waiting flag role flags) own) (is_each_eighth (long_from flag) (dominant_run flag flags (own ++ x.level ∷ []))) (continues (long_of role)) (continues happens.Nothing) (still flag h) (still flag h)))
    where
      still : (flag : Flag) → IsPossibleBy (Waiting flag role flags) own → IsPossibleBy (Waiting flag role flags) (own ++ x.level ∷ [])
      still ActiveFlag h = h
      still OverloadFlag h = h
      still (PassiveFlag unacknowledged) h = tt

  flags_on : (flag : Flag) (role : Role) (own : List Level) → IsPossibleBy (Flagging flag role) own → Goes (Flagging flag role) own (judged_by (Flagging flag role) own x)
  flags_on ActiveFlag role own h =
      let more = longer own x.level in
      cond_both (length own == 5) _ _ (Goes (Flagging ActiveFlag role) own) (λ e. let f = eqb-true (length own) 5 e in omega arith) (λ e. let f = eqb-false (length own) 5 e in omega arith)
  flags_on OverloadFlag role own h =
      let more = longer own x.level in
      cond_both (length own == 5) _ _ (Goes (Flagging OverloadFlag role) own) (λ e. let f = eqb-true (length own) 5 e in omega arith) (λ e. let f = eqb-false (length own) 5 e in omega arith)
  flags_on (PassiveFlag unacknowledged) role own h =
      cond_both (run_at_end x.level (own ++ x.level ∷ []) == 6) _ _ (Goes (Flagging (PassiveFlag unacknowledged) role) own) (λ e. tt)
      (λ e. by x.level (eqb-false (run_at_end x.level (own ++ x.level ∷ [])) 6 e))
    where
      by : (l : Level) → (run_at_end l (own ++ l ∷ []) ≡ 6 → ⊥) → IsPossibleBy (Flagging (PassiveFlag unacknowledged) role) (own ++ l ∷ [])
      by Dominant n = let z = (run_other own).0 in let up = run_up Dominant Dominant own in let d = h.1 in (omega arith, omega arith, h.2)
      by Recessive n = let z = (run_other own).1 in let up = run_up Recessive Recessive own in let d = h.0 in (omega arith, omega arith, h.2)

  -- frames

  grown : (own : List Level) (o : Option ℕ) → stuffed_end own ≡ o → (((end : ℕ) → o ≡ Some end → length own - end < 9)) → HasTail own → HasTail (own ++ x.level ∷ [])
  grown own None e below h end f = by (ends_at (own ++ x.level ∷ []) (length (own ++ x.level ∷ []))) (sym (end_more own x.level ∙ ap (λ o. or_at o (ends_at (own ++ x.level ∷ []) (length (own ++ x.level ∷ []))) (length (own ++ x.level ∷ []))) e) ∙ f)
    where
      by : (b : Bool) → or_at None b (length (own ++ x.level ∷ [])) ≡ Some end → (end ≤ length (own ++ x.level ∷ [])) × (length (own ++ x.level ∷ []) < end + 10)
      by true g = let s : length (own ++ x.level ∷ []) ≡ end = cc in (omega arith, omega arith)
      by false g = cc
  grown own (Some at) e below h end f =
      let s : at ≡ end = some_same at end (sym (end_stays own x.level at e) ∙ f) in
      let old = h at e in
      let low = old.0 in
      let few = below at refl in
      let more = longer own x.level in
      (omega arith, omega arith)

  module _ (head : Option Content) (own : List Level) (h : HasTail own) where
    abbrev P : Judgement → Type 0
    P = Goes (Framing head) own

    tail_on : (end : ℕ) → stuffed_end own ≡ Some end → length own - end < 9 → HasTail (own ++ x.level ∷ [])
    tail_on end e below = grown own (Some end) e (λ k g. let s : end ≡ k = some_same end k g in omega arith) h

    sends : (c : Content) (o : Option ℕ) → stuffed_end own ≡ o → P (framing_sent c own o x)
    sends c None e =
        let on : HasTail (own ++ x.level ∷ []) = grown own None e (λ end f. cc) h in
        sending_cases P x c own (λ f. on) (λ f. differing_cases P x c own (flagged x.mode Tx) (flagged x.mode Tx) on)
    sends c (Some end) e =
        sent_tail_cases P x c (length own - end)
        (λ one d. tail_on end e (omega arith)) (λ one r. unanswered_goes x.mode) (λ no d. flagged x.mode Tx) (λ nine r. omega arith)
        (λ no nine r. let few = (h end e).1 in tail_on end e (omega arith))
      where
        unanswered_goes : (mode : Mode) → P (unanswered mode)
        unanswered_goes Passive = (omega arith, omega arith, λ e. refl)
        unanswered_goes Active = omega arith
        unanswered_goes Off = (omega arith, omega arith, λ e. cc)

    receives : (o : Option ℕ) → stuffed_end own ≡ o → P (framing_received own o x)
    receives None e = receiving_cases P x own (λ due s. flagged x.mode Rx) (λ f. grown own None e (λ end g. cc) h)
    receives (Some end) e =
        received_tail_cases P x (destuffed_bits own end) (length own - end)
        (λ one. let on = tail_on end e (omega arith) in acknowledging_cases P x (destuffed_bits own end) (λ w. on) (λ r d. on) (λ r d. flagged x.mode Rx))
        (λ nine. either P (is_dominant x.level) (begins happens.Nothing (Flagging OverloadFlag Rx) []) (begins happens.Nothing (Intermission Rx) []) (omega arith) (omega arith)) (λ no nine d. flagged x.mode Rx) (λ two w r. flagged x.mode Rx)
        (λ eight r. tail_on end e (omega arith)) (λ no nine two r. let few = (h end e).1 in tail_on end e (omega arith))

  frames : (role : Role) (head : Option Content) (own : List Level) → HasTail own → Goes (Framing head) own (framing_by role head own x)
  frames Tx None own h = receives None own h (stuffed_end own) refl
  frames Tx (Some c) own h = sends (Some c) own h c (stuffed_end own) refl
  frames Rx head own h = receives head own h (stuffed_end own) refl

  by_sort : (sort : Sort) (own : List Level) → IsPossibleBy sort own → Goes sort own (judged_by sort own x)
  by_sort Integration own h = integrates own h
  by_sort Idle own h = idles own
  by_sort (Framing head) own h = frames (frame_role head own) head own h
  by_sort (Flagging flag role) own h = flags_on flag role own h
  by_sort (Waiting flag role flags) own h = waits flag role flags own h
  by_sort (Delimiting role) own h = delimits role own h
  by_sort (Intermission role) own h = intermits role own h
  by_sort Suspension own h = suspends own h
  by_sort OffBus own h = offs own

pub possible_next : (s : Stretch) (input : Input) → IsPossible s → IsPossible (stretch_after s input)
possible_next s (Sample x) h = by_sort x s.sort s.own h
possible_next s SwitchedOff h = λ e. absurd (omega (arith, e))

possible_on : (s : Stretch) (inputs : List Input) → IsPossible s → IsPossible (fold stretch_after s inputs)
possible_on s [] h = h
possible_on s (input ∷ inputs) h = possible_on (stretch_after s input) inputs (possible_next s input h)

pub possible : (past : List Input) → IsPossible (stretch_of past)
possible past = possible_on (stretch_by Integration []) past (omega arith)
