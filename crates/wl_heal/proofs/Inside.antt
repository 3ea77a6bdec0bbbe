-- A machine that neither integrates nor is off the bus doesn't begin to, with a sample.
use Rattle.std.proofs.Common.{◌≡◌, ◌-◌, ℕ, List, [], ◌∷◌, ◌++◌, length, Bool, true, false, not, cond, Option, Some, None, refl}
use Rattle.std.specs.Prelude.{◌==◌}
use Rattle.wl_level.specs.declared.Level.{Level}
use Rattle.wl_level.specs.Levels.{is_dominant}
use Rattle.wl_level.specs.Places.{run_at_end}
use Rattle.wl_frame.specs.Stuffing.{destuffed_bits}
use Rattle.wl_frame.specs.Grammar.{Content}
use Rattle.wl_confine.specs.declared.Mode.{Mode}
use Rattle.wl_confine.specs.declared.Mode.TheVariants.{Active, Passive, Off}
use Rattle.wl_confine.specs.declared.Happened.TheVariants as happens
use Rattle.wl_machine.specs.declared.state.Role.{Role}
use Rattle.wl_machine.specs.declared.state.Role.TheVariants.{Tx, Rx}
use Rattle.wl_machine.specs.Stretch.{Flag, Sort, Stretch, Sampled, Judgement, continues, begins, free}
use Rattle.wl_machine.specs.Stretch.Flag.{ActiveFlag, OverloadFlag, PassiveFlag}
use Rattle.wl_machine.specs.Stretch.Sort.{Integration, Idle, Framing, Flagging, Waiting, Delimiting, Intermission, Suspension, OffBus}
use Rattle.wl_machine.specs.Stretch.Input.{Sample}
use Rattle.wl_machine.specs.BetweenFrames.{after_intermission, begun_head, idle_on, recessive_runs}
use Rattle.wl_machine.specs.Flags.{error_flag, is_after_flag, is_each_eighth, long_from, dominant_run, long_of}
use Rattle.wl_machine.specs.Frames.{stuffed_end, frame_role, framing_by, framing_sent, framing_received, unanswered}
use Rattle.wl_machine.specs.Judged.{judged_by, stretch_after}
use Rattle.wl_heal.specs.Silence.{is_off_by}
use Rattle.wl_heal.proofs.Cases.{differing_cases, sending_cases, receiving_cases, sent_tail_cases, acknowledging_cases, received_tail_cases}
use Rattle.wl_heal.proofs.Possible.{waiting_on}
use Rattle.wl_heal.proofs.Samples.{going, either}

-- a test that passes at most the two stretches in which a machine takes no part
pub record IsOfOutside (t : Sort → Bool) : Type 0 where
  pub idle : t Idle ≡ false
  pub framing : (head : Option Content) → t (Framing head) ≡ false
  pub flagging : (flag : Flag) (role : Role) → t (Flagging flag role) ≡ false
  pub waiting : (flag : Flag) (role : Role) (flagged : List Level) → t (Waiting flag role flagged) ≡ false
  pub delimiting : (role : Role) → t (Delimiting role) ≡ false
  pub intermission : (role : Role) → t (Intermission role) ≡ false
  pub suspension : t Suspension ≡ false

pub off_test : IsOfOutside is_off_by
off_test = record {
  idle = refl;
  framing = λ head. refl;
  flagging = λ flag role. refl;
  waiting = λ flag role flagged. refl;
  delimiting = λ role. refl;
  intermission = λ role. refl;
  suspension = refl;
}

module _ (t : Sort → Bool) (is : IsOfOutside t) where
  freed : (head : Option Content) → t (free head) ≡ false
  freed None = is.idle
  freed (Some c) = is.framing (Some c)

  after : (role : Role) (mode : Mode) (head : Option Content) → t (after_intermission role mode head) ≡ false
  after Tx Passive head = is.suspension
  after Tx Active head = freed head
  after Tx Off head = freed head
  after Rx mode head = freed head

  module _ (x : Sampled) where
    abbrev P : Sort → List Level → Judgement → Type 0
    P sort own j = t (going sort own x.level j).sort ≡ false

    module _ (frame : Option Content) (own : List Level) where
      abbrev F : Judgement → Type 0
      F = P (Framing frame) own

      goes_on : t (Framing frame) ≡ false
      goes_on = is.framing frame

      fails_so : (role : Role) → t (Flagging (error_flag x.mode) role) ≡ false
      fails_so role = is.flagging (error_flag x.mode) role

      received : (o : Option ℕ) → F (framing_received own o x)
      received None = receiving_cases F x own (λ a b. fails_so Rx) (λ a. goes_on)
      received (Some end) =
          received_tail_cases F x (destuffed_bits own end) (length own - end)
          (λ one. acknowledging_cases F x (destuffed_bits own end) (λ w. goes_on) (λ r d. goes_on) (λ r d. fails_so Rx))
          (λ nine. either F (is_dominant x.level) (begins happens.Nothing (Flagging OverloadFlag Rx) []) (begins happens.Nothing (Intermission Rx) []) (is.flagging OverloadFlag Rx) (is.intermission Rx))
          (λ a b d. fails_so Rx) (λ a b d. fails_so Rx) (λ a b. goes_on) (λ a b d e. goes_on)

      sent : (c : Content) (o : Option ℕ) → F (framing_sent c own o x)
      sent c None = sending_cases F x c own (λ a. goes_on) (λ a. differing_cases F x c own (fails_so Tx) (fails_so Tx) goes_on)
      sent c (Some end) =
          sent_tail_cases F x c (length own - end) (λ a b. goes_on) (λ a b. none x.mode) (λ a b. fails_so Tx) (λ a b. is.intermission Tx) (λ a b d. goes_on)
        where
          none : (mode : Mode) → F (unanswered mode)
          none Passive = is.flagging (PassiveFlag true) Tx
          none Active = is.flagging ActiveFlag Tx
          none Off = is.flagging (PassiveFlag false) Tx

    framed : (role : Role) (frame : Option Content) (own : List Level) → P (Framing frame) own (framing_by role frame own x)
    framed Tx None own = received None own (stuffed_end own)
    framed Tx (Some c) own = sent (Some c) own c (stuffed_end own)
    framed Rx frame own = received frame own (stuffed_end own)

    idles : (own : List Level) (head : Option Content) → P Idle own (idle_on head)
    idles own None = is.idle
    idles own (Some c) = is.framing (Some c)

    by_sort : (sort : Sort) (own : List Level) → t sort ≡ false → P sort own (judged_by sort own x)
    by_sort Integration own h =
        either (P Integration own) (run_at_end Level.Recessive (own ++ x.level ∷ []) == 11) (begins happens.Nothing (free x.head) []) (continues happens.Nothing) (freed x.head) h
    by_sort Idle own h = either (P Idle own) (is_dominant x.level) (begins happens.Nothing (Framing None) (x.level ∷ [])) (idle_on x.head) (is.framing None) (idles own x.head)
    by_sort (Framing frame) own h = framed (frame_role frame own) frame own
    by_sort (Flagging ActiveFlag role) own h = either (P (Flagging ActiveFlag role) own) (length own == 5) (begins _ (Waiting ActiveFlag role (own ++ x.level ∷ [])) []) (continues _) (is.waiting _ _ _) h
    by_sort (Flagging OverloadFlag role) own h = either (P (Flagging OverloadFlag role) own) (length own == 5) (begins _ (Waiting OverloadFlag role (own ++ x.level ∷ [])) []) (continues _) (is.waiting _ _ _) h
    by_sort (Flagging (PassiveFlag unacknowledged) role) own h =
        either (P (Flagging (PassiveFlag unacknowledged) role) own) (run_at_end x.level (own ++ x.level ∷ []) == 6) (begins _ (Waiting (PassiveFlag unacknowledged) role (own ++ x.level ∷ [])) []) (continues _)
        (is.waiting _ _ _) h
    by_sort (Waiting flag role flagged) own h =
        either (P (Waiting flag role flagged) own) (not (is_dominant x.level)) (begins happens.Nothing (Delimiting role) (x.level ∷ [])) (waiting_on flag role flagged own x) (is.delimiting role)
        (either (P (Waiting flag role flagged) own) (is_after_flag flag role own) (continues happens.RxAfterFlag)
        (cond (is_each_eighth (long_from flag) (dominant_run flag flagged (own ++ x.level ∷ []))) (continues (long_of role)) (continues happens.Nothing)) h
        (either (P (Waiting flag role flagged) own) (is_each_eighth (long_from flag) (dominant_run flag flagged (own ++ x.level ∷ []))) (continues (long_of role)) (continues happens.Nothing) h h))
    by_sort (Delimiting role) own h =
        either (P (Delimiting role) own) (not (is_dominant x.level)) _ _
        (either (P (Delimiting role) own) (length own == 7) (begins happens.Nothing (Intermission role) []) (continues happens.Nothing) (is.intermission role) h)
        (either (P (Delimiting role) own) (length own == 7) (begins happens.Nothing (Flagging OverloadFlag role) []) _ (is.flagging OverloadFlag role) (is.flagging (error_flag x.mode) role))
    by_sort (Intermission role) own h =
        either (P (Intermission role) own) (length own == 2) _ _
        (either (P (Intermission role) own) (is_dominant x.level) (begins happens.Nothing (Framing (begun_head role x.mode x.head)) (x.level ∷ [])) (begins happens.Nothing (after_intermission role x.mode x.head) [])
        (is.framing _) (after role x.mode x.head))
        (either (P (Intermission role) own) (is_dominant x.level) (begins happens.Nothing (Flagging OverloadFlag role) []) (continues happens.Nothing) (is.flagging OverloadFlag role) h)
    by_sort Suspension own h =
        either (P Suspension own) (is_dominant x.level) (begins happens.Nothing (Framing None) (x.level ∷ [])) _ (is.framing None)
        (either (P Suspension own) (length own == 7) (begins happens.Nothing (free x.head) []) (continues happens.Nothing) (freed x.head) h)
    by_sort OffBus own h = either (P OffBus own) (recessive_runs (own ++ x.level ∷ []) == 128) (begins happens.Recovered (free x.head) []) (continues happens.Nothing) (freed x.head) h

  pub inside_next : (s : Stretch) (x : Sampled) → t s.sort ≡ false → t (stretch_after s (Sample x)).sort ≡ false
  inside_next s x h = by_sort x s.sort s.own h
