-- Flags that are under way come to an end, where no others begin.
use Rattle.std.proofs.Common.{◌≡◌, ◌-◌, ◌+◌, ◌≤◌, ℕ, suc, List, [], ◌∷◌, ◌++◌, length, Bool, true, false, not, cond, ◌&&◌, Option, Some, None, refl, arith}
use Rattle.std.specs.Prelude.{◌==◌}
use Rattle.wl_level.specs.declared.Level.{Level}
use Rattle.wl_level.specs.Levels.{is_dominant}
use Rattle.wl_level.specs.Places.{run_at_end}
use Rattle.wl_frame.specs.Stuffing.{destuffed_bits}
use Rattle.wl_frame.specs.Grammar.{Content, is_crc_right}
use Rattle.wl_confine.specs.declared.Mode.{Mode}
use Rattle.wl_confine.specs.declared.Mode.TheVariants.{Active, Passive, Off}
use Rattle.wl_confine.specs.declared.Happened.{Happened}
use Rattle.wl_confine.specs.declared.Happened.TheVariants as happens
use Rattle.wl_machine.specs.declared.state.Role.{Role}
use Rattle.wl_machine.specs.declared.state.Role.TheVariants.{Tx, Rx}
use Rattle.wl_machine.specs.Stretch.{Flag, Sort, Sampled, Judgement, continues, begins, free}
use Rattle.wl_machine.specs.Stretch.Flag.{ActiveFlag, OverloadFlag, PassiveFlag}
use Rattle.wl_machine.specs.Stretch.Sort.{Integration, Idle, Framing, Flagging, Waiting, Delimiting, Intermission, Suspension, OffBus}
use Rattle.wl_machine.specs.BetweenFrames.{after_intermission, begun_head, idle_on, recessive_runs}
use Rattle.wl_machine.specs.Flags.{error_flag, fails, delimiter_error, is_after_flag, is_each_eighth, long_from, dominant_run, long_of}
use Rattle.wl_machine.specs.Frames.{stuffed_end, frame_role, framing_by, framing_sent, framing_received, unanswered}
use Rattle.wl_machine.specs.Judged.{judged_by, drive_by}
use Rattle.wl_heal.proofs.Cases.{differing_cases, sending_cases, receiving_cases, sent_tail_cases, acknowledging_cases, received_tail_cases}
use Rattle.wl_heal.proofs.Possible.{waiting_on}
use Rattle.wl_machine.specs.States.{stretch_by}
use Rattle.wl_heal.proofs.Samples.{going, either}
use Rattle.std.proofs.lemmas.Bool.{eqb-true}
use Rattle.wl_level.specs.declared.Level.TheVariants.{Dominant, Recessive}
use Rattle.wl_machine.specs.Frames.{tail_drive}
use Rattle.wl_heal.proofs.Possible.{IsPossibleBy}
use Rattle.wl_heal.proofs.Samples.{longer}
use Rattle.wl_heal.proofs.Settle.{is_new_flag}

abbrev pub is_flag_by : Sort → Bool
is_flag_by (Flagging ActiveFlag role) = true
is_flag_by (Flagging OverloadFlag role) = true
is_flag_by sort = false

-- a dominant flag has so many bits to come at most
abbrev pub Leftover : ℕ → Sort → List Level → Type 0
Leftover n sort own = is_flag_by sort ≡ true → 6 ≤ length own + n

no_free : (head : Option Content) → is_flag_by (free head) ≡ true → ⊥
no_free None e = cc
no_free (Some c) e = cc

no_after : (role : Role) (mode : Mode) (head : Option Content) → is_flag_by (after_intermission role mode head) ≡ true → ⊥
no_after Tx Passive head e = cc
no_after Tx Active head e = no_free head e
no_after Tx Off head e = no_free head e
no_after Rx mode head e = no_free head e

module _ (n : ℕ) (x : Sampled) where
  abbrev P : Sort → List Level → Judgement → Type 0
  P sort own j = is_new_flag (going sort own x.level j) ≡ false → Leftover n (going sort own x.level j).sort (going sort own x.level j).own

  failed : (role : Role) (mode : Mode) → is_new_flag (stretch_by (Flagging (error_flag mode) role) []) ≡ false → Leftover n (Flagging (error_flag mode) role) []
  failed role Active f = cc
  failed role Passive f = λ e. cc
  failed role Off f = λ e. cc

  module _ (frame : Option Content) (own : List Level) where
    abbrev F : Judgement → Type 0
    F = P (Framing frame) own

    goes_on : (h : Happened) → F (continues h)
    goes_on h f e = cc

    received : (o : Option ℕ) → F (framing_received own o x)
    received None = receiving_cases F x own (λ a b. failed Rx x.mode) (λ a f e. cc)
    received (Some end) =
        received_tail_cases F x (destuffed_bits own end) (length own - end)
        (λ one. acknowledging_cases F x (destuffed_bits own end) (λ w f e. cc) (λ r d f e. cc) (λ r d. failed Rx x.mode))
        (λ nine. either F (is_dominant x.level) (begins happens.Nothing (Flagging OverloadFlag Rx) []) (begins happens.Nothing (Intermission Rx) []) (λ f. cc) (λ f e. cc))
        (λ a b d. failed Rx x.mode) (λ a b d. failed Rx x.mode) (λ a b f e. cc) (λ a b d g f e. cc)

    sent : (c : Content) (o : Option ℕ) → F (framing_sent c own o x)
    sent c None = sending_cases F x c own (λ a f e. cc) (λ a. differing_cases F x c own (failed Tx x.mode) (failed Tx x.mode) (λ f e. cc))
    sent c (Some end) =
        sent_tail_cases F x c (length own - end) (λ a b f e. cc) (λ a b. none x.mode) (λ a b. failed Tx x.mode) (λ a b f e. cc) (λ a b d f e. cc)
      where
        none : (mode : Mode) → F (unanswered mode)
        none Passive = λ f e. cc
        none Active = λ f. cc
        none Off = λ f e. cc

  framed : (role : Role) (frame : Option Content) (own : List Level) → P (Framing frame) own (framing_by role frame own x)
  framed Tx None own = received None own (stuffed_end own)
  framed Tx (Some c) own = sent (Some c) own c (stuffed_end own)
  framed Rx frame own = received frame own (stuffed_end own)

  idles : (own : List Level) (head : Option Content) → P Idle own (idle_on head)
  idles own None f e = cc
  idles own (Some c) f e = cc

  flags_on : (flag : Flag) (role : Role) (own : List Level) (h : Happened) → (is_flag_by (Flagging flag role) ≡ true → 6 ≤ length own + suc n)
      → P (Flagging flag role) own (cond (length own == 5) (begins h (Waiting flag role (own ++ x.level ∷ [])) []) (continues h))
  flags_on flag role own h old =
      let more = longer own x.level in
      either (P (Flagging flag role) own) (length own == 5) (begins h (Waiting flag role (own ++ x.level ∷ [])) []) (continues h) (λ f e. cc) (λ f e. let was = old e in omega arith)

  pub leftover_next : (sort : Sort) (own : List Level) → Leftover (suc n) sort own → P sort own (judged_by sort own x)
  leftover_next Integration own h =
      either (P Integration own) (run_at_end Recessive (own ++ x.level ∷ []) == 11) (begins happens.Nothing (free x.head) []) (continues happens.Nothing) (λ f e. absurd (no_free x.head e)) (λ f e. cc)
  leftover_next Idle own h = either (P Idle own) (is_dominant x.level) (begins happens.Nothing (Framing None) (x.level ∷ [])) (idle_on x.head) (λ f e. cc) (idles own x.head)
  leftover_next (Framing frame) own h = framed (frame_role frame own) frame own
  leftover_next (Flagging ActiveFlag role) own h = flags_on ActiveFlag role own _ h
  leftover_next (Flagging OverloadFlag role) own h = flags_on OverloadFlag role own _ h
  leftover_next (Flagging (PassiveFlag unacknowledged) role) own h =
      either (P (Flagging (PassiveFlag unacknowledged) role) own) (run_at_end x.level (own ++ x.level ∷ []) == 6) (begins _ (Waiting (PassiveFlag unacknowledged) role (own ++ x.level ∷ [])) []) (continues _)
      (λ f e. cc) (λ f e. cc)
  leftover_next (Waiting flag role flags) own h =
      either (P (Waiting flag role flags) own) (not (is_dominant x.level)) (begins happens.Nothing (Delimiting role) (x.level ∷ [])) (waiting_on flag role flags own x) (λ f e. cc)
      (either (P (Waiting flag role flags) own) (is_after_flag flag role own) (continues happens.RxAfterFlag)
      (cond (is_each_eighth (long_from flag) (dominant_run flag flags (own ++ x.level ∷ []))) (continues (long_of role)) (continues happens.Nothing)) (λ f e. cc)
      (either (P (Waiting flag role flags) own) (is_each_eighth (long_from flag) (dominant_run flag flags (own ++ x.level ∷ []))) (continues (long_of role)) (continues happens.Nothing) (λ f e. cc) (λ f e. cc)))
  leftover_next (Delimiting role) own h =
      either (P (Delimiting role) own) (not (is_dominant x.level))
      (cond (length own == 7) (begins happens.Nothing (Intermission role) []) (continues happens.Nothing))
      (cond (length own == 7) (begins happens.Nothing (Flagging OverloadFlag role) []) (fails role x.mode (delimiter_error role)))
      (either (P (Delimiting role) own) (length own == 7) (begins happens.Nothing (Intermission role) []) (continues happens.Nothing) (λ f e. cc) (λ f e. cc))
      (either (P (Delimiting role) own) (length own == 7) (begins happens.Nothing (Flagging OverloadFlag role) []) (fails role x.mode (delimiter_error role)) (λ f. cc) (failed role x.mode))
  leftover_next (Intermission role) own h =
      either (P (Intermission role) own) (length own == 2)
      (cond (is_dominant x.level) (begins happens.Nothing (Framing (begun_head role x.mode x.head)) (x.level ∷ [])) (begins happens.Nothing (after_intermission role x.mode x.head) []))
      (cond (is_dominant x.level) (begins happens.Nothing (Flagging OverloadFlag role) []) (continues happens.Nothing))
      (either (P (Intermission role) own) (is_dominant x.level) (begins happens.Nothing (Framing (begun_head role x.mode x.head)) (x.level ∷ [])) (begins happens.Nothing (after_intermission role x.mode x.head) [])
      (λ f e. cc) (λ f e. absurd (no_after role x.mode x.head e)))
      (either (P (Intermission role) own) (is_dominant x.level) (begins happens.Nothing (Flagging OverloadFlag role) []) (continues happens.Nothing) (λ f. cc) (λ f e. cc))
  leftover_next Suspension own h =
      either (P Suspension own) (is_dominant x.level) (begins happens.Nothing (Framing None) (x.level ∷ []))
      (cond (length own == 7) (begins happens.Nothing (free x.head) []) (continues happens.Nothing)) (λ f e. cc)
      (either (P Suspension own) (length own == 7) (begins happens.Nothing (free x.head) []) (continues happens.Nothing) (λ f e. absurd (no_free x.head e)) (λ f e. cc))
  leftover_next OffBus own h =
      either (P OffBus own) (recessive_runs (own ++ x.level ∷ []) == 128) (begins happens.Recovered (free x.head) []) (continues happens.Nothing) (λ f e. absurd (no_free x.head e)) (λ f e. cc)

-- who drives dominant without a flag is in a frame
pub drives_frame : (sort : Sort) (own : List Level) → IsPossibleBy sort own → Leftover 0 sort own → drive_by sort own ≡ Dominant → (frame : Option Content) × (sort ≡ Framing frame)
drives_frame (Framing frame) own p h d = (frame, refl)
drives_frame (Flagging ActiveFlag role) own p h d = let six = h refl in absurd (omega arith)
drives_frame (Flagging OverloadFlag role) own p h d = let six = h refl in absurd (omega arith)
drives_frame (Flagging (PassiveFlag unacknowledged) role) own p h d = cc
drives_frame (Waiting flag role flagged) own p h d = cc
drives_frame (Delimiting role) own p h d = cc
drives_frame Integration own p h d = cc
drives_frame Idle own p h d = cc
drives_frame (Intermission role) own p h d = cc
drives_frame Suspension own p h d = cc
drives_frame OffBus own p h d = cc

-- after the stuffed part only the ACK slot is driven dominant
pub drives_slot : (role : Role) (bits : List Level) (n : ℕ) → tail_drive role bits n ≡ Dominant → n ≡ 1
drives_slot Tx bits n d = cc
drives_slot Rx bits n d = by (n == 1) (is_crc_right bits) refl d
  where
    by : (a b : Bool) → (n == 1) ≡ a → cond (a && b) Dominant Recessive ≡ Dominant → n ≡ 1
    by true b e f = eqb-true n 1 e
    by false b e f = cc
