-- An error of an error active machine begins a flag, and in a flag and the wait after it there is none.
use Rattle.std.proofs.Common.{◌≡◌, ◌-◌, ◌+◌, ◌≤◌, ℕ, List, [], ◌∷◌, ◌++◌, length, Bool, true, false, not, cond, ◌&&◌, Option, Some, None, refl, ap, arith}
use Rattle.std.specs.Prelude.{◌==◌}
use Rattle.std.specs.List.{list_any}
use Rattle.std.proofs.lemmas.Bool.{both_ways}
use Rattle.wl_level.specs.declared.Level.{Level}
use Rattle.wl_level.specs.declared.Level.TheVariants.{Dominant, Recessive}
use Rattle.wl_level.specs.Levels.{is_dominant}
use Rattle.wl_level.specs.Places.{run_at_end}
use Rattle.wl_frame.specs.Stuffing.{destuffed_bits}
use Rattle.wl_frame.specs.Grammar.{Content}
use Rattle.wl_confine.specs.declared.Mode.{Mode}
use Rattle.wl_confine.specs.declared.Mode.TheVariants.{Active}
use Rattle.wl_confine.specs.declared.Happened.{Happened}
use Rattle.wl_confine.specs.declared.Happened.TheVariants as happens
use Rattle.wl_confine.specs.Counts.{is_error}
use Rattle.wl_machine.specs.declared.state.Role.{Role}
use Rattle.wl_machine.specs.declared.state.Role.TheVariants.{Tx, Rx}
use Rattle.wl_machine.specs.Stretch.{Sort, Stretch, Sampled, Judgement, continues, begins, free}
use Rattle.wl_machine.specs.Stretch.Flag.{ActiveFlag, OverloadFlag, PassiveFlag}
use Rattle.wl_machine.specs.Stretch.Sort.{Integration, Idle, Framing, Flagging, Waiting, Delimiting, Intermission, Suspension, OffBus}
use Rattle.wl_machine.specs.Stretch.Input.{Sample}
use Rattle.wl_machine.specs.BetweenFrames.{after_intermission, begun_head, idle_on, recessive_runs}
use Rattle.wl_machine.specs.Flags.{fails, delimiter_error, is_after_flag, is_each_eighth, long_from, dominant_run, long_of, flag_bit_of}
use Rattle.wl_machine.specs.Frames.{stuffed_end, frame_role, framing_by, framing_sent, framing_received}
use Rattle.wl_machine.specs.Judged.{judged, judged_by, stretch_after}
use Rattle.wl_machine.specs.States.{sample_of, stretch_by}
use Rattle.wl_heal.proofs.Cases.{differing_cases, sending_cases, receiving_cases, sent_tail_cases, acknowledging_cases, received_tail_cases}
use Rattle.wl_heal.proofs.Possible.{waiting_on}
use Rattle.wl_heal.proofs.Samples.{going, either}
use Rattle.wl_heal.proofs.Settle.{is_new_flag, is_new_flag_by}
use Rattle.wl_heal.proofs.Six.{is_down_by}

flag_bit_fine : (l : Level) (role : Role) → is_error (cond (is_dominant l) happens.Nothing (flag_bit_of role)) ≡ false
flag_bit_fine Dominant role = refl
flag_bit_fine Recessive Tx = refl
flag_bit_fine Recessive Rx = refl

long_fine : (role : Role) → is_error (long_of role) ≡ false
long_fine Tx = refl
long_fine Rx = refl

passive_fine : (b : Bool) → is_error (cond b happens.PassiveAck happens.Nothing) ≡ false
passive_fine true = refl
passive_fine false = refl

module _ (level : Level) (head : Option Content) where
  abbrev x : Sampled
  x = sample_of level head Active

  abbrev E : Sort → List Level → Judgement → Type 0
  E sort own j = is_error j.happened ≡ true → is_new_flag (going sort own level j) ≡ true

  no : (h : Happened) (P : Type 0) → is_error h ≡ false → is_error h ≡ true → P
  no h P f e = absurd (both_ways (is_error h) f e)

  failed : (role : Role) → is_new_flag (stretch_by (Flagging ActiveFlag role) []) ≡ true
  failed role = refl

  module _ (frame : Option Content) (own : List Level) where
    abbrev F : Judgement → Type 0
    F = E (Framing frame) own

    received : (o : Option ℕ) → F (framing_received own o x)
    received None = receiving_cases F x own (λ a b e. refl) (λ a e. cc)
    received (Some end) =
        received_tail_cases F x (destuffed_bits own end) (length own - end)
        (λ one. acknowledging_cases F x (destuffed_bits own end) (λ w e. cc) (λ r d e. cc) (λ r d e. refl))
        (λ nine. either F (is_dominant level) (begins happens.Nothing (Flagging OverloadFlag Rx) []) (begins happens.Nothing (Intermission Rx) []) (λ e. cc) (λ e. cc))
        (λ a b d e. refl) (λ a b d e. refl) (λ a b e. cc) (λ a b d f e. cc)

    sent : (c : Content) (o : Option ℕ) → F (framing_sent c own o x)
    sent c None = sending_cases F x c own (λ a e. cc) (λ a. differing_cases F x c own (λ e. refl) (λ e. refl) (λ e. cc))
    sent c (Some end) =
        sent_tail_cases F x c (length own - end) (λ a b e. cc) (λ a b e. refl) (λ a b e. refl) (λ a b e. cc) (λ a b d e. cc)

  framed : (role : Role) (frame : Option Content) (own : List Level) → E (Framing frame) own (framing_by role frame own x)
  framed Tx None own = received None own (stuffed_end own)
  framed Tx (Some c) own = sent (Some c) own c (stuffed_end own)
  framed Rx frame own = received frame own (stuffed_end own)

  idles : (own : List Level) (o : Option Content) → E Idle own (idle_on o)
  idles own None = λ e. cc
  idles own (Some c) = λ e. cc

  pub error_flags : (sort : Sort) (own : List Level) → E sort own (judged_by sort own x)
  error_flags Integration own =
      either (E Integration own) (run_at_end Recessive (own ++ level ∷ []) == 11) (begins happens.Nothing (free head) []) (continues happens.Nothing) (λ e. cc) (λ e. cc)
  error_flags Idle own = either (E Idle own) (is_dominant level) (begins happens.Nothing (Framing None) (level ∷ [])) (idle_on head) (λ e. cc) (idles own head)
  error_flags (Framing frame) own = framed (frame_role frame own) frame own
  error_flags (Flagging ActiveFlag role) own =
      let f = flag_bit_fine level role in
      either (E (Flagging ActiveFlag role) own) (length own == 5)
      (begins (cond (is_dominant level) happens.Nothing (flag_bit_of role)) (Waiting ActiveFlag role (own ++ level ∷ [])) []) (continues (cond (is_dominant level) happens.Nothing (flag_bit_of role)))
      (no _ _ f) (no _ _ f)
  error_flags (Flagging OverloadFlag role) own =
      let f = flag_bit_fine level role in
      either (E (Flagging OverloadFlag role) own) (length own == 5)
      (begins (cond (is_dominant level) happens.Nothing (flag_bit_of role)) (Waiting OverloadFlag role (own ++ level ∷ [])) []) (continues (cond (is_dominant level) happens.Nothing (flag_bit_of role)))
      (no _ _ f) (no _ _ f)
  error_flags (Flagging (PassiveFlag unacknowledged) role) own =
      let f = passive_fine (unacknowledged && is_dominant level && not (list_any is_dominant own)) in
      either (E (Flagging (PassiveFlag unacknowledged) role) own) (run_at_end level (own ++ level ∷ []) == 6)
      (begins (cond (unacknowledged && is_dominant level && not (list_any is_dominant own)) happens.PassiveAck happens.Nothing) (Waiting (PassiveFlag unacknowledged) role (own ++ level ∷ [])) [])
      (continues (cond (unacknowledged && is_dominant level && not (list_any is_dominant own)) happens.PassiveAck happens.Nothing)) (no _ _ f) (no _ _ f)
  error_flags (Waiting flag role flags) own =
      either (E (Waiting flag role flags) own) (not (is_dominant level)) (begins happens.Nothing (Delimiting role) (level ∷ [])) (waiting_on flag role flags own x) (λ e. cc)
      (either (E (Waiting flag role flags) own) (is_after_flag flag role own) (continues happens.RxAfterFlag)
      (cond (is_each_eighth (long_from flag) (dominant_run flag flags (own ++ level ∷ []))) (continues (long_of role)) (continues happens.Nothing)) (λ e. cc)
      (either (E (Waiting flag role flags) own) (is_each_eighth (long_from flag) (dominant_run flag flags (own ++ level ∷ []))) (continues (long_of role)) (continues happens.Nothing)
      (no _ _ (long_fine role)) (λ e. cc)))
  error_flags (Delimiting role) own =
      either (E (Delimiting role) own) (not (is_dominant level))
      (cond (length own == 7) (begins happens.Nothing (Intermission role) []) (continues happens.Nothing))
      (cond (length own == 7) (begins happens.Nothing (Flagging OverloadFlag role) []) (fails role Active (delimiter_error role)))
      (either (E (Delimiting role) own) (length own == 7) (begins happens.Nothing (Intermission role) []) (continues happens.Nothing) (λ e. cc) (λ e. cc))
      (either (E (Delimiting role) own) (length own == 7) (begins happens.Nothing (Flagging OverloadFlag role) []) (fails role Active (delimiter_error role)) (λ e. cc) (λ e. refl))
  error_flags (Intermission role) own =
      either (E (Intermission role) own) (length own == 2)
      (cond (is_dominant level) (begins happens.Nothing (Framing (begun_head role Active head)) (level ∷ [])) (begins happens.Nothing (after_intermission role Active head) []))
      (cond (is_dominant level) (begins happens.Nothing (Flagging OverloadFlag role) []) (continues happens.Nothing))
      (either (E (Intermission role) own) (is_dominant level) (begins happens.Nothing (Framing (begun_head role Active head)) (level ∷ [])) (begins happens.Nothing (after_intermission role Active head) []) (λ e. cc) (λ e. cc))
      (either (E (Intermission role) own) (is_dominant level) (begins happens.Nothing (Flagging OverloadFlag role) []) (continues happens.Nothing) (λ e. cc) (λ e. cc))
  error_flags Suspension own =
      either (E Suspension own) (is_dominant level) (begins happens.Nothing (Framing None) (level ∷ []))
      (cond (length own == 7) (begins happens.Nothing (free head) []) (continues happens.Nothing)) (λ e. cc)
      (either (E Suspension own) (length own == 7) (begins happens.Nothing (free head) []) (continues happens.Nothing) (λ e. cc) (λ e. cc))
  error_flags OffBus own =
      either (E OffBus own) (recessive_runs (own ++ level ∷ []) == 128) (begins happens.Recovered (free head) []) (continues happens.Nothing) (λ e. cc) (λ e. cc)

-- how many errors a machine may still find before all are in step
abbrev pub may_err : Sort → ℕ
may_err sort = cond (is_down_by sort) 0 1

abbrev one_if : Bool → ℕ
one_if b = cond b 1 0

abbrev pub errs : Stretch → Sampled → ℕ
errs s x = cond (is_error (judged s x).happened) 1 0

pub may_most : (sort : Sort) → may_err sort ≤ 1
may_most sort = either (λ (k : ℕ). k ≤ 1) (is_down_by sort) 0 1 (omega arith) (omega arith)

new_down : (sort : Sort) (own : List Level) → is_new_flag_by sort own ≡ true → is_down_by sort ≡ true
new_down (Flagging ActiveFlag role) own h = refl
new_down (Flagging OverloadFlag role) own h = refl
new_down (Flagging (PassiveFlag unacknowledged) role) own h = cc
new_down (Waiting flag role flagged) own h = refl
new_down (Framing frame) own h = cc
new_down (Delimiting role) own h = cc
new_down Integration own h = cc
new_down Idle own h = cc
new_down (Intermission role) own h = cc
new_down Suspension own h = cc
new_down OffBus own h = cc

-- an error now, or one later
pub one_error : (s : Stretch) (level : Level) (head : Option Content) → errs s (sample_of level head Active) + may_err (stretch_after s (Sample (sample_of level head Active))).sort ≤ 1
one_error s level head = by (is_error (judged s (sample_of level head Active)).happened) refl
  where
    by : (b : Bool) → is_error (judged s (sample_of level head Active)).happened ≡ b → cond b 1 0 + may_err (stretch_after s (Sample (sample_of level head Active))).sort ≤ 1
    by true e =
        let flag = error_flags level head s.sort s.own e in
        let down = new_down (stretch_after s (Sample (sample_of level head Active))).sort (stretch_after s (Sample (sample_of level head Active))).own flag in
        let none : may_err (stretch_after s (Sample (sample_of level head Active))).sort ≡ 0 = ap (λ b. cond b 0 1) down in
        omega arith
    by false e = let most = may_most (stretch_after s (Sample (sample_of level head Active))).sort in omega arith

-- none where no flag begins
pub none_without_flag : (s : Stretch) (level : Level) (head : Option Content) → is_new_flag (stretch_after s (Sample (sample_of level head Active))) ≡ false → errs s (sample_of level head Active) ≡ 0
none_without_flag s level head none = by (is_error (judged s (sample_of level head Active)).happened) refl
  where
    by : (b : Bool) → is_error (judged s (sample_of level head Active)).happened ≡ b → one_if b ≡ 0
    by true e = absurd (both_ways (is_new_flag (stretch_after s (Sample (sample_of level head Active)))) none (error_flags level head s.sort s.own e))
    by false e = refl

-- none in a flag or the wait after it
pub down_fine : (sort : Sort) (own : List Level) (x : Sampled) → is_down_by sort ≡ true → errs (stretch_by sort own) x ≡ 0
down_fine (Flagging ActiveFlag role) own x h =
    let f = ap one_if (flag_bit_fine x.level role) in
    either (λ (j : Judgement). one_if (is_error j.happened) ≡ 0) (length own == 5)
    (begins (cond (is_dominant x.level) happens.Nothing (flag_bit_of role)) (Waiting ActiveFlag role (own ++ x.level ∷ [])) []) (continues (cond (is_dominant x.level) happens.Nothing (flag_bit_of role))) f f
down_fine (Flagging OverloadFlag role) own x h =
    let f = ap one_if (flag_bit_fine x.level role) in
    either (λ (j : Judgement). one_if (is_error j.happened) ≡ 0) (length own == 5)
    (begins (cond (is_dominant x.level) happens.Nothing (flag_bit_of role)) (Waiting OverloadFlag role (own ++ x.level ∷ [])) []) (continues (cond (is_dominant x.level) happens.Nothing (flag_bit_of role))) f f
down_fine (Waiting flag role flags) own x h =
    either (λ (j : Judgement). one_if (is_error j.happened) ≡ 0) (not (is_dominant x.level)) (begins happens.Nothing (Delimiting role) (x.level ∷ [])) (waiting_on flag role flags own x) refl
    (either (λ (j : Judgement). one_if (is_error j.happened) ≡ 0) (is_after_flag flag role own) (continues happens.RxAfterFlag)
    (cond (is_each_eighth (long_from flag) (dominant_run flag flags (own ++ x.level ∷ []))) (continues (long_of role)) (continues happens.Nothing)) refl
    (either (λ (j : Judgement). one_if (is_error j.happened) ≡ 0) (is_each_eighth (long_from flag) (dominant_run flag flags (own ++ x.level ∷ []))) (continues (long_of role)) (continues happens.Nothing)
    (ap one_if (long_fine role)) refl))
down_fine (Flagging (PassiveFlag unacknowledged) role) own x h = cc
down_fine (Framing frame) own x h = cc
down_fine (Delimiting role) own x h = cc
down_fine Integration own x h = cc
down_fine Idle own x h = cc
down_fine (Intermission role) own x h = cc
down_fine Suspension own x h = cc
down_fine OffBus own x h = cc

-- none in a delimiter without a dominant bit
pub delimiter_fine : (role : Role) (own : List Level) (head : Option Content) (mode : Mode) → errs (stretch_by (Delimiting role) own) (sample_of Recessive head mode) ≡ 0
delimiter_fine role own head mode =
    either (λ (j : Judgement). one_if (is_error j.happened) ≡ 0) (length own == 7) (begins happens.Nothing (Intermission role) []) (continues happens.Nothing) refl refl
