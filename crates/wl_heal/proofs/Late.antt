-- A machine that is late with the end of a flag: in the wait after it, in its delimiter, or in the intermission after that.
use Rattle.std.proofs.Common.{◌≡◌, ℕ, ◌+◌, ◌-◌, ◌≤◌, List, [], ◌∷◌, ◌++◌, length, Bool, true, false, not, cond, Option, Some, None, refl, arith}
use Rattle.std.specs.Prelude.{◌==◌}
use Rattle.std.proofs.lemmas.Bool.{cond_both, eqb-true, ne_eqb, both_ways}
use Rattle.wl_level.specs.declared.Level.{Level}
use Rattle.wl_level.specs.declared.Level.TheVariants.{Dominant, Recessive}
use Rattle.wl_level.specs.Levels.{is_dominant}
use Rattle.wl_frame.specs.Stuffing.{destuffed_bits}
use Rattle.wl_frame.specs.Grammar.{Content}
use Rattle.wl_confine.specs.declared.Mode.TheVariants.{Active}
use Rattle.wl_confine.specs.declared.Happened.{Happened}
use Rattle.wl_confine.specs.declared.Happened.TheVariants as happens
use Rattle.wl_machine.specs.declared.state.Role.{Role}
use Rattle.wl_machine.specs.declared.state.Role.TheVariants.{Tx, Rx}
use Rattle.wl_machine.specs.Stretch.{Flag, Sort, Stretch, Sampled, Judgement, continues, begins, free}
use Rattle.wl_machine.specs.Stretch.Flag.{ActiveFlag, OverloadFlag, PassiveFlag}
use Rattle.wl_machine.specs.Stretch.Sort.{Integration, Idle, Framing, Flagging, Waiting, Delimiting, Intermission, Suspension, OffBus}
use Rattle.wl_machine.specs.Stretch.Input.{Sample}
use Rattle.wl_machine.specs.BetweenFrames.{after_intermission, begun_head, idle_on}
use Rattle.wl_machine.specs.Flags.{fails, delimiter_error, is_after_flag, is_each_eighth, long_from, dominant_run, long_of}
use Rattle.wl_machine.specs.Frames.{stuffed_end, frame_role, framing_by, framing_sent, framing_received}
use Rattle.wl_machine.specs.Judged.{judged_by, stretch_after, drive_by}
use Rattle.wl_machine.specs.States.{sample_of, stretch_by}
use Rattle.wl_wire.specs.Wire.{is_between_by}
use Rattle.wl_heal.specs.Joining.{is_apart_by}
use Rattle.wl_heal.proofs.Cases.{differing_cases, sending_cases, receiving_cases, sent_tail_cases, acknowledging_cases, received_tail_cases}
use Rattle.wl_heal.proofs.Rested.{rested, rested_of}
use Rattle.wl_heal.proofs.Samples.{going, either, longer}
use Rattle.wl_heal.proofs.Settle.{is_new_flag, delimiter_breaks, intermission_breaks}
use Rattle.wl_heal.proofs.Six.{is_down_by}

-- a flag, or the wait after one
abbrev pub is_raised_by : Sort → Bool
is_raised_by (Flagging flag role) = true
is_raised_by (Waiting flag role flagged) = true
is_raised_by sort = false

pub down_raised : (sort : Sort) → is_down_by sort ≡ true → is_raised_by sort ≡ true
down_raised (Flagging ActiveFlag role) h = refl
down_raised (Flagging OverloadFlag role) h = refl
down_raised (Flagging (PassiveFlag unacknowledged) role) h = cc
down_raised (Waiting flag role flagged) h = refl
down_raised (Framing frame) h = cc
down_raised (Delimiting role) h = cc
down_raised Integration h = cc
down_raised Idle h = cc
down_raised (Intermission role) h = cc
down_raised Suspension h = cc
down_raised OffBus h = cc

pub between_not_raised : (sort : Sort) (own : List Level) → is_between_by sort own ≡ true → is_raised_by sort ≡ false
between_not_raised (Flagging flag role) own h = cc
between_not_raised (Waiting flag role flagged) own h = cc
between_not_raised (Framing frame) own h = refl
between_not_raised (Delimiting role) own h = refl
between_not_raised Integration own h = refl
between_not_raised Idle own h = refl
between_not_raised (Intermission role) own h = refl
between_not_raised Suspension own h = refl
between_not_raised OffBus own h = refl

-- only a new flag raises a machine
module _ (level : Level) (head : Option Content) where
  abbrev x : Sampled
  x = sample_of level head Active

  abbrev R : Sort → List Level → Judgement → Type 0
  R sort own j = is_new_flag (going sort own level j) ≡ false → is_raised_by (going sort own level j).sort ≡ false

  freely : (sort : Sort) (own : List Level) (h : Happened) (o : Option Content) → R sort own (begins h (free o) [])
  freely sort own h None f = refl
  freely sort own h (Some c) f = refl

  rests : (sort : Sort) (own : List Level) (role : Role) → R sort own (begins happens.Nothing (after_intermission role Active head) [])
  rests sort own Tx = freely sort own happens.Nothing head
  rests sort own Rx = freely sort own happens.Nothing head

  module _ (frame : Option Content) (own : List Level) where
    abbrev F : Judgement → Type 0
    F = R (Framing frame) own

    got : (o : Option ℕ) → F (framing_received own o x)
    got None = receiving_cases F x own (λ due s f. cc) (λ g f. refl)
    got (Some end) =
        received_tail_cases F x (destuffed_bits own end) (length own - end)
        (λ one. acknowledging_cases F x (destuffed_bits own end) (λ w f. refl) (λ r d f. refl) (λ r d f. cc))
        (λ nine. either F (is_dominant level) (begins happens.Nothing (Flagging OverloadFlag Rx) []) (begins happens.Nothing (Intermission Rx) []) (λ f. cc) (λ f. refl))
        (λ a b d f. cc) (λ a b d f. cc) (λ a b f. refl) (λ a b d e f. refl)

    sent : (c : Content) (o : Option ℕ) → F (framing_sent c own o x)
    sent c None = sending_cases F x c own (λ s f. refl) (λ s. differing_cases F x c own (λ f. cc) (λ f. cc) (λ f. refl))
    sent c (Some end) = sent_tail_cases F x c (length own - end) (λ a b f. refl) (λ a b f. cc) (λ a b f. cc) (λ a b f. refl) (λ a b d f. refl)

  framed : (role : Role) (frame : Option Content) (own : List Level) → R (Framing frame) own (framing_by role frame own x)
  framed Tx None own = got None own (stuffed_end own)
  framed Tx (Some c) own = sent (Some c) own c (stuffed_end own)
  framed Rx frame own = got frame own (stuffed_end own)

  idles : (own : List Level) (o : Option Content) → R Idle own (idle_on o)
  idles own None f = refl
  idles own (Some c) f = refl

  pub raised_next : (sort : Sort) (own : List Level) → is_apart_by sort ≡ false → is_raised_by sort ≡ false → R sort own (judged_by sort own x)
  raised_next Integration own a h = cc
  raised_next OffBus own a h = cc
  raised_next (Flagging flag role) own a h = cc
  raised_next (Waiting flag role flagged) own a h = cc
  raised_next Idle own a h = either (R Idle own) (is_dominant level) (begins happens.Nothing (Framing None) (level ∷ [])) (idle_on head) (λ f. refl) (idles own head)
  raised_next (Framing frame) own a h = framed (frame_role frame own) frame own
  raised_next (Delimiting role) own a h =
      either (R (Delimiting role) own) (not (is_dominant level)) (cond (length own == 7) (begins happens.Nothing (Intermission role) []) (continues happens.Nothing))
      (cond (length own == 7) (begins happens.Nothing (Flagging OverloadFlag role) []) (fails role Active (delimiter_error role)))
      (either (R (Delimiting role) own) (length own == 7) (begins happens.Nothing (Intermission role) []) (continues happens.Nothing) (λ f. refl) (λ f. refl))
      (either (R (Delimiting role) own) (length own == 7) (begins happens.Nothing (Flagging OverloadFlag role) []) (fails role Active (delimiter_error role)) (λ f. cc) (λ f. cc))
  raised_next (Intermission role) own a h =
      either (R (Intermission role) own) (length own == 2)
      (cond (is_dominant level) (begins happens.Nothing (Framing (begun_head role Active head)) (level ∷ [])) (begins happens.Nothing (after_intermission role Active head) []))
      (cond (is_dominant level) (begins happens.Nothing (Flagging OverloadFlag role) []) (continues happens.Nothing))
      (either (R (Intermission role) own) (is_dominant level) (begins happens.Nothing (Framing (begun_head role Active head)) (level ∷ [])) (begins happens.Nothing (after_intermission role Active head) [])
      (λ f. refl) (rests (Intermission role) own role))
      (either (R (Intermission role) own) (is_dominant level) (begins happens.Nothing (Flagging OverloadFlag role) []) (continues happens.Nothing) (λ f. cc) (λ f. refl))
  raised_next Suspension own a h =
      either (R Suspension own) (is_dominant level) (begins happens.Nothing (Framing None) (level ∷ [])) (cond (length own == 7) (begins happens.Nothing (free head) []) (continues happens.Nothing)) (λ f. refl)
      (either (R Suspension own) (length own == 7) (begins happens.Nothing (free head) []) (continues happens.Nothing) (freely Suspension own happens.Nothing head) (λ f. refl))

-- what comes after a flag
abbrev pub is_late_by : Sort → Bool
is_late_by (Waiting flag role flagged) = true
is_late_by (Delimiting role) = true
is_late_by (Intermission role) = true
is_late_by sort = false

pub record IsLate (s : Stretch) : Type 0 where
  pub late : is_late_by s.sort ≡ true
  pub few : rested_of s ≤ 9

pub down_late : (sort : Sort) (own : List Level) → is_down_by sort ≡ true → drive_by sort own ≡ Recessive → IsLate (stretch_by sort own)
down_late (Flagging ActiveFlag role) own h d = cc
down_late (Flagging OverloadFlag role) own h d = cc
down_late (Flagging (PassiveFlag unacknowledged) role) own h d = cc
down_late (Waiting flag role flagged) own h d = record { late = refl; few = omega arith }
down_late (Framing frame) own h d = cc
down_late (Delimiting role) own h d = cc
down_late Integration own h d = cc
down_late Idle own h d = cc
down_late (Intermission role) own h d = cc
down_late Suspension own h d = cc
down_late OffBus own h d = cc

-- with a dominant sample it begins a flag, or it is in the wait; with a recessive one it is past it
pub late_dominant : (sort : Sort) (own : List Level) (head : Option Content) → IsLate (stretch_by sort own) → 1 ≤ rested sort own
    → is_new_flag (stretch_after (stretch_by sort own) (Sample (sample_of Dominant head Active))) ≡ true
late_dominant (Delimiting role) own head is some = delimiter_breaks head role own
late_dominant (Intermission role) own head is some = let few : 8 + length own ≤ 9 = is.few in intermission_breaks head role own (ne_eqb (length own) 2 (λ e. omega (arith, e)))
late_dominant (Waiting flag role flagged) own head is some = absurd (omega (arith, some))
late_dominant (Flagging flag role) own head is some = let e = is.late in cc
late_dominant (Framing frame) own head is some = let e = is.late in cc
late_dominant Integration own head is some = let e = is.late in cc
late_dominant Idle own head is some = let e = is.late in cc
late_dominant Suspension own head is some = let e = is.late in cc
late_dominant OffBus own head is some = let e = is.late in cc

pub late_recessive : (sort : Sort) (own : List Level) (head : Option Content) → IsLate (stretch_by sort own)
    → (is_late_by (stretch_after (stretch_by sort own) (Sample (sample_of Recessive head Active))).sort ≡ true)
    × (1 ≤ rested_of (stretch_after (stretch_by sort own) (Sample (sample_of Recessive head Active))))
late_recessive (Waiting flag role flagged) own head is = (refl, omega arith)
late_recessive (Delimiting role) own head is =
    let long = longer own Recessive in
    either (λ (j : Judgement). (is_late_by (going (Delimiting role) own Recessive j).sort ≡ true) × (1 ≤ rested_of (going (Delimiting role) own Recessive j)))
    (length own == 7) (begins happens.Nothing (Intermission role) []) (continues happens.Nothing) (refl, omega arith) (refl, omega arith)
late_recessive (Intermission role) own head is =
    let few : 8 + length own ≤ 9 = is.few in
    cond_both (length own == 2) (begins happens.Nothing (after_intermission role Active head) []) (continues happens.Nothing)
    (λ (j : Judgement). (is_late_by (going (Intermission role) own Recessive j).sort ≡ true) × (1 ≤ rested_of (going (Intermission role) own Recessive j)))
    (λ e. let two = eqb-true (length own) 2 e in absurd (omega arith)) (λ e. (refl, omega arith))
late_recessive (Flagging flag role) own head is = let e = is.late in cc
late_recessive (Framing frame) own head is = let e = is.late in cc
late_recessive Integration own head is = let e = is.late in cc
late_recessive Idle own head is = let e = is.late in cc
late_recessive Suspension own head is = let e = is.late in cc
late_recessive OffBus own head is = let e = is.late in cc

-- so it stays late, without a flag
waits_on : (flag : Flag) (role : Role) (flags own : List Level) (head : Option Content)
    → is_late_by (stretch_after (stretch_by (Waiting flag role flags) own) (Sample (sample_of Dominant head Active))).sort ≡ true
waits_on flag role flags own head =
    either (λ (j : Judgement). is_late_by (going (Waiting flag role flags) own Dominant j).sort ≡ true) (is_after_flag flag role own) (continues happens.RxAfterFlag)
    (cond (is_each_eighth (long_from flag) (dominant_run flag flags (own ++ Dominant ∷ []))) (continues (long_of role)) (continues happens.Nothing)) refl
    (either (λ (j : Judgement). is_late_by (going (Waiting flag role flags) own Dominant j).sort ≡ true)
    (is_each_eighth (long_from flag) (dominant_run flag flags (own ++ Dominant ∷ []))) (continues (long_of role)) (continues happens.Nothing) refl refl)

pub late_next : (level : Level) (sort : Sort) (own : List Level) (head : Option Content) → IsLate (stretch_by sort own)
    → is_new_flag (stretch_after (stretch_by sort own) (Sample (sample_of level head Active))) ≡ false
    → is_late_by (stretch_after (stretch_by sort own) (Sample (sample_of level head Active))).sort ≡ true
late_next Recessive sort own head is none = (late_recessive sort own head is).0
late_next Dominant sort own head is none = by sort own is none
  where
    by : (sort : Sort) (own : List Level) → IsLate (stretch_by sort own) → is_new_flag (stretch_after (stretch_by sort own) (Sample (sample_of Dominant head Active))) ≡ false
        → is_late_by (stretch_after (stretch_by sort own) (Sample (sample_of Dominant head Active))).sort ≡ true
    by (Waiting flag role flags) own is none = waits_on flag role flags own head
    by (Delimiting role) own is none = absurd (both_ways _ none (delimiter_breaks head role own))
    by (Intermission role) own is none = absurd (both_ways _ none (late_dominant (Intermission role) own head is (omega arith)))
    by (Flagging flag role) own is none = let e = is.late in cc
    by (Framing frame) own is none = let e = is.late in cc
    by Integration own is none = let e = is.late in cc
    by Idle own is none = let e = is.late in cc
    by Suspension own is none = let e = is.late in cc
    by OffBus own is none = let e = is.late in cc
