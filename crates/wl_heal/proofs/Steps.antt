-- How machines in step go on: who is between frames and finds a dominant bit, who is in an intermission, and who sends a frame without an error.
use Rattle.std.proofs.Common.{◌≡◌, ℕ, ◌-◌, ◌<◌, List, [], ◌∷◌, ◌++◌, length, true, false, cond, Option, Some, None, refl, ap, arith}
use Rattle.std.proofs.lemmas.Bool.{ne_eqb}
use Rattle.wl_level.specs.declared.Level.{Level}
use Rattle.wl_level.specs.declared.Level.TheVariants.{Dominant, Recessive}
use Rattle.wl_level.specs.Levels.{is_dominant, same}
use Rattle.wl_level.proofs.Callers.{dominant_from}
use Rattle.wl_frame.specs.Grammar.{Content}
use Rattle.wl_confine.specs.declared.Mode.{Mode}
use Rattle.wl_confine.specs.declared.Mode.TheVariants.{Active, Passive, Off}
use Rattle.wl_confine.specs.declared.Happened.TheVariants as happens
use Rattle.wl_machine.specs.declared.state.Role.{Role}
use Rattle.wl_machine.specs.declared.state.Role.TheVariants.{Tx, Rx}
use Rattle.wl_machine.specs.Stretch.{Sort, Stretch, Sampled, Judgement, continues, begins}
use Rattle.wl_machine.specs.Stretch.Flag.{OverloadFlag}
use Rattle.wl_machine.specs.Stretch.Input.{Sample}
use Rattle.wl_machine.specs.Stretch.Sort.{Integration, Idle, Framing, Flagging, Waiting, Delimiting, Intermission, Suspension, OffBus}
use Rattle.wl_machine.specs.BetweenFrames.{after_intermission, begun_head}
use Rattle.wl_machine.specs.Frames.{stuffed_end, frame_role, framing, framing_by, framing_sent, differing, unanswered}
use Rattle.wl_machine.specs.Judged.{stretch_after}
use Rattle.wl_machine.specs.States.{sample_of, stretch_by}
use Rattle.wl_wire.specs.Wire.{is_between_by}
use Rattle.wl_wire.specs.InStep.{is_fine}
use Rattle.wl_heal.proofs.Cases.{differing_cases, sending_cases, sent_tail_cases}
use Rattle.wl_heal.proofs.Samples.{going}
use Rattle.wl_heal.proofs.Silent.{first_dominant}

-- between frames a dominant sample is the first of a frame
abbrev pub IsBegun : Stretch → Type 0
IsBegun s = (head : Option Content) × (s ≡ stretch_by (Framing head) (Dominant ∷ []))

pub begun : (sort : Sort) (own : List Level) (head : Option Content) (mode : Mode) → is_between_by sort own ≡ true
    → IsBegun (stretch_after (stretch_by sort own) (Sample (sample_of Dominant head mode)))
begun Idle own head mode h = (None, refl)
begun Suspension own head mode h = (None, refl)
begun (Intermission role) own head mode h =
    (begun_head role mode head, ap (λ b. going (Intermission role) own Dominant (cond b (begins happens.Nothing (Framing (begun_head role mode head)) (Dominant ∷ [])) (begins happens.Nothing (Flagging OverloadFlag role) []))) h)
begun (Framing (Some c)) [] head mode h =
    (Some c, ap (λ l. going (Framing (Some c)) [] Dominant (cond (same l Dominant) (continues happens.Nothing) (differing c [] (sample_of Dominant head mode)))) (first_dominant c))
begun (Framing (Some c)) (l ∷ own) head mode h = cc
begun (Framing None) own head mode h = cc
begun Integration own head mode h = cc
begun (Flagging flag role) own head mode h = cc
begun (Waiting flag role flagged) own head mode h = cc
begun (Delimiting role) own head mode h = cc
begun OffBus own head mode h = cc

-- one of the first two bits of an intermission
pub rests_on : (role : Role) (own : List Level) (head : Option Content) (mode : Mode) → length own < 2
    → stretch_after (stretch_by (Intermission role) own) (Sample (sample_of Recessive head mode)) ≡ stretch_by (Intermission role) (own ++ Recessive ∷ [])
rests_on role own head mode h =
    ap (λ b. going (Intermission role) own Recessive (cond b (begins happens.Nothing (after_intermission role mode head) []) (continues happens.Nothing))) (ne_eqb (length own) 2 (λ e. omega arith))

-- a sender that finds no error goes on, and ends its frame
pub data SendsOn (c : Content) (own : List Level) (level : Level) (s : Stretch) : Type 0 where
  stuffed : stuffed_end own ≡ None → s ≡ stretch_by (Framing (Some c)) (own ++ level ∷ []) → SendsOn c own level s
  tail : (end : ℕ) → stuffed_end own ≡ Some end → (length own - end ≡ 1 → level ≡ Dominant) → s ≡ stretch_by (Framing (Some c)) (own ++ level ∷ []) → SendsOn c own level s
  over : (end : ℕ) → stuffed_end own ≡ Some end → length own - end ≡ 9 → s ≡ stretch_by (Intermission Tx) [] → SendsOn c own level s

module _ (c : Content) (own : List Level) (x : Sampled) where
  abbrev P : Judgement → Type 0
  P j = is_fine j.happened ≡ true → SendsOn c own x.level (going (Framing (Some c)) own x.level j)

  recessive_not : is_dominant x.level ≡ false → x.level ≡ Dominant → ⊥
  recessive_not r d = let e : is_dominant x.level ≡ true = ap is_dominant d in cc

  sends_by : (o : Option ℕ) → stuffed_end own ≡ o → P (framing_sent c own o x)
  sends_by None e = sending_cases P x c own (λ s f. stuffed e refl) (λ s. differing_cases P x c own (λ f. cc) (λ f. cc) (λ f. stuffed e refl))
  sends_by (Some end) e =
      sent_tail_cases P x c (length own - end) (λ one d f. tail end e (λ o. dominant_from x.level d) refl) (λ one r f. absurd (none x.mode f))
      (λ no d f. cc) (λ nine r f. over end e nine refl) (λ no nine r f. tail end e (λ one. absurd (no one)) refl)
    where
      none : (mode : Mode) → is_fine (unanswered mode).happened ≡ true → ⊥
      none Active f = cc
      none Passive f = cc
      none Off f = cc

  by_role : (role : Role) → role ≡ Tx → P (framing_by role (Some c) own x)
  by_role Tx e = sends_by (stuffed_end own) refl
  by_role Rx e = cc

  pub sends_on : frame_role (Some c) own ≡ Tx → is_fine (framing (Some c) own x).happened ≡ true → SendsOn c own x.level (stretch_after (stretch_by (Framing (Some c)) own) (Sample x))
  sends_on role f = by_role (frame_role (Some c) own) role f
