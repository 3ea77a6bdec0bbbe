-- Recessive samples bring an error active machine between frames within 16, if it begins no flag with them. A dominant one begins one, near the end.
use Rattle.std.proofs.Common.{◌≡◌, ◌∙◌, ℕ, suc, ◌+◌, ◌-◌, ◌<◌, ◌≤◌, List, [], ◌∷◌, ◌++◌, length, Bool, true, false, not, cond, Option, Some, None, ◌⊎◌, inl, inr, refl, sym, ap, subst, arith}
use Rattle.std.specs.Prelude.{◌==◌}
use Rattle.std.proofs.lemmas.Bool.{cond_both, eqb-true, cases_lt, both_ways, and_from, not-true, and_parts, eq-eqb}
use Rattle.wl_level.specs.declared.Level.{Level}
use Rattle.wl_level.specs.declared.Level.TheVariants.{Dominant, Recessive}
use Rattle.wl_level.specs.Levels.{same, opposite}
use Rattle.wl_level.specs.Places.{or_at, run_at_end, before, at}
use Rattle.wl_frame.specs.Stuffing.{is_stuff, destuffed_bits}
use Rattle.wl_frame.specs.Grammar.{Content, bits_of, is_whole}
use Rattle.wl_confine.specs.declared.Mode.TheVariants.{Active}
use Rattle.wl_confine.specs.declared.Happened.TheVariants as happens
use Rattle.wl_machine.specs.declared.state.Role.{Role}
use Rattle.wl_machine.specs.declared.state.Role.TheVariants.{Tx, Rx}
use Rattle.wl_machine.specs.Stretch.{Sort, Stretch, Sampled, Judgement, continues, begins, free}
use Rattle.wl_machine.specs.Stretch.Flag.{ActiveFlag, OverloadFlag, PassiveFlag}
use Rattle.wl_machine.specs.Stretch.Sort.{Integration, Idle, Framing, Flagging, Waiting, Delimiting, Intermission, Suspension, OffBus}
use Rattle.wl_machine.specs.Stretch.Input.{Sample}
use Rattle.wl_machine.specs.BetweenFrames.{after_intermission, begun_head, idle_on}
use Rattle.wl_machine.specs.Flags.{delimiter_error, fails}
use Rattle.wl_machine.specs.Frames.{stuffed_end, sent_at, frame_role, frame_drive, drive_up_to, stuffed_drive, framing_by, framing_sent, framing_received}
use Rattle.wl_machine.specs.Judged.{judged_by, stretch_after, drive_by}
use Rattle.wl_machine.specs.States.{sample_of, stretch_by}
use Rattle.wl_machine.proofs.Callers.{end_more, end_stays, ends_at}
use Rattle.wl_wire.specs.Wire.{is_between, is_between_by}
use Rattle.wl_heal.specs.Joining.{is_apart_by}
use Rattle.wl_heal.proofs.Cases.{sending_cases, differing_cases, receiving_cases, sent_tail_cases, acknowledging_cases, received_tail_cases}
use Rattle.wl_heal.proofs.Possible.{HasTail, IsPossibleBy}
use Rattle.wl_heal.proofs.Samples.{going, either, longer, run_same, run_last, five_due}
use Rattle.wl_heal.proofs.Silent.{two_levels, first_dominant}

-- a flag that an error or an overload begins
abbrev pub is_new_flag_by : Sort → List Level → Bool
is_new_flag_by (Flagging ActiveFlag role) [] = true
is_new_flag_by (Flagging OverloadFlag role) [] = true
is_new_flag_by sort own = false

abbrev pub is_new_flag : Stretch → Bool
is_new_flag s = is_new_flag_by s.sort s.own

-- how many recessive samples it takes at most
abbrev pub settle_in_frame : Option ℕ → List Level → ℕ
settle_in_frame None own = 11 + (5 - run_at_end Recessive own)
settle_in_frame (Some end) own = 12 - (length own - end)

abbrev pub settle_by : Sort → List Level → ℕ
settle_by (Framing head) own = settle_in_frame (stuffed_end own) own
settle_by (Flagging (PassiveFlag unacknowledged) role) own = 16 - run_at_end Recessive own
settle_by (Flagging flag role) own = 16
settle_by (Waiting flag role flagged) own = 10
settle_by (Delimiting role) own = 10 - length own
settle_by (Intermission role) own = 2 - length own
settle_by sort own = 0

abbrev pub Settles : ℕ → Stretch → Type 0
Settles n s = (is_between s ≡ true) ⊎ (settle_by s.sort s.own ≤ n)

pub settle_most : (sort : Sort) (own : List Level) → settle_by sort own ≤ 16
settle_most (Framing frame) own = by (stuffed_end own)
  where
    by : (o : Option ℕ) → settle_in_frame o own ≤ 16
    by None = omega arith
    by (Some end) = omega arith
settle_most (Flagging ActiveFlag role) own = omega arith
settle_most (Flagging OverloadFlag role) own = omega arith
settle_most (Flagging (PassiveFlag unacknowledged) role) own = omega arith
settle_most (Waiting flag role flagged) own = omega arith
settle_most (Delimiting role) own = omega arith
settle_most Integration own = omega arith
settle_most Idle own = omega arith
settle_most (Intermission role) own = omega arith
settle_most Suspension own = omega arith
settle_most OffBus own = omega arith

freed : (n : ℕ) (head : Option Content) → Settles n (stretch_by (free head) [])
freed n None = inl refl
freed n (Some c) = inl refl

-- between frames at the end
pub settled : (sort : Sort) (own : List Level) → IsPossibleBy sort own → is_apart_by sort ≡ false → Settles 0 (stretch_by sort own) → is_between_by sort own ≡ true
settled sort own p a (inl b) = b
settled (Framing frame) own p a (inr h) = absurd (by (stuffed_end own) refl h)
  where
    by : (o : Option ℕ) → stuffed_end own ≡ o → settle_in_frame o own ≤ 0 → ⊥
    by None e g = omega arith
    by (Some end) e g = let few = (p end e).1 in let low = (p end e).0 in omega arith
settled (Flagging ActiveFlag role) own p a (inr h) = absurd (omega (arith, h))
settled (Flagging OverloadFlag role) own p a (inr h) = absurd (omega (arith, h))
settled (Flagging (PassiveFlag unacknowledged) role) own p a (inr h) = let few = p.0 in absurd (omega arith)
settled (Waiting flag role flagged) own p a (inr h) = absurd (omega (arith, h))
settled (Delimiting role) own p a (inr h) = absurd (omega (arith, h, p))
settled (Intermission role) own p a (inr h) = eq-eqb (length own) 2 (omega (arith, h, p))
settled Idle own p a (inr h) = refl
settled Suspension own p a (inr h) = refl
settled Integration own p a (inr h) = cc
settled OffBus own p a (inr h) = cc

module _ (head : Option Content) where
  abbrev r : Sampled
  r = sample_of Recessive head Active

  module _ (n : ℕ) where
    abbrev Goal : Sort → List Level → Judgement → Type 0
    Goal sort own j = is_new_flag (going sort own Recessive j) ≡ false → Settles n (going sort own Recessive j)

    after : (role : Role) → Settles n (stretch_by (after_intermission role Active head) [])
    after Tx = freed n head
    after Rx = freed n head

    module _ (frame : Option Content) (own : List Level) where
      abbrev P : Judgement → Type 0
      P = Goal (Framing frame) own

      stuffed_on : stuffed_end own ≡ None → run_at_end Recessive own < 5 → settle_in_frame None own ≤ suc n → settle_in_frame (stuffed_end (own ++ Recessive ∷ [])) (own ++ Recessive ∷ []) ≤ n
      stuffed_on e few h = by (ends_at (own ++ Recessive ∷ []) (length (own ++ Recessive ∷ []))) refl
        where
          found : (b : Bool) → ends_at (own ++ Recessive ∷ []) (length (own ++ Recessive ∷ [])) ≡ b → stuffed_end (own ++ Recessive ∷ []) ≡ or_at None b (length (own ++ Recessive ∷ []))
          found b g =
              end_more own Recessive
              ∙ ap (λ o. or_at o (ends_at (own ++ Recessive ∷ []) (length (own ++ Recessive ∷ []))) (length (own ++ Recessive ∷ []))) e
              ∙ ap (λ t. or_at None t (length (own ++ Recessive ∷ []))) g

          by : (b : Bool) → ends_at (own ++ Recessive ∷ []) (length (own ++ Recessive ∷ [])) ≡ b → settle_in_frame (stuffed_end (own ++ Recessive ∷ [])) (own ++ Recessive ∷ []) ≤ n
          by false g = let m = run_same Recessive own in subst (λ o. settle_in_frame o (own ++ Recessive ∷ []) ≤ n) (sym (found false g)) (omega arith)
          by true g =
              let m = run_same Recessive own in
              let free_there : is_stuff (own ++ Recessive ∷ []) (length (own ++ Recessive ∷ [])) ≡ false =
              not-true _ (and_parts (is_whole (destuffed_bits (own ++ Recessive ∷ []) (length (own ++ Recessive ∷ [])))) (not (is_stuff (own ++ Recessive ∷ []) (length (own ++ Recessive ∷ [])))) g).1 in
              elim (cases_lt (run_at_end Recessive (own ++ Recessive ∷ [])) 5) [
                | inl lt ↦ subst (λ o. settle_in_frame o (own ++ Recessive ∷ []) ≤ n) (sym (found true g)) (omega arith)
                | inr ge ↦ absurd (both_ways _ free_there (five_due Recessive (own ++ Recessive ∷ []) ge))
              ]

      tail_on : (end : ℕ) → stuffed_end own ≡ Some end → end ≤ length own → 12 - (length own - end) ≤ suc n → settle_in_frame (stuffed_end (own ++ Recessive ∷ [])) (own ++ Recessive ∷ []) ≤ n
      tail_on end e low h =
          let more = longer own Recessive in
          subst (λ o. settle_in_frame o (own ++ Recessive ∷ []) ≤ n) (sym (end_stays own Recessive end e)) (omega arith)

      sends : (c : Content) → HasTail own → frame_role (Some c) own ≡ Tx → (o : Option ℕ) → stuffed_end own ≡ o → drive_up_to o (Some c) own ≡ Recessive
          → settle_in_frame o own ≤ suc n → P (framing_sent c own o r)
      sends c t role None e d h =
          let sent : sent_at c own (length own) ≡ Recessive = sym (ap (λ r. stuffed_drive r (Some c) own) role) ∙ d in
          sending_cases P r c own
          (λ s f. elim (cases_lt (run_at_end Recessive own) 5) [
            | inl few ↦ inr (stuffed_on e few h)
            | inr five ↦ absurd (two_levels (sent_at c own (length own))
                (ap (λ b. cond b (opposite (before own (length own))) (at (bits_of c) (length (destuffed_bits own (length own))))) (five_due Recessive own five)
                ∙ ap opposite (run_last Recessive own (length own) (omega arith))) sent)
          ])
          (λ s. absurd (both_ways (same (sent_at c own (length own)) Recessive) s (ap (λ l. same l Recessive) sent)))
      sends c t role (Some end) e d h =
          let low = (t end e).0 in
          let few = (t end e).1 in
          sent_tail_cases P r c (length own - end)
          (λ one f. cc) (λ one g f. cc) (λ no f. cc) (λ nine g f. inr (omega arith)) (λ no nine g f. inr (tail_on end e low h))

      receives : HasTail own → (o : Option ℕ) → stuffed_end own ≡ o → settle_in_frame o own ≤ suc n → P (framing_received own o r)
      receives t None e h =
          elim (cases_lt (run_at_end Recessive own) 5) [
            | inl few ↦ receiving_cases P r own (λ due s f. cc) (λ on f. inr (stuffed_on e few h))
            | inr five ↦ receiving_cases P r own (λ due s f. cc)
                (λ on. absurd (both_ways _ on (and_from _ _ (five_due Recessive own five) (ap (same Recessive) (run_last Recessive own (length own) (omega arith))))))
          ]
      receives t (Some end) e h =
          let low = (t end e).0 in
          let few = (t end e).1 in
          received_tail_cases P r (destuffed_bits own end) (length own - end)
          (λ one. let on = tail_on end e low h in acknowledging_cases P r (destuffed_bits own end) (λ w f. inr on) (λ g f. cc) (λ g k f. cc))
          (λ nine f. inr (omega arith)) (λ no nine f. cc) (λ two w g f. cc)
          (λ eight g f. inr (tail_on end e low h)) (λ no nine two g f. inr (tail_on end e low h))

    framed : (role : Role) (frame : Option Content) (own : List Level) → frame_role frame own ≡ role → HasTail own → frame_drive frame own ≡ Recessive
        → settle_in_frame (stuffed_end own) own ≤ suc n → Goal (Framing frame) own (framing_by role frame own r)
    framed Tx None own g t d h = receives None own t (stuffed_end own) refl h
    framed Tx (Some c) own g t d h = sends (Some c) own c t g (stuffed_end own) refl d h
    framed Rx frame own g t d h = receives frame own t (stuffed_end own) refl h

    -- between frames it stays there
    stays : (sort : Sort) (own : List Level) → is_between_by sort own ≡ true → drive_by sort own ≡ Recessive → Goal sort own (judged_by sort own r)
    stays Idle own h d = by head
      where
        by : (o : Option Content) → Goal Idle own (idle_on o)
        by None = λ f. inl refl
        by (Some c) = λ f. inl refl
    stays Suspension own h d =
        either (Goal Suspension own) (length own == 7) (begins happens.Nothing (free head) []) (continues happens.Nothing) (λ f. freed n head) (λ f. inl refl)
    stays (Intermission role) own h d =
        cond_both (length own == 2) (begins happens.Nothing (after_intermission role Active head) []) (continues happens.Nothing) (Goal (Intermission role) own)
        (λ e f. after role) (λ e. absurd (both_ways (length own == 2) e h))
    stays (Framing (Some c)) [] h d = absurd (two_levels (drive_by (Framing (Some c)) []) (first_dominant c) d)
    stays (Framing (Some c)) (l ∷ own) h d = cc
    stays (Framing None) own h d = cc
    stays Integration own h d = cc
    stays (Flagging flag role) own h d = cc
    stays (Waiting flag role flagged) own h d = cc
    stays (Delimiting role) own h d = cc
    stays OffBus own h d = cc

    pub settles_next : (sort : Sort) (own : List Level) → IsPossibleBy sort own → is_apart_by sort ≡ false → drive_by sort own ≡ Recessive → Settles (suc n) (stretch_by sort own)
        → is_new_flag (stretch_after (stretch_by sort own) (Sample r)) ≡ false → Settles n (stretch_after (stretch_by sort own) (Sample r))
    settles_next sort own p a d (inl b) = stays sort own b d
    settles_next Integration own p a d (inr h) = cc
    settles_next OffBus own p a d (inr h) = cc
    settles_next Idle own p a d (inr h) = stays Idle own refl d
    settles_next Suspension own p a d (inr h) = stays Suspension own refl d
    settles_next (Framing frame) own p a d (inr h) = framed (frame_role frame own) frame own refl p d h
    settles_next (Flagging ActiveFlag role) own p a d (inr h) = cc
    settles_next (Flagging OverloadFlag role) own p a d (inr h) = cc
    settles_next (Flagging (PassiveFlag unacknowledged) role) own p a d (inr h) =
        let more = run_same Recessive own in
        let few = p.0 in
        either (Goal (Flagging (PassiveFlag unacknowledged) role) own) (run_at_end Recessive (own ++ Recessive ∷ []) == 6)
        (begins _ (Waiting (PassiveFlag unacknowledged) role (own ++ Recessive ∷ [])) []) (continues _) (λ f. inr (omega arith)) (λ f. inr (omega arith))
    settles_next (Waiting flag role flagged) own p a d (inr h) = λ f. inr (omega arith)
    settles_next (Delimiting role) own p a d (inr h) =
        let more = longer own Recessive in
        cond_both (length own == 7) (begins happens.Nothing (Intermission role) []) (continues happens.Nothing) (Goal (Delimiting role) own)
        (λ e f. let g = eqb-true (length own) 7 e in inr (omega arith)) (λ e f. inr (omega arith))
    settles_next (Intermission role) own p a d (inr h) =
        let more = longer own Recessive in
        cond_both (length own == 2) (begins happens.Nothing (after_intermission role Active head) []) (continues happens.Nothing) (Goal (Intermission role) own)
        (λ e f. after role) (λ e f. inr (omega arith))

-- a dominant sample begins a flag, in the tail of a frame, a delimiter or the first two bits of an intermission
module _ (head : Option Content) where
  abbrev d : Sampled
  d = sample_of Dominant head Active

  abbrev Breaks : Sort → List Level → Judgement → Type 0
  Breaks sort own j = is_new_flag (going sort own Dominant j) ≡ true

  some_same : (a b : ℕ) → Some a ≡ Some b → a ≡ b
  some_same a b e = cc

  received_breaks : (frame : Option Content) (own : List Level) (end : ℕ) → stuffed_end own ≡ Some end → (length own - end ≡ 1 → ⊥) → (o : Option ℕ) → stuffed_end own ≡ o → Breaks (Framing frame) own (framing_received own o d)
  received_breaks frame own end e far None f = let wrong : None ≡ Some end = sym f ∙ e in cc
  received_breaks frame own end e far (Some at) f =
      let same_end : at ≡ end = some_same at end (sym f ∙ e) in
      received_tail_cases (Breaks (Framing frame) own) d (destuffed_bits own at) (length own - at)
      (λ one. absurd (far (ap (λ e. length own - e) (sym same_end) ∙ one))) (λ nine. refl) (λ no nine g. refl) (λ two w g. cc) (λ eight g. cc) (λ no nine two g. cc)

  pub tail_breaks : (role : Role) (frame : Option Content) (own : List Level) (end : ℕ) → stuffed_end own ≡ Some end → (length own - end ≡ 1 → ⊥) → Breaks (Framing frame) own (framing_by role frame own d)
  tail_breaks Tx None own end e far = received_breaks None own end e far (stuffed_end own) refl
  tail_breaks Tx (Some c) own end e far = sent_breaks (stuffed_end own) refl
    where
      sent_breaks : (o : Option ℕ) → stuffed_end own ≡ o → Breaks (Framing (Some c)) own (framing_sent c own o d)
      sent_breaks None f = let wrong : None ≡ Some end = sym f ∙ e in cc
      sent_breaks (Some at) f =
          let same_end : at ≡ end = some_same at end (sym f ∙ e) in
          sent_tail_cases (Breaks (Framing (Some c)) own) d c (length own - at) (λ one g. absurd (far (ap (λ e. length own - e) (sym same_end) ∙ one))) (λ one g. absurd (far (ap (λ e. length own - e) (sym same_end) ∙ one))) (λ no g. refl) (λ nine g. cc) (λ no nine g. cc)
  tail_breaks Rx frame own end e far = received_breaks frame own end e far (stuffed_end own) refl

  pub delimiter_breaks : (role : Role) (own : List Level) → is_new_flag (stretch_after (stretch_by (Delimiting role) own) (Sample d)) ≡ true
  delimiter_breaks role own =
      either (Breaks (Delimiting role) own) (length own == 7) (begins happens.Nothing (Flagging OverloadFlag role) []) (fails role Active (delimiter_error role)) refl refl

  pub intermission_breaks : (role : Role) (own : List Level) → (length own == 2) ≡ false → is_new_flag (stretch_after (stretch_by (Intermission role) own) (Sample d)) ≡ true
  intermission_breaks role own h =
      ap (λ b. is_new_flag (going (Intermission role) own Dominant (cond b (begins happens.Nothing (Framing (begun_head role Active head)) (Dominant ∷ [])) (begins happens.Nothing (Flagging OverloadFlag role) [])))) h

  -- near the end
  pub near_breaks : (sort : Sort) (own : List Level) → IsPossibleBy sort own → is_apart_by sort ≡ false → Settles 6 (stretch_by sort own) → is_between_by sort own ≡ false
      → is_new_flag (stretch_after (stretch_by sort own) (Sample d)) ≡ true
  near_breaks sort own p a (inl b) not_yet = absurd (both_ways (is_between_by sort own) not_yet b)
  near_breaks (Framing frame) own p a (inr h) not_yet = by (stuffed_end own) refl h
    where
      by : (o : Option ℕ) → stuffed_end own ≡ o → settle_in_frame o own ≤ 6 → Breaks (Framing frame) own (framing_by (frame_role frame own) frame own d)
      by None e g = absurd (omega arith)
      by (Some end) e g = tail_breaks (frame_role frame own) frame own end e (λ one. omega (arith, one, g))
  near_breaks (Delimiting role) own p a (inr h) not_yet = delimiter_breaks role own
  near_breaks (Intermission role) own p a (inr h) not_yet = intermission_breaks role own not_yet
  near_breaks (Flagging ActiveFlag role) own p a (inr h) not_yet = absurd (omega (arith, h))
  near_breaks (Flagging OverloadFlag role) own p a (inr h) not_yet = absurd (omega (arith, h))
  near_breaks (Flagging (PassiveFlag unacknowledged) role) own p a (inr h) not_yet = let few = p.0 in absurd (omega arith)
  near_breaks (Waiting flag role flagged) own p a (inr h) not_yet = absurd (omega (arith, h))
  near_breaks Idle own p a (inr h) not_yet = cc
  near_breaks Suspension own p a (inr h) not_yet = cc
  near_breaks Integration own p a (inr h) not_yet = cc
  near_breaks OffBus own p a (inr h) not_yet = cc

-- a frame goes on where no flag begins: up to its ACK slot, whatever is found
abbrev pub IsEarly : Option ℕ → List Level → Type 0
IsEarly None own = Unit {0}
IsEarly (Some end) own = length own - end < 2

module _ (head : Option Content) (l : Level) where
  abbrev x : Sampled
  x = sample_of l head Active

  abbrev OnBy : Option Content → List Level → Judgement → Type 0
  OnBy frame own j = is_new_flag (going (Framing frame) own l j) ≡ false → going (Framing frame) own l j ≡ stretch_by (Framing frame) (own ++ l ∷ [])

  early_sent : (frame : Option Content) (own : List Level) (c : Content) (o : Option ℕ) → IsEarly o own → OnBy frame own (framing_sent c own o x)
  early_sent frame own c None e = sending_cases (OnBy frame own) x c own (λ s f. refl) (λ s. differing_cases (OnBy frame own) x c own (λ f. cc) (λ f. cc) (λ f. refl))
  early_sent frame own c (Some end) e =
      sent_tail_cases (OnBy frame own) x c (length own - end) (λ one g f. refl) (λ one g f. cc) (λ no g f. cc) (λ nine g f. absurd (omega arith)) (λ no nine g f. refl)

  early_received : (frame : Option Content) (own : List Level) (o : Option ℕ) → IsEarly o own → OnBy frame own (framing_received own o x)
  early_received frame own None e = receiving_cases (OnBy frame own) x own (λ due s f. cc) (λ g f. refl)
  early_received frame own (Some end) e =
      received_tail_cases (OnBy frame own) x (destuffed_bits own end) (length own - end)
      (λ one. acknowledging_cases (OnBy frame own) x (destuffed_bits own end) (λ w f. refl) (λ g k f. refl) (λ g k f. cc))
      (λ nine. absurd (omega arith)) (λ no nine g f. cc) (λ two w g f. cc) (λ eight g f. refl) (λ no nine two g f. refl)

  pub early_on : (role : Role) (frame : Option Content) (own : List Level) → IsEarly (stuffed_end own) own → OnBy frame own (framing_by role frame own x)
  early_on Tx None own e = early_received None own (stuffed_end own) e
  early_on Tx (Some c) own e = early_sent (Some c) own c (stuffed_end own) e
  early_on Rx frame own e = early_received frame own (stuffed_end own) e

-- and after it up to its end, with recessive bits
pub data TailOn (frame : Option Content) (own : List Level) (place : ℕ) (s : Stretch) : Type 0 where
  on : (place ≡ 9 → ⊥) → s ≡ stretch_by (Framing frame) (own ++ Recessive ∷ []) → TailOn frame own place s
  over : place ≡ 9 → (role : Role) → s ≡ stretch_by (Intermission role) [] → TailOn frame own place s

module _ (head : Option Content) where
  abbrev rec : Sampled
  rec = sample_of Recessive head Active

  abbrev TailBy : Option Content → List Level → ℕ → Judgement → Type 0
  TailBy frame own place j = is_new_flag (going (Framing frame) own Recessive j) ≡ false → TailOn frame own place (going (Framing frame) own Recessive j)

  late_sent : (frame : Option Content) (own : List Level) (c : Content) (end : ℕ) → 2 ≤ length own - end → TailBy frame own (length own - end) (framing_sent c own (Some end) rec)
  late_sent frame own c end far =
      sent_tail_cases (TailBy frame own (length own - end)) rec c (length own - end) (λ one g f. cc) (λ one g f. cc) (λ no g f. cc) (λ nine g f. over nine Tx refl) (λ no nine g f. on nine refl)

  late_received : (frame : Option Content) (own : List Level) (end : ℕ) → 2 ≤ length own - end → TailBy frame own (length own - end) (framing_received own (Some end) rec)
  late_received frame own end far =
      received_tail_cases (TailBy frame own (length own - end)) rec (destuffed_bits own end) (length own - end)
      (λ one. absurd (omega arith)) (λ nine f. over nine Rx refl) (λ no nine g f. cc) (λ two w g f. cc) (λ eight g f. on (λ e. omega (arith, e, eight)) refl) (λ no nine two g f. on nine refl)

  pub late_on : (role : Role) (frame : Option Content) (own : List Level) (end : ℕ) → stuffed_end own ≡ Some end → 2 ≤ length own - end → TailBy frame own (length own - end) (framing_by role frame own rec)
  late_on Tx None own end e far = subst (λ o. TailBy None own (length own - end) (framing_received own o rec)) (sym e) (late_received None own end far)
  late_on Tx (Some c) own end e far = subst (λ o. TailBy (Some c) own (length own - end) (framing_sent c own o rec)) (sym e) (late_sent (Some c) own c end far)
  late_on Rx frame own end e far = subst (λ o. TailBy frame own (length own - end) (framing_received own o rec)) (sym e) (late_received frame own end far)
