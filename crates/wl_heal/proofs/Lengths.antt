-- Before the end of its stuffed part a frame has no more than 147 samples, whoever sends it and whatever it is.
use Rattle.std.proofs.Common.{◌≡◌, ◌∙◌, ℕ, suc, ◌+◌, ◌-◌, ◌*◌, ◌≤◌, List, [], ◌∷◌, ◌++◌, length, Bool, true, false, not, cond, ◌&&◌, Option, Some, None, refl, sym, ap, subst, arith, append-nil, length-append, inl, inr}
use Rattle.std.specs.Prelude.{◌==◌, fold}
use Rattle.std.proofs.lemmas.Bool.{cases_Bool, leb-true, both_ways}
use Rattle.wl_level.specs.declared.Level.{Level}
use Rattle.wl_level.specs.declared.Level.TheVariants.{Dominant, Recessive}
use Rattle.wl_level.specs.Levels.{is_dominant, same, opposite}
use Rattle.wl_level.specs.Places.{at, before, run_at, run_at_end}
use Rattle.wl_level.proofs.Callers.{first_none}
use Rattle.wl_frame.specs.Stuffing.{is_stuff, destuffed_bits}
use Rattle.wl_frame.specs.Header.{is_extended}
use Rattle.wl_frame.specs.Grammar.{Content, bits_of, is_front, is_whole, byte_count, covered_length, layout_by}
use Rattle.wl_frame.proofs.Callers.{front_more, stuff_run, run_more, destuffed_more}
use Rattle.wl_confine.specs.declared.Mode.{Mode}
use Rattle.wl_confine.specs.declared.Mode.TheVariants.{Active, Passive, Off}
use Rattle.wl_confine.specs.declared.Happened.TheVariants as happens
use Rattle.wl_machine.specs.declared.state.Role.{Role}
use Rattle.wl_machine.specs.declared.state.Role.TheVariants.{Tx, Rx}
use Rattle.wl_machine.specs.Stretch.{Sort, Stretch, Sampled, Input, Judgement, continues, begins, free}
use Rattle.wl_machine.specs.Stretch.Flag.{ActiveFlag, OverloadFlag, PassiveFlag}
use Rattle.wl_machine.specs.Stretch.Sort.{Integration, Idle, Framing, Flagging, Waiting, Delimiting, Intermission, Suspension, OffBus}
use Rattle.wl_machine.specs.Stretch.Input.{Sample, SwitchedOff}
use Rattle.wl_machine.specs.BetweenFrames.{after_intermission, begun_head, idle_on, recessive_runs}
use Rattle.wl_machine.specs.Flags.{fails, delimiter_error, is_after_flag, is_each_eighth, long_from, dominant_run, long_of}
use Rattle.wl_machine.specs.Frames.{stuffed_end, sent_at, frame_role, framing_by, framing_sent, framing_received, unanswered}
use Rattle.wl_machine.specs.Judged.{judged_by, stretch_after, stretch_of}
use Rattle.wl_machine.specs.States.{stretch_by}
use Rattle.wl_machine.proofs.Callers.{end_stays, ends_at}
use Rattle.wl_heal.proofs.Cases.{differing_cases, differing_due, sending_cases, receiving_cases, sent_tail_cases, acknowledging_cases, received_tail_cases}
use Rattle.wl_heal.proofs.Possible.{waiting_on}
use Rattle.wl_heal.proofs.Samples.{going, either, longer}

-- four samples and the run there take no more than five kept bits, and what is kept is the front of a frame
pub record IsStuffing (own : List Level) : Type 0 where
  pub ratio : 4 * length own + run_at own (length own) ≤ 5 * length (destuffed_bits own (length own))
  pub front : is_front (destuffed_bits own (length own)) ≡ true

abbrev pub StuffsSoFar : List Level → Type 0
StuffsSoFar own = stuffed_end own ≡ None → IsStuffing own

same_turned : (a b : Level) → same a b ≡ same b a
same_turned Dominant Dominant = refl
same_turned Dominant Recessive = refl
same_turned Recessive Dominant = refl
same_turned Recessive Recessive = refl

same_back : (a : Level) → same (opposite a) a ≡ false
same_back Dominant = refl
same_back Recessive = refl

run_up_one : (b : Bool) (run : ℕ) → cond b (suc run) 1 ≤ suc run
run_up_one true run = omega arith
run_up_one false run = omega arith

grown : (own : List Level) (l : Level) → (is_stuff own (length own) ≡ true → same (before own (length own)) l ≡ false) → StuffsSoFar own → StuffsSoFar (own ++ l ∷ [])
grown own l fresh old none = by_end (stuffed_end own) refl
  where
    long : length (own ++ l ∷ []) ≡ length own + 1
    long = longer own l

    by_stuff : IsStuffing own → (b : Bool) → is_stuff own (length own) ≡ b → ends_at own (length own) ≡ false → IsStuffing (own ++ l ∷ [])
    by_stuff s true due open' =
        let ratio = s.ratio in
        let m = longer own l in
        let five : 5 ≤ run_at own (length own) = leb-true 5 (run_at own (length own)) (sym (stuff_run own (length own)) ∙ due) in
        let run : run_at (own ++ l ∷ []) (length (own ++ l ∷ [])) ≡ 1 = run_more own l ∙ ap (λ b. cond b (suc (run_at own (length own))) 1) (fresh due) in
        let bits : destuffed_bits (own ++ l ∷ []) (length (own ++ l ∷ [])) ≡ destuffed_bits own (length own) =
        destuffed_more own l ∙ ap (λ b. destuffed_bits own (length own) ++ cond b [] (l ∷ [])) due ∙ append-nil (destuffed_bits own (length own)) in
        let count : length (destuffed_bits (own ++ l ∷ []) (length (own ++ l ∷ []))) ≡ length (destuffed_bits own (length own)) = ap length bits in
        record { ratio = omega arith; front = ap is_front bits ∙ s.front }
    by_stuff s false due open' =
        let ratio = s.ratio in
        let m = longer own l in
        let run : run_at (own ++ l ∷ []) (length (own ++ l ∷ [])) ≤ suc (run_at own (length own)) =
        subst (λ k. k ≤ suc (run_at own (length own))) (sym (run_more own l)) (run_up_one (same (before own (length own)) l) (run_at own (length own))) in
        let bits : destuffed_bits (own ++ l ∷ []) (length (own ++ l ∷ [])) ≡ destuffed_bits own (length own) ++ l ∷ [] =
        destuffed_more own l ∙ ap (λ b. destuffed_bits own (length own) ++ cond b [] (l ∷ [])) due in
        let count : length (destuffed_bits (own ++ l ∷ []) (length (own ++ l ∷ []))) ≡ length (destuffed_bits own (length own)) + 1 =
        ap length bits ∙ length-append (destuffed_bits own (length own)) (l ∷ []) in
        let part : is_whole (destuffed_bits own (length own)) ≡ false = no_whole (is_whole (destuffed_bits own (length own))) (ap (λ b. is_whole (destuffed_bits own (length own)) && not b) (sym due) ∙ open') in
        record { ratio = omega arith; front = ap is_front bits ∙ front_more (destuffed_bits own (length own)) l s.front part }
      where
        no_whole : (b : Bool) → (b && true) ≡ false → b ≡ false
        no_whole true e = cc
        no_whole false e = refl

    by_end : (o : Option ℕ) → stuffed_end own ≡ o → IsStuffing (own ++ l ∷ [])
    by_end None e = by_stuff (old e) (is_stuff own (length own)) refl (first_none (ends_at own) (suc (length own)) e (length own) (omega arith))
    by_end (Some end) e = let wrong : None ≡ Some end = sym none ∙ end_stays own l end e in cc

ended : (own : List Level) (l : Level) (end : ℕ) → stuffed_end own ≡ Some end → StuffsSoFar (own ++ l ∷ [])
ended own l end e none = let wrong : None ≡ Some end = sym none ∙ end_stays own l end e in cc

abbrev pub IsShortBy : Sort → List Level → Type 0
IsShortBy (Framing head) own = StuffsSoFar own
IsShortBy sort own = Unit {0}

abbrev pub IsShort : Stretch → Type 0
IsShort s = IsShortBy s.sort s.own

none_begun : StuffsSoFar []
none_begun e = record { ratio = omega arith; front = refl }

one_begun : (l : Level) → StuffsSoFar (l ∷ [])
one_begun Dominant e = record { ratio = omega arith; front = refl }
one_begun Recessive e = record { ratio = omega arith; front = refl }

freed : (head : Option Content) → IsShort (stretch_by (free head) [])
freed None = tt
freed (Some c) = none_begun

after : (role : Role) (mode : Mode) (head : Option Content) → IsShort (stretch_by (after_intermission role mode head) [])
after Tx Passive head = tt
after Tx Active head = freed head
after Tx Off head = freed head
after Rx mode head = freed head

module _ (x : Sampled) where
  abbrev G : Sort → List Level → Judgement → Type 0
  G sort own j = IsShort (going sort own x.level j)

  module _ (head : Option Content) (own : List Level) (h : StuffsSoFar own) where
    abbrev P : Judgement → Type 0
    P = G (Framing head) own

    sends : (c : Content) (o : Option ℕ) → stuffed_end own ≡ o → P (framing_sent c own o x)
    sends c None e = elim (cases_Bool (is_stuff own (length own))) [
      | inl due ↦ sending_cases P x c own
          (λ s. grown own x.level (λ d. turned s due) h)
          (λ s. differing_due P x c own due tt tt)
      | inr bit ↦ (let on = grown own x.level (λ d. absurd (both_ways (is_stuff own (length own)) bit d)) h in
          sending_cases P x c own (λ s. on) (λ s. differing_cases P x c own tt tt on))
    ]
      where
        turned : same (sent_at c own (length own)) x.level ≡ true → is_stuff own (length own) ≡ true → same (before own (length own)) x.level ≡ false
        turned s due =
            let sent : same (opposite (before own (length own))) x.level ≡ true =
            ap (λ b. same (cond b (opposite (before own (length own))) (at (bits_of c) (length (destuffed_bits own (length own))))) x.level) (sym due) ∙ s in
            by (before own (length own)) x.level sent
          where
            by : (a l : Level) → same (opposite a) l ≡ true → same a l ≡ false
            by Dominant Dominant f = cc
            by Dominant Recessive f = refl
            by Recessive Dominant f = refl
            by Recessive Recessive f = cc
    sends c (Some end) e =
        sent_tail_cases P x c (length own - end) (λ a b. ended own x.level end e) (λ a b. none x.mode) (λ a b. tt) (λ a b. tt) (λ a b d. ended own x.level end e)
      where
        none : (mode : Mode) → P (unanswered mode)
        none Active = tt
        none Passive = tt
        none Off = tt

    receives : (o : Option ℕ) → stuffed_end own ≡ o → P (framing_received own o x)
    receives None e = receiving_cases P x own (λ a b. tt) (λ f. grown own x.level (λ due. same_turned (before own (length own)) x.level ∙ no (is_stuff own (length own)) (same x.level (before own (length own))) f due) h)
      where
        no : (a b : Bool) → (a && b) ≡ false → a ≡ true → b ≡ false
        no true b f g = f
        no false b f g = cc
    receives (Some end) e =
        let on = ended own x.level end e in
        received_tail_cases P x (destuffed_bits own end) (length own - end)
        (λ one. acknowledging_cases P x (destuffed_bits own end) (λ w. on) (λ r d. on) (λ r d. tt))
        (λ nine. either P (is_dominant x.level) (begins happens.Nothing (Flagging OverloadFlag Rx) []) (begins happens.Nothing (Intermission Rx) []) tt tt)
        (λ a b d. tt) (λ a b d. tt) (λ a b. on) (λ a b d f. on)

  framed : (role : Role) (frame : Option Content) (own : List Level) → StuffsSoFar own → G (Framing frame) own (framing_by role frame own x)
  framed Tx None own h = receives None own h (stuffed_end own) refl
  framed Tx (Some c) own h = sends (Some c) own h c (stuffed_end own) refl
  framed Rx frame own h = receives frame own h (stuffed_end own) refl

  idles : (own : List Level) (head : Option Content) → G Idle own (idle_on head)
  idles own None = tt
  idles own (Some c) = none_begun

  by_sort : (sort : Sort) (own : List Level) → IsShortBy sort own → G sort own (judged_by sort own x)
  by_sort Integration own h = either (G Integration own) (run_at_end Recessive (own ++ x.level ∷ []) == 11) (begins happens.Nothing (free x.head) []) (continues happens.Nothing) (freed x.head) tt
  by_sort Idle own h = either (G Idle own) (is_dominant x.level) (begins happens.Nothing (Framing None) (x.level ∷ [])) (idle_on x.head) (one_begun x.level) (idles own x.head)
  by_sort (Framing frame) own h = framed (frame_role frame own) frame own h
  by_sort (Flagging ActiveFlag role) own h = either (G (Flagging ActiveFlag role) own) (length own == 5) (begins _ (Waiting ActiveFlag role (own ++ x.level ∷ [])) []) (continues _) tt tt
  by_sort (Flagging OverloadFlag role) own h = either (G (Flagging OverloadFlag role) own) (length own == 5) (begins _ (Waiting OverloadFlag role (own ++ x.level ∷ [])) []) (continues _) tt tt
  by_sort (Flagging (PassiveFlag unacknowledged) role) own h =
      either (G (Flagging (PassiveFlag unacknowledged) role) own) (run_at_end x.level (own ++ x.level ∷ []) == 6) (begins _ (Waiting (PassiveFlag unacknowledged) role (own ++ x.level ∷ [])) []) (continues _) tt tt
  by_sort (Waiting flag role flags) own h =
      either (G (Waiting flag role flags) own) (not (is_dominant x.level)) (begins happens.Nothing (Delimiting role) (x.level ∷ [])) (waiting_on flag role flags own x) tt
      (either (G (Waiting flag role flags) own) (is_after_flag flag role own) (continues happens.RxAfterFlag)
      (cond (is_each_eighth (long_from flag) (dominant_run flag flags (own ++ x.level ∷ []))) (continues (long_of role)) (continues happens.Nothing)) tt
      (either (G (Waiting flag role flags) own) (is_each_eighth (long_from flag) (dominant_run flag flags (own ++ x.level ∷ []))) (continues (long_of role)) (continues happens.Nothing) tt tt))
  by_sort (Delimiting role) own h =
      either (G (Delimiting role) own) (not (is_dominant x.level))
      (cond (length own == 7) (begins happens.Nothing (Intermission role) []) (continues happens.Nothing))
      (cond (length own == 7) (begins happens.Nothing (Flagging OverloadFlag role) []) (fails role x.mode (delimiter_error role)))
      (either (G (Delimiting role) own) (length own == 7) (begins happens.Nothing (Intermission role) []) (continues happens.Nothing) tt tt)
      (either (G (Delimiting role) own) (length own == 7) (begins happens.Nothing (Flagging OverloadFlag role) []) (fails role x.mode (delimiter_error role)) tt tt)
  by_sort (Intermission role) own h =
      either (G (Intermission role) own) (length own == 2)
      (cond (is_dominant x.level) (begins happens.Nothing (Framing (begun_head role x.mode x.head)) (x.level ∷ [])) (begins happens.Nothing (after_intermission role x.mode x.head) []))
      (cond (is_dominant x.level) (begins happens.Nothing (Flagging OverloadFlag role) []) (continues happens.Nothing))
      (either (G (Intermission role) own) (is_dominant x.level) (begins happens.Nothing (Framing (begun_head role x.mode x.head)) (x.level ∷ [])) (begins happens.Nothing (after_intermission role x.mode x.head) [])
      (one_begun x.level) (after role x.mode x.head))
      (either (G (Intermission role) own) (is_dominant x.level) (begins happens.Nothing (Flagging OverloadFlag role) []) (continues happens.Nothing) tt tt)
  by_sort Suspension own h =
      either (G Suspension own) (is_dominant x.level) (begins happens.Nothing (Framing None) (x.level ∷ []))
      (cond (length own == 7) (begins happens.Nothing (free x.head) []) (continues happens.Nothing)) (one_begun x.level)
      (either (G Suspension own) (length own == 7) (begins happens.Nothing (free x.head) []) (continues happens.Nothing) (freed x.head) tt)
  by_sort OffBus own h = either (G OffBus own) (recessive_runs (own ++ x.level ∷ []) == 128) (begins happens.Recovered (free x.head) []) (continues happens.Nothing) (freed x.head) tt

short_on : (s : Stretch) (inputs : List Input) → IsShort s → IsShort (fold stretch_after s inputs)
short_on s [] h = h
short_on s (Sample x ∷ inputs) h = short_on (stretch_after s (Sample x)) inputs (by_sort x s.sort s.own h)
short_on s (SwitchedOff ∷ inputs) h = short_on (stretch_after s SwitchedOff) inputs tt

few_bytes : (remote : Bool) (dlc : ℕ) → byte_count remote dlc ≤ 8
few_bytes true dlc = omega arith
few_bytes false dlc = omega arith

few_covered : (extended : Bool) (bits : List Level) → (layout_by extended bits).header + 8 * (layout_by extended bits).bytes ≤ 103
few_covered true bits = let few : (layout_by true bits).bytes ≤ 8 = few_bytes _ _ in omega (arith, few)
few_covered false bits = let few : (layout_by false bits).bytes ≤ 8 = few_bytes _ _ in omega (arith, few)

few_samples : (own : List Level) → IsStuffing own → length own ≤ 147
few_samples own s =
    let ratio = s.ratio in
    let most : length (destuffed_bits own (length own)) ≤ covered_length (destuffed_bits own (length own)) + 15 =
    leb-true (length (destuffed_bits own (length own))) (covered_length (destuffed_bits own (length own)) + 15) s.front in
    let few : covered_length (destuffed_bits own (length own)) ≤ 103 = few_covered (is_extended (destuffed_bits own (length own))) (destuffed_bits own (length own)) in
    omega arith

-- the stuffed part of any machine's frame
pub short_frame : (past : List Input) (head : Option Content) (own : List Level) → stretch_of past ≡ stretch_by (Framing head) own → stuffed_end own ≡ None → length own ≤ 147
short_frame past head own e none = few_samples own (subst IsShort e (short_on (stretch_by Integration []) past tt) none)
