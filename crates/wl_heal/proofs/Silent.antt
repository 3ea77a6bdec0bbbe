-- Recessive samples bring a machine between frames.
use Rattle.std.proofs.Common.{◌≡◌, ◌∙◌, ℕ, suc, ◌+◌, ◌-◌, ◌<◌, ◌≤◌, List, [], ◌∷◌, ◌++◌, length, Bool, true, false, not, cond, Option, Some, None, ◌⊎◌, inl, inr, refl, sym, ap, subst, arith}
use Rattle.std.specs.Prelude.{◌==◌, slice_get}
use Rattle.std.proofs.lemmas.Bool.{cond_both, eqb-true, eq-eqb, cases_lt, both_ways, not-true, and_parts, and_from}
use Rattle.wl_level.specs.declared.Level.{Level}
use Rattle.wl_level.specs.declared.Level.TheVariants.{Dominant, Recessive}
use Rattle.wl_level.specs.Levels.{is_dominant, same, opposite}
use Rattle.wl_level.specs.Places.{or_at, run_at_end, before, at}
use Rattle.wl_level.proofs.Callers.{recessive_from}
use Rattle.wl_frame.specs.Stuffing.{is_stuff, destuffed_bits}
use Rattle.wl_frame.specs.Grammar.{Content, bits_of, number_bits, is_whole}
use Rattle.wl_confine.specs.declared.Mode.{Mode}
use Rattle.wl_confine.specs.declared.Mode.TheVariants.{Active, Passive, Off}
use Rattle.wl_confine.specs.declared.Happened.TheVariants as happens
use Rattle.wl_machine.specs.declared.state.Role.{Role}
use Rattle.wl_machine.specs.declared.state.Role.TheVariants.{Tx, Rx}
use Rattle.wl_machine.specs.Stretch.{Sort, Stretch, Sampled, Input, Judgement, continues, begins, free}
use Rattle.wl_machine.specs.Stretch.Flag.{ActiveFlag, OverloadFlag, PassiveFlag}
use Rattle.wl_machine.specs.Stretch.Sort.{Integration, Idle, Framing, Flagging, Waiting, Delimiting, Intermission, Suspension, OffBus}
use Rattle.wl_machine.specs.Stretch.Input.{Sample}
use Rattle.wl_machine.specs.Flags.{error_flag}
use Rattle.wl_machine.specs.BetweenFrames.{after_intermission, idle_on}
use Rattle.wl_machine.specs.Frames.{stuffed_end, sent_at, frame_role, frame_drive, drive_up_to, stuffed_drive, framing_by, framing_sent, framing_received, unanswered}
use Rattle.wl_machine.specs.Judged.{judged_by, stretch_after, stretch_of, drive_of, drive_by}
use Rattle.wl_machine.specs.States.{sample_of, stretch_by}
use Rattle.wl_machine.proofs.Callers.{end_more, end_stays, ends_at}
use Rattle.wl_wire.specs.Wire.{Wire, Handed, Event, Bit, Own, is_between, is_between_by, stretch_at, bus, sampled, next_wire, wire_after}
use Rattle.wl_heal.specs.Silence.{stretch_on, is_off, is_off_by, silent_bits, silent_bits_after_a_frame, is_in_frame, is_in_frame_by, IsSilence, bus_bits, StaysRecessive}
use Rattle.wl_heal.proofs.Cases.{sending_cases, receiving_cases, sent_tail_cases, acknowledging_cases, received_tail_cases}
use Rattle.wl_heal.proofs.Possible.{HasTail, IsPossible, IsPossibleBy, possible, possible_next}
use Rattle.wl_heal.proofs.Inside.{inside_next, off_test}
use Rattle.wl_heal.proofs.Wires.{bus_recessive, bit_next, alone_next}
use Rattle.wl_heal.proofs.Samples.{going, either, longer, run_same, run_last, five_due}

-- how many recessive samples bring a machine between frames, at most
abbrev pub left_in_frame : Option ℕ → List Level → ℕ
left_in_frame None own = 18 + (5 - run_at_end Recessive own)
left_in_frame (Some end) own = 19 - (length own - end)

abbrev pub left_by : Sort → List Level → ℕ
left_by Integration own = 11 - run_at_end Recessive own
left_by (Framing head) own = left_in_frame (stuffed_end own) own
left_by (Flagging (PassiveFlag unacknowledged) role) own = 16 - run_at_end Recessive own
left_by (Flagging flag role) own = 16
left_by (Waiting flag role flagged) own = 10
left_by (Delimiting role) own = 10 - length own
left_by (Intermission role) own = 2 - length own
left_by sort own = 0

abbrev pub left_of : Stretch → ℕ
left_of s = left_by s.sort s.own

abbrev pub IsNear : ℕ → Stretch → Type 0
IsNear n s = (is_between s ≡ true) ⊎ (left_of s ≤ n)

-- a frame that is to begin drives its start of frame
first_by : (extended : Bool) (c : Content) → c.extended ≡ extended → at (bits_of c) 0 ≡ Dominant
unfolding bits_of number_bits
first_by true c e = rw e refl
first_by false c e = rw e refl

pub first_dominant : (c : Content) → drive_by (Framing (Some c)) [] ≡ Dominant
first_dominant c = first_by c.extended c refl

pub two_levels : (l : Level) → l ≡ Dominant → l ≡ Recessive → ⊥
two_levels Dominant d r = cc
two_levels Recessive d r = cc

freed : (n : ℕ) (head : Option Content) → IsNear n (stretch_by (free head) [])
freed n None = inl refl
freed n (Some c) = inl refl

behind_intermission : (n : ℕ) (role : Role) (mode : Mode) (head : Option Content) → IsNear n (stretch_by (after_intermission role mode head) [])
behind_intermission n Tx Passive head = inl refl
behind_intermission n Tx Active head = freed n head
behind_intermission n Tx Off head = freed n head
behind_intermission n Rx mode head = freed n head

failed : (n : ℕ) → 16 ≤ n → (mode : Mode) (role : Role) → IsNear n (stretch_by (Flagging (error_flag mode) role) [])
failed n h Active role = inr h
failed n h Passive role = inr h
failed n h Off role = inr h

module _ (head : Option Content) (mode : Mode) where
  abbrev x : Sampled
  x = sample_of Recessive head mode

  abbrev Goal : ℕ → Sort → List Level → Judgement → Type 0
  Goal n sort own j = IsNear n (going sort own Recessive j)

  -- between frames it stays there
  stays : (n : ℕ) (sort : Sort) (own : List Level) → is_between_by sort own ≡ true → drive_by sort own ≡ Recessive → Goal n sort own (judged_by sort own x)
  stays n Idle own h d = by head
    where
      by : (o : Option Content) → Goal n Idle own (idle_on o)
      by None = inl refl
      by (Some c) = inl refl
  stays n Suspension own h d = either (Goal n Suspension own) (length own == 7) (begins happens.Nothing (free head) []) (continues happens.Nothing) (freed n head) (inl refl)
  stays n (Intermission role) own h d =
      cond_both (length own == 2) (begins happens.Nothing (after_intermission role mode head) []) (continues happens.Nothing) (Goal n (Intermission role) own)
      (λ e. behind_intermission n role mode head) (λ e. absurd (both_ways (length own == 2) e h))
  stays n (Framing (Some c)) [] h d = absurd (two_levels (drive_by (Framing (Some c)) []) (first_dominant c) d)
  stays n (Framing (Some c)) (l ∷ own) h d = cc
  stays n (Framing None) own h d = cc
  stays n Integration own h d = cc
  stays n (Flagging flag role) own h d = cc
  stays n (Waiting flag role flagged) own h d = cc
  stays n (Delimiting role) own h d = cc
  stays n OffBus own h d = cc

  -- elsewhere it comes nearer
  module _ (n : ℕ) where
    integrates : (own : List Level) → left_by Integration own ≤ suc n → Goal n Integration own (judged_by Integration own x)
    integrates own h =
        let more = run_same Recessive own in
        cond_both (run_at_end Recessive (own ++ Recessive ∷ []) == 11) (begins happens.Nothing (free head) []) (continues happens.Nothing) (Goal n Integration own)
        (λ e. freed n head) (λ e. inr (omega arith))

    intermits : (role : Role) (own : List Level) → left_by (Intermission role) own ≤ suc n → Goal n (Intermission role) own (judged_by (Intermission role) own x)
    intermits role own h =
        let more = longer own Recessive in
        cond_both (length own == 2) (begins happens.Nothing (after_intermission role mode head) []) (continues happens.Nothing) (Goal n (Intermission role) own)
        (λ e. behind_intermission n role mode head) (λ e. inr (omega arith))

    delimits : (role : Role) (own : List Level) → left_by (Delimiting role) own ≤ suc n → Goal n (Delimiting role) own (judged_by (Delimiting role) own x)
    delimits role own h =
        let more = longer own Recessive in
        cond_both (length own == 7) (begins happens.Nothing (Intermission role) []) (continues happens.Nothing) (Goal n (Delimiting role) own)
        (λ e. let f = eqb-true (length own) 7 e in inr (omega arith)) (λ e. inr (omega arith))

    flags : (unacknowledged : Bool) (role : Role) (own : List Level) → run_at_end Recessive own < 6 → left_by (Flagging (PassiveFlag unacknowledged) role) own ≤ suc n
        → Goal n (Flagging (PassiveFlag unacknowledged) role) own (judged_by (Flagging (PassiveFlag unacknowledged) role) own x)
    flags unacknowledged role own few h =
        let more = run_same Recessive own in
        cond_both (run_at_end Recessive (own ++ Recessive ∷ []) == 6) (begins _ (Waiting (PassiveFlag unacknowledged) role (own ++ Recessive ∷ [])) []) (continues _)
        (Goal n (Flagging (PassiveFlag unacknowledged) role) own) (λ e. inr (omega arith)) (λ e. inr (omega arith))

    -- a frame goes on
    module _ (frame : Option Content) (own : List Level) where
      abbrev P : Judgement → Type 0
      P = Goal n (Framing frame) own

      stuffed_on : stuffed_end own ≡ None → run_at_end Recessive own < 5 → left_in_frame None own ≤ suc n → P (continues happens.Nothing)
      stuffed_on e few h = inr (by (ends_at (own ++ Recessive ∷ []) (length (own ++ Recessive ∷ []))) refl)
        where
          found : (b : Bool) → ends_at (own ++ Recessive ∷ []) (length (own ++ Recessive ∷ [])) ≡ b → stuffed_end (own ++ Recessive ∷ []) ≡ or_at None b (length (own ++ Recessive ∷ []))
          found b g =
              end_more own Recessive
              ∙ ap (λ o. or_at o (ends_at (own ++ Recessive ∷ []) (length (own ++ Recessive ∷ []))) (length (own ++ Recessive ∷ []))) e
              ∙ ap (λ t. or_at None t (length (own ++ Recessive ∷ []))) g

          by : (b : Bool) → ends_at (own ++ Recessive ∷ []) (length (own ++ Recessive ∷ [])) ≡ b → left_in_frame (stuffed_end (own ++ Recessive ∷ [])) (own ++ Recessive ∷ []) ≤ n
          by false g = let m = run_same Recessive own in subst (λ o. left_in_frame o (own ++ Recessive ∷ []) ≤ n) (sym (found false g)) (omega arith)
          by true g =
              let m = run_same Recessive own in
              let free_there : is_stuff (own ++ Recessive ∷ []) (length (own ++ Recessive ∷ [])) ≡ false =
              not-true _ (and_parts (is_whole (destuffed_bits (own ++ Recessive ∷ []) (length (own ++ Recessive ∷ [])))) (not (is_stuff (own ++ Recessive ∷ []) (length (own ++ Recessive ∷ [])))) g).1 in
              elim (cases_lt (run_at_end Recessive (own ++ Recessive ∷ [])) 5) [
                | inl lt ↦ subst (λ o. left_in_frame o (own ++ Recessive ∷ []) ≤ n) (sym (found true g)) (omega arith)
                | inr ge ↦ absurd (both_ways _ free_there (five_due Recessive (own ++ Recessive ∷ []) ge))
              ]

      tail_on : (end : ℕ) → stuffed_end own ≡ Some end → end ≤ length own → 19 - (length own - end) ≤ suc n → left_in_frame (stuffed_end (own ++ Recessive ∷ [])) (own ++ Recessive ∷ []) ≤ n
      tail_on end e low h =
          let more = longer own Recessive in
          subst (λ o. left_in_frame o (own ++ Recessive ∷ []) ≤ n) (sym (end_stays own Recessive end e)) (omega arith)

      sends : (c : Content) → HasTail own → frame_role (Some c) own ≡ Tx → (o : Option ℕ) → stuffed_end own ≡ o → drive_up_to o (Some c) own ≡ Recessive
          → left_in_frame o own ≤ suc n → P (framing_sent c own o x)
      sends c t role None e d h =
          let sent : sent_at c own (length own) ≡ Recessive = sym (ap (λ r. stuffed_drive r (Some c) own) role) ∙ d in
          sending_cases P x c own
          (λ s. elim (cases_lt (run_at_end Recessive own) 5) [
            | inl few ↦ stuffed_on e few h
            | inr five ↦ absurd (two_levels (sent_at c own (length own))
                (ap (λ b. cond b (opposite (before own (length own))) (at (bits_of c) (length (destuffed_bits own (length own))))) (five_due Recessive own five)
                ∙ ap opposite (run_last Recessive own (length own) (omega arith))) sent)
          ])
          (λ s. absurd (both_ways (same (sent_at c own (length own)) Recessive) s (ap (λ l. same l Recessive) sent)))
      sends c t role (Some end) e d h =
          let low = (t end e).0 in
          let few = (t end e).1 in
          sent_tail_cases P x c (length own - end)
          (λ one f. cc) (λ one r. lost mode (omega arith)) (λ no f. cc) (λ nine r. inr (omega arith)) (λ no nine r. inr (tail_on end e low h))
        where
          lost : (m : Mode) → 16 ≤ n → P (unanswered m)
          lost Passive g = inr g
          lost Active g = inr g
          lost Off g = inr g

      receives : HasTail own → (o : Option ℕ) → stuffed_end own ≡ o → left_in_frame o own ≤ suc n → P (framing_received own o x)
      receives t None e h =
          elim (cases_lt (run_at_end Recessive own) 5) [
            | inl few ↦ receiving_cases P x own (λ due s. failed n (omega arith) mode Rx) (λ on. stuffed_on e few h)
            | inr five ↦ receiving_cases P x own (λ due s. failed n (omega arith) mode Rx)
                (λ on. absurd (both_ways _ on (and_from _ _ (five_due Recessive own five) (ap (same Recessive) (run_last Recessive own (length own) (omega arith))))))
          ]
      receives t (Some end) e h =
          let low = (t end e).0 in
          let few = (t end e).1 in
          received_tail_cases P x (destuffed_bits own end) (length own - end)
          (λ one. let on = tail_on end e low h in acknowledging_cases P x (destuffed_bits own end) (λ w. inr on) (λ r f. cc) (λ r f. failed n (omega arith) mode Rx))
          (λ nine. inr (omega arith)) (λ no nine f. cc) (λ two w r. failed n (omega arith) mode Rx)
          (λ eight r. inr (tail_on end e low h)) (λ no nine two r. inr (tail_on end e low h))

    framed : (role : Role) (frame : Option Content) (own : List Level) → frame_role frame own ≡ role → HasTail own → frame_drive frame own ≡ Recessive
        → left_in_frame (stuffed_end own) own ≤ suc n → Goal n (Framing frame) own (framing_by role frame own x)
    framed Tx None own r t d h = receives None own t (stuffed_end own) refl h
    framed Tx (Some c) own r t d h = sends (Some c) own c t r (stuffed_end own) refl d h
    framed Rx frame own r t d h = receives frame own t (stuffed_end own) refl h

    pub nearer : (sort : Sort) (own : List Level) → IsPossibleBy sort own → is_off_by sort ≡ false → drive_by sort own ≡ Recessive → IsNear (suc n) (stretch_by sort own)
        → Goal n sort own (judged_by sort own x)
    nearer sort own p off d (inl b) = stays n sort own b d
    nearer Integration own p off d (inr h) = integrates own h
    nearer Idle own p off d (inr h) = stays n Idle own refl d
    nearer (Framing frame) own p off d (inr h) = framed (frame_role frame own) frame own refl p d h
    nearer (Flagging ActiveFlag role) own p off d (inr h) = cc
    nearer (Flagging OverloadFlag role) own p off d (inr h) = cc
    nearer (Flagging (PassiveFlag unacknowledged) role) own p off d (inr h) = flags unacknowledged role own p.0 h
    nearer (Waiting flag role flagged) own p off d (inr h) = inr (omega arith)
    nearer (Delimiting role) own p off d (inr h) = delimits role own h
    nearer (Intermission role) own p off d (inr h) = intermits role own h
    nearer Suspension own p off d (inr h) = stays n Suspension own refl d
    nearer OffBus own p off d (inr h) = cc

-- at the end of the way it is between frames
pub there : (sort : Sort) (own : List Level) → IsPossibleBy sort own → is_off_by sort ≡ false → left_by sort own ≤ 0 → is_between_by sort own ≡ true
there Integration own p off h = absurd (omega arith)
there Idle own p off h = refl
there (Framing frame) own p off h = absurd (by (stuffed_end own) refl h)
  where
    by : (o : Option ℕ) → stuffed_end own ≡ o → left_in_frame o own ≤ 0 → ⊥
    by None e g = omega arith
    by (Some end) e g = let few = (p end e).1 in let low = (p end e).0 in omega arith
there (Flagging ActiveFlag role) own p off h = absurd (omega (arith, h))
there (Flagging OverloadFlag role) own p off h = absurd (omega (arith, h))
there (Flagging (PassiveFlag unacknowledged) role) own p off h = let few = p.0 in absurd (omega arith)
there (Waiting flag role flagged) own p off h = absurd (omega (arith, h))
there (Delimiting role) own p off h = absurd (omega (arith, h, p))
there (Intermission role) own p off h = eq-eqb (length own) 2 (omega (arith, h, p))
there Suspension own p off h = refl
there OffBus own p off h = cc

-- between frames a machine stays there, with a recessive sample
pub between_stays : (s : Stretch) (head : Option Content) (mode : Mode) → IsPossible s → is_off s ≡ false → is_between s ≡ true → drive_of s ≡ Recessive
    → is_between (stretch_after s (Sample (sample_of Recessive head mode))) ≡ true
between_stays s head mode p off b d = elim (stays head mode 0 s.sort s.own b d) [
  | inl h ↦ h
  | inr h ↦ there (stretch_after s (Sample (sample_of Recessive head mode))).sort (stretch_after s (Sample (sample_of Recessive head mode))).own
      (possible_next s (Sample (sample_of Recessive head mode)) p) (inside_next is_off_by off_test s (sample_of Recessive head mode) off) h
]

-- over all samples
comes : (xs : List Sampled) (s : Stretch) → IsPossible s → is_off s ≡ false → IsNear (length xs) s → IsSilence s xs → is_between (stretch_on s xs) ≡ true
comes [] s p off (inl b) h = b
comes [] s p off (inr few) h = there s.sort s.own p off few
comes (x ∷ xs) s p off near h =
    let x_is : x ≡ sample_of Recessive x.head x.mode = ap (λ l. sample_of l x.head x.mode) h.0 in
    comes xs (stretch_after s (Sample x)) (possible_next s (Sample x) p) (inside_next is_off_by off_test s x off)
    (subst (λ y. IsNear (length xs) (stretch_after s (Sample y))) (sym x_is) (nearer x.head x.mode (length xs) s.sort s.own p off h.1 near)) h.2

pub far : (sort : Sort) (own : List Level) (n : ℕ) → silent_bits ≤ n → left_by sort own ≤ n
far Integration own n h = omega arith
far Idle own n h = omega arith
far (Framing frame) own n h = by (stuffed_end own)
  where
    by : (o : Option ℕ) → left_in_frame o own ≤ n
    by None = omega arith
    by (Some end) = omega arith
far (Flagging ActiveFlag role) own n h = omega arith
far (Flagging OverloadFlag role) own n h = omega arith
far (Flagging (PassiveFlag unacknowledged) role) own n h = omega arith
far (Waiting flag role flagged) own n h = omega arith
far (Delimiting role) own n h = omega arith
far (Intermission role) own n h = omega arith
far Suspension own n h = omega arith
far OffBus own n h = omega arith

pub silence_ends : (past : List Input) (xs : List Sampled) → is_off (stretch_of past) ≡ false → silent_bits ≤ length xs → IsSilence (stretch_of past) xs
    → is_between (stretch_on (stretch_of past) xs) ≡ true
silence_ends past xs off long h = comes xs (stretch_of past) (possible past) off (inr (far (stretch_of past).sort (stretch_of past).own (length xs) long)) h

-- on a wire

sample_here : (w : Wire) (handed : ℕ → Handed) (k : ℕ) → bus w ≡ Recessive → sampled (bus w) (w.frames k) (handed k) ≡ sample_of Recessive (slice_get (w.frames k) (handed k).which) (handed k).mode
sample_here w handed k r = ap (λ l. sample_of l (slice_get (w.frames k) (handed k).which) (handed k).mode) r

-- a bit by itself leaves a machine between frames, or as it is
alone_near : (w : Wire) (machine : ℕ) (handed : Handed) (k n : ℕ) → IsNear n (stretch_at w k) → IsNear n (stretch_at (next_wire w (Own machine handed)) k)
alone_near w machine handed k n near =
    alone_next w machine handed k (IsNear n)
    (λ may. let free_here = and_parts (is_between (stretch_at w k)) (not (is_dominant (drive_of (stretch_at w k)))) may in
    stays (slice_get (w.frames k) handed.which) handed.mode n (stretch_at w k).sort (stretch_at w k).own free_here.0 (recessive_from (drive_of (stretch_at w k)) (not-true _ free_here.1)))
    near

near_along : (w : Wire) (events : List Event) (k : ℕ) → k < w.count → is_off (stretch_at w k) ≡ false → IsNear (bus_bits events) (stretch_at w k) → StaysRecessive w events
    → is_between (stretch_at (wire_after w events) k) ≡ true
near_along w [] k lt off (inl b) h = b
near_along w [] k lt off (inr few) h = there (stretch_at w k).sort (stretch_at w k).own (possible (w.past k)) off few
near_along w (Bit handed ∷ events) k lt off near h =
    let next = bit_next w handed k in
    near_along (next_wire w (Bit handed)) events k lt
    (ap is_off next ∙ inside_next is_off_by off_test (stretch_at w k) (sampled (bus w) (w.frames k) (handed k)) off)
    (subst (IsNear (bus_bits events)) (sym next)
    (subst (λ y. IsNear (bus_bits events) (stretch_after (stretch_at w k) (Sample y))) (sym (sample_here w handed k h.0))
    (nearer (slice_get (w.frames k) (handed k).which) (handed k).mode (bus_bits events) (stretch_at w k).sort (stretch_at w k).own (possible (w.past k)) off (bus_recessive w h.0 k lt) near))) h.1
near_along w (Own machine handed ∷ events) k lt off near h =
    near_along (next_wire w (Own machine handed)) events k lt
    (alone_next w machine handed k (λ s. is_off s ≡ false) (λ may. inside_next is_off_by off_test (stretch_at w k) (sampled Recessive (w.frames k) handed) off) off) (alone_near w machine handed k (bus_bits events) near) h

pub silence_ends_on_wire : (w : Wire) (events : List Event) → silent_bits ≤ bus_bits events → StaysRecessive w events → (k : ℕ) → k < w.count → is_off (stretch_at w k) ≡ false
    → is_between (stretch_at (wire_after w events) k) ≡ true
silence_ends_on_wire w events long h k lt off =
    near_along w events k lt off (inr (far (stretch_at w k).sort (stretch_at w k).own (bus_bits events) long)) h

-- in no frame
near_enough : (sort : Sort) (own : List Level) (n : ℕ) → silent_bits_after_a_frame ≤ n → is_in_frame_by sort ≡ false → left_by sort own ≤ n
near_enough Integration own n h f = omega arith
near_enough Idle own n h f = omega arith
near_enough (Framing frame) own n h f = cc
near_enough (Flagging ActiveFlag role) own n h f = omega arith
near_enough (Flagging OverloadFlag role) own n h f = omega arith
near_enough (Flagging (PassiveFlag unacknowledged) role) own n h f = omega arith
near_enough (Waiting flag role flagged) own n h f = omega arith
near_enough (Delimiting role) own n h f = omega arith
near_enough (Intermission role) own n h f = omega arith
near_enough Suspension own n h f = omega arith
near_enough OffBus own n h f = omega arith

pub short_silence_ends_on_wire : (w : Wire) (events : List Event) → silent_bits_after_a_frame ≤ bus_bits events → StaysRecessive w events → (k : ℕ) → k < w.count
    → is_off (stretch_at w k) ≡ false → is_in_frame (stretch_at w k) ≡ false → is_between (stretch_at (wire_after w events) k) ≡ true
short_silence_ends_on_wire w events long h k lt off f =
    near_along w events k lt off (inr (near_enough (stretch_at w k).sort (stretch_at w k).own (bus_bits events) long f)) h
