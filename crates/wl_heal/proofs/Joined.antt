-- Machines in step, beside others that take no part, one event later.
use Rattle.std.proofs.Common.{◌≡◌, ◌∙◌, ℕ, suc, ◌+◌, ◌-◌, ◌<◌, ◌≤◌, List, [], ◌∷◌, ◌++◌, length, Bool, true, false, not, cond, ◌&&◌, Option, Some, None, refl, sym, ap, subst, arith, inl, inr, ◌⊎◌}
use Rattle.std.specs.Prelude.{◌==◌, slice_get}
use Rattle.std.proofs.lemmas.Bool.{and_parts, both_ways, eq-eqb, ne_eqb, cases_lt, le-leb, lt-leb, not-true}
use Rattle.wl_level.specs.declared.Level.{Level}
use Rattle.wl_level.specs.declared.Level.TheVariants.{Dominant, Recessive}
use Rattle.wl_level.specs.Levels.{is_dominant, opposite}
use Rattle.wl_level.specs.Places.{run_at_end, or_at, before, at}
use Rattle.wl_level.proofs.Callers.{recessive_from}
use Rattle.wl_frame.specs.Grammar.{Content, bits_of}
use Rattle.wl_frame.specs.Stuffing.{destuffed_bits}
use Rattle.wl_confine.specs.declared.Happened.{Happened}
use Rattle.wl_confine.specs.declared.Happened.TheVariants as happens
use Rattle.wl_machine.specs.declared.state.Role.{Role}
use Rattle.wl_machine.specs.declared.state.Role.TheVariants.{Tx}
use Rattle.wl_machine.specs.Stretch.{Sort, Stretch, Sampled}
use Rattle.wl_machine.specs.Stretch.Input.{Sample}
use Rattle.wl_machine.specs.Stretch.Sort.{Framing, Intermission}
use Rattle.wl_machine.specs.Frames.{stuffed_end, drive_up_to, stuffed_drive}
use Rattle.wl_machine.specs.Judged.{judged, stretch_after, stretch_of, drive_of, head_of}
use Rattle.wl_machine.specs.States.{sample_of, stretch_by}
use Rattle.wl_machine.proofs.Callers.{end_more, end_stays, ends_at}
use Rattle.wl_wire.specs.Wire.{Wire, Handed, Event, Bit, Own, stretch_at, bus, sampled, is_between, is_between_by, may_be_alone, added, next_wire, wire_after}
use Rattle.wl_wire.specs.Heads.{OwnHeads}
use Rattle.wl_wire.specs.InStep.{AreSoundFrames, AreBetween, AreInIntermission, AreInFrame, AreInStep, FindsNoError, is_fine}
use Rattle.wl_heal.specs.Silence.{is_off_by, is_off}
use Rattle.wl_heal.specs.Joining.{is_apart, is_apart_by, AreThosePresent, RunsUpTo, RunsAt, tail_runs, AreInStepBeside, Change, Happens, Joins, joined_wire, wire_changed, wire_with, is_no_fault, FindNoFault}
use Rattle.wl_heal.proofs.Apart.{StaysApart, apart_test, apart_alone, apart_or_between, apart_no_fault, stays_apart}
use Rattle.wl_heal.proofs.Inside.{inside_next}
use Rattle.wl_heal.proofs.Possible.{possible}
use Rattle.wl_heal.proofs.Present.{moved, between_moves, intermission_moves, frame_moves, stretch_there, bus_same, sound_there, heads_there, handed_there, present_next, all_present, are_present, two_present}
use Rattle.wl_heal.proofs.Samples.{longer, run_same, run_other, run_last, five_due}
use Rattle.wl_heal.proofs.Silent.{between_stays, two_levels}
use Rattle.wl_heal.proofs.Steps.{begun, rests_on, SendsOn, sends_on}
use Rattle.wl_heal.proofs.Steps.SendsOn.{stuffed, tail, over}
use Rattle.wl_heal.proofs.Wires.{bus_recessive, bus_dominant, bus_driven, bit_next, alone_next, level_cases}

-- words of Joining
tail_low : (place : ℕ) → place ≤ 1 → tail_runs place ≡ 5 + place
tail_low place h = ap (λ b. cond b (5 + place) (place - 2)) (le-leb place 1 h)

tail_high : (place : ℕ) → 2 ≤ place → tail_runs place ≡ place - 2
tail_high place h = ap (λ b. cond b (5 + place) (place - 2)) (lt-leb place 1 h)

weaker : (w : Wire) (m n : ℕ) → m ≤ n → RunsUpTo w m → RunsUpTo w n
weaker w m n le runs k lt e = let few = runs k lt e in omega arith

none_run : (w : Wire) (own : List Level) (o : Option ℕ) → RunsUpTo w 0 → RunsAt w own o
none_run w own None runs = (weaker w 0 5 (omega arith) runs, weaker w 0 (run_at_end Recessive own) (omega arith) runs)
none_run w own (Some end) runs = weaker w 0 (tail_runs (length own - end)) (omega arith) runs

in_step : (w u : Wire) → AreInStepBeside w u → AreInStep u
in_step w u (inl b) = inl b
in_step w u (inr (inl i)) = inr (inl (i.0, i.1))
in_step w u (inr (inr f)) = inr (inr (f.0, f.1))

framed_not_between : (head : Option Content) (own : List Level) (l : Level) → is_between_by (Framing head) (own ++ l ∷ []) ≡ true → ⊥
framed_not_between None own l h = cc
framed_not_between (Some c) [] l h = cc
framed_not_between (Some c) (a ∷ own) l h = cc

same_own : (s t : Sort) (own more : List Level) → stretch_by s own ≡ stretch_by t more → own ≡ more
same_own s t own more e = ap (λ (r : Stretch). r.own) e

no_intermission : (head : Option Content) (own more : List Level) (role : Role) → stretch_by (Framing head) own ≡ stretch_by (Intermission role) more → ⊥
no_intermission head own more role e = let f : Framing head ≡ Intermission role = ap (λ (r : Stretch). r.sort) e in cc

-- those that take no part, one bit later
module _ (w : Wire) (handed : ℕ → Handed) where
  abbrev pub next : Wire
  next = next_wire w (Bit handed)

  abbrev here : ℕ → Sampled
  here k = sampled (bus w) (w.frames k) (handed k)

  -- they took no part before
  was_apart : (k : ℕ) → is_apart (stretch_at next k) ≡ true → is_apart (stretch_at w k) ≡ true
  was_apart k e = by (is_apart (stretch_at w k)) refl
    where
      by : (b : Bool) → is_apart (stretch_at w k) ≡ b → is_apart (stretch_at w k) ≡ true
      by true f = f
      by false f = absurd (both_ways (is_apart (stretch_at next k)) (ap is_apart (bit_next w handed k) ∙ inside_next is_apart_by apart_test (stretch_at w k) (here k) f) e)

  pub record RunOn (most : ℕ) : Type 0 where
    pub still : (k : ℕ) → k < w.count → is_apart (stretch_at w k) ≡ true → is_apart (stretch_at next k) ≡ true
    pub runs : RunsUpTo next most

  run_on : (most : ℕ) → ((k : ℕ) → k < w.count → is_apart (stretch_at w k) ≡ true → run_at_end Recessive ((stretch_at w k).own ++ bus w ∷ []) ≤ most) → most ≤ 10 → RunOn most
  run_on most runs few = record {
    still = λ k lt e. ap is_apart (bit_next w handed k) ∙ (stays k lt e).still;
    runs = λ k lt e. let was = was_apart k e in let r = runs k lt was in
        let is : run_at_end Recessive (stretch_at next k).own ≡ run_at_end Recessive ((stretch_at w k).own ++ bus w ∷ []) =
        ap (λ (s : Stretch). run_at_end Recessive s.own) (bit_next w handed k) ∙ (stays k lt was).run in omega arith;
  }
    where
      stays : (k : ℕ) → k < w.count → is_apart (stretch_at w k) ≡ true → StaysApart (stretch_at w k) (here k)
      stays k lt e = let r = runs k lt e in stays_apart (stretch_at w k).sort (stretch_at w k).own (here k) (possible (w.past k)) e (omega arith)

  pub runs_up : (most : ℕ) → most ≤ 9 → bus w ≡ Recessive → RunsUpTo w most → RunOn (suc most)
  runs_up most few r runs =
      run_on (suc most)
      (λ k lt e. let up : run_at_end Recessive ((stretch_at w k).own ++ bus w ∷ []) ≡ suc (run_at_end Recessive (stretch_at w k).own) =
      ap (λ l. run_at_end Recessive ((stretch_at w k).own ++ l ∷ [])) r ∙ run_same Recessive (stretch_at w k).own in let was = runs k lt e in omega arith)
      (omega arith)

  pub runs_down : bus w ≡ Dominant → RunOn 0
  runs_down d =
      run_on 0
      (λ k lt e. let z : run_at_end Recessive ((stretch_at w k).own ++ bus w ∷ []) ≡ 0 =
      ap (λ l. run_at_end Recessive ((stretch_at w k).own ++ l ∷ [])) d ∙ (run_other (stretch_at w k).own).0 in omega arith)
      (omega arith)

-- what is so of a wire all along
pub record IsJoined (w : Wire) : Type 0 where
  pub present : Wire
  pub those : AreThosePresent w present
  pub two : 2 ≤ present.count
  pub step : AreInStepBeside w present

abbrev StepLaw : Type 0
StepLaw = (w : Wire) (events : List Event) → AreSoundFrames w.count w.frames → OwnHeads w → AreInStep w → AreInStep (wire_after w events)

abbrev ErrorLaw : Type 0
ErrorLaw = (w : Wire) (events : List Event) → AreSoundFrames w.count w.frames → OwnHeads w → AreInStep w → FindsNoError (wire_after w events)

-- a bit of the bus
module _ (step_law : StepLaw) (error_law : ErrorLaw) (w u : Wire) (m : AreThosePresent w u) (two : 2 ≤ u.count)
    (sound : AreSoundFrames u.count u.frames) (heads : OwnHeads u) (handed : ℕ → Handed) where
  abbrev w' : Wire
  w' = next_wire w (Bit handed)

  abbrev u' : Wire
  u' = next_wire u (Bit (handed_there w u m handed))

  abbrev x : ℕ → Sampled
  x j = sampled (bus u) (u.frames j) (handed_there w u m handed j)

  first : 0 < u.count
  first = omega arith

  same_bus : bus u ≡ bus w
  same_bus = bus_same w u m

  there : (j : ℕ) → stretch_at u' j ≡ stretch_after (stretch_at u j) (Sample (x j))
  there j = bit_next u (handed_there w u m handed) j

  goes : AreInStep u → AreInStep u'
  goes step = step_law u (Bit (handed_there w u m handed) ∷ []) sound heads step

  fine : AreInStep u → (j : ℕ) → j < u.count → is_fine (judged (stretch_at u j) (x j)).happened ≡ true
  fine step j lt = error_law u [] sound heads step (Bit (handed_there w u m handed)) j (x j) lt refl

  same_present : (n : ℕ) → RunOn w handed n → AreInStepBeside w' u' → IsJoined w'
  same_present n runs step = record { present = u'; those = present_next w u m handed runs.still; two = two; step = step }

  -- between frames
  freed : AreBetween u → bus w ≡ Recessive → IsJoined w'
  freed b r = record {
    present = all_present w';
    those = are_present w';
    two = two_present w' (all_present w') (are_present w') (m.place 0) (m.place 1) (m.inside 0 (omega arith)).0 (m.inside 1 (omega arith)).0
        (λ e. let f = m.distinct 0 1 (omega arith) (omega arith) e in omega (arith, f)) (stays 0 (omega arith)) (stays 1 (omega arith));
    step = inl (λ j lt. let p = (are_present w').inside j lt in ap is_between (stretch_there w' (all_present w') (are_present w') j) ∙ free_there ((are_present w').place j) p.0 p.1);
  }
    where
      stays : (j : ℕ) → j < u.count → is_apart (stretch_at w' (m.place j)) ≡ false
      stays j lt = ap is_apart (bit_next w handed (m.place j)) ∙ inside_next is_apart_by apart_test (stretch_at w (m.place j)) (here w handed (m.place j)) (m.inside j lt).1

      recessive_here : (k : ℕ) → here w handed k ≡ sample_of Recessive (slice_get (w.frames k) (handed k).which) (handed k).mode
      recessive_here k = ap (λ l. sample_of l (slice_get (w.frames k) (handed k).which) (handed k).mode) r

      on_bus : (s : Sort) → is_apart_by s ≡ false → is_off_by s ≡ false
      on_bus Sort.Integration e = refl
      on_bus Sort.Idle e = refl
      on_bus (Sort.Framing head) e = refl
      on_bus (Sort.Flagging flag role) e = refl
      on_bus (Sort.Waiting flag role flagged) e = refl
      on_bus (Sort.Delimiting role) e = refl
      on_bus (Sort.Intermission role) e = refl
      on_bus Sort.Suspension e = refl
      on_bus Sort.OffBus e = cc

      free_by : (k : ℕ) → k < w.count → is_apart (stretch_at w' k) ≡ false → (a : Bool) → is_apart (stretch_at w k) ≡ a → is_between (stretch_at w' k) ≡ true
      free_by k lt e true f = elim (apart_or_between (stretch_at w k).sort (stretch_at w k).own (here w handed k) f) [
        | inl g ↦ absurd (both_ways (is_apart (stretch_at w' k)) e (ap is_apart (bit_next w handed k) ∙ g))
        | inr g ↦ ap is_between (bit_next w handed k) ∙ g
      ]
      free_by k lt e false f =
          let j = m.all k lt f in
          let now : is_between (stretch_at w k) ≡ true = ap is_between (sym (stretch_there w u m j.0 ∙ ap (stretch_at w) j.2)) ∙ b j.0 j.1 in
          ap is_between (bit_next w handed k)
          ∙ ap (λ y. is_between (stretch_after (stretch_at w k) (Sample y))) (recessive_here k)
          ∙ between_stays (stretch_at w k) (slice_get (w.frames k) (handed k).which) (handed k).mode (possible (w.past k)) (on_bus (stretch_at w k).sort f) now (bus_recessive w r k lt)

      free_there : (k : ℕ) → k < w.count → is_apart (stretch_at w' k) ≡ false → is_between (stretch_at w' k) ≡ true
      free_there k lt e = free_by k lt e (is_apart (stretch_at w k)) refl

  begins_frame : AreBetween u → bus w ≡ Dominant → IsJoined w'
  begins_frame b d = by (goes (inl b))
    where
      runs : RunOn w handed 0
      runs = runs_down w handed d

      first_is : (head : Option Content) × (stretch_at u' 0 ≡ stretch_by (Framing head) (Dominant ∷ []))
      first_is =
          let e : x 0 ≡ sample_of Dominant (slice_get (u.frames 0) (handed_there w u m handed 0).which) (handed_there w u m handed 0).mode =
          ap (λ l. sample_of l (slice_get (u.frames 0) (handed_there w u m handed 0).which) (handed_there w u m handed 0).mode) (same_bus ∙ d) in
          let g = begun (stretch_at u 0).sort (stretch_at u 0).own (slice_get (u.frames 0) (handed_there w u m handed 0).which) (handed_there w u m handed 0).mode (b 0 first) in
          (g.0, there 0 ∙ ap (λ y. stretch_after (stretch_at u 0) (Sample y)) e ∙ g.1)

      by : AreInStep u' → IsJoined w'
      by (inl c) = absurd (framed_not_between first_is.0 [] Dominant (ap is_between (sym first_is.1) ∙ c 0 first))
      by (inr (inl i)) = absurd (no_intermission first_is.0 (Dominant ∷ []) i.0 (i.1.each 0 first).0 (sym first_is.1 ∙ (i.1.each 0 first).1))
      by (inr (inr f)) = same_present 0 runs (inr (inr (f.0, f.1, none_run w' f.0 (stuffed_end f.0) runs.runs)))

  -- in an intermission
  rests : (own : List Level) → AreInIntermission u own → RunsUpTo w (8 + length own) → IsJoined w'
  rests own i few = by (goes (inr (inl (own, i))))
    where
      quiet : bus w ≡ Recessive
      quiet = elim (level_cases (bus u)) [
        | inl d ↦ absurd (nobody d)
        | inr r ↦ sym same_bus ∙ r
      ]
        where
          nobody : bus u ≡ Dominant → ⊥
          nobody d = let driver = bus_dominant u d in two_levels (drive_of (stretch_at u driver.machine)) driver.dominant (ap drive_of (i.each driver.machine driver.inside).1)

      runs : RunOn w handed (suc (8 + length own))
      runs = let short = i.short in runs_up w handed (8 + length own) (omega arith) quiet few

      first_is : stretch_at u' 0 ≡ stretch_by (Intermission (i.each 0 first).0) (own ++ Recessive ∷ [])
      first_is =
          there 0 ∙ ap (λ s. stretch_after s (Sample (x 0))) (i.each 0 first).1
          ∙ ap (λ l. stretch_after (stretch_by (Intermission (i.each 0 first).0) own) (Sample (sample_of l (slice_get (u.frames 0) (handed_there w u m handed 0).which) (handed_there w u m handed 0).mode))) (same_bus ∙ quiet)
          ∙ rests_on (i.each 0 first).0 own (slice_get (u.frames 0) (handed_there w u m handed 0).which) (handed_there w u m handed 0).mode i.short

      by : AreInStep u' → IsJoined w'
      by (inl c) = same_present (suc (8 + length own)) runs (inl c)
      by (inr (inl j)) =
          let same : own ++ Recessive ∷ [] ≡ j.0 = same_own _ _ (own ++ Recessive ∷ []) j.0 (sym first_is ∙ (j.1.each 0 first).1) in
          let long : length j.0 ≡ length own + 1 = ap length (sym same) ∙ longer own Recessive in
          same_present (suc (8 + length own)) runs (inr (inl (j.0, j.1, weaker w' (suc (8 + length own)) (8 + length j.0) (omega arith) runs.runs)))
      by (inr (inr f)) = absurd (no_intermission (f.1.each 0 first).0 f.0 (own ++ Recessive ∷ []) (i.each 0 first).0 (sym (f.1.each 0 first).1 ∙ first_is))

  -- in a frame
  module _ (own : List Level) (f : AreInFrame u own) (runs_are : RunsAt w own (stuffed_end own)) where
    went : SendsOn f.sender.2 own (bus u) (stretch_at u' f.sender.0)
    went =
        subst (SendsOn f.sender.2 own (bus u)) (sym (there f.sender.0 ∙ ap (λ s. stretch_after s (Sample (x f.sender.0))) f.sender.3.framing))
        (sends_on f.sender.2 own (x f.sender.0) f.sender.3.role (ap (λ s. is_fine (judged s (x f.sender.0)).happened) (sym f.sender.3.framing) ∙ fine (inr (inr (own, f))) f.sender.0 f.sender.1))

    -- the frame goes on
    framed_on : (n : ℕ) → RunOn w handed n → stretch_at u' f.sender.0 ≡ stretch_by (Framing (Some f.sender.2)) (own ++ bus u ∷ [])
        → ((o : Option ℕ) → stuffed_end (own ++ bus u ∷ []) ≡ o → RunsAt w' (own ++ bus u ∷ []) o) → AreInStep u' → IsJoined w'
    framed_on n runs is at (inl b) = absurd (framed_not_between (Some f.sender.2) own (bus u) (ap is_between (sym is) ∙ b f.sender.0 f.sender.1))
    framed_on n runs is at (inr (inl i)) =
        absurd (no_intermission (Some f.sender.2) (own ++ bus u ∷ []) i.0 (i.1.each f.sender.0 f.sender.1).0 (sym is ∙ (i.1.each f.sender.0 f.sender.1).1))
    framed_on n runs is at (inr (inr g)) =
        let same : own ++ bus u ∷ [] ≡ g.0 = same_own _ _ (own ++ bus u ∷ []) g.0 (sym is ∙ (g.1.each f.sender.0 f.sender.1).1) in
        same_present n runs (inr (inr (g.0, g.1, subst (λ l. RunsAt w' l (stuffed_end l)) same (at (stuffed_end (own ++ bus u ∷ [])) refl))))

    -- the frame is over
    framed_over : (n : ℕ) → n ≤ 8 → RunOn w handed n → stretch_at u' f.sender.0 ≡ stretch_by (Intermission Tx) [] → AreInStep u' → IsJoined w'
    framed_over n few runs is (inl b) = let wrong : false ≡ true = ap is_between (sym is) ∙ b f.sender.0 f.sender.1 in cc
    framed_over n few runs is (inr (inl i)) =
        let same : [] ≡ i.0 = same_own _ _ [] i.0 (sym is ∙ (i.1.each f.sender.0 f.sender.1).1) in
        same_present n runs (inr (inl (i.0, i.1, weaker w' n (8 + length i.0) (omega arith) runs.runs)))
    framed_over n few runs is (inr (inr g)) = absurd (no_intermission (g.1.each f.sender.0 f.sender.1).0 g.0 [] Tx (sym (g.1.each f.sender.0 f.sender.1).1 ∙ is))

    dominant_on : bus w ≡ Dominant → stretch_at u' f.sender.0 ≡ stretch_by (Framing (Some f.sender.2)) (own ++ bus u ∷ []) → IsJoined w'
    dominant_on d is = let runs = runs_down w handed d in framed_on 0 runs is (λ o e. none_run w' (own ++ bus u ∷ []) o runs.runs) (goes (inr (inr (own, f))))

    -- after five recessive bits its sender drives dominant
    few_recessive : stuffed_end own ≡ None → bus w ≡ Recessive → run_at_end Recessive own ≤ 4
    few_recessive e r = elim (cases_lt (run_at_end Recessive own) 5) [
      | inl lt ↦ omega arith
      | inr five ↦ absurd (bus_driven u f.sender.0 f.sender.1
          (ap drive_of f.sender.3.framing ∙ ap (λ o. drive_up_to o (Some f.sender.2) own) e ∙ ap (λ role. stuffed_drive role (Some f.sender.2) own) f.sender.3.role
          ∙ ap (λ b. cond b (opposite (before own (length own))) (at (bits_of f.sender.2) (length (destuffed_bits own (length own))))) (five_due Recessive own five)
          ∙ ap opposite (run_last Recessive own (length own) (omega arith))) (same_bus ∙ r))
    ]

    -- a bit of the stuffed part
    in_stuffed : stuffed_end own ≡ None → stretch_at u' f.sender.0 ≡ stretch_by (Framing (Some f.sender.2)) (own ++ bus u ∷ []) → (bus w ≡ Dominant) ⊎ (bus w ≡ Recessive) → IsJoined w'
    in_stuffed e is (inl d) = dominant_on d is
    in_stuffed e is (inr r) =
        let few = few_recessive e r in
        let old : RunsAt w own None = subst (RunsAt w own) e runs_are in
        let runs = runs_up w handed (run_at_end Recessive own) (omega arith) r old.1 in
        framed_on (suc (run_at_end Recessive own)) runs is (at_most few runs.runs) (goes (inr (inr (own, f))))
      where
        grown : run_at_end Recessive (own ++ bus u ∷ []) ≡ suc (run_at_end Recessive own)
        grown = ap (λ l. run_at_end Recessive (own ++ l ∷ [])) (same_bus ∙ r) ∙ run_same Recessive own

        ends_now : (end : ℕ) → stuffed_end (own ++ bus u ∷ []) ≡ Some end → end ≡ length (own ++ bus u ∷ [])
        ends_now end g =
            by (ends_at (own ++ bus u ∷ []) (length (own ++ bus u ∷ [])))
            (sym (end_more own (bus u) ∙ ap (λ o. or_at o (ends_at (own ++ bus u ∷ []) (length (own ++ bus u ∷ []))) (length (own ++ bus u ∷ []))) e) ∙ g)
          where
            by : (b : Bool) → or_at None b (length (own ++ bus u ∷ [])) ≡ Some end → end ≡ length (own ++ bus u ∷ [])
            by true h = cc
            by false h = cc

        at_most : run_at_end Recessive own ≤ 4 → RunsUpTo w' (suc (run_at_end Recessive own)) → (o : Option ℕ) → stuffed_end (own ++ bus u ∷ []) ≡ o → RunsAt w' (own ++ bus u ∷ []) o
        at_most few runs None g = (weaker w' (suc (run_at_end Recessive own)) 5 (omega arith) runs, let up = grown in weaker w' (suc (run_at_end Recessive own)) (run_at_end Recessive (own ++ bus u ∷ [])) (omega arith) runs)
        at_most few runs (Some end) g =
            let now = ends_now end g in
            let five = tail_low (length (own ++ bus u ∷ []) - end) (omega arith) in
            weaker w' (suc (run_at_end Recessive own)) (tail_runs (length (own ++ bus u ∷ []) - end)) (omega arith) runs

    -- a bit after it
    module _ (end : ℕ) (e : stuffed_end own ≡ Some end) where
      tail_few : tail_runs (length own - end) ≤ 7
      tail_few = let within = f.tail end e in let below = within.1 in elim (cases_lt (length own - end) 2) [
        | inl lt ↦ (let t = tail_low (length own - end) (omega arith) in omega arith)
        | inr ge ↦ (let t = tail_high (length own - end) ge in omega arith)
      ]

      old_runs : RunsUpTo w (tail_runs (length own - end))
      old_runs = subst (RunsAt w own) e runs_are

      in_tail : (length own - end ≡ 1 → bus u ≡ Dominant) → stretch_at u' f.sender.0 ≡ stretch_by (Framing (Some f.sender.2)) (own ++ bus u ∷ []) → (bus w ≡ Dominant) ⊎ (bus w ≡ Recessive) → IsJoined w'
      in_tail acked is (inl d) = dominant_on d is
      in_tail acked is (inr r) =
          let few = tail_few in
          let runs = runs_up w handed (tail_runs (length own - end)) (omega arith) r old_runs in
          framed_on (suc (tail_runs (length own - end))) runs is (λ o g. subst (RunsAt w' (own ++ bus u ∷ [])) (sym (end_stays own (bus u) end e) ∙ g) (up runs.runs)) (goes (inr (inr (own, f))))
        where
          no_slot : length own - end ≡ 1 → ⊥
          no_slot one = two_levels (bus u) (acked one) (same_bus ∙ r)

          up : RunsUpTo w' (suc (tail_runs (length own - end))) → RunsUpTo w' (tail_runs (length (own ++ bus u ∷ []) - end))
          up runs =
              let low = (f.tail end e).0 in
              let long = longer own (bus u) in
              elim (cases_lt (length own - end) 2) [
                | inl lt ↦ (let no = no_slot in let t = tail_low (length own - end) (omega arith) in let t' = tail_low (length (own ++ bus u ∷ []) - end) (omega arith) in
                    weaker w' (suc (tail_runs (length own - end))) (tail_runs (length (own ++ bus u ∷ []) - end)) (omega arith) runs)
                | inr ge ↦ (let t = tail_high (length own - end) ge in let t' = tail_high (length (own ++ bus u ∷ []) - end) (omega arith) in
                    weaker w' (suc (tail_runs (length own - end))) (tail_runs (length (own ++ bus u ∷ []) - end)) (omega arith) runs)
              ]

      at_end : stretch_at u' f.sender.0 ≡ stretch_by (Intermission Tx) [] → (bus w ≡ Dominant) ⊎ (bus w ≡ Recessive) → IsJoined w'
      at_end is (inl d) = framed_over 0 (omega arith) (runs_down w handed d) is (goes (inr (inr (own, f))))
      at_end is (inr r) =
          let few = tail_few in
          framed_over (suc (tail_runs (length own - end))) (omega arith) (runs_up w handed (tail_runs (length own - end)) (omega arith) r old_runs) is (goes (inr (inr (own, f))))

    in_frame : IsJoined w'
    in_frame = by went
      where
        by : SendsOn f.sender.2 own (bus u) (stretch_at u' f.sender.0) → IsJoined w'
        by (stuffed e is) = in_stuffed e is (level_cases (bus w))
        by (tail end e acked is) = in_tail end e acked is (level_cases (bus w))
        by (over end e nine is) = at_end end e is (level_cases (bus w))

  bit_joined : AreInStepBeside w u → IsJoined w'
  bit_joined (inl b) = elim (level_cases (bus w)) [ inl d ↦ begins_frame b d | inr r ↦ freed b r ]
  bit_joined (inr (inl i)) = rests i.0 i.1 i.2
  bit_joined (inr (inr f)) = in_frame f.0 f.1 f.2

-- what leaves each machine as it is, and lets others appear that have sampled nothing
module _ (w v u : Wire) (m : AreThosePresent w u) (more : w.count ≤ v.count) (same : (k : ℕ) → k < w.count → stretch_at v k ≡ stretch_at w k)
    (frames : (k : ℕ) → v.frames k ≡ w.frames k) (new : (k : ℕ) → w.count ≤ k → k < v.count → stretch_at v k ≡ stretch_by Sort.Integration []) where
  abbrev kept : Wire
  kept = moved u (λ j. v.past (m.place j))

  same_there : (j : ℕ) → j < u.count → stretch_of (v.past (m.place j)) ≡ stretch_at u j
  same_there j lt = same (m.place j) (m.inside j lt).0 ∙ sym (stretch_there w u m j)

  those_kept : AreThosePresent v kept
  those_kept = record {
    place = m.place;
    inside = λ j lt. (let i = (m.inside j lt).0 in omega arith, ap is_apart (same (m.place j) (m.inside j lt).0) ∙ (m.inside j lt).1);
    all = λ k lt e. elim (cases_lt k w.count) [
      | inl old ↦ m.all k old (ap is_apart (sym (same k old)) ∙ e)
      | inr late ↦ (let wrong : true ≡ false = ap is_apart (sym (new k late lt)) ∙ e in cc)
    ];
    distinct = m.distinct;
    past = λ j. refl;
    frames = λ j. m.frames j ∙ sym (frames (m.place j));
  }

  runs_kept : (n : ℕ) → RunsUpTo w n → RunsUpTo v n
  runs_kept n runs k lt e = elim (cases_lt k w.count) [
    | inl old ↦ subst (λ (s : Stretch). run_at_end Recessive s.own ≤ n) (sym (same k old)) (runs k old (ap is_apart (sym (same k old)) ∙ e))
    | inr late ↦ subst (λ (s : Stretch). run_at_end Recessive s.own ≤ n) (sym (new k late lt)) (omega arith)
  ]

  runs_at_kept : (own : List Level) (o : Option ℕ) → RunsAt w own o → RunsAt v own o
  runs_at_kept own None r = (runs_kept 5 r.0, runs_kept (run_at_end Recessive own) r.1)
  runs_at_kept own (Some end) r = runs_kept (tail_runs (length own - end)) r

  step_kept : AreInStepBeside w u → AreInStepBeside v kept
  step_kept (inl b) = inl (between_moves u (λ j. v.past (m.place j)) same_there b)
  step_kept (inr (inl i)) = inr (inl (i.0, intermission_moves u (λ j. v.past (m.place j)) same_there i.0 i.1, runs_kept (8 + length i.0) i.2))
  step_kept (inr (inr f)) = inr (inr (f.0, frame_moves u (λ j. v.past (m.place j)) same_there f.0 f.1, runs_at_kept f.0 (stuffed_end f.0) f.2))

  all_kept : 2 ≤ u.count → AreInStepBeside w u → IsJoined v
  all_kept two step = record { present = kept; those = those_kept; two = two; step = step_kept step }

-- a machine appears
joins : (w : Wire) → IsJoined w → IsJoined (joined_wire w)
joins w j =
    all_kept w (joined_wire w) j.present j.those (omega arith)
    (λ k lt. ap (λ b. stretch_of (cond b [] (w.past k))) (ne_eqb k w.count (λ e. omega arith)))
    (λ k. refl) (λ k late lt. ap (λ b. stretch_of (cond b [] (w.past k))) (eq-eqb k w.count (omega arith))) j.two j.step

-- a bit that one machine has by itself
module _ (w u : Wire) (m : AreThosePresent w u) (machine : ℕ) (handed : Handed) where
  abbrev v : Wire
  v = next_wire w (Own machine handed)

  none_alone : (k : ℕ) → may_be_alone (stretch_at w k) ≡ false → stretch_at v k ≡ stretch_at w k
  none_alone k none = alone_next w machine handed k (λ s. s ≡ stretch_at w k) (λ may. absurd (both_ways (may_be_alone (stretch_at w k)) none may)) refl

  -- where nobody may have one
  nothing : 2 ≤ u.count → AreInStepBeside w u → ((j : ℕ) → j < u.count → may_be_alone (stretch_at u j) ≡ false) → IsJoined v
  nothing two step none = all_kept w v u m (omega arith) (λ k lt. none_alone k (none_of k lt (is_apart (stretch_at w k)) refl)) (λ k. refl) (λ k late lt. absurd (omega arith)) two step
    where
      none_of : (k : ℕ) → k < w.count → (b : Bool) → is_apart (stretch_at w k) ≡ b → may_be_alone (stretch_at w k) ≡ false
      none_of k lt true e = apart_alone (stretch_at w k).sort (stretch_at w k).own e
      none_of k lt false e = let j = m.all k lt e in ap may_be_alone (sym (stretch_there w u m j.0 ∙ ap (stretch_at w) j.2)) ∙ none j.0 j.1

  -- between frames
  free_alone : 2 ≤ u.count → AreBetween u → IsJoined v
  free_alone two b = record {
    present = moved u (λ j. v.past (m.place j));
    those = record {
      place = m.place;
      inside = λ j lt. ((m.inside j lt).0, stays_inside (m.place j) (m.inside j lt).1);
      all = λ k lt e. m.all k lt (was k e (is_apart (stretch_at w k)) refl);
      distinct = m.distinct;
      past = λ j. refl;
      frames = m.frames;
    };
    two = two;
    step = inl (λ j lt. still j lt);
  }
    where
      stays_inside : (k : ℕ) → is_apart (stretch_at w k) ≡ false → is_apart (stretch_at v k) ≡ false
      stays_inside k e =
          alone_next w machine handed k (λ s. is_apart s ≡ false) (λ may. inside_next is_apart_by apart_test (stretch_at w k) (sampled Recessive (w.frames k) handed) e) e

      was : (k : ℕ) → is_apart (stretch_at v k) ≡ false → (a : Bool) → is_apart (stretch_at w k) ≡ a → is_apart (stretch_at w k) ≡ false
      was k e true f = absurd (both_ways (is_apart (stretch_at v k)) e (ap is_apart (none_alone k (apart_alone (stretch_at w k).sort (stretch_at w k).own f)) ∙ f))
      was k e false f = f

      free_off : (s : Stretch) → is_between s ≡ true → is_off s ≡ false
      free_off s h = by s.sort s.own h
        where
          by : (sort : Sort) (own : List Level) → is_between_by sort own ≡ true → is_off_by sort ≡ false
          by Sort.Integration own h = refl
          by Sort.Idle own h = refl
          by (Sort.Framing head) own h = refl
          by (Sort.Flagging flag role) own h = refl
          by (Sort.Waiting flag role flagged) own h = refl
          by (Sort.Delimiting role) own h = refl
          by (Sort.Intermission role) own h = refl
          by Sort.Suspension own h = refl
          by Sort.OffBus own h = cc

      still : (j : ℕ) → j < u.count → is_between (stretch_at v (m.place j)) ≡ true
      still j lt =
          let now : is_between (stretch_at w (m.place j)) ≡ true = ap is_between (sym (stretch_there w u m j)) ∙ b j lt in
          alone_next w machine handed (m.place j) (λ s. is_between s ≡ true)
          (λ may. between_stays (stretch_at w (m.place j)) (slice_get (w.frames (m.place j)) handed.which) handed.mode (possible (w.past (m.place j))) (free_off (stretch_at w (m.place j)) now) now
          (recessive_from (drive_of (stretch_at w (m.place j)))
          (not-true _ (and_parts (is_between (stretch_at w (m.place j))) (not (is_dominant (drive_of (stretch_at w (m.place j))))) may).1))) now

  alone_joined : 2 ≤ u.count → AreInStepBeside w u → IsJoined v
  alone_joined two (inl b) = free_alone two b
  alone_joined two (inr (inl i)) =
      nothing two (inr (inl i))
      (λ j lt. ap may_be_alone (i.1.each j lt).1 ∙ ap (λ b. b && not (is_dominant (drive_of (stretch_by (Intermission (i.1.each j lt).0) i.0)))) (ne_eqb (length i.0) 2 (λ e. let s = i.1.short in omega arith)))
  alone_joined two (inr (inr f)) = nothing two (inr (inr f)) (λ j lt. ap may_be_alone (f.1.each j lt).1 ∙ in_frame (f.1.each j lt).0 f.0 f.1.begun)
    where
      in_frame : (head : Option Content) (own : List Level) → 0 < length own → may_be_alone (stretch_by (Framing head) own) ≡ false
      in_frame head [] h = absurd (omega (arith, h))
      in_frame None (l ∷ own) h = refl
      in_frame (Some c) (l ∷ own) h = refl

-- over all changes
module _ (step_law : StepLaw) (error_law : ErrorLaw) (heads_law : (w : Wire) (events : List Event) → OwnHeads w → OwnHeads (wire_after w events))
    (most : ℕ) (frames : ℕ → List Content) (sound : AreSoundFrames most frames) where
  heads_joined : (w : Wire) → OwnHeads w → OwnHeads (joined_wire w)
  heads_joined w heads k c e = by (k == w.count) refl
    where
      by : (b : Bool) → (k == w.count) ≡ b → (n : ℕ) × (slice_get (w.frames k) n ≡ Some c)
      by true f = (let wrong : None ≡ Some c = ap (λ b. head_of (stretch_of (cond b [] (w.past k))).sort) (sym f) ∙ e in cc)
      by false f = heads k c (ap (λ b. head_of (stretch_of (cond b [] (w.past k))).sort) (sym f) ∙ e)

  sound_here : (w : Wire) → w.frames ≡ frames → w.count ≤ most → (j : IsJoined w) → AreSoundFrames j.present.count j.present.frames
  sound_here w same few j = sound_there w j.present j.those most few j.two (subst (AreSoundFrames most) (sym same) sound)

  one : (w : Wire) → w.frames ≡ frames → w.count ≤ most → OwnHeads w → IsJoined w → (change : Change) → IsJoined (wire_changed w change)
  one w same few heads j (Happens (Bit handed)) =
      bit_joined step_law error_law w j.present j.those j.two (sound_here w same few j) (heads_there w j.present j.those heads) handed j.step
  one w same few heads j (Happens (Own machine handed)) = alone_joined w j.present j.those machine handed j.two j.step
  one w same few heads j Joins = joins w j

  one_heads : (w : Wire) → OwnHeads w → (change : Change) → OwnHeads (wire_changed w change)
  one_heads w heads (Happens event) = heads_law w (event ∷ []) heads
  one_heads w heads Joins = heads_joined w heads

  grows_one : (w : Wire) (change : Change) → w.count ≤ (wire_changed w change).count
  grows_one w (Happens event) = omega arith
  grows_one w Joins = omega arith

  grows : (w : Wire) (changes : List Change) → w.count ≤ (wire_with w changes).count
  grows w [] = omega arith
  grows w (change ∷ changes) = let a = grows_one w change in let b = grows (wire_changed w change) changes in omega arith

  same_frames : (w : Wire) (change : Change) → (wire_changed w change).frames ≡ w.frames
  same_frames w (Happens event) = refl
  same_frames w Joins = refl

  pub record HasJoined (w : Wire) : Type 0 where
    pub same : w.frames ≡ frames
    pub heads : OwnHeads w
    pub joined : IsJoined w

  pub along : (w : Wire) (changes : List Change) → HasJoined w → (wire_with w changes).count ≤ most → HasJoined (wire_with w changes)
  along w [] h few = h
  along w (change ∷ changes) h few =
      let up = grows_one w change in
      let all = grows (wire_changed w change) changes in
      along (wire_changed w change) changes
      (record { same = same_frames w change ∙ h.same; heads = one_heads w h.heads change; joined = one w h.same (omega arith) h.heads h.joined change }) few

  -- no error

  fine_no_fault : (h : Happened) → is_fine h ≡ true → is_no_fault h ≡ true
  fine_no_fault happens.Nothing f = refl
  fine_no_fault happens.Sent f = refl
  fine_no_fault happens.Acked f = refl
  fine_no_fault (happens.RxError kind) f = cc
  fine_no_fault happens.RxAfterFlag f = cc
  fine_no_fault happens.RxFlagBit f = cc
  fine_no_fault happens.RxLong f = cc
  fine_no_fault (happens.TxError kind) f = cc
  fine_no_fault happens.TxFree f = cc
  fine_no_fault happens.PassiveAck f = cc
  fine_no_fault happens.TxFlagBit f = cc
  fine_no_fault happens.TxLong f = cc
  fine_no_fault happens.Recovered f = refl

  -- the same event for a machine that takes part
  abbrev event_there : (w : Wire) (j : IsJoined w) (i : ℕ) → Event → Event
  event_there w j i (Bit handed) = Bit (handed_there w j.present j.those handed)
  event_there w j i (Own machine handed) = Own i handed

  added_there : (w : Wire) (j : IsJoined w) (i : ℕ) (event : Event) (x : Sampled) → added w event (j.those.place i) ≡ Sample x ∷ [] → added j.present (event_there w j i event) i ≡ Sample x ∷ []
  added_there w j i (Bit handed) x e =
      ap (λ l. Sample (sampled l (j.present.frames i) (handed (j.those.place i))) ∷ []) (bus_same w j.present j.those)
      ∙ ap (λ f. Sample (sampled (bus w) f (handed (j.those.place i))) ∷ []) (j.those.frames i) ∙ e
  added_there w j i (Own machine handed) x e = by ((j.those.place i == machine) && may_be_alone (stretch_at w (j.those.place i))) refl
    where
      by : (b : Bool) → ((j.those.place i == machine) && may_be_alone (stretch_at w (j.those.place i))) ≡ b → added j.present (Own i handed) i ≡ Sample x ∷ []
      by true f =
          let parts = and_parts (j.those.place i == machine) (may_be_alone (stretch_at w (j.those.place i))) f in
          ap (λ b. cond (b && may_be_alone (stretch_at j.present i)) (Sample (sampled Recessive (j.present.frames i) handed) ∷ []) []) (eq-eqb i i refl)
          ∙ ap (λ b. cond b (Sample (sampled Recessive (j.present.frames i) handed) ∷ []) []) (ap may_be_alone (stretch_there w j.present j.those i) ∙ parts.1)
          ∙ ap (λ g. Sample (sampled Recessive g handed) ∷ []) (j.those.frames i)
          ∙ ap (λ b. cond b (Sample (sampled Recessive (w.frames (j.those.place i)) handed) ∷ []) []) (sym f) ∙ e
      by false f = (let wrong : [] ≡ Sample x ∷ [] = ap (λ b. cond b (Sample (sampled Recessive (w.frames (j.those.place i)) handed) ∷ []) []) (sym f) ∙ e in cc)

  pub no_faults : (w : Wire) → HasJoined w → w.count ≤ most → FindNoFault w
  no_faults w h few event k x lt e = by (is_apart (stretch_at w k)) refl
    where
      inside : (i : ℕ) → i < h.joined.present.count → h.joined.those.place i ≡ k → is_no_fault (judged (stretch_at w k) x).happened ≡ true
      inside i it at =
          fine_no_fault (judged (stretch_at w k) x).happened
          (ap (λ s. is_fine (judged s x).happened) (sym (stretch_there w h.joined.present h.joined.those i ∙ ap (stretch_at w) at))
          ∙ error_law h.joined.present [] (sound_here w h.same few h.joined) (heads_there w h.joined.present h.joined.those h.heads) (in_step w h.joined.present h.joined.step)
          (event_there w h.joined i event) i x it (added_there w h.joined i event x (ap (added w event) at ∙ e)))

      by : (b : Bool) → is_apart (stretch_at w k) ≡ b → is_no_fault (judged (stretch_at w k) x).happened ≡ true
      by true f = apart_no_fault (stretch_at w k).sort (stretch_at w k).own x f
      by false f = let i = h.joined.those.all k lt f in inside i.0 i.1 i.2
