-- All machines between frames or in an intermission, one event later.
use Rattle.std.proofs.Common.{◌≡◌, ℕ, zero, suc, ◌+◌, ◌<◌, ◌∙◌, List, [], ◌∷◌, ◌++◌, length, true, false, not, ◌&&◌, Some, None, refl, sym, ap, subst, arith, inl, inr, length-append}
use Rattle.std.specs.Prelude.{◌==◌, slice_get}
use Rattle.std.proofs.lemmas.Bool.{and_parts, cases_eq, eq-eqb, ne_eqb, both_ways}
use Rattle.wl_level.specs.declared.Level.{Level}
use Rattle.wl_level.specs.declared.Level.TheVariants.{Dominant, Recessive}
use Rattle.wl_level.specs.Levels.{is_dominant}
use Rattle.wl_frame.specs.Grammar.{Content, IsContent}
use Rattle.wl_machine.specs.Stretch.{Sort, Stretch}
use Rattle.wl_machine.specs.Stretch.Sort.{Integration, Idle, Framing, Flagging, Waiting, Delimiting, Intermission, Suspension, OffBus}
use Rattle.wl_machine.specs.Stretch.Input.{Sample}
use Rattle.wl_machine.specs.Frames.{stuffed_end}
use Rattle.wl_machine.specs.Judged.{judged, stretch_after, drive_of, drive_by, head_of}
use Rattle.wl_machine.specs.Laws.{FoundSent}
use Rattle.wl_machine.specs.States.{sample_of, stretch_by}
use Rattle.wl_machine.proofs.Callers.{role_first}
use Rattle.wl_wire.specs.Wire.{Wire, Handed, Bit, Own, stretch_at, bus, sampled, is_between, is_between_by, may_be_alone, next_wire}
use Rattle.wl_wire.specs.InStep.{AreSoundFrames, AreBetween, AreInIntermission, AreInFrame, AreInStep, IsSender, is_fine}
use Rattle.wl_wire.specs.Outcome.{IsFree}
use Rattle.wl_wire.specs.Begins.{frame_begun}
use Rattle.wl_wire.proofs.Bus.{Drives, level_cases, bus_dominant, bus_recessive, bus_silent}
use Rattle.wl_wire.proofs.Events.{OwnHeads, sample_at, at_bit, alone, none_alone}
use Rattle.wl_wire.proofs.Quiet.{StaysQuiet, Begins, GoesOn, read_back, stays_quiet, begins_frame, goes_on}

-- what a machine is to send is a frame
heads_content : (w : Wire) → AreSoundFrames w.count w.frames → OwnHeads w → (k : ℕ) → k < w.count → (c : Content) → (stretch_at w k).sort ≡ Framing (Some c) → IsContent c
heads_content w sound heads k lt c e = sound.content k c lt (heads k c (ap head_of e))

-- who drives between frames is to send
record IsDue (s : Stretch) : Type 0 where
  head : Content
  is : s.sort ≡ Framing (Some head)

due_by : (sort : Sort) (own : List Level) → is_between_by sort own ≡ true → drive_by sort own ≡ Dominant → (head : Content) × (sort ≡ Framing (Some head))
due_by Idle own h d = cc
due_by Suspension own h d = cc
due_by (Intermission role) own h d = cc
due_by (Framing (Some c)) own h d = (c, refl)
due_by (Framing None) own h d = cc
due_by Integration own h d = cc
due_by (Flagging flag role) own h d = cc
due_by (Waiting flag role flagged) own h d = cc
due_by (Delimiting role) own h d = cc
due_by OffBus own h d = cc

module _ (w : Wire) (sound : AreSoundFrames w.count w.frames) (heads : OwnHeads w) (b : AreBetween w) where
  pub begun : (handed : ℕ → Handed) (k : ℕ) → k < w.count → bus w ≡ Dominant → Begins (stretch_at w k) (sample_at w handed k)
  begun handed k lt d =
      subst (λ l. Begins (stretch_at w k) (sample_of l (slice_get (w.frames k) (handed k).which) (handed k).mode)) (sym d)
      (begins_frame (stretch_at w k) (slice_get (w.frames k) (handed k).which) (handed k).mode (b k lt) (heads_content w sound heads k lt))

  pub quiet : (handed : ℕ → Handed) (k : ℕ) → k < w.count → bus w ≡ Recessive → StaysQuiet (stretch_at w k) (sample_at w handed k)
  quiet handed k lt r =
      subst (λ l. StaysQuiet (stretch_at w k) (sample_of l (slice_get (w.frames k) (handed k).which) (handed k).mode)) (sym r)
      (stays_quiet (stretch_at w k) (slice_get (w.frames k) (handed k).which) (handed k).mode (b k lt) (bus_recessive w r k lt) (heads_content w sound heads k lt))

  pub between_fine : (handed : ℕ → Handed) (k : ℕ) → k < w.count → is_fine (judged (stretch_at w k) (sample_at w handed k)).happened ≡ true
  between_fine handed k lt = elim (level_cases (bus w)) [
    | inl d ↦ (begun handed k lt d).fine
    | inr r ↦ (quiet handed k lt r).fine
  ]

  pub alone_quiet : (handed : Handed) (k : ℕ) → k < w.count → may_be_alone (stretch_at w k) ≡ true → StaysQuiet (stretch_at w k) (sampled Recessive (w.frames k) handed)
  alone_quiet handed k lt may =
      stays_quiet (stretch_at w k) (slice_get (w.frames k) handed.which) handed.mode (b k lt)
      (silent (drive_of (stretch_at w k)) (and_parts (is_between (stretch_at w k)) (not (is_dominant (drive_of (stretch_at w k)))) may).1) (heads_content w sound heads k lt)
    where
      silent : (l : Level) → not (is_dominant l) ≡ true → l ≡ Recessive
      silent Dominant h = cc
      silent Recessive h = refl

  pub alone_between_fine : (handed : Handed) (k : ℕ) → k < w.count → may_be_alone (stretch_at w k) ≡ true
      → is_fine (judged (stretch_at w k) (sampled Recessive (w.frames k) handed)).happened ≡ true
  alone_between_fine handed k lt may = (alone_quiet handed k lt may).fine

  pub between_alone : (machine : ℕ) (handed : Handed) → AreBetween (next_wire w (Own machine handed))
  between_alone machine handed k lt = elim (alone w machine handed k) [
    | inl e ↦ ap is_between e ∙ b k lt
    | inr a ↦ ap is_between a.next ∙ (alone_quiet handed k lt a.may).between
  ]

  pub still_between : (handed : ℕ → Handed) → bus w ≡ Recessive → AreBetween (next_wire w (Bit handed))
  still_between handed r k lt = ap is_between (at_bit w handed k) ∙ (quiet handed k lt r).between

  -- a frame begins
  framed : (handed : ℕ → Handed) (d : bus w ≡ Dominant) (k : ℕ) (lt : k < w.count)
      → stretch_at (next_wire w (Bit handed)) k ≡ stretch_by (Framing (begun handed k lt d).head) (Dominant ∷ [])
  framed handed d k lt = at_bit w handed k ∙ (begun handed k lt d).next

  pub begun_there : (handed : ℕ → Handed) → bus w ≡ Dominant → (k : ℕ) → k < w.count
      → stretch_at (next_wire w (Bit handed)) k ≡ stretch_by (Framing (frame_begun (stretch_at w k).sort (sampled Dominant (w.frames k) (handed k)))) (Dominant ∷ [])
  begun_there handed d k lt =
      framed handed d k lt ∙ ap (λ h. stretch_by (Framing h) (Dominant ∷ [])) (begun handed k lt d).begun
      ∙ ap (λ l. stretch_by (Framing (frame_begun (stretch_at w k).sort (sampled l (w.frames k) (handed k)))) (Dominant ∷ [])) d

  first_found : (c : Content) → IsContent c → FoundSent c (Dominant ∷ []) 1
  first_found c is zero lt = sym (read_back c is).begins
  first_found c is (suc k) lt = absurd (omega (arith, lt))

  no_end : stuffed_end (Dominant ∷ []) ≡ None
  no_end = refl

  first_sends : (handed : ℕ → Handed) (dominant : bus w ≡ Dominant) (machine : ℕ) (lt : machine < w.count) (c : Content)
      → (stretch_at w machine).sort ≡ Framing (Some c) → IsSender (next_wire w (Bit handed)) (Dominant ∷ []) machine c
  first_sends handed dominant machine lt c due = record {
    framing = framed handed dominant machine lt ∙ ap (λ o. stretch_by (Framing o) (Dominant ∷ [])) ((begun handed machine lt dominant).own_head c due);
    role = role_first c Dominant;
  }

  pub frame_begins : (handed : ℕ → Handed) → OwnHeads (next_wire w (Bit handed)) → bus w ≡ Dominant → AreInFrame (next_wire w (Bit handed)) (Dominant ∷ [])
  frame_begins handed new_heads dominant =
      let d : Drives w = bus_dominant w dominant in
      let due : (head : Content) × ((stretch_at w d.machine).sort ≡ Framing (Some head)) = due_by (stretch_at w d.machine).sort (stretch_at w d.machine).own (b d.machine d.inside) d.dominant in
      record {
        begun = omega arith;
        each = λ k lt. ((begun handed k lt dominant).head, framed handed dominant k lt);
        sender = (d.machine, d.inside, due.0, first_sends handed dominant d.machine d.inside due.0 due.1);
        found = λ k c lt s. first_found c (sound.content k c lt (new_heads k c (ap (λ t. head_of t.sort) s.framing)));
        tail = λ end e. absurd (none_there end (sym no_end ∙ e));
      }
    where
      none_there : (end : ℕ) → None ≡ Some end → ⊥
      none_there end e = cc

  pub between_bit : (handed : ℕ → Handed) → OwnHeads (next_wire w (Bit handed)) → AreInStep (next_wire w (Bit handed))
  between_bit handed new_heads = elim (level_cases (bus w)) [
    | inl d ↦ inr (inr (Dominant ∷ [], frame_begins handed new_heads d))
    | inr r ↦ inl (still_between handed r)
  ]

-- in an intermission

module _ (w : Wire) (own : List Level) (f : AreInIntermission w own) where
  short_of_two : (length own == 2) ≡ false
  short_of_two = ne_eqb (length own) 2 (λ e. omega (arith, e, f.short))

  not_alone : (k : ℕ) → k < w.count → may_be_alone (stretch_at w k) ≡ false
  not_alone k lt =
      ap may_be_alone (f.each k lt).1 ∙ ap (λ b. b && not (is_dominant (drive_of (stretch_by (Intermission (f.each k lt).0) own)))) short_of_two

  silent_bus : bus w ≡ Recessive
  silent_bus = bus_silent w (λ k lt. ap drive_of (f.each k lt).1)

  pub on : (handed : ℕ → Handed) (k : ℕ) (lt : k < w.count) → GoesOn (f.each k lt).0 own (sample_at w handed k)
  on handed k lt =
      subst (λ l. GoesOn (f.each k lt).0 own (sample_of l (slice_get (w.frames k) (handed k).which) (handed k).mode)) (sym silent_bus)
      (goes_on (f.each k lt).0 own (slice_get (w.frames k) (handed k).which) (handed k).mode short_of_two)

  pub intermission_fine : (handed : ℕ → Handed) (k : ℕ) → k < w.count → is_fine (judged (stretch_at w k) (sample_at w handed k)).happened ≡ true
  intermission_fine handed k lt = ap (λ s. is_fine (judged s (sample_at w handed k)).happened) (f.each k lt).1 ∙ (on handed k lt).fine

  pub none_alone_in_it : (k : ℕ) → k < w.count → may_be_alone (stretch_at w k) ≡ true → ⊥
  none_alone_in_it k lt may = both_ways (may_be_alone (stretch_at w k)) (not_alone k lt) may

  pub intermission_alone : (machine : ℕ) (handed : Handed) → AreInIntermission (next_wire w (Own machine handed)) own
  intermission_alone machine handed = record {
    each = λ k lt. ((f.each k lt).0, none_alone w machine handed k (not_alone k lt) ∙ (f.each k lt).1);
    short = f.short;
  }

  pub longer : (handed : ℕ → Handed) (k : ℕ) (lt : k < w.count) → stretch_at (next_wire w (Bit handed)) k ≡ stretch_by (Intermission (f.each k lt).0) (own ++ Recessive ∷ [])
  longer handed k lt = at_bit w handed k ∙ ap (λ s. stretch_after s (Sample (sample_at w handed k))) (f.each k lt).1 ∙ (on handed k lt).next

  pub intermission_free : (handed : ℕ → Handed) → IsFree (next_wire w (Bit handed))
  intermission_free handed = elim (cases_eq (length own) 1) [
    | inl one ↦ inl (λ k lt. ap is_between (longer handed k lt) ∙ eq-eqb (length (own ++ Recessive ∷ [])) 2 (length-append own (Recessive ∷ []) ∙ ap (λ n. n + 1) one))
    | inr apart ↦ inr (
      own ++ Recessive ∷ [],
      record {
        each = λ k lt. ((f.each k lt).0, longer handed k lt);
        short = (let e : length (own ++ Recessive ∷ []) ≡ length own + 1 = length-append own (Recessive ∷ []) in let s : length own < 2 = f.short in omega (arith, apart));
      },
    )
  ]

  pub intermission_bit : (handed : ℕ → Handed) → AreInStep (next_wire w (Bit handed))
  intermission_bit handed = in_step_by (intermission_free handed)
    where
      in_step_by : IsFree (next_wire w (Bit handed)) → AreInStep (next_wire w (Bit handed))
      in_step_by (inl b) = inl b
      in_step_by (inr i) = inr (inl i)
