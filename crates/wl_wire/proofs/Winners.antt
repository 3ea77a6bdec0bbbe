-- Who still sends beats who has lost, and one sends alone after the stuffed part.
use Rattle.std.proofs.Common.{◌≡◌, ℕ, suc, ◌<◌, ◌≤◌, ◌∙◌, List, [], ◌∷◌, length, true, Option, Some, None, refl, sym, ap, subst, arith, inl, inr}
use Rattle.std.proofs.lemmas.Bool.{cases_lt, both_ways}
use Rattle.std.proofs.lemmas.Option.{none-some}
use Rattle.wl_level.specs.declared.Level.{Level}
use Rattle.wl_level.specs.Places.{IsFirstPlace}
use Rattle.wl_level.proofs.Callers.{first_is}
use Rattle.wl_frame.specs.Grammar.{Content}
use Rattle.wl_machine.specs.Stretch.Sort.{Framing}
use Rattle.wl_machine.specs.Frames.{stuffed_end}
use Rattle.wl_machine.specs.Judged.{head_of}
use Rattle.wl_machine.specs.States.{stretch_by}
use Rattle.wl_machine.proofs.Callers.{ends_at}
use Rattle.wl_wire.specs.Wire.{Wire, stretch_at, is_between}
use Rattle.wl_wire.specs.InStep.{AreSoundFrames, AreInFrame, AreInStep, IsSender, or_all, stuffed_length}
use Rattle.wl_wire.specs.Winner.{Beats, Lost, HasOneWinner}
use Rattle.wl_wire.proofs.Events.{OwnHeads}
use Rattle.wl_wire.proofs.Losers.{LostAt, LostSoFar, beats_by}
use Rattle.wl_wire.proofs.LostSteps.{no_frame}
use Rattle.wl_wire.proofs.Stuffing.{sends_content}
use Rattle.wl_wire.proofs.Tail.{one_sender}

-- a machine that is between frames sends none of these
pub begun_not_between : (head : Content) (own : List Level) → 0 < length own → is_between (stretch_by (Framing (Some head)) own) ≡ true → ⊥
begun_not_between head [] h b = absurd (omega (arith, h))
begun_not_between head (l ∷ own) h b = cc

-- the place of a loss is of the stuffed part
loss_inside : (head : Content) (own : List Level) (l : LostAt head own) (o : Option ℕ) → stuffed_end own ≡ o → suc l.place ≤ or_all o (length own)
loss_inside head own l None e = let lt : l.place < length own = l.inside in omega arith
loss_inside head own l (Some end) e = elim (cases_lt l.place end) [
  | inl below ↦ omega arith
  | inr above ↦
      (let first : IsFirstPlace (ends_at own) (suc (length own)) end = first_is (ends_at own) (suc (length own)) end e in
      absurd (both_ways (ends_at own end) (l.going_on end above) first.passes))
]

-- the samples of the frame are those of each sender
same_own : (w : Wire) (own got : List Level) (k : ℕ) (head : Content) (f : AreInFrame w got) → k < w.count → stretch_at w k ≡ stretch_by (Framing (Some head)) own → got ≡ own
same_own w own got k head f lt e = ap (λ s. s.own) (sym (f.each k lt).1 ∙ e)

-- a machine with a loss, or after the stuffed part, has samples, so that all are in a frame
in_frame_by : (w : Wire) (own : List Level) (k : ℕ) (head : Content) → k < w.count → 0 < length own → stretch_at w k ≡ stretch_by (Framing (Some head)) own → AreInStep w → AreInFrame w own
in_frame_by w own k head lt some e (inl b) = absurd (begun_not_between head own some (ap is_between (sym e) ∙ b k lt))
in_frame_by w own k head lt some e (inr (inl i)) = absurd (no_frame (i.1.each k lt).0 head own i.0 (sym (i.1.each k lt).1 ∙ e))
in_frame_by w own k head lt some e (inr (inr f)) = subst (AreInFrame w) (same_own w own f.0 k head f.1 lt e) f.1

module _ (w : Wire) (sound : AreSoundFrames w.count w.frames) (heads : OwnHeads w) (step : AreInStep w) (lost : LostSoFar w) where
  beaten : (own : List Level) (j k : ℕ) (a b : Content) → j < w.count → k < w.count → IsSender w own j a → Lost w own k b → Beats a b
  beaten own j k a b lj lk s l =
      let loss : LostAt b own = lost k b own lk l.framing l.role in
      let some : 0 < length own = (let lt : loss.place < length own = loss.inside in omega arith) in
      let f : AreInFrame w own = in_frame_by w own k b lk some l.framing step in
      let inside : suc loss.place ≤ stuffed_length own = loss_inside b own loss (stuffed_end own) refl in
      beats_by a b own (sends_content w own j a sound heads lj s) (sound.content k b lk (heads k b (ap (λ t. head_of t.sort) l.framing))) loss
      (λ n below. f.found j a lj s n (omega arith))

  no_end_of_nothing : (end : ℕ) → stuffed_end [] ≡ Some end → ⊥
  no_end_of_nothing end e = absurd (none-some end (sym none_yet ∙ e))
    where
      none_yet : stuffed_end [] ≡ None
      none_yet = refl

  has_samples : (own : List Level) (end : ℕ) → stuffed_end own ≡ Some end → 0 < length own
  has_samples [] end e = absurd (no_end_of_nothing end e)
  has_samples (l ∷ own) end e = omega arith

  alone : (own : List Level) (end j k : ℕ) (a b : Content) → j < w.count → k < w.count → stuffed_end own ≡ Some end → IsSender w own j a → IsSender w own k b → j ≡ k
  alone own end j k a b lj lk e p q =
      one_sender w own sound heads (in_frame_by w own j a lj (has_samples own end e) p.framing step) end e j k a b lj lk p q

  pub one_winner : HasOneWinner w
  one_winner = record { beats = beaten; alone = alone }
