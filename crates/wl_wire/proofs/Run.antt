-- All machines of a wire, over any list of events.
use Rattle.std.proofs.Common.{◌≡◌, ℕ, ◌<◌, ◌∙◌, List, [], ◌∷◌, ◌++◌, length, true, false, Option, Some, None, refl, sym, ap, arith, inl, inr}
use Rattle.std.proofs.lemmas.List.Elements.{All-nil}
use Rattle.std.proofs.lemmas.Bool.{both_ways}
use Rattle.std.proofs.lemmas.Option.{none-some}
use Rattle.wl_level.specs.declared.Level.{Level}
use Rattle.wl_level.specs.declared.Level.TheVariants.{Recessive}
use Rattle.wl_frame.specs.Grammar.{Content}
use Rattle.wl_machine.specs.Stretch.Sort.{Framing}
use Rattle.wl_machine.specs.Frames.{stuffed_end}
use Rattle.wl_machine.specs.Judged.{judged}
use Rattle.wl_machine.specs.Laws.{HeadLaws}
use Rattle.wl_machine.specs.States.{stretch_by}
use Rattle.wl_wire.specs.Wire.{Wire, is_between, bus, Handed, Event, Bit, Own, stretch_at, may_be_alone, sampled, next_wire, wire_after, idle_wire}
use Rattle.wl_wire.specs.Outcome.{Passage, HaveGot, IsFree}
use Rattle.wl_wire.specs.Winner.{HasOneWinner}
use Rattle.wl_wire.specs.InStep.{Has, AreSoundFrames, AreInFrame, AreInStep, FindsNoError, is_fine}
use Rattle.wl_wire.proofs.Between.{between_fine, alone_between_fine, between_alone, between_bit, intermission_fine, none_alone_in_it, intermission_alone, intermission_bit}
use Rattle.wl_wire.proofs.Events.{OwnHeads, sample_at, heads_at_bit, heads_alone, none_alone, finds_none}
use Rattle.wl_wire.proofs.Lengths.{short_frame}
use Rattle.wl_wire.proofs.Losers.{LostSoFar}
use Rattle.wl_wire.proofs.LostSteps.{no_frame, lost_between, lost_intermission, lost_bit}
use Rattle.wl_wire.proofs.FramePassages.{got_stuffed, tail_progress}
use Rattle.wl_wire.proofs.Passages.{Progress, HaveGotIn, between_progress, between_own_progress, intermission_progress, intermission_own_progress, got_in_alone}
use Rattle.wl_wire.proofs.Passages.Progress.{free, under_way}
use Rattle.wl_wire.proofs.Stuffing.{ArbitrationDecides, stuffed_bit, stuffed_fine}
use Rattle.wl_wire.proofs.Tail.{tail_bit, tail_fine}
use Rattle.wl_wire.proofs.Winners.{one_winner, begun_not_between}

-- a machine in a frame may not have a bit by itself
in_frame : (own : List Level) (head : Option Content) → 0 < length own → may_be_alone (stretch_by (Framing head) own) ≡ false
in_frame [] head h = absurd (omega (arith, h))
in_frame (l ∷ own) None h = refl
in_frame (l ∷ own) (Some head) h = refl

module _ (decides : ArbitrationDecides) (laws : HeadLaws) where
  -- in a frame
  module _ (w : Wire) (own : List Level) (sound : AreSoundFrames w.count w.frames) (heads : OwnHeads w) (f : AreInFrame w own) where
    frame_bit_by : (handed : ℕ → Handed) (o : Option ℕ) → stuffed_end own ≡ o → AreInStep (next_wire w (Bit handed))
    frame_bit_by handed None e = inr (inr (own ++ _ ∷ [], stuffed_bit decides w own sound heads f e handed))
    frame_bit_by handed (Some end) e = tail_bit w own sound heads f end e handed

    frame_fine_by : (handed : ℕ → Handed) (k : ℕ) → k < w.count → (o : Option ℕ) → stuffed_end own ≡ o → is_fine (judged (stretch_at w k) (sample_at w handed k)).happened ≡ true
    frame_fine_by handed k lt None e = stuffed_fine decides w own sound heads f e handed k lt
    frame_fine_by handed k lt (Some end) e = tail_fine w own sound heads f end e handed k lt

    frame_not_alone : (k : ℕ) → k < w.count → may_be_alone (stretch_at w k) ≡ false
    frame_not_alone k lt = ap may_be_alone (f.each k lt).1 ∙ in_frame own (f.each k lt).0 f.begun

    frame_alone : (machine : ℕ) (handed : Handed) → AreInFrame (next_wire w (Own machine handed)) own
    frame_alone machine handed = record {
      begun = f.begun;
      each = λ k lt. ((f.each k lt).0, stays k lt ∙ (f.each k lt).1);
      sender = (f.sender.0, f.sender.1, f.sender.2, record { framing = stays f.sender.0 f.sender.1 ∙ f.sender.3.framing; role = f.sender.3.role });
      found = λ k head lt s. f.found k head lt (record { framing = sym (stays k lt) ∙ s.framing; role = s.role });
      tail = f.tail;
    }
      where
        stays : (k : ℕ) → k < w.count → stretch_at (next_wire w (Own machine handed)) k ≡ stretch_at w k
        stays k lt = none_alone w machine handed k (frame_not_alone k lt)

  -- what holds of a wire, whatever has happened
  record IsKept (w : Wire) : Type 0 where
    heads : OwnHeads w
    step : AreInStep w
    lost : LostSoFar w
    progress : Progress w

  step_bit : (w : Wire) → AreSoundFrames w.count w.frames → OwnHeads w → AreInStep w → (handed : ℕ → Handed) → AreInStep (next_wire w (Bit handed))
  step_bit w sound heads (inl b) handed = between_bit w sound heads b handed (heads_at_bit w handed laws heads)
  step_bit w sound heads (inr (inl i)) handed = intermission_bit w i.0 i.1 handed
  step_bit w sound heads (inr (inr f)) handed = frame_bit_by w f.0 sound heads f.1 handed (stuffed_end f.0) refl

  step_alone : (w : Wire) → AreSoundFrames w.count w.frames → OwnHeads w → AreInStep w → (machine : ℕ) (handed : Handed) → AreInStep (next_wire w (Own machine handed))
  step_alone w sound heads (inl b) machine handed = inl (between_alone w sound heads b machine handed)
  step_alone w sound heads (inr (inl i)) machine handed = inr (inl (i.0, intermission_alone w i.0 i.1 machine handed))
  step_alone w sound heads (inr (inr f)) machine handed = inr (inr (f.0, frame_alone w f.0 sound heads f.1 machine handed))

  lost_alone : (w : Wire) → AreSoundFrames w.count w.frames → OwnHeads w → AreInStep w → LostSoFar w → (machine : ℕ) (handed : Handed) → LostSoFar (next_wire w (Own machine handed))
  lost_alone w sound heads (inl b) lost machine handed = lost_between (next_wire w (Own machine handed)) (between_alone w sound heads b machine handed)
  lost_alone w sound heads (inr (inl i)) lost machine handed = lost_intermission (next_wire w (Own machine handed)) i.0 (intermission_alone w i.0 i.1 machine handed)
  lost_alone w sound heads (inr (inr f)) lost machine handed = λ k head own lt e r.
      lost k head own lt (sym (none_alone w machine handed k (frame_not_alone w f.0 sound heads f.1 k lt)) ∙ e) r

  progress_framed : (w : Wire) → AreSoundFrames w.count w.frames → OwnHeads w → (passages : List Passage) (own : List Level) (f : AreInFrame w own) → HaveGotIn w own passages
      → (handed : ℕ → Handed) (o : Option ℕ) → stuffed_end own ≡ o → Progress (next_wire w (Bit handed))
  progress_framed w sound heads passages own f got handed None e =
      under_way passages (own ++ bus w ∷ []) (stuffed_bit decides w own sound heads f e handed) (got_stuffed decides w own sound heads f e passages got handed)
  progress_framed w sound heads passages own f got handed (Some end) e = tail_progress w own sound heads f end e passages got handed

  progress_bit : (w : Wire) → AreSoundFrames w.count w.frames → OwnHeads w → Progress w → (handed : ℕ → Handed) → Progress (next_wire w (Bit handed))
  progress_bit w sound heads (free passages (inl b) got) handed = between_progress w sound heads b passages got handed (heads_at_bit w handed laws heads)
  progress_bit w sound heads (free passages (inr i) got) handed = intermission_progress w i.0 i.1 passages got handed
  progress_bit w sound heads (under_way passages own f got) handed = progress_framed w sound heads passages own f got handed (stuffed_end own) refl

  progress_alone : (w : Wire) → AreSoundFrames w.count w.frames → OwnHeads w → Progress w → (machine : ℕ) (handed : Handed) → Progress (next_wire w (Own machine handed))
  progress_alone w sound heads (free passages (inl b) got) machine handed = between_own_progress w sound heads b passages got machine handed
  progress_alone w sound heads (free passages (inr i) got) machine handed = intermission_own_progress w i.0 i.1 passages got machine handed
  progress_alone w sound heads (under_way passages own f got) machine handed =
      under_way passages own (frame_alone w own sound heads f machine handed) (got_in_alone w own passages machine handed (frame_not_alone w own sound heads f) got)

  kept_on : (w : Wire) → AreSoundFrames w.count w.frames → IsKept w → (event : Event) → IsKept (next_wire w event)
  kept_on w sound kept (Bit handed) = record {
    heads = heads_at_bit w handed laws kept.heads;
    step = step_bit w sound kept.heads kept.step handed;
    lost = lost_bit decides laws w sound kept.heads kept.step kept.lost handed (heads_at_bit w handed laws kept.heads);
    progress = progress_bit w sound kept.heads kept.progress handed;
  }
  kept_on w sound kept (Own machine handed) = record {
    heads = heads_alone w machine handed laws kept.heads;
    step = step_alone w sound kept.heads kept.step machine handed;
    lost = lost_alone w sound kept.heads kept.step kept.lost machine handed;
    progress = progress_alone w sound kept.heads kept.progress machine handed;
  }

  kept_after : (w : Wire) (events : List Event) → AreSoundFrames w.count w.frames → IsKept w → IsKept (wire_after w events)
  kept_after w [] sound kept = kept
  kept_after w (event ∷ events) sound kept = kept_after (next_wire w event) events sound (kept_on w sound kept event)

  sound_after : (w : Wire) (events : List Event) → AreSoundFrames w.count w.frames → AreSoundFrames (wire_after w events).count (wire_after w events).frames
  sound_after w [] sound = sound
  sound_after w (event ∷ events) sound = sound_after (next_wire w event) events sound

  at_first : (count : ℕ) (frames : ℕ → List Content) → IsKept (idle_wire count frames)
  at_first count frames = record {
    heads = λ k c e. absurd (none-some c e);
    step = inl (λ k lt. refl);
    lost = lost_between (idle_wire count frames) (λ k lt. refl);
    progress = free [] (inl (λ k lt. refl)) (record {
      senders = All-nil (λ p. (p.sender < count) × Has frames p.sender p.frame);
      begun = λ k lt. refl;
      frames = λ k lt. refl;
      acknowledged = λ k lt. refl;
    });
  }

  kept : (count : ℕ) (frames : ℕ → List Content) (events : List Event) → AreSoundFrames count frames → IsKept (wire_after (idle_wire count frames) events)
  kept count frames events sound = kept_after (idle_wire count frames) events sound (at_first count frames)

  -- no error
  fine_at_bit : (w : Wire) → AreSoundFrames w.count w.frames → OwnHeads w → AreInStep w → (handed : ℕ → Handed) (k : ℕ) → k < w.count
      → is_fine (judged (stretch_at w k) (sample_at w handed k)).happened ≡ true
  fine_at_bit w sound heads (inl b) handed k lt = between_fine w sound heads b handed k lt
  fine_at_bit w sound heads (inr (inl i)) handed k lt = intermission_fine w i.0 i.1 handed k lt
  fine_at_bit w sound heads (inr (inr f)) handed k lt = frame_fine_by w f.0 sound heads f.1 handed k lt (stuffed_end f.0) refl

  fine_alone : (w : Wire) → AreSoundFrames w.count w.frames → OwnHeads w → AreInStep w → (handed : Handed) (k : ℕ) → k < w.count → may_be_alone (stretch_at w k) ≡ true
      → is_fine (judged (stretch_at w k) (sampled Recessive (w.frames k) handed)).happened ≡ true
  fine_alone w sound heads (inl b) handed k lt may = alone_between_fine w sound heads b handed k lt may
  fine_alone w sound heads (inr (inl i)) handed k lt may = absurd (none_alone_in_it w i.0 i.1 k lt may)
  fine_alone w sound heads (inr (inr f)) handed k lt may = absurd (both_ways (may_be_alone (stretch_at w k)) (frame_not_alone w f.0 sound heads f.1 k lt) may)

  no_error : (w : Wire) → AreSoundFrames w.count w.frames → IsKept w → FindsNoError w
  no_error w sound kept = finds_none w (fine_at_bit w sound kept.heads kept.step) (fine_alone w sound kept.heads kept.step)

  pub stay_in_step : (count : ℕ) (frames : ℕ → List Content) (events : List Event) → AreSoundFrames count frames → AreInStep (wire_after (idle_wire count frames) events)
  stay_in_step count frames events sound = (kept count frames events sound).step

  pub find_no_error : (count : ℕ) (frames : ℕ → List Content) (events : List Event) → AreSoundFrames count frames → FindsNoError (wire_after (idle_wire count frames) events)
  find_no_error count frames events sound =
      no_error (wire_after (idle_wire count frames) events) (sound_after (idle_wire count frames) events sound) (kept count frames events sound)

  pub have_one_winner : (count : ℕ) (frames : ℕ → List Content) (events : List Event) → AreSoundFrames count frames → HasOneWinner (wire_after (idle_wire count frames) events)
  have_one_winner count frames events sound =
      let all : IsKept (wire_after (idle_wire count frames) events) = kept count frames events sound in
      one_winner (wire_after (idle_wire count frames) events) (sound_after (idle_wire count frames) events sound) all.heads all.step all.lost

  -- where no frame is under way
  passages_by : (w : Wire) → Progress w → IsFree w → (passages : List Passage) × HaveGot w passages
  passages_by w (free passages is got) no_frame_there = (passages, got)
  passages_by w (under_way passages own f got) (inl b) =
      absurd (begun_not_between f.sender.2 own f.begun (ap is_between (sym f.sender.3.framing) ∙ b f.sender.0 f.sender.1))
  passages_by w (under_way passages own f got) (inr i) =
      absurd (no_frame (i.1.each f.sender.0 f.sender.1).0 f.sender.2 own i.0 (sym (i.1.each f.sender.0 f.sender.1).1 ∙ f.sender.3.framing))

  pub all_got : (count : ℕ) (frames : ℕ → List Content) (events : List Event) → AreSoundFrames count frames → IsFree (wire_after (idle_wire count frames) events)
      → (passages : List Passage) × HaveGot (wire_after (idle_wire count frames) events) passages
  all_got count frames events sound is = passages_by (wire_after (idle_wire count frames) events) (kept count frames events sound).progress is

  -- a frame comes to its end
  pub frames_end : (count : ℕ) (frames : ℕ → List Content) (events : List Event) → AreSoundFrames count frames
      → (own : List Level) → AreInFrame (wire_after (idle_wire count frames) events) own → length own < 157
  frames_end count frames events sound own f =
      short_frame (wire_after (idle_wire count frames) events) (sound_after (idle_wire count frames) events sound) (kept count frames events sound).heads own f

  -- from any wire in step
  record IsSteady (w : Wire) : Type 0 where
    heads : OwnHeads w
    step : AreInStep w

  steady_on : (w : Wire) → AreSoundFrames w.count w.frames → IsSteady w → (event : Event) → IsSteady (next_wire w event)
  steady_on w sound steady (Bit handed) = record { heads = heads_at_bit w handed laws steady.heads; step = step_bit w sound steady.heads steady.step handed }
  steady_on w sound steady (Own machine handed) =
      record { heads = heads_alone w machine handed laws steady.heads; step = step_alone w sound steady.heads steady.step machine handed }

  steady_after : (w : Wire) (events : List Event) → AreSoundFrames w.count w.frames → IsSteady w → IsSteady (wire_after w events)
  steady_after w [] sound steady = steady
  steady_after w (event ∷ events) sound steady = steady_after (next_wire w event) events sound (steady_on w sound steady event)

  pub own_heads_stay : (w : Wire) (events : List Event) → OwnHeads w → OwnHeads (wire_after w events)
  own_heads_stay w [] heads = heads
  own_heads_stay w (Bit handed ∷ events) heads = own_heads_stay (next_wire w (Bit handed)) events (heads_at_bit w handed laws heads)
  own_heads_stay w (Own machine handed ∷ events) heads = own_heads_stay (next_wire w (Own machine handed)) events (heads_alone w machine handed laws heads)

  pub remain_in_step : (w : Wire) (events : List Event) → AreSoundFrames w.count w.frames → OwnHeads w → AreInStep w → AreInStep (wire_after w events)
  remain_in_step w events sound heads step = (steady_after w events sound (record { heads = heads; step = step })).step

  pub remain_without_error : (w : Wire) (events : List Event) → AreSoundFrames w.count w.frames → OwnHeads w → AreInStep w → FindsNoError (wire_after w events)
  remain_without_error w events sound heads step =
      let after : IsSteady (wire_after w events) = steady_after w events sound (record { heads = heads; step = step }) in
      finds_none (wire_after w events) (fine_at_bit (wire_after w events) (sound_after w events sound) after.heads after.step)
      (fine_alone (wire_after w events) (sound_after w events sound) after.heads after.step)
