-- A node with other frames is where the same levels put it, as long as none of them is ready.
use Rattle.std.proofs.Common.{◌≡◌, ◌∙◌, inl, inr, refl, ap, ℕ, suc, ◌+◌, ◌<◌, ◌≤◌, List, [], ◌∷◌, ◌++◌, length, Option, None, Some, arith, length-append}
use Rattle.std.specs.Prelude.{All, fold}
use Rattle.std.proofs.lemmas.Bool.{cases_lt}
use Rattle.std.proofs.lemmas.List.{length-take}
use Rattle.wl_level.specs.declared.Level.{Level}
use Rattle.wl_clock.specs.Timing.{tick_of}
use Rattle.wl_sync.specs.declared.Beat.{Beat}
use Rattle.wl_sync.specs.declared.Beat.TheVariants as beats
use Rattle.wl_sync.specs.Bits.{beat_of, sync_of}
use Rattle.wl_frame.specs.Grammar.{Content}
use Rattle.wl_machine.specs.Judged.{judged, stretch_of}
use Rattle.wl_confine.specs.Counts.{counts_of, mode_of}
use Rattle.wl_machine.specs.Stretch.{Sampled}
use Rattle.wl_node.specs.declared.setup.NodeSetup.{NodeSetup}
use Rattle.wl_node.specs.declared.setup.Queued.{Queued}
use Rattle.wl_node.specs.History.{History, by_beat, handed, head_at_next, history_after, history_after_judgement, history_of, left_history, levels_away, levels_there, no_history, seen_next, staying_history, syncs_at, unsent_of}
use Rattle.wl_onward.specs.Plans.{AreReadyFrom, HaveFirstFrames}
use Rattle.wl_onward.proofs.Queues.{Front, head_same, none_of, unsent_front}

module _ (one : NodeSetup) (queue : List Queued) (until : ℕ) (up : (k m : ℕ) → k ≤ m → tick_of one.clock k ≤ tick_of one.clock m) (has : HaveFirstFrames one.clock until one.queue queue) where
  abbrev other : NodeSetup
  other = record one { queue = queue }

  unready : (q : ℕ) (frames : List Queued) → tick_of one.clock q < until → AreReadyFrom one.clock until frames → All (λ x. q < x.ready) frames
  unready q frames early ready k d less = elim (cases_lt q (Rattle.std.specs.Prelude.slice_index_or frames k d).ready) [
    | inl more ↦ more
    | inr low ↦ (let a = ready k d less in let b = up (Rattle.std.specs.Prelude.slice_index_or frames k d).ready q low in absurd (omega arith))
  ]

  front : (q : ℕ) → tick_of one.clock q < until → Front q one.queue queue
  front q early = record {
    front = has.first;
    left = has.later;
    right = has.others;
    first = has.of_one;
    second = has.of_other;
    none_left = none_of q has.later (unready q has.later early has.later_ready);
    none_right = none_of q has.others (unready q has.others early has.others_ready);
  }

  head_is : (h : History) → tick_of one.clock (length h.seen) < until → head_at_next one h ≡ head_at_next other h
  head_is h early = head_same (length h.seen) one.order (unsent_of one h) (unsent_of other h) (unsent_front (length h.seen) one.order h.frames one.queue queue (front (length h.seen) early))

  abbrev given : History → Level → Option Content → Sampled
  given h level head = record { level = level; head = handed level one.segments.sync head; mode = mode_of (counts_of h.happened) }

  beat_is : (h : History) (level : Level) → tick_of one.clock (length h.seen) < until → (beat : Beat) → by_beat one h level beat ≡ by_beat other h level beat
  beat_is h level early beats.Plain = refl
  beat_is h level early beats.Start = refl
  beat_is h level early (beats.Sample x) = ap (λ head. history_after_judgement h (given h level head) (judged (stretch_of h.inputs) (given h level head))) (head_is h early)

  pub after_is : (h : History) (level : Level) → tick_of one.clock (length h.seen) < until → history_after one h level ≡ history_after other h level
  after_is h level early =
      ap (λ (next : History). record next { seen = h.seen ++ seen_next h level ∷ []; syncs = h.syncs ++ syncs_at (length h.seen) (sync_of one.segments h.seen (seen_next h level)) })
      (beat_is h level early (beat_of one.segments h.seen (seen_next h level)))

  seen_more : (h : History) (level : Level) → length (history_after one h level).seen ≡ suc (length h.seen)
  seen_more h level = (let e = length-append h.seen (seen_next h level ∷ []) in omega (arith, e))

  fold_is : (levels : List Level) (h : History) → ((j : ℕ) → j < length h.seen + length levels → tick_of one.clock j < until) → fold (history_after one) h levels ≡ fold (history_after other) h levels
  fold_is [] h early = refl
  fold_is (x ∷ xs) h early =
      let more = seen_more h x in
      fold_is xs (history_after one h x) (λ j less. early j (omega arith)) ∙ ap (λ g. fold (history_after other) g xs) (after_is h x (early (length h.seen) (omega arith)))

  pub staying_is : (levels : List Level) → ((j : ℕ) → j < length levels → tick_of one.clock j < until) → staying_history one levels ≡ staying_history other levels
  unfolding staying_history
  staying_is levels early = fold_is levels no_history (λ j less. early j (omega arith))

  -- and if it leaves the bus
  pub history_is : (levels : List Level) → ((j : ℕ) → j < length levels → tick_of one.clock j < until) → history_of one levels ≡ history_of other levels
  unfolding history_of
  history_is levels early =
      ap (λ h. left_history h (levels_away one.until levels)) (staying_is (levels_there one.until levels) (λ j less. early j (let few = there_few one.until levels in omega arith)))
    where
      there_few : (leaves : Option ℕ) (levels : List Level) → length (levels_there leaves levels) ≤ length levels
      there_few None levels = omega arith
      there_few (Some n) levels = (let e = length-take n levels in omega (arith, e))
