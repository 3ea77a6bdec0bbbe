-- The events of a node's samples, one sample more at a time, as far as they are picked.
use Rattle.std.proofs.Common.{◌≡◌, ◌∙◌, ap, sym, ℕ, ◌+◌, ◌≤◌, Bool, List, [], ◌∷◌, ◌++◌, append_assoc, length, map}
use Rattle.std.specs.List.{All, filter}
use Rattle.std.proofs.lemmas.List.{length-append, map-append}
use Rattle.std.proofs.lemmas.List.Elements.{All-map, filter-append}
use Rattle.wl_level.specs.declared.Level.{Level}
use Rattle.wl_clock.specs.Timing.{Timing, tick_of}
use Rattle.wl_node.specs.declared.setup.NodeSetup.{NodeSetup}
use Rattle.wl_node.specs.History.{history_of, levels_there}
use Rattle.wl_node.specs.Limits.{most_run_quanta}
use Rattle.wl_node.proofs.Callers.{same_past}
use Rattle.wl_trace.specs.declared.event.NodeEvent.{NodeEvent}
use Rattle.wl_trace.specs.declared.event.Noted.{Noted}
use Rattle.wl_trace.specs.Events.{events_of, noted}
use Rattle.wl_trace.specs.Replay.{SampledPast, then_events}
use Rattle.wl_trace.proofs.Callers.{events_replayed, replay_next, replay_of, replayed_after}
use Rattle.wl_views.specs.TraceText.{told_by}

-- events of a quantum that clocks know are known
pub known_events : (quantum bit : ℕ) (told : List NodeEvent) → quantum ≤ most_run_quanta → All (λ n. n.quantum ≤ most_run_quanta) (map (noted quantum bit) told)
known_events quantum bit told few = All-map (λ (n : Noted). n.quantum ≤ most_run_quanta) (noted quantum bit) told (λ k d b. few)

-- some events more, as far as they are picked
pub told_on : (p : ℕ × (ℕ × Noted) → Bool) (clock : Timing) (i : ℕ) (old now new : List (ℕ × (ℕ × Noted))) (before found : List Noted)
    → now ≡ old ++ filter p (told_by clock i before) → new ≡ now ++ filter p (told_by clock i found) → new ≡ old ++ filter p (told_by clock i (before ++ found))
told_on p clock i old now new before found so_far more =
    more
    ∙ ap (λ xs. xs ++ filter p (told_by clock i found)) so_far
    ∙ append_assoc old (filter p (told_by clock i before)) (filter p (told_by clock i found))
    ∙ ap (λ xs. old ++ xs)
    (sym (filter-append p (told_by clock i before) (told_by clock i found))
    ∙ ap (filter p) (sym (map-append (λ (n : Noted). (tick_of clock n.quantum, (i, n))) before found)))

module _ (setup : NodeSetup) (samples : List (ℕ × Level)) (quantum : ℕ) (level : Level) where
  abbrev before : SampledPast × List Noted
  before = replay_of setup samples

  abbrev after : SampledPast × List Noted
  after = replay_of setup (samples ++ (quantum, level) ∷ [])

  next : after ≡ replayed_after setup before (quantum, level)
  next = replay_next setup samples (quantum, level)

  pub count_more : (bit : ℕ) → length before.0.samples ≡ bit → length after.0.samples ≡ bit + 1
  count_more bit e =
      ap (λ (r : SampledPast × List Noted). length r.0.samples) next ∙ length-append before.0.samples ((quantum, level) ∷ []) ∙ ap (λ (n : ℕ). n + 1) e

  pub past_more : after.0 ≡ (replayed_after setup before (quantum, level)).0
  past_more = ap (λ (r : SampledPast × List Noted). r.0) next

  -- what is picked of the events so far, and of those of the sample
  pub told_more : (p : ℕ × (ℕ × Noted) → Bool) (clock : Timing) (i bit : ℕ) (old now new : List (ℕ × (ℕ × Noted))) (found : List Noted)
      → length before.0.samples ≡ bit → found ≡ map (noted quantum bit) (then_events setup before.0 quantum level)
      → now ≡ old ++ filter p (told_by clock i before.1) → new ≡ now ++ filter p (told_by clock i found)
      → new ≡ old ++ filter p (told_by clock i after.1)
  told_more p clock i bit old now new found counted are so_far more =
      let told : List Noted = map (noted quantum (length before.0.samples)) (then_events setup before.0 quantum level) in
      let same : found ≡ told = are ∙ ap (λ (b : ℕ). map (noted quantum b) (then_events setup before.0 quantum level)) (sym counted) in
      told_on p clock i old now new before.1 told so_far (more ∙ ap (λ (es : List Noted). now ++ filter p (told_by clock i es)) same)
      ∙ ap (λ (r : SampledPast × List Noted). old ++ filter p (told_by clock i r.1)) (sym next)

-- at the end they are those of what the node saw
pub all_replayed : (setup : NodeSetup) (levels : List Level) → (replay_of setup (history_of setup levels).samples).1 ≡ events_of setup levels
all_replayed setup levels =
    ap (λ (xs : List (ℕ × Level)). (replay_of setup xs).1) (same_past setup levels).samples ∙ events_replayed setup (levels_there setup.until levels)
