-- A history's events are those of its samples.
use Rattle.std.proofs.Common.{◌≡◌, ◌∙◌, refl, ap, sym, ℕ, List, [], ◌∷◌, ◌++◌, length, map, fold, append-nil, length-append, ◌+◌, ◌<◌, take, get_or, subst, ap₂}
use Rattle.std.proofs.lemmas.List.{take_more}
use Rattle.std.proofs.lemmas.List.Sums.{fold-append}
use Rattle.wl_level.specs.declared.Level.{Level}
use Rattle.wl_sync.specs.declared.Beat.{Beat}
use Rattle.wl_sync.specs.declared.Beat.TheVariants as beats
use Rattle.wl_sync.specs.Bits.{beat_of}
use Rattle.wl_node.specs.declared.setup.NodeSetup.{NodeSetup}
use Rattle.wl_node.specs.History.{History, no_history, staying_history, history_after, by_beat, seen_next}
use Rattle.wl_trace.specs.declared.event.Noted.{Noted}
use Rattle.wl_trace.specs.Events.{noted, beat_events, events_at, traced_after, staying_events}
use Rattle.wl_trace.specs.Replay.{IsReplay, SampledPast, no_past, past_after, past_of, then_events}
use Rattle.wl_trace.specs.declared.notes.Notes.{Notes}
use Rattle.wl_trace.specs.declared.replay.Replay.{Replay}
use Rattle.wl_trace.specs.Notes.{Adds}

abbrev pub past_events : NodeSetup → SampledPast → ℕ × Level → List Noted
past_events setup p (quantum, level) = map (noted quantum (length p.samples)) (then_events setup p quantum level)

-- a past with its events, one sample later
abbrev pub replayed_after : NodeSetup → SampledPast × List Noted → ℕ × Level → SampledPast × List Noted
replayed_after setup (p, events) s = (past_after setup p s, events ++ past_events setup p s)

pub replay_of : NodeSetup → List (ℕ × Level) → SampledPast × List Noted
replay_of setup samples = fold (replayed_after setup) (no_past, []) samples

module _ (setup : NodeSetup) where
  pub replay_first : replay_of setup [] ≡ (no_past, [])
  unfolding replay_of
  replay_first = refl

  pub replay_next : (samples : List (ℕ × Level)) (s : ℕ × Level) → replay_of setup (samples ++ s ∷ []) ≡ replayed_after setup (replay_of setup samples) s
  unfolding replay_of
  replay_next samples s = fold-append (replayed_after setup) (no_past, []) samples (s ∷ [])

  beat_replayed : (h : History) (es : List Noted) (level : Level) (beat : Beat) → replay_of setup h.samples ≡ (past_of h, es)
      → replay_of setup (by_beat setup h level beat).samples ≡ (past_of (by_beat setup h level beat), es ++ beat_events setup h level beat)
  beat_replayed h es level beats.Plain e = e ∙ ap (λ (l : List Noted). (past_of h, l)) (sym (append-nil es))
  beat_replayed h es level beats.Start e = e ∙ ap (λ (l : List Noted). (past_of h, l)) (sym (append-nil es))
  beat_replayed h es level (beats.Sample other) e =
      replay_next h.samples (length h.seen, level) ∙ ap (λ (r : SampledPast × List Noted). replayed_after setup r (length h.seen, level)) e

  fold_replayed : (levels : List Level) (h : History) (es : List Noted) → replay_of setup h.samples ≡ (past_of h, es)
      → replay_of setup (fold (history_after setup) h levels).samples ≡ (past_of (fold (history_after setup) h levels), (fold (traced_after setup) (h, es) levels).1)
  fold_replayed [] h es e = e
  fold_replayed (level ∷ levels) h es e =
      fold_replayed levels (history_after setup h level) (es ++ events_at setup h level)
      (beat_replayed h es level (beat_of setup.segments h.seen (seen_next h level)) e)

  pub events_replayed : (levels : List Level) → (replay_of setup (staying_history setup levels).samples).1 ≡ staying_events setup levels
  unfolding staying_history staying_events
  events_replayed levels = ap (λ (r : SampledPast × List Noted). r.1) (fold_replayed levels no_history [] replay_first)

  -- how many samples a past has
  samples_counted : (samples : List (ℕ × Level)) (s : ℕ × Level) (n : ℕ) → length (replay_of setup samples).0.samples ≡ n
      → length (replay_of setup (samples ++ s ∷ [])).0.samples ≡ n + 1
  samples_counted samples s n e =
      ap (λ (r : SampledPast × List Noted). length r.0.samples) (replay_next samples s) ∙ (let more = length-append (replay_of setup samples).0.samples (s ∷ []) in more ∙ ap (λ (k : ℕ). k + 1) e)

-- one sample more of a list
module _ (setup : NodeSetup) (samples : List (ℕ × Level)) (bit : ℕ) (d : ℕ × Level) (below : bit < length samples) where
  abbrev front : SampledPast × List Noted
  front = replay_of setup (take bit samples)

  one_more : replay_of setup (take (bit + 1) samples) ≡ replayed_after setup front (get_or samples bit d)
  one_more = ap (replay_of setup) (take_more samples bit d below) ∙ replay_next setup (take bit samples) (get_or samples bit d)

  pub past_more : (kept : Replay) → IsReplay setup kept (past_after setup front.0 (get_or samples bit d)) → IsReplay setup kept (replay_of setup (take (bit + 1) samples)).0
  past_more kept h = subst (λ (r : SampledPast × List Noted). IsReplay setup kept r.0) (sym one_more) h

  pub events_more : (old new : Notes) → old.quantum ≡ (get_or samples bit d).0 → old.bit ≡ bit → old.events.items ≡ front.1 → length front.0.samples ≡ bit
      → Adds old new (then_events setup front.0 (get_or samples bit d).0 (get_or samples bit d).1) → new.events.items ≡ (replay_of setup (take (bit + 1) samples)).1
  events_more old new q b e n added =
      added.events
      ∙ ap₂ (λ (k l : ℕ). old.events.items ++ map (noted k l) (then_events setup front.0 (get_or samples bit d).0 (get_or samples bit d).1)) q (b ∙ sym n)
      ∙ ap (λ (es : List Noted). es ++ past_events setup front.0 (get_or samples bit d)) e
      ∙ ap (λ (r : SampledPast × List Noted). r.1) (sym one_more)

  pub count_more : length front.0.samples ≡ bit → length (replay_of setup (take (bit + 1) samples)).0.samples ≡ bit + 1
  count_more n = ap (λ (r : SampledPast × List Noted). length r.0.samples) (ap (replay_of setup) (take_more samples bit d below)) ∙ samples_counted setup (take bit samples) (get_or samples bit d) bit n
