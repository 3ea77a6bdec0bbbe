-- The events of a history are at quanta that have run.
use Rattle.std.proofs.Common.{◌≡◌, sym, subst, arith, ℕ, suc, ◌+◌, ◌<◌, List, [], ◌∷◌, ◌++◌, map, length, fold, zero-add, add-zero}
use Rattle.std.specs.List.{All}
use Rattle.std.proofs.lemmas.List.Elements.{All-append, All-nil, All-map}
use Rattle.wl_level.specs.declared.Level.{Level}
use Rattle.wl_sync.specs.declared.Beat.{Beat}
use Rattle.wl_sync.specs.declared.Beat.TheVariants as beats
use Rattle.wl_sync.specs.Bits.{beat_of}
use Rattle.wl_node.specs.declared.setup.NodeSetup.{NodeSetup}
use Rattle.wl_node.specs.History.{History, no_history, history_after, seen_next}
use Rattle.wl_trace.specs.declared.event.NodeEvent.{NodeEvent}
use Rattle.wl_trace.specs.declared.event.Noted.{Noted}
use Rattle.wl_trace.proofs.Syncing.{one_more}
use Rattle.wl_trace.specs.Events.{noted, beat_events, events_at, traced_after, staying_events}

abbrev Before : ℕ → List Noted → Type 0
Before n es = All (λ e. e.quantum < n) es

later : (n : ℕ) (es : List Noted) → Before n es → Before (suc n) es
later n es h = λ k d b. let q = h k d b in omega arith

noted_before : (n bit : ℕ) (es : List NodeEvent) → Before (suc n) (map (noted n bit) es)
noted_before n bit es = All-map (λ (e : Noted). e.quantum < suc n) (noted n bit) es (λ k d b. let q : n < suc n = omega arith in q)

module _ (setup : NodeSetup) where
  beat_before : (h : History) (level : Level) (beat : Beat) → Before (suc (length h.seen)) (beat_events setup h level beat)
  beat_before h level beats.Plain = All-nil (λ (e : Noted). e.quantum < suc (length h.seen))
  beat_before h level beats.Start = All-nil (λ (e : Noted). e.quantum < suc (length h.seen))
  beat_before h level (beats.Sample _) = noted_before (length h.seen) (length h.samples) _

  after_before : (h : History) (es : List Noted) (level : Level) → Before (length h.seen) es
      → Before (length (history_after setup h level).seen) (es ++ events_at setup h level)
  after_before h es level b =
      subst (λ n. Before n (es ++ events_at setup h level)) (sym (one_more setup h level))
      (All-append (λ (e : Noted). e.quantum < suc (length h.seen)) es (events_at setup h level) (later (length h.seen) es b)
      (beat_before h level (beat_of setup.segments h.seen (seen_next h level))))

  fold_before : (levels : List Level) (h : History) (es : List Noted) → Before (length h.seen) es
      → Before (length h.seen + length levels) (fold (traced_after setup) (h, es) levels).1
  fold_before [] h es b = subst (λ n. Before n es) (sym (add-zero (length h.seen))) b
  fold_before (level ∷ levels) h es b =
      subst (λ n. Before n (fold (traced_after setup) (h, es) (level ∷ levels)).1)
      (let e = one_more setup h level in let f : length (history_after setup h level).seen + length levels ≡ length h.seen + suc (length levels) = omega arith in f)
      (fold_before levels (history_after setup h level) (es ++ events_at setup h level) (after_before h es level b))

  pub quanta_in_time : (levels : List Level) → Before (length levels) (staying_events setup levels)
  unfolding staying_events
  quanta_in_time levels =
      subst (λ n. Before n (fold (traced_after setup) (no_history, []) levels).1) (zero-add (length levels))
      (fold_before levels no_history [] (All-nil (λ (e : Noted). e.quantum < 0)))
