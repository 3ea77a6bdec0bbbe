-- What the synchronisations of a history say of it, and how the counts of a node tell them.
use Rattle.std.proofs.Common.{◌≡◌, ◌∙◌, refl, sym, ap, subst, arith, ℕ, ℤ, suc, ◌+◌, ◌<◌, cond, List, [], ◌∷◌, ◌++◌, length, fold, append-nil, Option, Some, None, option_map, zero-add, add-zero}
use Rattle.std.specs.Prelude.{count_by}
use Rattle.std.specs.List.{All, flat_map}
use Rattle.std.proofs.lemmas.List.{length-append}
use Rattle.std.proofs.lemmas.List.Elements.{All-append, All-cons, All-nil}
use Rattle.std.proofs.lemmas.List.Sums.{fold-append, sum_by-append}
use Rattle.std.proofs.lemmas.List.Concat.{flat_map-append}
use Rattle.wl_level.specs.declared.Level.{Level}
use Rattle.wl_sync.specs.declared.Sync.{Sync}
use Rattle.wl_sync.specs.declared.Sync.TheVariants.{Hard, Error}
use Rattle.wl_sync.specs.Bits.{sync_of}
use Rattle.wl_node.specs.declared.setup.NodeSetup.{NodeSetup}
use Rattle.wl_node.specs.History.{History, no_history, staying_history, history_after, seen_next, syncs_at, is_hard, phase_of, hards_of, phases_of}
use Rattle.wl_trace.specs.declared.event.NodeEvent.TheVariants as events
use Rattle.wl_trace.specs.declared.event.Noted.{Noted}
use Rattle.wl_trace.specs.Events.{noted}
use Rattle.wl_trace.specs.Synced.{sync_event, sync_next, with_next, synced_after, staying_syncs}
use Rattle.wl_trace.specs.Laws.{tells_hard, told_phases}

hards_in : List (ℕ × Sync) → ℕ
hards_in syncs = count_by is_hard syncs

-- the events say this of the history
record IsSynced (h : History) (es : List Noted) : Type 0 where
  hards : count_by tells_hard es ≡ hards_of h
  phases : flat_map told_phases es ≡ phases_of h
  quanta : All (λ e. e.quantum < length h.seen) es

-- what one synchronisation adds, or none
hards_next : (es : List Noted) (quantum bit : ℕ) (o : Option Sync)
    → count_by tells_hard (with_next es (option_map (λ sync. noted quantum bit (sync_event sync)) o)) ≡ count_by tells_hard es + count_by is_hard (syncs_at quantum o)
hards_next es quantum bit None = sym (add-zero (count_by tells_hard es))
hards_next es quantum bit (Some Hard) = sum_by-append (λ n. cond (tells_hard n) 1 0) es (noted quantum bit events.HardSynchronised ∷ [])
hards_next es quantum bit (Some (Error e)) = sum_by-append (λ n. cond (tells_hard n) 1 0) es (noted quantum bit (events.Resynchronised e) ∷ [])

phases_next : (es : List Noted) (quantum bit : ℕ) (o : Option Sync)
    → flat_map told_phases (with_next es (option_map (λ sync. noted quantum bit (sync_event sync)) o)) ≡ flat_map told_phases es ++ flat_map phase_of (syncs_at quantum o)
phases_next es quantum bit None = sym (append-nil (flat_map told_phases es))
phases_next es quantum bit (Some Hard) = flat_map-append told_phases es (noted quantum bit events.HardSynchronised ∷ [])
phases_next es quantum bit (Some (Error e)) = flat_map-append told_phases es (noted quantum bit (events.Resynchronised e) ∷ [])

later : (n : ℕ) (es : List Noted) → All (λ e. e.quantum < n) es → All (λ e. e.quantum < suc n) es
later n es h = λ k d b. let q = h k d b in omega arith

quanta_next : (es : List Noted) (quantum bit : ℕ) (o : Option Sync) → All (λ e. e.quantum < quantum) es
    → All (λ e. e.quantum < suc quantum) (with_next es (option_map (λ sync. noted quantum bit (sync_event sync)) o))
quanta_next es quantum bit None h = later quantum es h
quanta_next es quantum bit (Some sync) h =
    All-append (λ (e : Noted). e.quantum < suc quantum) es (noted quantum bit (sync_event sync) ∷ []) (later quantum es h)
    (All-cons (λ (e : Noted). e.quantum < suc quantum) (noted quantum bit (sync_event sync)) [] (omega arith) (All-nil (λ (e : Noted). e.quantum < suc quantum)))

module _ (setup : NodeSetup) where
  abbrev sync_then : History → Level → Option Sync
  sync_then h level = sync_of setup.segments h.seen (seen_next h level)

  hards_after : (h : History) (level : Level) → hards_of (history_after setup h level) ≡ hards_of h + count_by is_hard (syncs_at (length h.seen) (sync_then h level))
  hards_after h level = sum_by-append (λ s. cond (is_hard s) 1 0) h.syncs (syncs_at (length h.seen) (sync_then h level))

  phases_after : (h : History) (level : Level) → phases_of (history_after setup h level) ≡ phases_of h ++ flat_map phase_of (syncs_at (length h.seen) (sync_then h level))
  phases_after h level = flat_map-append phase_of h.syncs (syncs_at (length h.seen) (sync_then h level))

  pub one_more : (h : History) (level : Level) → length (history_after setup h level).seen ≡ suc (length h.seen)
  one_more h level = length-append h.seen (seen_next h level ∷ []) ∙ (let e : length h.seen + 1 ≡ suc (length h.seen) = omega arith in e)

  synced_next : (h : History) (es : List Noted) (level : Level) → IsSynced h es → IsSynced (history_after setup h level) (with_next es (sync_next setup h level))
  synced_next h es level s = record {
    hards =
        hards_next es (length h.seen) (length h.samples) (sync_then h level)
        ∙ ap (λ (n : ℕ). n + count_by is_hard (syncs_at (length h.seen) (sync_then h level))) s.hards ∙ sym (hards_after h level);
    phases =
        phases_next es (length h.seen) (length h.samples) (sync_then h level)
        ∙ ap (λ (ps : List (ℕ × ℤ)). ps ++ flat_map phase_of (syncs_at (length h.seen) (sync_then h level))) s.phases ∙ sym (phases_after h level);
    quanta =
        subst (λ n. All (λ (e : Noted). e.quantum < n) (with_next es (sync_next setup h level))) (sym (one_more h level))
        (quanta_next es (length h.seen) (length h.samples) (sync_then h level) s.quanta);
  }

  synced_fold : (levels : List Level) (h : History) (es : List Noted) → IsSynced h es
      → IsSynced (fold (history_after setup) h levels) (fold (synced_after setup) (h, es) levels).1
  synced_fold [] h es s = s
  synced_fold (level ∷ levels) h es s = synced_fold levels (history_after setup h level) (with_next es (sync_next setup h level)) (synced_next h es level s)

  synced : (levels : List Level) → IsSynced (staying_history setup levels) (staying_syncs setup levels)
  unfolding staying_history staying_syncs
  synced levels = synced_fold levels no_history [] (record { hards = refl; phases = refl; quanta = All-nil (λ (e : Noted). e.quantum < 0) })

  seen_fold : (levels : List Level) (h : History) → length (fold (history_after setup) h levels).seen ≡ length h.seen + length levels
  seen_fold [] h = sym (add-zero (length h.seen))
  seen_fold (level ∷ levels) h =
      seen_fold levels (history_after setup h level)
      ∙ (let e = one_more h level in let f : length (history_after setup h level).seen + length levels ≡ length h.seen + suc (length levels) = omega arith in f)

  -- each level was seen
  pub all_seen : (levels : List Level) → length (staying_history setup levels).seen ≡ length levels
  unfolding staying_history
  all_seen levels = seen_fold levels no_history ∙ zero-add (length levels)

  pub history_more : (levels : List Level) (level : Level) → staying_history setup (levels ++ level ∷ []) ≡ history_after setup (staying_history setup levels) level
  unfolding staying_history
  history_more levels level = fold-append (history_after setup) no_history levels (level ∷ [])

  fold_first : (levels : List Level) (h : History) (es : List Noted) → (fold (synced_after setup) (h, es) levels).0 ≡ fold (history_after setup) h levels
  fold_first [] h es = refl
  fold_first (level ∷ levels) h es = fold_first levels (history_after setup h level) (with_next es (sync_next setup h level))

  pub syncs_first : staying_syncs setup [] ≡ []
  unfolding staying_syncs
  syncs_first = refl

  pub syncs_more : (levels : List Level) (level : Level)
      → staying_syncs setup (levels ++ level ∷ []) ≡ with_next (staying_syncs setup levels) (sync_next setup (staying_history setup levels) level)
  unfolding staying_syncs staying_history
  syncs_more levels level =
      ap (λ (r : History × List Noted). r.1) (fold-append (synced_after setup) (no_history, []) levels (level ∷ []))
      ∙ ap (λ (h : History). with_next (fold (synced_after setup) (no_history, []) levels).1 (sync_next setup h level)) (fold_first levels no_history [])

pub hards_told : (setup : NodeSetup) (levels : List Level) → count_by tells_hard (staying_syncs setup levels) ≡ hards_of (staying_history setup levels)
hards_told setup levels = (synced setup levels).hards

pub phases_told : (setup : NodeSetup) (levels : List Level) → flat_map told_phases (staying_syncs setup levels) ≡ phases_of (staying_history setup levels)
phases_told setup levels = (synced setup levels).phases

pub sync_quanta_in_time : (setup : NodeSetup) (levels : List Level) → All (λ n. n.quantum < length levels) (staying_syncs setup levels)
sync_quanta_in_time setup levels = subst (λ n. All (λ (e : Noted). e.quantum < n) (staying_syncs setup levels)) (all_seen setup levels) (synced setup levels).quanta
