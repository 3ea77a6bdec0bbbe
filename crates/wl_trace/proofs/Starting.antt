-- The quanta that begin a bit, one level more at a time.
use Rattle.std.proofs.Common.{◌≡◌, ◌∙◌, refl, ap, ℕ, List, [], ◌∷◌, ◌++◌, fold, length}
use Rattle.std.proofs.lemmas.List.Sums.{fold-append}
use Rattle.wl_level.specs.declared.Level.{Level}
use Rattle.wl_node.specs.declared.setup.NodeSetup.{NodeSetup}
use Rattle.wl_node.specs.History.{History, no_history, staying_history, history_after}
use Rattle.wl_trace.specs.Starts.{starts_next, staying_starts, started_after, with_start}

module _ (setup : NodeSetup) where
  fold_first : (levels : List Level) (h : History) (qs : List ℕ) → (fold (started_after setup) (h, qs) levels).0 ≡ fold (history_after setup) h levels
  fold_first [] h qs = refl
  fold_first (level ∷ levels) h qs = fold_first levels (history_after setup h level) (with_start qs (length h.seen) (starts_next setup h level))

  pub history_first : staying_history setup [] ≡ no_history
  unfolding staying_history
  history_first = refl

  pub starts_first : staying_starts setup [] ≡ []
  unfolding staying_starts
  starts_first = refl

  pub starts_more : (levels : List Level) (level : Level)
      → staying_starts setup (levels ++ level ∷ [])
      ≡ with_start (staying_starts setup levels) (length (staying_history setup levels).seen) (starts_next setup (staying_history setup levels) level)
  unfolding staying_starts staying_history
  starts_more levels level =
      ap (λ (r : History × List ℕ). r.1) (fold-append (started_after setup) (no_history, []) levels (level ∷ []))
      ∙ ap (λ (h : History). with_start (fold (started_after setup) (no_history, []) levels).1 (length h.seen) (starts_next setup h level)) (fold_first levels no_history [])
