-- The quanta that clocks know of the nodes of an outcome.
use Rattle.std.proofs.Common.{◌≡◌, sym, subst, arith, ℕ, suc, ◌+◌, ◌<◌, List, [], ◌∷◌, length, fold, zero-add, add-zero, get_or}
use Rattle.std.specs.List.{All}
use Rattle.std.proofs.lemmas.List.Elements.{All-append, All-cons, All-nil}
use Rattle.wl_level.specs.declared.Level.{Level}
use Rattle.wl_sync.specs.declared.Beat.{Beat}
use Rattle.wl_sync.specs.declared.Beat.TheVariants as beats
use Rattle.wl_sync.specs.Bits.{beat_of}
use Rattle.wl_clock.specs.Timing.{tick_of}
use Rattle.wl_node.specs.declared.setup.NodeSetup.{NodeSetup}
use Rattle.wl_node.specs.History.{History, history_of, staying_history, levels_there, history_after, no_history, by_beat, seen_next}
use Rattle.wl_node.proofs.Callers.{same_past, there_and_away}
use Rattle.wl_plan.specs.declared.plan.Plan.{Plan}
use Rattle.wl_plan.specs.PlanLine.{line_of, setup_at}
use Rattle.wl_plan.specs.Limits.{latest_end, most_quanta}
use Rattle.wl_plan.specs.Simulation.{history, ran}
use Rattle.wl_plan.specs.SimulationLaws.{SimulationLaws}
use Rattle.wl_plan.specs.Checked.{IsChecked}
use Rattle.wl_plan.specs.Sound.{IsSound}
use Rattle.wl_serial.specs.Outcome.{node_outcome_of}
use Rattle.wl_trace.proofs.Callers.{one_more}
use Rattle.wl_views.proofs.Callers.{few, within}
use Rattle.wl_traffic.specs.Known.{AreKnown}

-- each of these samples was before quantum n
abbrev Before : ℕ → List (ℕ × Level) → Type 0
Before n samples = All (λ s. s.0 < n) samples

later : (n : ℕ) (samples : List (ℕ × Level)) → Before n samples → Before (suc n) samples
later n samples h = λ k d b. let q = h k d b in omega arith

module _ (setup : NodeSetup) where
  by_beat_before : (h : History) (level : Level) (beat : Beat) → Before (length h.seen) h.samples
      → Before (suc (length h.seen)) (by_beat setup h level beat).samples
  by_beat_before h level beats.Plain b = later (length h.seen) h.samples b
  by_beat_before h level beats.Start b = later (length h.seen) h.samples b
  by_beat_before h level (beats.Sample _) b =
      All-append (λ s. s.0 < suc (length h.seen)) h.samples ((length h.seen, level) ∷ []) (later (length h.seen) h.samples b)
      (All-cons (λ s. s.0 < suc (length h.seen)) (length h.seen, level) [] (omega arith) (All-nil (λ s. s.0 < suc (length h.seen))))

  after_before : (h : History) (level : Level) → Before (length h.seen) h.samples
      → Before (length (history_after setup h level).seen) (history_after setup h level).samples
  after_before h level b =
      subst (λ n. Before n (history_after setup h level).samples) (sym (one_more setup h level))
      (by_beat_before h level (beat_of setup.segments h.seen (seen_next h level)) b)

  fold_before : (levels : List Level) (h : History) → Before (length h.seen) h.samples
      → Before (length h.seen + length levels) (fold (history_after setup) h levels).samples
  fold_before [] h b = subst (λ n. Before n h.samples) (sym (add-zero (length h.seen))) b
  fold_before (level ∷ levels) h b =
      subst (λ n. Before n (fold (history_after setup) h (level ∷ levels)).samples)
      (let e = one_more setup h level in let f : length (history_after setup h level).seen + length levels ≡ length h.seen + suc (length levels) = omega arith in f)
      (fold_before levels (history_after setup h level) (after_before h level b))

  stays_before : (levels : List Level) → Before (length levels) (staying_history setup levels).samples
  unfolding staying_history
  stays_before levels =
      subst (λ n. Before n (fold (history_after setup) no_history levels).samples) (zero-add (length levels))
      (fold_before levels no_history (All-nil (λ s. s.0 < 0)))

  -- those of a node that left are among the quanta before that
  samples_before : (levels : List Level) → Before (length levels) (history_of setup levels).samples
  samples_before levels =
      subst (Before (length levels)) (sym (same_past setup levels).samples)
      (λ k d b.
      let q = stays_before (levels_there setup.until levels) k d b in
      let few = there_and_away setup.until levels in
      omega arith)

module _ (plan : Plan) (checked : IsChecked plan) (sound : IsSound (line_of plan)) (laws : SimulationLaws) (i : ℕ) (b : i < length plan.nodes) where
  samples_ran : Before (ran (line_of plan) i plan.end) (node_outcome_of plan i).samples
  samples_ran = samples_before (setup_at plan i) ((history (line_of plan) plan.end).seen i)

  pub known : AreKnown (setup_at plan i).clock (node_outcome_of plan i)
  known = record {
    samples = λ k d c.
        let q : ℕ = (get_or (node_outcome_of plan i).samples k d).0 in
        let early : tick_of (setup_at plan i).clock q < plan.end = laws.ran_inside (line_of plan) i plan.end sound.causal b q (samples_ran k d c) in
        let less : q < most_quanta = sound.few_quanta i q b early in
        within q less few;
    soon = λ k d c.
        let q : ℕ = (get_or (node_outcome_of plan i).samples k d).0 in
        let early : tick_of (setup_at plan i).clock q < plan.end = laws.ran_inside (line_of plan) i plan.end sound.causal b q (samples_ran k d c) in
        let soon : tick_of (setup_at plan i).clock q < latest_end = omega (arith, checked.ends) in
        soon;
  }
