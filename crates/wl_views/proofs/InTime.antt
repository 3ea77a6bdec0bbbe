-- The frames of a history were completed at quanta that have run, and those of an outcome below the end.
use Rattle.std.proofs.Common.{◌≡◌, sym, subst, arith, ℕ, zero, suc, ◌+◌, ◌<◌, ◌≤◌, List, [], ◌∷◌, length, map, fold, zero-add, add-zero, get_or}
use Rattle.std.specs.List.{All, filter, flat_map, range_with_len, enumerate_from}
use Rattle.std.proofs.lemmas.List.Elements.{All-append, All-cons, All-nil, All-map, All-filter}
use Rattle.std.proofs.lemmas.List.FromFn.{length-map-range_with_len}
use Rattle.std.proofs.lemmas.Simd.{map-map}
use Rattle.wl_level.specs.declared.Level.{Level}
use Rattle.wl_sync.specs.declared.Beat.{Beat}
use Rattle.wl_sync.specs.declared.Beat.TheVariants as beats
use Rattle.wl_sync.specs.Bits.{beat_of}
use Rattle.wl_clock.specs.Timing.{tick_of}
use Rattle.wl_frame.specs.Grammar.{Content}
use Rattle.wl_machine.specs.Stretch.{Ended}
use Rattle.wl_machine.specs.Stretch.Ended.{NoFrame, Sent, Received}
use Rattle.wl_machine.specs.Judged.{judged, stretch_of}
use Rattle.wl_node.specs.declared.setup.NodeSetup.{NodeSetup}
use Rattle.wl_node.specs.declared.setup.Passed.{Passed}
use Rattle.wl_node.specs.History.{History, history_of, staying_history, levels_there, history_after, no_history, by_beat, passed_frames, sampled_next, seen_next, is_sent}
use Rattle.wl_node.specs.Limits.{most_run_quanta}
use Rattle.wl_node.proofs.Callers.{same_past, there_and_away}
use Rattle.wl_serial.proofs.Callers.{all_below}
use Rattle.wl_plan.specs.declared.plan.Plan.{Plan}
use Rattle.wl_plan.specs.PlanLine.{line_of, setup_at}
use Rattle.wl_plan.specs.Limits.{most_quanta, most_quanta-is}
use Rattle.wl_plan.specs.Simulation.{history, ran}
use Rattle.wl_plan.specs.SimulationLaws.{SimulationLaws}
use Rattle.wl_plan.specs.Sound.{IsSound}
use Rattle.wl_serial.specs.declared.outcome.NodeTotals.{NodeTotals}
use Rattle.wl_serial.specs.Outcome.{node_outcome_of, node_totals, outcome_of, totals_of}
use Rattle.wl_trace.proofs.Callers.{one_more}
use Rattle.wl_views.specs.SentFrames.{AreInTime, sent_by}

-- each of these frames was completed before quantum n
abbrev Before : ℕ → List Passed → Type 0
Before n frames = All (λ p. p.quantum < n) frames

later : (n : ℕ) (frames : List Passed) → Before n frames → Before (suc n) frames
later n frames h = λ k d b. let q = h k d b in omega arith

passed_before : (n : ℕ) (ended : Ended) → Before (suc n) (passed_frames n ended)
passed_before n NoFrame = All-nil (λ p. p.quantum < suc n)
passed_before n (Sent frame) = All-cons (λ p. p.quantum < suc n) _ [] (omega arith) (All-nil (λ p. p.quantum < suc n))
passed_before n (Received frame) = All-cons (λ p. p.quantum < suc n) _ [] (omega arith) (All-nil (λ p. p.quantum < suc n))

module _ (setup : NodeSetup) where
  by_beat_before : (h : History) (level : Level) (beat : Beat) → Before (length h.seen) h.frames
      → Before (suc (length h.seen)) (by_beat setup h level beat).frames
  by_beat_before h level beats.Plain b = later (length h.seen) h.frames b
  by_beat_before h level beats.Start b = later (length h.seen) h.frames b
  by_beat_before h level (beats.Sample _) b =
      All-append (λ p. p.quantum < suc (length h.seen)) h.frames (passed_frames (length h.seen) (judged (stretch_of h.inputs) (sampled_next setup h level)).ended)
      (later (length h.seen) h.frames b) (passed_before (length h.seen) (judged (stretch_of h.inputs) (sampled_next setup h level)).ended)

  after_before : (h : History) (level : Level) → Before (length h.seen) h.frames
      → Before (length (history_after setup h level).seen) (history_after setup h level).frames
  after_before h level b =
      subst (λ n. Before n (history_after setup h level).frames) (sym (one_more setup h level))
      (by_beat_before h level (beat_of setup.segments h.seen (seen_next h level)) b)

  fold_before : (levels : List Level) (h : History) → Before (length h.seen) h.frames
      → Before (length h.seen + length levels) (fold (history_after setup) h levels).frames
  fold_before [] h b = subst (λ n. Before n h.frames) (sym (add-zero (length h.seen))) b
  fold_before (level ∷ levels) h b =
      subst (λ n. Before n (fold (history_after setup) h (level ∷ levels)).frames)
      (let e = one_more setup h level in let f : length (history_after setup h level).seen + length levels ≡ length h.seen + suc (length levels) = omega arith in f)
      (fold_before levels (history_after setup h level) (after_before h level b))

  stays_before : (levels : List Level) → Before (length levels) (staying_history setup levels).frames
  unfolding staying_history
  stays_before levels =
      subst (λ n. Before n (fold (history_after setup) no_history levels).frames) (zero-add (length levels))
      (fold_before levels no_history (All-nil (λ p. p.quantum < 0)))

  -- those of a node that left are among the quanta before that
  frames_before : (levels : List Level) → Before (length levels) (history_of setup levels).frames
  frames_before levels =
      subst (Before (length levels)) (sym (same_past setup levels).frames)
      (λ k d b.
      let q = stays_before (levels_there setup.until levels) k d b in
      let few = there_and_away setup.until levels in
      omega arith)

-- of each entry, node by node
all_entries : (P : ℕ × Content → Type 0) (F : ℕ → NodeTotals → List (ℕ × Content)) (f : ℕ → NodeTotals) (a n : ℕ)
    → ((i : ℕ) → i < a + n → All P (F i (f i)))
    → All P (flat_map (λ m. F m.0 m.1) (enumerate_from a (map f (range_with_len a n))))
all_entries P F f a zero each = All-nil P
all_entries P F f a (suc n) each =
    All-append P (F a (f a)) _ (each a (omega arith)) (all_entries P F f (a + 1) n (λ i b. each i (omega arith)))

pub few : most_quanta ≤ most_run_quanta
few = omega (arith, most_quanta-is)

pub within : (q : ℕ) {m n : ℕ} → q < m → m ≤ n → q ≤ n
within q {m} {n} h g = omega arith

module _ (laws : SimulationLaws) (plan : Plan) (sound : IsSound (line_of plan)) where
  -- a quantum that a node has run at the end began below it
  pub inside : (i q : ℕ) → i < length plan.nodes → q < ran (line_of plan) i plan.end → tick_of (setup_at plan i).clock q < plan.end
  inside i q b h = laws.ran_inside (line_of plan) i plan.end sound.causal b q h

  -- and so each frame of its was completed at such a quantum
  pub frames_ran : (i : ℕ) → Before (ran (line_of plan) i plan.end) (node_outcome_of plan i).frames
  frames_ran i = frames_before (setup_at plan i) ((history (line_of plan) plan.end).seen i)

  known : (i : ℕ) → i < length plan.nodes → All (λ p. p.quantum ≤ most_run_quanta) (node_outcome_of plan i).frames
  known i b = λ k d c.
      let q = (get_or (node_outcome_of plan i).frames k d).quantum in
      let less : q < most_quanta = sound.few_quanta i q b (inside i q b (frames_ran i k d c)) in
      within q less few

  sent_inside : (i : ℕ) → i < length plan.nodes
      → All (λ s. s.0 < plan.end) (sent_by (setup_at plan i).clock (node_outcome_of plan i).frames)
  sent_inside i b =
      All-map (λ (s : ℕ × Content). s.0 < plan.end) (λ p. (tick_of (setup_at plan i).clock p.quantum, p.frame)) (filter is_sent (node_outcome_of plan i).frames)
      (All-filter is_sent (λ p. tick_of (setup_at plan i).clock p.quantum < plan.end) (node_outcome_of plan i).frames
      (λ k d c. inside i (get_or (node_outcome_of plan i).frames k d).quantum b (frames_ran i k d c)))

  numbered : AreInTime plan (map (λ i. node_totals (node_outcome_of plan i)) (range_with_len 0 (length plan.nodes)))
  numbered = record {
    nodes = length-map-range_with_len (λ i. node_totals (node_outcome_of plan i)) 0 (length plan.nodes);
    quanta =
        All-map (λ node. All (λ p. p.quantum ≤ most_run_quanta) node.frames) (λ i. node_totals (node_outcome_of plan i)) (range_with_len 0 (length plan.nodes))
        (all_below (λ i. All (λ p. p.quantum ≤ most_run_quanta) (node_outcome_of plan i).frames) (length plan.nodes) known);
    ended = all_entries (λ s. s.0 < plan.end) (λ i node. sent_by (setup_at plan i).clock node.frames) (λ i. node_totals (node_outcome_of plan i)) 0 (length plan.nodes)
        (λ i b. sent_inside i (let c : i < length plan.nodes = omega arith in c));
  }

  pub in_time : AreInTime plan (totals_of (outcome_of plan))
  in_time = subst (AreInTime plan) (sym (map-map node_totals (node_outcome_of plan) (range_with_len 0 (length plan.nodes)))) numbered
