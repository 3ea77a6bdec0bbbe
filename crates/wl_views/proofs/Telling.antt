-- The events of a simulation are at quanta that clocks know, and below the end.
use Rattle.std.proofs.Common.{◌≡◌, ◌∙◌, ap, arith, ℕ, zero, suc, ◌+◌, ◌<◌, ◌≤◌, List, [], ◌∷◌, ◌++◌, length, get_or, append-nil, zero-add}
use Rattle.std.specs.List.{All, flat_map, range_with_len}
use Rattle.std.proofs.lemmas.List.Concat.{flat_map-append}
use Rattle.std.proofs.lemmas.List.Elements.{All-append, All-nil, All-map}
use Rattle.wl_clock.specs.Timing.{tick_of}
use Rattle.wl_node.specs.Limits.{most_run_quanta}
use Rattle.wl_plan.specs.declared.plan.Plan.{Plan}
use Rattle.wl_plan.specs.PlanLine.{line_of, setup_at}
use Rattle.wl_plan.specs.Limits.{most_quanta}
use Rattle.wl_plan.specs.Simulation.{history}
use Rattle.wl_plan.specs.SimulationLaws.{SimulationLaws}
use Rattle.wl_plan.specs.Sound.{IsSound}
use Rattle.wl_trace.specs.declared.event.Noted.{Noted}
use Rattle.wl_trace.specs.Laws.{TraceLaws}
use Rattle.wl_views.specs.TraceText.{all_told, events_at_end, syncs_at_end, told_at_end, told_by}
use Rattle.wl_level.proofs.Callers.{range_more}
use Rattle.wl_views.proofs.InTime.{few, inside, within}

-- of each number
all_numbers : {A : Type 0} (P : A → Type 0) (f : ℕ → List A) (a n : ℕ) → ((i : ℕ) → i < a + n → All P (f i)) → All P (flat_map f (range_with_len a n))
all_numbers P f a zero each = All-nil P
all_numbers P f a (suc n) each = All-append P (f a) _ (each a (omega arith)) (all_numbers P f (a + 1) n (λ i b. each i (omega arith)))

-- one number more
pub one_more : {A : Type 0} (f : ℕ → List A) (i : ℕ) → flat_map f (range_with_len 0 (i + 1)) ≡ flat_map f (range_with_len 0 i) ++ f i
one_more f i =
    ap (flat_map f) (ap (range_with_len 0) {x = i + 1} {y = suc i} (omega arith) ∙ range_more 0 i ∙ ap (λ (m : ℕ). range_with_len 0 i ++ m ∷ []) (zero-add i))
    ∙ flat_map-append f (range_with_len 0 i) (i ∷ [])
    ∙ ap (λ zs. flat_map f (range_with_len 0 i) ++ zs) (append-nil (f i))

module _ (laws : SimulationLaws) (tells : TraceLaws) (plan : Plan) (sound : IsSound (line_of plan)) where
  -- quanta that have run, of node i
  abbrev Ran : (i : ℕ) (es : List Noted) → Type 0
  Ran i es = All (λ n. n.quantum < length ((history (line_of plan) plan.end).seen i)) es

  below : (i : ℕ) (es : List Noted) → i < length plan.nodes → Ran i es → All (λ n. tick_of (setup_at plan i).clock n.quantum < plan.end) es
  below i es b h = λ k d c. inside laws plan sound i (get_or es k d).quantum b (h k d c)

  known : (i : ℕ) (es : List Noted) → i < length plan.nodes → Ran i es → All (λ n. n.quantum ≤ most_run_quanta) es
  known i es b h = λ k d c.
      let q = (get_or es k d).quantum in
      let less : q < most_quanta = sound.few_quanta i q b (below i es b h k d c) in
      within q less few

  syncs_ran : (i : ℕ) → Ran i (syncs_at_end plan i)
  syncs_ran i = tells.sync_quanta (setup_at plan i) ((history (line_of plan) plan.end).seen i)

  events_ran : (i : ℕ) → Ran i (events_at_end plan i)
  events_ran i = tells.quanta (setup_at plan i) ((history (line_of plan) plan.end).seen i)

  pub syncs_known : (i : ℕ) → i < length plan.nodes → All (λ n. n.quantum ≤ most_run_quanta) (syncs_at_end plan i)
  syncs_known i b = known i (syncs_at_end plan i) b (syncs_ran i)

  pub events_known : (i : ℕ) → i < length plan.nodes → All (λ n. n.quantum ≤ most_run_quanta) (events_at_end plan i)
  events_known i b = known i (events_at_end plan i) b (events_ran i)

  abbrev Below : ℕ × (ℕ × Noted) → Type 0
  Below s = s.0 < plan.end

  told_by_below : (i : ℕ) (es : List Noted) → i < length plan.nodes → Ran i es → All Below (told_by (setup_at plan i).clock i es)
  told_by_below i es b h = All-map Below (λ n. (tick_of (setup_at plan i).clock n.quantum, (i, n))) es (below i es b h)

  node_below : (i : ℕ) → i < length plan.nodes → All Below (told_at_end plan i)
  node_below i b =
      All-append Below (told_by (setup_at plan i).clock i (syncs_at_end plan i)) (told_by (setup_at plan i).clock i (events_at_end plan i))
      (told_by_below i (syncs_at_end plan i) b (syncs_ran i)) (told_by_below i (events_at_end plan i) b (events_ran i))

  pub told_below : All Below (all_told plan)
  told_below = all_numbers Below (told_at_end plan) 0 (length plan.nodes) (λ i b. node_below i (let c : i < length plan.nodes = omega arith in c))
