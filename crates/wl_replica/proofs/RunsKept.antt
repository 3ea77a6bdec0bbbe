-- The runs that a replica keeps, and what they show.
use Rattle.std.proofs.Common.{◌≡◌, ℕ, ◌<◌, ◌≤◌, List, slice_index_or, sym, ap, subst, ◌∙◌, arith}
use Rattle.std.specs.Prelude.{IfSome}
use Rattle.wl_intervals.specs.Pairs.{last_end}
use Rattle.wl_lattice.specs.declared.FlatWord.{FlatWord}
use Rattle.wl_record_core.specs.Limits.{tick_end}
use Rattle.wl_replica.specs.declared.known_run.KnownRun.{KnownRun}
use Rattle.wl_replica.specs.Slots.{Contents}
use Rattle.wl_replica.specs.Known.{after_edges, known_by, ticks, intervals, run_length, horizon, wave}
use Rattle.wl_replica.specs.Runs.{IsRunOf, IsRunOfEdges, AreInLimits, AreRuns}
use Rattle.wl_replica.proofs.ChangesStand.{wave_within, end_within}
use Rattle.wl_replica.proofs.RunLemmas.{run_length_is, horizon_is}

-- the words of a node have the run, by whatever name
pub run_by : (w : Contents) (i : ℕ) (e : ℕ → FlatWord) (s : ℕ → ℕ) (k : KnownRun) → ((n : ℕ) → e n ≡ w.edge i n) → ((n : ℕ) → s n ≡ w.silence i n) → IsRunOf e s k → IsRunOf (w.edge i) (w.silence i) k
run_by w i e s k p q h =
    subst (λ (f : ℕ → FlatWord). IsRunOf f (w.silence i) k) (λ j n. p n j) (subst (λ (g : ℕ → ℕ). IsRunOf e g k) (λ j n. q n j) h)

module _ (w : Contents) (nodes : ℕ) (runs : List KnownRun) (h : AreRuns nodes w runs) where
  -- the run of a node
  pub run_held : (node : ℕ) (k : KnownRun) → k ≡ slice_index_or runs node k → node < nodes → IsRunOf (w.edge node) (w.silence node) k
  run_held node k at lt = subst (λ (x : KnownRun). IsRunOf (w.edge node) (w.silence node) x) (sym at) (h.known node k lt)

module _ (w : Contents) (node : ℕ) (k : KnownRun) (run : IsRunOf (w.edge node) (w.silence node) k) where
  pub length_told : k.run.length ≡ run_length w node
  length_told = run_length_is (w.edge node) (w.silence node) k run

  pub horizon_told : k.horizon ≡ horizon w node
  horizon_told = horizon_is (w.edge node) (w.silence node) k run ∙ ap (known_by (w.edge node) (w.silence node)) length_told

  pub end_told : k.run.end ≡ after_edges (w.edge node) (run_length w node)
  end_told = run.end ∙ ap (after_edges (w.edge node)) length_told

  pub wave_told : intervals (ticks (w.edge node) k.run.length) k.horizon ≡ wave w node
  wave_told = λ i. intervals (ticks (w.edge node) (length_told i)) (horizon_told i)

  module _ (limits : AreInLimits w) where
    pub horizon_early : k.horizon ≤ tick_end
    horizon_early = omega (arith, run.horizon, run.end, end_within (w.edge node) k.run.length (limits.edges node), limits.silences node k.run.length)

    pub end_early : k.run.end ≤ tick_end
    end_early = omega (arith, run.end, end_within (w.edge node) k.run.length (limits.edges node))

    pub wave_early : IfSome (last_end (intervals (ticks (w.edge node) k.run.length) k.horizon)) (λ end. end ≤ tick_end)
    wave_early = wave_within (w.edge node) k.run.length k.horizon (limits.edges node) horizon_early

  -- the same, of the numbers of a row
  module _ (e : ℕ → FlatWord) (is : (n : ℕ) → e n ≡ w.edge node n) where
    pub run_read : IsRunOfEdges e k
    run_read = (w.silence node, subst (λ (f : ℕ → FlatWord). IsRunOf f (w.silence node) k) (λ j n. sym (is n) j) run)

    pub wave_read : intervals (ticks e k.run.length) k.horizon ≡ wave w node
    wave_read = (λ j. intervals (ticks (λ n. is n j) k.run.length) k.horizon) ∙ wave_told
