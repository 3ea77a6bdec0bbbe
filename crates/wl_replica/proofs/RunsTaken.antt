-- The runs that a replica keeps, after a record was taken into its rows.
use Rattle.std.proofs.Common.{◌≡◌, ℕ, ◌<◌, List, [], length, slice_index_or, refl, sym, ap, subst, ◌∙◌, arith}
use Rattle.wl_lattice.specs.declared.FlatWord.{FlatWord}
use Rattle.wl_record_core.specs.declared.record.Record.{Record}
use Rattle.wl_record_core.specs.Slots.{node_of}
use Rattle.wl_replica.specs.declared.known_run.KnownRun.{KnownRun}
use Rattle.wl_replica.specs.declared.known_run.TheConstants.{NOTHING}
use Rattle.wl_lattice.specs.declared.FlatWord.TheVariants as flat
use Rattle.wl_replica.specs.Known.{is_tick}
use Rattle.std.proofs.lemmas.Bool.{false≢true}
use Rattle.wl_replica.specs.Slots.{Contents}
use Rattle.wl_replica.specs.State.{State, state_of, state_with_record, states_joined, slots_of, edge_at, silence_at, Fits}
use Rattle.wl_replica.specs.Runs.{IsRunOf, WasRunBefore, AreInLimits, AreRuns}
use Rattle.wl_replica.proofs.RunLemmas.{after, was_before, runs_after, limits_joined}
use Rattle.wl_replica.proofs.SlotsOfProofs.{slots_of-taken, slots_of-joined, slots_of-records}

module _ (s t : State) (r : Record) (is : t ≡ state_with_record s r) (runs : List KnownRun) (h : AreRuns s.nodes (slots_of s) runs) (fits : Fits s.nodes r)
    (node : ℕ) (at : node ≡ node_of r) (e : ℕ → FlatWord) (u : ℕ → ℕ) (p : (n : ℕ) → e n ≡ edge_at t (node, n)) (q : (n : ℕ) → u n ≡ (silence_at t (node, n)).word) where
  slots_are : slots_of t ≡ after (slots_of s) r
  slots_are = ap slots_of is ∙ slots_of-taken s r

  edges_are : e ≡ (after (slots_of s) r).edge (node_of r)
  edges_are = (λ i n. p n i) ∙ ((λ i. (slots_of t).edge (at i)) ∙ (λ i. (slots_are i).edge (node_of r)))

  silences_are : u ≡ (after (slots_of s) r).silence (node_of r)
  silences_are = (λ i n. q n i) ∙ ((λ i. (slots_of t).silence (at i)) ∙ (λ i. (slots_are i).silence (node_of r)))

  pub was_run : (d : KnownRun) → WasRunBefore r e u (slice_index_or runs (node_of r) d)
  was_run d =
      let k = slice_index_or runs (node_of r) d in
      subst (λ (f : ℕ → FlatWord). WasRunBefore r f u k) (sym edges_are)
      (subst (λ (g : ℕ → ℕ). WasRunBefore r ((after (slots_of s) r).edge (node_of r)) g k) (sym silences_are) (was_before (slots_of s) r k (h.known (node_of r) d fits.0)))

  pub runs_now : (new : List KnownRun) → length new ≡ length runs → ((d : KnownRun) → IsRunOf e u (slice_index_or new (node_of r) d))
      → ((i : ℕ) (d : KnownRun) → ¬ (i ≡ node_of r) → slice_index_or new i d ≡ slice_index_or runs i d) → AreRuns t.nodes (slots_of t) new
  runs_now new count own others =
      subst (λ n. AreRuns n (slots_of t) new) (sym (ap (λ (x : State). x.nodes) is))
      (subst (λ (w : Contents). AreRuns s.nodes w new) (sym slots_are)
      (runs_after (slots_of s) r s.nodes runs new e u h fits.1 count edges_are silences_are own others))

pub joined_limits : (s u t : State) → t ≡ states_joined s u → AreInLimits (slots_of s) → AreInLimits (slots_of u) → AreInLimits (slots_of t)
joined_limits s u t is h k = subst AreInLimits (sym (ap slots_of is ∙ slots_of-joined s u)) (limits_joined (slots_of s) (slots_of u) h k)

-- a state of which nothing came
pub nothing_runs : (nodes : ℕ) (s : State) → s ≡ state_of nodes [] → (runs : List KnownRun) → length runs ≡ nodes
    → ((i : ℕ) (d : KnownRun) → i < nodes → slice_index_or runs i d ≡ NOTHING) → AreRuns s.nodes (slots_of s) runs
nothing_runs nodes s is runs count each =
    subst (λ (t : State). AreRuns t.nodes (slots_of t) runs) (sym is)
    (subst (λ (w : Contents). AreRuns nodes w runs) (sym (slots_of-records nodes [])) (record {
      count = count;
      known = λ i d lt. subst (λ (k : KnownRun). IsRunOf (λ n. flat.Nothing) (λ n. 0) k) (sym (each i d lt)) (record { few = omega arith; run = refl; stops = refl; end = refl; horizon = refl });
      limits = record { edges = λ i n t h. absurd (false≢true (ap is_tick h)); silences = λ i n. omega arith };
    }))
