-- What rows keep is the state of its canonical records.
use Rattle.std.specs.Prelude.{◌≡◌, ℕ, suc, ◌+◌, ◌<◌, ◌==◌, not, Bool, true, false, cond, List, [], ◌∷◌, filter, refl, slice_index_or, All}
use Rattle.std.specs.List.{AllByRecursion, range_with_len}
use Rattle.std.specs.FinMap.{entries, entries-from_sorted}
use Rattle.std.proofs.Common.{sym, subst, arith}
use Rattle.std.proofs.lemmas.Bool.Decides.{nat_tests}
use Rattle.std.proofs.lemmas.List.Elements.{All-same}
use Rattle.wl_lattice.specs.declared.FlatWord.{FlatWord}
use Rattle.wl_lattice.specs.declared.FlatWord.TheVariants as flat
use Rattle.wl_lattice.specs.declared.MaxWord.{MaxWord}
use Rattle.wl_lattice.specs.Words.{max_word}
use Rattle.wl_replica.specs.Keys.{Key, key_cmp}
use Rattle.wl_replica.specs.State.{State, state_of, Fits, FitsEdge, FitsSilence, IsOfRecords}
use Rattle.wl_replica.specs.Canonical.{canonical}
use Rattle.wl_replica.specs.Dense.{holds_edge, holds_silence, row_number, slot_number, row_entries, rows_entries, shown_by_rows, AreRows}
use Rattle.wl_lattice.specs.Numbers.{number_word}
use Rattle.wl_replica.proofs.Shown.{sorted_filter}
use Rattle.wl_replica.proofs.CanonicalLemmas.{canonical_of_entries}
use Rattle.wl_replica.proofs.DenseLemmas.{rows_sorted}
use Rattle.wl_replica.proofs.TextLengths.{nodes_fit, stays_a_text}
use Rattle.wl_replica.proofs.RoundTrip.{IsHeld, state_from}

-- entries that hold something do, and what holds of those among all holds of them
held_filter : {W : Type 0} (holds : W → Bool) (es : List (Key × W)) → AllByRecursion (IsHeld holds) (filter (λ e. holds e.1) es)
held_filter holds [] = tt
held_filter {W} holds (e ∷ es) =
    elim (holds e.1) as (λ b. holds e.1 ≡ b → AllByRecursion (IsHeld holds) (cond b (e ∷ filter (λ f. holds f.1) es) (filter (λ f. holds f.1) es))) [
      | true ↦ λ is. (is, held_filter holds es)
      | false ↦ λ is. held_filter holds es
    ] refl

of_filter : {W : Type 0} (holds : W → Bool) (P Q : Key × W → Type 0) → ((e : Key × W) → holds e.1 ≡ true → P e → Q e)
    → (es : List (Key × W)) → AllByRecursion P es → AllByRecursion Q (filter (λ e. holds e.1) es)
of_filter holds P Q f [] h = tt
of_filter holds P Q f (e ∷ es) h =
    elim (holds e.1) as (λ b. holds e.1 ≡ b → AllByRecursion Q (cond b (e ∷ filter (λ g. holds g.1) es) (filter (λ g. holds g.1) es))) [
      | true ↦ λ is. (f e is h.0, of_filter holds P Q f es h.1)
      | false ↦ λ is. of_filter holds P Q f es h.1
    ] refl

edge_below : (nodes : ℕ) (e : Key × FlatWord) → holds_edge e.1 ≡ true → FitsEdge nodes e → e.0.0 < nodes
edge_below nodes (k, flat.Nothing) h fits = cc
edge_below nodes (k, flat.Value t) h fits = fits.0
edge_below nodes (k, flat.Clash) h fits = fits.0

silence_below : (nodes : ℕ) (e : Key × MaxWord) → holds_silence e.1 ≡ true → FitsSilence nodes e → e.0.0 < nodes
silence_below nodes e h fits = (fits (some_word e.1.word h)).0 where
  some_word : (n : ℕ) → not (n == 0) ≡ true → 0 < n
  some_word n h = grind (arith, nat_tests)

-- what holds of each word of rows holds of each entry
module _ {W : Type 0} (word : ℕ → W) (P : Key × W → Type 0) where
  row_have : (i n : ℕ) (row : List ℕ) (others : List (Key × W)) → ((m : ℕ) → P ((i, n + m), word (row_number row m))) → AllByRecursion P others → AllByRecursion P (row_entries word i n row others)
  row_have i n [] others each rest = rest
  row_have i n (a ∷ row) others each rest = (
    subst (λ k. P ((i, k), word a)) (let none : n + 0 ≡ n = omega arith in none) (each 0),
    row_have i (suc n) row others (λ m. subst (λ k. P ((i, k), word (row_number row m))) (let next : n + suc m ≡ suc n + m = omega arith in next) (each (suc m))) rest,
  )

  rows_have_each : (i : ℕ) (rows : List (List ℕ)) → ((j m : ℕ) → P ((i + j, m), word (row_number (slice_index_or rows j []) m))) → AllByRecursion P (rows_entries word i rows)
  rows_have_each i [] each = tt
  rows_have_each i (row ∷ rows) each =
      row_have i 0 row (rows_entries word (suc i) rows)
      (λ m. subst (λ j. P ((j, 0 + m), word (row_number row m))) (let none : i + 0 ≡ i = omega arith in none)
      (subst (λ k. P ((i + 0, k), word (row_number row m))) (let same : m ≡ 0 + m = omega arith in same) (each 0 m)))
      (rows_have_each (suc i) rows (λ j m. subst (λ k. P ((k, m), word (row_number (slice_index_or rows j []) m))) (let next : i + suc j ≡ suc i + j = omega arith in next) (each (suc j) m)))

  pub entries_have : (rows : List (List ℕ)) → ((k : Key) → P (k, word (slot_number rows k))) → AllByRecursion P (rows_entries word 0 rows)
  entries_have rows each = rows_have_each 0 rows (λ j m. subst (λ i. P ((i, m), word (row_number (slice_index_or rows j []) m))) (let same : j ≡ 0 + j = omega arith in same) (each (j, m)))

module _ (nodes : ℕ) (edges silences : List (List ℕ)) (h : AreRows nodes edges silences) where
  abbrev kept : State
  kept = shown_by_rows nodes edges silences

  listed_edges : entries kept.edges ≡ filter (λ f. holds_edge f.1) (rows_entries number_word 0 edges)
  listed_edges = entries-from_sorted key_cmp (filter (λ f. holds_edge f.1) (rows_entries number_word 0 edges)) (sorted_filter holds_edge (rows_entries number_word 0 edges) (rows_sorted number_word 0 edges))

  listed_silences : entries kept.silences ≡ filter (λ f. holds_silence f.1) (rows_entries max_word 0 silences)
  listed_silences = entries-from_sorted key_cmp (filter (λ f. holds_silence f.1) (rows_entries max_word 0 silences)) (sorted_filter holds_silence (rows_entries max_word 0 silences) (rows_sorted max_word 0 silences))

  edges_have : AllByRecursion (FitsEdge nodes) (rows_entries number_word 0 edges)
  edges_have = entries_have number_word (FitsEdge nodes) edges h.edges_fit

  silences_have : AllByRecursion (FitsSilence nodes) (rows_entries max_word 0 silences)
  silences_have = entries_have max_word (FitsSilence nodes) silences h.silences_fit

  kept_again : state_of nodes (canonical kept) ≡ kept
  kept_again =
      state_from kept
      (subst (AllByRecursion (IsHeld holds_edge)) (sym listed_edges) (held_filter holds_edge (rows_entries number_word 0 edges)))
      (subst (AllByRecursion (IsHeld holds_silence)) (sym listed_silences) (held_filter holds_silence (rows_entries max_word 0 silences)))
      (subst (AllByRecursion (λ (e : Key × FlatWord). e.0.0 < nodes)) (sym listed_edges)
      (of_filter holds_edge (FitsEdge nodes) (λ e. e.0.0 < nodes) (edge_below nodes) (rows_entries number_word 0 edges) edges_have))
      (subst (AllByRecursion (λ (e : Key × MaxWord). e.0.0 < nodes)) (sym listed_silences)
      (of_filter holds_silence (FitsSilence nodes) (λ e. e.0.0 < nodes) (silence_below nodes) (rows_entries max_word 0 silences) silences_have))

  pub canonical_fits : All (Fits nodes) (canonical kept)
  canonical_fits =
      All-same (Fits nodes) (canonical kept) _
      (sym (canonical_of_entries nodes (rows_entries number_word 0 edges) (rows_entries max_word 0 silences) (rows_sorted number_word 0 edges) (rows_sorted max_word 0 silences)))
      (nodes_fit (Fits nodes) (λ i s t h. (h.0, (h.1.0, h.1.1))) (rows_entries number_word 0 edges) (rows_entries max_word 0 silences) edges_have silences_have (range_with_len 0 nodes))

  pub of_records : (s : State) → ◌≡◌ {A = State} kept s → IsOfRecords s
  of_records s is = subst IsOfRecords is (canonical kept, canonical_fits, sym kept_again)

pub records_fit : (s : State) → IsOfRecords s → All (Fits s.nodes) (canonical s)
records_fit s h = subst (λ (t : State). All (Fits s.nodes) (canonical t)) (sym h.2) (stays_a_text.fits s.nodes h.0 h.1)
