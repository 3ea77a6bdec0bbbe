-- What records add to a sink, number by number and node by node.
use Rattle.std.proofs.Common.{◌≡◌, ◌∙◌, ap, sym, refl, arith, ℕ, suc, ◌+◌, ◌-◌, ◌<◌, ◌≤◌, List, [], ◌∷◌, ◌++◌, length, drop, Option, None, Some}
use Rattle.std.specs.Prelude.{slice_index_or}
use Rattle.std.specs.List.{filter_map, flat_map, cons_option, range_with_len}
use Rattle.std.proofs.lemmas.List.{append_assoc, append-nil, drop_all}
use Rattle.std.proofs.lemmas.List.Concat.{flat_map-append}
use Rattle.std.proofs.Math.Seq.{drop-cons}
use Rattle.wl_record_core.specs.declared.record.Record.{Record}
use Rattle.wl_replica.specs.Keys.{Key}
use Rattle.wl_replica.specs.Dense.{row_entries}

module _ {A : Type 0} (line : Record → List A) where
  line_first : (o : Option Record) (rs : List Record) → flat_map line (cons_option o rs) ≡ flat_map line (cons_option o []) ++ flat_map line rs
  line_first None rs = refl
  line_first (Some r) rs = ap (λ xs. xs ++ flat_map line rs) (sym (append-nil (line r)))

  module _ {W : Type 0} (word : ℕ → W) (told : Key × W → Option Record) (node : ℕ) (row : List ℕ) where
    -- what the numbers from a place on add
    abbrev pub told_from : ℕ → List A
    told_from i = flat_map line (filter_map told (row_entries word node i (drop i row) []))

    pub told_step : (i : ℕ) (parts new all : List A) → i < length row → parts ++ told_from i ≡ all
        → new ≡ parts ++ flat_map line (filter_map told (((node, i), word (slice_index_or row i 0)) ∷ [])) → new ++ told_from (i + 1) ≡ all
    told_step i parts new all lt is grown =
        let next : suc i ≡ i + 1 = omega arith in
        let one = flat_map line (filter_map told (((node, i), word (slice_index_or row i 0)) ∷ [])) in
        ap (λ t. t ++ told_from (i + 1)) grown
        ∙ (append_assoc parts one (told_from (i + 1))
        ∙ (ap (λ t. parts ++ t) (sym (ap (λ xs. flat_map line (filter_map told (row_entries word node i xs []))) (drop-cons row i 0 lt)
        ∙ (line_first (told ((node, i), word (slice_index_or row i 0))) (filter_map told (row_entries word node (suc i) (drop (suc i) row) []))
        ∙ ap (λ k. one ++ flat_map line (filter_map told (row_entries word node k (drop k row) []))) next)))
        ∙ is))

    pub told_end : (i : ℕ) (parts all : List A) → length row ≤ i → parts ++ told_from i ≡ all → parts ≡ all
    told_end i parts all h is =
        sym (append-nil parts) ∙ (ap (λ xs. parts ++ flat_map line (filter_map told (row_entries word node i xs []))) (sym (drop_all i row h)) ∙ is)

  module _ (f : ℕ → List Record) where
    -- what the nodes from one on add
    abbrev pub nodes_from : ℕ → ℕ → List A
    nodes_from nodes i = flat_map line (flat_map f (range_with_len i (nodes - i)))

    pub node_step : (nodes i : ℕ) (parts mid new all : List A) (es ss : List Record) → i < nodes → parts ++ nodes_from nodes i ≡ all
        → mid ≡ parts ++ flat_map line es → new ≡ mid ++ flat_map line ss → f i ≡ es ++ ss → new ++ nodes_from nodes (i + 1) ≡ all
    node_step nodes i parts mid new all es ss lt is first second split =
        let more : nodes - i ≡ suc (nodes - (i + 1)) = omega arith in
        let rest = nodes_from nodes (i + 1) in
        ap (λ t. t ++ rest) (second ∙ ap (λ t. t ++ flat_map line ss) first)
        ∙ (ap (λ t. t ++ rest) (append_assoc parts (flat_map line es) (flat_map line ss))
        ∙ (append_assoc parts (flat_map line es ++ flat_map line ss) rest
        ∙ (ap (λ t. parts ++ t) (ap (λ t. t ++ rest) (sym (ap (flat_map line) split ∙ flat_map-append line es ss))
        ∙ (sym (flat_map-append line (f i) (flat_map f (range_with_len (i + 1) (nodes - (i + 1)))))
        ∙ ap (λ d. flat_map line (flat_map f (range_with_len i d))) (sym more)))
        ∙ is)))

    pub nodes_end : (nodes i : ℕ) (parts all : List A) → nodes ≤ i → parts ++ nodes_from nodes i ≡ all → parts ≡ all
    nodes_end nodes i parts all h is =
        sym (append-nil parts) ∙ (ap (λ d. parts ++ flat_map line (flat_map f (range_with_len i d))) (let none : 0 ≡ nodes - i = omega arith in none) ∙ is)

-- a list of records adds each as it is
pub each_listed : (rs : List Record) → flat_map (λ r. r ∷ []) rs ≡ rs
each_listed [] = refl
each_listed (r ∷ rs) = ap (λ qs. r ∷ qs) (each_listed rs)
