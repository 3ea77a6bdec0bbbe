-- The outcome of a plan can be written as records, and these are true.
use Rattle.std.proofs.Common.{◌≡◌, ℕ, zero, suc, ◌+◌, ◌<◌, ◌≤◌, List, [], ◌∷◌, ◌++◌, length, map, take, get_or, append_assoc, append-nil, refl, sym, ◌∙◌, ap, subst, arith, Some, slice_get, All, zero-add, add-zero, add-one}
use Rattle.std.specs.List.{range_with_len, enumerate_from, flat_map}
use Rattle.std.proofs.Math.Seq.{take-suc}
use Rattle.std.proofs.lemmas.List.{length-take-le}
use Rattle.std.proofs.lemmas.List.Elements.{All-from_get_or, All-map, All-append, All-cons}
use Rattle.std.proofs.lemmas.List.FromFn.{length-range_with_len, length-map-range_with_len, get_or-range_with_len, map-range_with_len_more}
use Rattle.wl_record_core.specs.declared.record.Record.{Record}
use Rattle.wl_record_core.specs.declared.record.Record.TheVariants.{Edge, Silence}
use Rattle.wl_record_core.specs.Limits.{most_edges}
use Rattle.wl_record_core.specs.Within.{IsWide}
use Rattle.wl_plan.specs.PlanLine.{line_of, table_of, IsTrueOfPlan}
use Rattle.wl_plan.specs.Checked.{CheckedIsSound}
use Rattle.wl_plan.specs.SimulationLaws.{OutcomeIsTrue}
use Rattle.wl_plan.specs.Sound.{IsSound}
use Rattle.wl_serial.specs.declared.outcome.NodeOutcome.{NodeOutcome}
use Rattle.wl_serial.specs.Outcome.{node_outcome_of}
use Rattle.wl_serial.specs.Records.{edges_from, node_records, OutcomeIsRecordable, RecordsAreTrue}

none : {X : Type 0} (P : X → Type 0) → All P []
none P k d b = absurd (omega arith)

-- what holds of each number below n
pub all_below : (P : ℕ → Type 0) (n : ℕ) → ((i : ℕ) → i < n → P i) → All P (range_with_len 0 n)
all_below P n each =
    All-from_get_or P (range_with_len 0 n) 0
    (λ i b. let c : i < n = subst (λ m. i < m) (length-range_with_len 0 n) b in subst P (sym (get_or-range_with_len 0 n i 0 c ∙ zero-add i)) (each i c))

pub outcome_is_recordable : CheckedIsSound → OutcomeIsRecordable
outcome_is_recordable sounds plan checked =
    let sound : IsSound (line_of plan) = sounds plan checked in
    record {
      few_nodes = (let e = length-map-range_with_len (node_outcome_of plan) 0 (length plan.nodes) in let f = sound.few_nodes in omega arith);
      few_changes =
          All-map (λ node. length node.changes ≤ most_edges) (node_outcome_of plan) (range_with_len 0 (length plan.nodes))
          (all_below (λ i. length (table_of plan i) ≤ most_edges) (length plan.nodes) (λ i b. sound.few_changes i b));
      ends = sound.end_fits;
    }

-- of each edge, with its number
all_edges : (P : Record → Type 0) (i s : ℕ) (ts : List ℕ) → ((k t : ℕ) → slice_get ts k ≡ Some t → P (Edge i (s + k) t)) → All P (edges_from i s ts)
all_edges P i s [] each = none P
all_edges P i s (t ∷ ts) each =
    All-cons P (Edge i s t) (edges_from i (suc s) ts) (subst (λ n. P (Edge i n t)) (add-zero s) (each 0 t refl))
    (all_edges P i (suc s) ts (λ k u h. subst (λ n. P (Edge i n u)) (let e : s + suc k ≡ suc s + k = omega arith in e) (each (suc k) u h)))

-- of each record, node by node
all_nodes : (P : Record → Type 0) (end : ℕ) (f : ℕ → NodeOutcome) (a n : ℕ) → ((i : ℕ) → i < a + n → All P (node_records end i (f i).changes))
    → All P (flat_map (λ (i, node). node_records end i node.changes) (enumerate_from a (map f (range_with_len a n))))
all_nodes P end f a zero each = none P
all_nodes P end f a (suc n) each =
    All-append P (node_records end a (f a).changes) _ (each a (omega arith)) (all_nodes P end f (a + 1) n (λ i b. each i (omega arith)))

pub records_are_true : CheckedIsSound → OutcomeIsTrue → RecordsAreTrue
records_are_true sounds truth plan checked =
    all_nodes (λ told. IsTrueOfPlan plan told × IsWide told) plan.end (node_outcome_of plan) 0 (length plan.nodes)
    (λ i b. let t = truth (line_of plan) (sounds plan checked) i (omega arith) in
    All-append (λ told. IsTrueOfPlan plan told × IsWide told) (edges_from i 0 (table_of plan i)) (Silence i (length (table_of plan i)) plan.end ∷ [])
    (all_edges (λ told. IsTrueOfPlan plan told × IsWide told) i 0 (table_of plan i)
    (λ k u h. subst (λ n. IsTrueOfPlan plan (Edge i n u) × IsWide (Edge i n u)) (sym (zero-add k)) (t.0 k u h, (t.0 k u h).2)))
    (All-cons (λ told. IsTrueOfPlan plan told × IsWide told) (Silence i (length (table_of plan i)) plan.end) [] (t.1, t.1.2) (none (λ told. IsTrueOfPlan plan told × IsWide told))))

-- one edge more, after the others
edges_behind : (i s t : ℕ) (ts : List ℕ) → edges_from i s (ts ++ t ∷ []) ≡ edges_from i s ts ++ Edge i (s + length ts) t ∷ []
edges_behind i s t [] = ap (λ n. Edge i n t ∷ []) (sym (add-zero s))
edges_behind i s t (u ∷ us) =
    ap (λ rs. Edge i s u ∷ rs) (edges_behind i (suc s) t us ∙ ap (λ n. edges_from i (suc s) us ++ Edge i n t ∷ []) (let e : suc s + length us ≡ s + suc (length us) = omega arith in e))

pub edges_more : (i k t : ℕ) (ts : List ℕ) → k < length ts → t ≡ get_or ts k 0 → edges_from i 0 (take (k + 1) ts) ≡ edges_from i 0 (take k ts) ++ Edge i k t ∷ []
edges_more i k t ts b e =
    ap (λ n. edges_from i 0 (take n ts)) (add-one k)
    ∙ (ap (edges_from i 0) (take-suc ts k 0 b)
    ∙ (edges_behind i 0 (get_or ts k 0) (take k ts)
    ∙ (ap (λ n. edges_from i 0 (take k ts) ++ Edge i n (get_or ts k 0) ∷ []) (zero-add (length (take k ts)) ∙ length-take-le k ts (omega arith))
    ∙ ap (λ u. edges_from i 0 (take k ts) ++ Edge i k u ∷ []) (sym e))))

-- the records of one node more, after those of the others
nodes_behind : (end a : ℕ) (x : NodeOutcome) (xs : List NodeOutcome)
    → flat_map (λ (i, node). node_records end i node.changes) (enumerate_from a (xs ++ x ∷ []))
    ≡ flat_map (λ (i, node). node_records end i node.changes) (enumerate_from a xs) ++ node_records end (a + length xs) x.changes
nodes_behind end a x [] = append-nil (node_records end a x.changes) ∙ ap (λ n. node_records end n x.changes) (sym (add-zero a))
nodes_behind end a x (y ∷ ys) =
    ap (λ rs. node_records end a y.changes ++ rs)
    (nodes_behind end (a + 1) x ys
    ∙ ap (λ n. flat_map (λ (i, node). node_records end i node.changes) (enumerate_from (a + 1) ys) ++ node_records end n x.changes)
    (let e : a + 1 + length ys ≡ a + suc (length ys) = omega arith in e))
    ∙ sym (append_assoc (node_records end a y.changes) (flat_map (λ (i, node). node_records end i node.changes) (enumerate_from (a + 1) ys)) (node_records end (a + suc (length ys)) x.changes))

pub nodes_more : (end k : ℕ) (x : NodeOutcome) (xs : List NodeOutcome) → k < length xs → x ≡ get_or xs k x
    → flat_map (λ (i, node). node_records end i node.changes) (enumerate_from 0 (take (k + 1) xs))
    ≡ flat_map (λ (i, node). node_records end i node.changes) (enumerate_from 0 (take k xs)) ++ node_records end k x.changes
nodes_more end k x xs b e =
    ap (λ n. flat_map (λ (i, node). node_records end i node.changes) (enumerate_from 0 (take n xs))) (add-one k)
    ∙ (ap (λ ys. flat_map (λ (i, node). node_records end i node.changes) (enumerate_from 0 ys)) (take-suc xs k x b)
    ∙ (nodes_behind end 0 (get_or xs k x) (take k xs)
    ∙ (ap (λ n. flat_map (λ (i, node). node_records end i node.changes) (enumerate_from 0 (take k xs)) ++ node_records end n (get_or xs k x).changes)
    (zero-add (length (take k xs)) ∙ length-take-le k xs (omega arith))
    ∙ ap (λ y. flat_map (λ (i, node). node_records end i node.changes) (enumerate_from 0 (take k xs)) ++ node_records end k y.changes) (sym e))))

-- the same of nodes by their numbers
pub nodes_on : (end k : ℕ) (f : ℕ → NodeOutcome)
    → flat_map (λ (i, node). node_records end i node.changes) (enumerate_from 0 (map f (range_with_len 0 (k + 1))))
    ≡ flat_map (λ (i, node). node_records end i node.changes) (enumerate_from 0 (map f (range_with_len 0 k))) ++ node_records end k (f k).changes
nodes_on end k f =
    ap (λ xs. flat_map (λ (i, node). node_records end i node.changes) (enumerate_from 0 xs)) (map-range_with_len_more f 0 k k (omega arith))
    ∙ (nodes_behind end 0 (f k) (map f (range_with_len 0 k))
    ∙ ap (λ n. flat_map (λ (i, node). node_records end i node.changes) (enumerate_from 0 (map f (range_with_len 0 k))) ++ node_records end n (f k).changes)
    (zero-add (length (map f (range_with_len 0 k))) ∙ length-map-range_with_len f 0 k))
