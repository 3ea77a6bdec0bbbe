-- Whether a row names its node.
use Rattle.std.proofs.Math.Bool.{or-false}
use Rattle.std.proofs.Common.{◌≡◌, ◌∙◌, ap, sym, refl, arith, ℕ, zero, suc, ◌+◌, ◌<◌, ◌≤◌, ◌==◌, ◌||◌, Bool, true, false, cond, not, inl, inr, List, [], ◌∷◌, ◌++◌, Option, None, Some}
use Rattle.std.specs.Prelude.{if◌then◌else◌}
use Rattle.std.specs.List.{filter_map, flat_map, list_any, cons_option, range_with_len}
use Rattle.std.specs.FinMap.{entries}
use Rattle.std.proofs.lemmas.Bool.{cases_eq, ne_eqb, eq-eqb, eqb-true}
use Rattle.std.proofs.lemmas.Bool.Decides.{nat_tests}
use Rattle.wl_lattice.specs.declared.FlatWord.{FlatWord}
use Rattle.wl_lattice.specs.declared.FlatWord.TheVariants as flat
use Rattle.wl_lattice.specs.declared.MaxWord.{MaxWord}
use Rattle.wl_lattice.specs.Words.{max_word}
use Rattle.wl_record_core.specs.declared.record.Record.{Record}
use Rattle.wl_record_core.specs.declared.record.Record.TheVariants.{Silence}
use Rattle.wl_record_core.specs.Slots.{node_of}
use Rattle.wl_replica.specs.Keys.{Key}
use Rattle.wl_replica.specs.State.{State}
use Rattle.wl_replica.specs.Canonical.{edge_record, silence_record, of_node, records_of_node, canonical}
use Rattle.wl_replica.specs.Dense.{row_entries, says_something}
use Rattle.wl_lattice.specs.Numbers.{number_word}
use Rattle.wl_engines.specs.Horizon.{is_named}

-- ---- whether a row names its node
any-append : {A : Type 0} (p : A → Bool) (xs ys : List A) → list_any p (xs ++ ys) ≡ (list_any p xs || list_any p ys)
any-append p [] ys = refl
any-append p (x ∷ xs) ys = elim (p x) as (λ b. (b || list_any p (xs ++ ys)) ≡ ((b || list_any p xs) || list_any p ys)) [ true ↦ refl | false ↦ any-append p xs ys ]

abbrev speaks_of : ℕ → Record → Bool
speaks_of node r = node_of r == node

some_number : (t : ℕ) → (suc t == 0) ≡ false
some_number t = grind (arith, nat_tests)

named_word : (node n t : ℕ) (b : Bool) (rs : List Record) → list_any (speaks_of node) (cons_option (edge_record ((node, n), if b then flat.Clash else flat.Value t)) rs) ≡ true
named_word node n t true rs = ap (λ b. b || list_any (speaks_of node) rs) (eq-eqb node node refl)
named_word node n t false rs = ap (λ b. b || list_any (speaks_of node) rs) (eq-eqb node node refl)

own_edges : (node n : ℕ) (row : List ℕ) → list_any (speaks_of node) (filter_map edge_record (row_entries number_word node n row [])) ≡ says_something row
own_edges node n [] = refl
own_edges node n (zero ∷ row) = own_edges node (suc n) row
own_edges node n (suc t ∷ row) =
    named_word node n t _ (filter_map edge_record (row_entries number_word node (suc n) row []))
    ∙ sym (ap (λ b. not b || says_something row) (some_number t))

own_silences : (node n : ℕ) (row : List ℕ) → list_any (speaks_of node) (filter_map silence_record (row_entries max_word node n row [])) ≡ says_something row
own_silences node n [] = refl
own_silences node n (zero ∷ row) = own_silences node (suc n) row
own_silences node n (suc t ∷ row) =
    let rest = filter_map silence_record (row_entries max_word node (suc n) row []) in
    ap (λ b. list_any (speaks_of node) (cons_option (if b then None else Some (Silence node n (suc t))) rest)) (some_number t)
    ∙ (ap (λ b. b || list_any (speaks_of node) rest) (eq-eqb node node refl) ∙ sym (ap (λ b. not b || says_something row) (some_number t)))

edge_node : (e : Key × FlatWord) (node : ℕ) (rs : List Record) → ¬ (e.0.0 ≡ node) → list_any (speaks_of node) (cons_option (edge_record e) rs) ≡ list_any (speaks_of node) rs
edge_node (k, flat.Nothing) node rs h = refl
edge_node (k, flat.Value t) node rs h = ap (λ b. b || list_any (speaks_of node) rs) (ne_eqb k.0 node h)
edge_node (k, flat.Clash) node rs h = ap (λ b. b || list_any (speaks_of node) rs) (ne_eqb k.0 node h)

silence_node : (e : Key × MaxWord) (node : ℕ) (rs : List Record) → ¬ (e.0.0 ≡ node) → list_any (speaks_of node) (cons_option (silence_record e) rs) ≡ list_any (speaks_of node) rs
silence_node e node rs h = elim (e.1.word == 0) as (λ b. list_any (speaks_of node) (cons_option (if b then None else Some (Silence e.0.0 e.0.1 e.1.word)) rs) ≡ list_any (speaks_of node) rs) [
  | true ↦ refl
  | false ↦ ap (λ b. b || list_any (speaks_of node) rs) (ne_eqb e.0.0 node h)
]

module _ {W : Type 0} (told : Key × W → Option Record) (node : ℕ)
    (own : (e : Key × W) (rs : List Record) → ¬ (e.0.0 ≡ node) → list_any (speaks_of node) (cons_option (told e) rs) ≡ list_any (speaks_of node) rs) where
  of_another : (j : ℕ) (es : List (Key × W)) → ¬ (j ≡ node) → list_any (speaks_of node) (filter_map told (of_node j es)) ≡ false
  of_another j [] h = refl
  of_another j (e ∷ es) h =
      let rest = of_another j es h in
      elim (e.0.0 == j) as (λ b. (e.0.0 == j) ≡ b → list_any (speaks_of node) (filter_map told (cond b (e ∷ of_node j es) (of_node j es))) ≡ false) [
        | true ↦ λ is. own e (filter_map told (of_node j es)) (λ same. h (sym (eqb-true e.0.0 j is) ∙ same)) ∙ rest
        | false ↦ λ is. rest
      ] refl

module _ (p : Record → Bool) (f : ℕ → List Record) (node : ℕ) (others : (j : ℕ) → ¬ (j ≡ node) → list_any p (f j) ≡ false) where
  none_in : (a n : ℕ) → node < a → list_any p (flat_map f (range_with_len a n)) ≡ false
  none_in a zero h = refl
  none_in a (suc n) h =
      any-append p (f a) (flat_map f (range_with_len (a + 1) n)) ∙ (ap (λ b. b || list_any p (flat_map f (range_with_len (a + 1) n))) (others a (λ e. omega (arith, h, e))) ∙ none_in (a + 1) n (omega arith))

  one_in : (a n : ℕ) → a ≤ node → node < a + n → list_any p (flat_map f (range_with_len a n)) ≡ list_any p (f node)
  one_in a zero h l = absurd (omega arith)
  one_in a (suc n) h l = any-append p (f a) (flat_map f (range_with_len (a + 1) n)) ∙ elim (cases_eq a node) [
    | inl same ↦ ap (λ b. list_any p (f a) || b) (none_in (a + 1) n (omega arith)) ∙ (or-false (list_any p (f a)) ∙ ap (λ k. list_any p (f k)) same)
    | inr other ↦ ap (λ b. b || list_any p (flat_map f (range_with_len (a + 1) n))) (others a other) ∙ one_in (a + 1) n (omega arith) (omega arith)
  ]

pub named_by_rows : (s : State) (node : ℕ) (edges silences : List ℕ) → node < s.nodes
    → filter_map edge_record (row_entries number_word node 0 edges []) ≡ filter_map edge_record (of_node node (entries s.edges))
    → filter_map silence_record (row_entries max_word node 0 silences []) ≡ filter_map silence_record (of_node node (entries s.silences))
    → (says_something edges || says_something silences) ≡ is_named (canonical s) node
named_by_rows s node edges silences lt e h =
    let p = speaks_of node in
    let es = entries s.edges in
    let ss = entries s.silences in
    let other : (j : ℕ) → ¬ (j ≡ node) → list_any p (records_of_node es ss j) ≡ false = λ j apart.
    any-append p (filter_map edge_record (of_node j es)) (filter_map silence_record (of_node j ss))
    ∙ (λ i. of_another edge_record node (λ f rs. edge_node f node rs) j es apart i || of_another silence_record node (λ f rs. silence_node f node rs) j ss apart i) in
    sym (one_in p (records_of_node es ss) node other 0 s.nodes (omega arith) (omega arith)
    ∙ (any-append p (filter_map edge_record (of_node node es)) (filter_map silence_record (of_node node ss))
    ∙ ((λ i. list_any p (sym e i) || list_any p (sym h i)) ∙ (λ i. own_edges node 0 edges i || own_silences node 0 silences i))))
