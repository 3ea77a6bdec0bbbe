-- The canonical list of records that fit has records that fit, and its text is not longer than theirs.
use Rattle.std.specs.Prelude.{◌≡◌, ℕ, ◌+◌, ◌≤◌, ◌==◌, nat_lt, ◌||◌, Bool, true, false, cond, if◌then◌else◌, List, [], ◌∷◌, ◌++◌, Option, None, Some, length, All, refl, ◌<◌}
use Rattle.std.specs.List.{filter_map, cons_option, flat_map, range_with_len, AllByRecursion}
use Rattle.std.specs.FinMap.{entries}
use Rattle.std.proofs.Common.{sym, ap, ◌∙◌, arith, subst, length-append, inl, inr}
use Rattle.std.proofs.lemmas.Bool.Decides.{nat_tests}
use Rattle.std.proofs.lemmas.List.Elements.{recursion_from_All, All-from_recursion, All-append, All-nil}
use Prim.Native.Nat.{zero, suc}
use Rattle.wl_lattice.specs.declared.FlatWord.{FlatWord}
use Rattle.wl_lattice.specs.declared.FlatWord.TheVariants as flat
use Rattle.wl_lattice.specs.declared.MaxWord.{MaxWord}
use Rattle.wl_lattice.specs.Words.{joined_flat, joined_max, max_word}
use Rattle.wl_record_core.specs.declared.record.Record.{Record}
use Rattle.wl_record_core.specs.declared.record.Record.TheVariants.{Edge, Clash, Silence}
use Rattle.wl_record_core.specs.Text.{text_line, text_of}
use Rattle.wl_replica.proofs.SmallFacts.{max_cases, none_below, below_next, not_same}
use Rattle.wl_replica.specs.Keys.{Key}
use Rattle.wl_record_core.specs.Within.{IsWithinBy}
use Rattle.wl_replica.specs.State.{edge_word, silence_word, state_of, Fits, EdgeHas, SilenceHas}
use Rattle.wl_replica.specs.Canonical.{edge_record, silence_record, of_node, records_of_node, canonical}
use Rattle.wl_replica.specs.Laws.{CanonicalStaysAText}
use Rattle.wl_replica.proofs.KeyLaws.{key_cmp_total, exact_keys}
use Rattle.wl_replica.proofs.CanonicalLemmas.{flat_map-range_last}
use Rattle.wl_replica.proofs.EntryLemmas.{All-entries, total, total-entries}

-- ---- the length of a text
text_of-append : (xs ys : List Record) → length (text_of (xs ++ ys)) ≡ length (text_of xs) + length (text_of ys)
text_of-append [] ys = omega arith
text_of-append (x ∷ xs) ys =
    omega (arith, length-append (text_line x) (text_of (xs ++ ys)), length-append (text_line x) (text_of xs), text_of-append xs ys)

-- what a record adds, if there is one
abbrev weight : Option Record → ℕ
weight None = 0
weight (Some r) = length (text_line r)

text_of-cons_option : (o : Option Record) (rs : List Record) → length (text_of (cons_option o rs)) ≡ weight o + length (text_of rs)
text_of-cons_option None rs = omega arith
text_of-cons_option (Some r) rs = length-append (text_line r) (text_of rs)

-- ---- an edge's word, and a silence's
abbrev edge_weight : Key × FlatWord → ℕ
edge_weight e = weight (edge_record e)

abbrev silence_weight : Key × MaxWord → ℕ
silence_weight e = weight (silence_record e)

clash_is_shorter : (i s t : ℕ) → length (text_line (Clash i s)) ≤ length (text_line (Edge i s t))
clash_is_shorter i s t = simp length-append (omega arith)

edge_adds : (k : Key) (v w : FlatWord) → edge_weight (k, joined_flat v w) ≤ edge_weight (k, v) + edge_weight (k, w)
edge_adds k flat.Nothing w = omega arith
edge_adds k (flat.Value x) flat.Nothing = omega arith
edge_adds k (flat.Value x) (flat.Value y) =
    let shorter : edge_weight (k, flat.Clash) ≤ edge_weight (k, flat.Value x) = clash_is_shorter k.0 k.1 x in
    elim (x == y) as (λ b. edge_weight (k, if b then flat.Value x else flat.Clash) ≤ edge_weight (k, flat.Value x) + edge_weight (k, flat.Value y)) [ true ↦ omega arith | false ↦ omega arith ]
edge_adds k (flat.Value x) flat.Clash = omega arith
edge_adds k flat.Clash w = omega arith

silence_adds : (k : Key) (v w : MaxWord) → silence_weight (k, joined_max v w) ≤ silence_weight (k, v) + silence_weight (k, w)
silence_adds k v w = elim (max_cases v.word w.word) [
  | inl e ↦ let same : silence_weight (k, joined_max v w) ≡ silence_weight (k, v) = ap (λ n. silence_weight (k, max_word n)) e in omega arith
  | inr e ↦ let same : silence_weight (k, joined_max v w) ≡ silence_weight (k, w) = ap (λ n. silence_weight (k, max_word n)) e in omega arith
]

-- ---- what the records weigh, by their words
abbrev edge_total : List (Key × FlatWord) → ℕ
edge_total es = total edge_weight es

abbrev silence_total : List (Key × MaxWord) → ℕ
silence_total es = total silence_weight es

words_weigh : (rs : List Record) → edge_total (filter_map edge_word rs) + silence_total (filter_map silence_word rs) ≤ length (text_of rs)
words_weigh [] = omega arith
words_weigh (Edge i s t ∷ rs) = omega (arith, length-append (text_line (Edge i s t)) (text_of rs), words_weigh rs)
words_weigh (Clash i s ∷ rs) = omega (arith, length-append (text_line (Clash i s)) (text_of rs), words_weigh rs)
words_weigh (Silence i c u ∷ rs) =
    let line : length (text_of (Silence i c u ∷ rs)) ≡ length (text_line (Silence i c u)) + length (text_of rs) = length-append (text_line (Silence i c u)) (text_of rs) in
    let rest = words_weigh rs in
    elim (u == 0) as (λ b. (u == 0) ≡ b → edge_total (filter_map edge_word rs) + silence_total (cons_option (if b then None else Some ((i, c), max_word u)) (filter_map silence_word rs)) ≤ length (text_of (Silence i c u ∷ rs))) [
      | true ↦ λ is. omega (arith, rest, line)
      | false ↦ λ is.
          let one : silence_weight ((i, c), max_word u) ≡ length (text_line (Silence i c u)) = ap (λ b. weight (if b then None else Some (Silence i c u))) is in
          omega (arith, rest, line, one)
    ] refl

-- ---- the canonical list, node by node
edges_weigh : (es : List (Key × FlatWord)) → length (text_of (filter_map edge_record es)) ≡ edge_total es
edges_weigh [] = refl
edges_weigh (e ∷ es) = text_of-cons_option (edge_record e) (filter_map edge_record es) ∙ ap (λ n. edge_weight e + n) (edges_weigh es)

silences_weigh : (ss : List (Key × MaxWord)) → length (text_of (filter_map silence_record ss)) ≡ silence_total ss
silences_weigh [] = refl
silences_weigh (e ∷ ss) = text_of-cons_option (silence_record e) (filter_map silence_record ss) ∙ ap (λ n. silence_weight e + n) (silences_weigh ss)

-- the sum of f over the nodes below n
abbrev over_nodes : ℕ → (ℕ → ℕ) → ℕ
over_nodes zero f = 0
over_nodes (suc n) f = over_nodes n f + f n

canonical_weighs : (es : List (Key × FlatWord)) (ss : List (Key × MaxWord)) (n : ℕ)
    → length (text_of (flat_map (records_of_node es ss) (range_with_len 0 n))) ≡ over_nodes n (λ node. edge_total (of_node node es)) + over_nodes n (λ node. silence_total (of_node node ss))
canonical_weighs es ss zero = refl
canonical_weighs es ss (suc n) =
    let last : length (text_of (flat_map (records_of_node es ss) (range_with_len 0 (suc n)))) ≡ length (text_of (flat_map (records_of_node es ss) (range_with_len 0 n) ++ records_of_node es ss n)) =
    ap (λ rs. length (text_of rs)) (flat_map-range_last (records_of_node es ss) n) in
    omega (
      arith,
      last,
      text_of-append (flat_map (records_of_node es ss) (range_with_len 0 n)) (records_of_node es ss n),
      canonical_weighs es ss n,
      text_of-append (filter_map edge_record (of_node n es)) (filter_map silence_record (of_node n ss)),
      edges_weigh (of_node n es),
      silences_weigh (of_node n ss),
    )

-- ---- each entry is of one node at most
over_nodes-same : (n : ℕ) (f g : ℕ → ℕ) → ((i : ℕ) → f i ≡ g i) → over_nodes n f ≡ over_nodes n g
over_nodes-same zero f g h = refl
over_nodes-same (suc n) f g h = λ i. over_nodes-same n f g h i + h n i

over_nodes-add : (n : ℕ) (f g : ℕ → ℕ) → over_nodes n (λ i. f i + g i) ≡ over_nodes n f + over_nodes n g
over_nodes-add zero f g = omega arith
over_nodes-add (suc n) f g = omega (arith, over_nodes-add n f g)

over_nodes-nothing : (n : ℕ) → over_nodes n (λ i. 0) ≡ 0
over_nodes-nothing zero = refl
over_nodes-nothing (suc n) = omega (arith, over_nodes-nothing n)

once : (a b c : Bool) (w : ℕ) → c ≡ (a || b) → (a ≡ true → b ≡ false) → cond a w 0 + cond b w 0 ≡ cond c w 0
once true true c w e apart = absurd (let f : true ≡ false = apart refl in cc)
once true false c w e apart = (let f : w + 0 ≡ w = omega arith in f) ∙ ap (λ x. cond x w 0) (sym e)
once false b c w e apart = (let f : 0 + cond b w 0 ≡ cond b w 0 = omega arith in f) ∙ ap (λ x. cond x w 0) (sym e)

over_nodes-one : (i w n : ℕ) → over_nodes n (λ node. cond (i == node) w 0) ≡ cond (nat_lt i n) w 0
over_nodes-one i w zero = ap (λ b. cond b w 0) (none_below i)
over_nodes-one i w (suc n) =
    ap (λ u. u + cond (i == n) w 0) (over_nodes-one i w n) ∙ once (nat_lt i n) (i == n) (nat_lt i (suc n)) w (below_next i n) (not_same i n)

at_most : (b : Bool) (w : ℕ) → cond b w 0 ≤ w
at_most true w = omega arith
at_most false w = omega arith

module _ {W : Type 0} (f : Key × W → ℕ) where
  one_more : (b : Bool) (e : Key × W) (es : List (Key × W)) → total f (cond b (e ∷ es) es) ≡ cond b (f e) 0 + total f es
  one_more true e es = refl
  one_more false e es = omega arith

  over_nodes-of_node : (es : List (Key × W)) (n : ℕ) → over_nodes n (λ node. total f (of_node node es)) ≤ total f es
  over_nodes-of_node [] n = omega (arith, over_nodes-nothing n)
  over_nodes-of_node (e ∷ es) n =
      let split : over_nodes n (λ node. total f (of_node node (e ∷ es))) ≡ over_nodes n (λ node. cond (e.0.0 == node) (f e) 0) + over_nodes n (λ node. total f (of_node node es)) =
      over_nodes-same n _ _ (λ node. one_more (e.0.0 == node) e (of_node node es)) ∙ over_nodes-add n (λ node. cond (e.0.0 == node) (f e) 0) (λ node. total f (of_node node es)) in
      omega (arith, split, over_nodes-one e.0.0 (f e) n, at_most (nat_lt e.0.0 n) (f e), over_nodes-of_node es n)

pub text_is_short : (nodes : ℕ) (rs : List Record) → length (text_of (canonical (state_of nodes rs))) ≤ length (text_of rs)
text_is_short nodes rs =
    let s = state_of nodes rs in
    omega (
      arith,
      canonical_weighs (entries s.edges) (entries s.silences) nodes,
      over_nodes-of_node edge_weight (entries s.edges) nodes,
      over_nodes-of_node silence_weight (entries s.silences) nodes,
      total-entries key_cmp_total exact_keys joined_flat edge_weight edge_adds (filter_map edge_word rs),
      total-entries key_cmp_total exact_keys joined_max silence_weight silence_adds (filter_map silence_word rs),
      words_weigh rs,
    )

-- ---- what holds of the records holds of the canonical list, if it holds of a clash where it holds of an edge
module _ (P : Record → Type 0) (as_clash : (i s t : ℕ) → P (Edge i s t) → P (Clash i s)) where
  pub edge_fits : (k : Key) (v w : FlatWord) → EdgeHas P (k, v) → EdgeHas P (k, w) → EdgeHas P (k, joined_flat v w)
  edge_fits k flat.Nothing w p q = q
  edge_fits k (flat.Value x) flat.Nothing p q = p
  edge_fits k (flat.Value x) (flat.Value y) p q =
      elim (x == y) as (λ b. EdgeHas P (k, if b then flat.Value x else flat.Clash)) [ true ↦ p | false ↦ as_clash k.0 k.1 x p ]
  edge_fits k (flat.Value x) flat.Clash p q = q
  edge_fits k flat.Clash w p q = p

  pub silence_fits : (k : Key) (v w : MaxWord) → SilenceHas P (k, v) → SilenceHas P (k, w) → SilenceHas P (k, joined_max v w)
  silence_fits k v w p q = elim (max_cases v.word w.word) [
    | inl e ↦ subst (λ n. 0 < n → P (Silence k.0 k.1 n)) (sym e) p
    | inr e ↦ subst (λ n. 0 < n → P (Silence k.0 k.1 n)) (sym e) q
  ]

  pub edge_words_fit : (rs : List Record) → AllByRecursion P rs → AllByRecursion (EdgeHas P) (filter_map edge_word rs)
  edge_words_fit [] h = tt
  edge_words_fit (Edge i s t ∷ rs) h = (h.0, edge_words_fit rs h.1)
  edge_words_fit (Clash i s ∷ rs) h = (h.0, edge_words_fit rs h.1)
  edge_words_fit (Silence i c u ∷ rs) h = edge_words_fit rs h.1

  pub silence_words_fit : (rs : List Record) → AllByRecursion P rs → AllByRecursion (SilenceHas P) (filter_map silence_word rs)
  silence_words_fit [] h = tt
  silence_words_fit (Edge i s t ∷ rs) h = silence_words_fit rs h.1
  silence_words_fit (Clash i s ∷ rs) h = silence_words_fit rs h.1
  silence_words_fit (Silence i c u ∷ rs) h =
      let rest = silence_words_fit rs h.1 in
      elim (u == 0) as (λ b. AllByRecursion (SilenceHas P) (cons_option (if b then None else Some ((i, c), max_word u)) (filter_map silence_word rs))) [ true ↦ rest | false ↦ (λ p. h.0, rest) ]

  edges_of_node_fit : (node : ℕ) (es : List (Key × FlatWord)) → AllByRecursion (EdgeHas P) es → All P (filter_map edge_record (of_node node es))
  edges_of_node_fit node es h = All-from_recursion P (filter_map edge_record (of_node node es)) (each es h) where
    told : (e : Key × FlatWord) (rs : List Record) → EdgeHas P e → AllByRecursion P rs → AllByRecursion P (cons_option (edge_record e) rs)
    told (k, flat.Nothing) rs p q = q
    told (k, flat.Value t) rs p q = (p, q)
    told (k, flat.Clash) rs p q = (p, q)

    each : (es : List (Key × FlatWord)) → AllByRecursion (EdgeHas P) es → AllByRecursion P (filter_map edge_record (of_node node es))
    each [] h = tt
    each (e ∷ es) h = let rest = each es h.1 in
        elim (e.0.0 == node) as (λ b. AllByRecursion P (filter_map edge_record (cond b (e ∷ of_node node es) (of_node node es)))) [ true ↦ told e (filter_map edge_record (of_node node es)) h.0 rest | false ↦ rest ]

  silences_of_node_fit : (node : ℕ) (ss : List (Key × MaxWord)) → AllByRecursion (SilenceHas P) ss → All P (filter_map silence_record (of_node node ss))
  silences_of_node_fit node ss h = All-from_recursion P (filter_map silence_record (of_node node ss)) (each ss h) where
    above : (n : ℕ) → (n == 0) ≡ false → 0 < n
    above n h = grind (arith, nat_tests)

    told : (e : Key × MaxWord) (rs : List Record) → SilenceHas P e → AllByRecursion P rs → AllByRecursion P (cons_option (silence_record e) rs)
    told (k, w) rs p q = elim (w.word == 0) as (λ b. (w.word == 0) ≡ b → AllByRecursion P (cons_option (if b then None else Some (Silence k.0 k.1 w.word)) rs)) [
      | true ↦ λ is. q
      | false ↦ λ is. (p (above w.word is), q)
    ] refl

    each : (ss : List (Key × MaxWord)) → AllByRecursion (SilenceHas P) ss → AllByRecursion P (filter_map silence_record (of_node node ss))
    each [] h = tt
    each (e ∷ ss) h = let rest = each ss h.1 in
        elim (e.0.0 == node) as (λ b. AllByRecursion P (filter_map silence_record (cond b (e ∷ of_node node ss) (of_node node ss)))) [ true ↦ told e (filter_map silence_record (of_node node ss)) h.0 rest | false ↦ rest ]

  pub nodes_fit : (es : List (Key × FlatWord)) (ss : List (Key × MaxWord)) → AllByRecursion (EdgeHas P) es → AllByRecursion (SilenceHas P) ss → (ks : List ℕ) → All P (flat_map (records_of_node es ss) ks)
  nodes_fit es ss h k [] = All-nil P
  nodes_fit es ss h k (node ∷ ks) =
      All-append P (records_of_node es ss node) (flat_map (records_of_node es ss) ks)
      (All-append P (filter_map edge_record (of_node node es)) (filter_map silence_record (of_node node ss)) (edges_of_node_fit node es h) (silences_of_node_fit node ss k)) (nodes_fit es ss h k ks)

  pub canonical_has : (nodes : ℕ) (rs : List Record) → All P rs → All P (canonical (state_of nodes rs))
  canonical_has nodes rs h =
      let s = state_of nodes rs in
      let each = recursion_from_All P rs h in
      nodes_fit (entries s.edges) (entries s.silences)
      (All-entries key_cmp_total exact_keys joined_flat (EdgeHas P) edge_fits (filter_map edge_word rs) (edge_words_fit rs each))
      (All-entries key_cmp_total exact_keys joined_max (SilenceHas P) silence_fits (filter_map silence_word rs) (silence_words_fit rs each)) (range_with_len 0 nodes)

pub stays_a_text : CanonicalStaysAText
stays_a_text = record {
  fits = λ nodes. canonical_has (Fits nodes) (λ i s t h. (h.0, (h.1.0, h.1.1))) nodes;
  within = λ limits. canonical_has (IsWithinBy limits) (λ i s t h. (h.0, h.1));
  short = text_is_short;
}
