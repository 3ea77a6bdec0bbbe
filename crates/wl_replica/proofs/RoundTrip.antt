-- The canonical list of a state makes that state again.
use Rattle.std.proofs.lemmas.List.{append-nil}
use Rattle.std.specs.Prelude.{◌≡◌, ℕ, ◌<◌, ◌==◌, nat_lt, ◌||◌, Bool, true, false, cond, not, List, [], ◌∷◌, ◌++◌, Option, None, Some, IfSome, unwrap_or, if◌then◌else◌, refl}
use Rattle.std.specs.List.{filter_map, cons_option, flat_map, range_with_len, AllByRecursion}
use Rattle.std.specs.Ordering.{eq_by_cmp}
use Rattle.std.specs.FinMap.{FinMap, get, entries, get-entries, same_map}
use Rattle.std.specs.FinMap.Entries.{find}
use Rattle.std.proofs.Common.{sym, ap, ◌∙◌, arith}
use Rattle.std.proofs.lemmas.Bool.Decides.{nat_tests}
use Rattle.std.proofs.lemmas.List.Elements.{recursion_from_All}
use Prim.Native.Nat.{zero, suc}
use Rattle.wl_lattice.specs.declared.FlatWord.{FlatWord}
use Rattle.wl_lattice.specs.declared.FlatWord.TheVariants as flat
use Rattle.wl_lattice.specs.declared.MaxWord.{MaxWord}
use Rattle.wl_lattice.specs.Words.{joined_flat, joined_max, max_word}
use Rattle.wl_replica.proofs.SmallFacts.{nothing_more, none_below, below_next, not_same}
use Rattle.wl_replica.proofs.States.{edge_maps, silence_maps}
use Rattle.wl_lattice.specs.Maps.{joined_options, map_of, words_at, MapLaws}
use Rattle.wl_record_core.specs.declared.record.Record.{Record}
use Rattle.wl_record_core.specs.declared.record.Record.TheVariants.{Edge, Clash, Silence}
use Rattle.wl_record_core.specs.Slots.{node_of}
use Rattle.wl_replica.specs.Keys.{Key, key_cmp}
use Rattle.wl_replica.specs.State.{State, edge_word, silence_word, state_of, states_joined}
use Rattle.wl_replica.specs.Canonical.{edge_record, silence_record, of_node, records_of_node, canonical}
use Rattle.wl_replica.specs.Dense.{holds_edge, holds_silence}
use Rattle.wl_replica.specs.Laws.{CanonicalDeterminesTheState, MergingIsAppending, JoinsSlotBySlot}
use Rattle.wl_replica.proofs.SlotBySlot.{edge_at-joined, silence_at-joined, edge_at-none, silence_at-none}
use Rattle.wl_replica.proofs.KeyLaws.{key_cmp_total, exact_keys}
use Rattle.wl_replica.proofs.KeptLemmas.{same_key}
use Rattle.wl_replica.proofs.CanonicalLemmas.{same_of_each, flat_map-range_last}
use Rattle.wl_replica.proofs.EntryLemmas.{All-entries}
use Rattle.wl_replica.proofs.States.{same_parts, state_of-append, filter_map-append}
use Rattle.wl_replica.proofs.Tells.{tells_edge, tells_silence}
use Rattle.wl_replica.proofs.Shown.{Tells}

-- ---- lists of lists
filter_map-flat_map : {A B C : Type 0} (f : B → Option C) (g : A → List B) (xs : List A) → filter_map f (flat_map g xs) ≡ flat_map (λ x. filter_map f (g x)) xs
filter_map-flat_map f g [] = refl
filter_map-flat_map f g (x ∷ xs) = filter_map-append f (g x) (flat_map g xs) ∙ ap (λ ys. filter_map f (g x) ++ ys) (filter_map-flat_map f g xs)

module _ {W : Type 0} {join : W → W → W} (laws : MapLaws {K = Key} key_cmp join) where
  -- the words of one node
  node_step : (a b c : Bool) (u w : Option W) (v : W) → (a ≡ true → b ≡ c) → w ≡ cond c u None
      → cond b (cond a (joined_options join w (Some v)) w) w ≡ cond c (cond a (joined_options join u (Some v)) u) None
  node_step true b true u w v same e = ap (λ x. cond x (joined_options join w (Some v)) w) (same refl) ∙ ap (λ x. joined_options join x (Some v)) e
  node_step true b false u w v same e = ap (λ x. cond x (joined_options join w (Some v)) w) (same refl) ∙ e
  node_step false true true u w v same e = e
  node_step false true false u w v same e = e
  node_step false false true u w v same e = e
  node_step false false false u w v same e = e

  words_at-node : (es : List (Key × W)) (node : ℕ) (q : Key) → words_at key_cmp join (of_node node es) q ≡ cond (q.0 == node) (words_at key_cmp join es q) None
  words_at-node [] node q = elim (q.0 == node) as (λ b. ◌≡◌ {A = Option W} None (cond b None None)) [ true ↦ refl | false ↦ refl ]
  words_at-node (e ∷ es) node q =
      turn (e.0.0 == node) ∙ node_step (eq_by_cmp key_cmp q e.0) (e.0.0 == node) (q.0 == node) (words_at key_cmp join es q) (words_at key_cmp join (of_node node es) q) e.1
      (λ is. ap (λ (k : Key). k.0 == node) (sym (same_key q e.0 is))) (words_at-node es node q) where
        turn : (b : Bool) → words_at key_cmp join (cond b (e ∷ of_node node es) (of_node node es)) q
            ≡ cond b (cond (eq_by_cmp key_cmp q e.0) (joined_options join (words_at key_cmp join (of_node node es) q) (Some e.1)) (words_at key_cmp join (of_node node es) q)) (words_at key_cmp join (of_node node es) q)
        turn true = refl
        turn false = refl

  -- the words of the nodes below n
  both_nodes : (a b c : Bool) (u : Option W) → c ≡ (a || b) → (a ≡ true → b ≡ false) → joined_options join (cond a u None) (cond b u None) ≡ cond c u None
  both_nodes true true c u e apart = absurd (let f : true ≡ false = apart refl in cc)
  both_nodes true false c u e apart = nothing_more join u ∙ ap (λ x. cond x u None) (sym e)
  both_nodes false b c u e apart = ap (λ x. cond x u None) (sym e)

  words_at-nodes : (es : List (Key × W)) (n : ℕ) (q : Key) → words_at key_cmp join (flat_map (λ node. of_node node es) (range_with_len 0 n)) q ≡ cond (nat_lt q.0 n) (words_at key_cmp join es q) None
  words_at-nodes es zero q = ap (λ b. cond b (words_at key_cmp join es q) None) (none_below q.0)
  words_at-nodes es (suc n) q =
      ap (λ fs. words_at key_cmp join fs q) (flat_map-range_last (λ node. of_node node es) n)
      ∙ (laws.words_of_both (flat_map (λ node. of_node node es) (range_with_len 0 n)) (of_node n es) q
      ∙ ((λ i. joined_options join (words_at-nodes es n q i) (words_at-node es n q i))
      ∙ both_nodes (nat_lt q.0 n) (q.0 == n) (nat_lt q.0 (suc n)) (words_at key_cmp join es q) (below_next q.0 n) (not_same q.0 n)))

  -- ---- records and words
  module _ (holds : W → Bool) (record_of : Key × W → Option Record) (word_of : Record → Option (Key × W))
      (back : (e : Key × W) → holds e.1 ≡ true → (r : Record) × (record_of e ≡ Some r) × (word_of r ≡ Some e)) where
    -- the words of the records of entries that hold something are the entries
    pub words_back : (es : List (Key × W)) → AllByRecursion (λ e. holds e.1 ≡ true) es → filter_map word_of (filter_map record_of es) ≡ es
    words_back [] h = refl
    words_back (e ∷ es) h =
        let b = back e h.0 in
        ap (λ o. filter_map word_of (cons_option o (filter_map record_of es))) b.1 ∙ (ap (λ o. cons_option o (filter_map word_of (filter_map record_of es))) b.2 ∙ ap (λ fs. e ∷ fs) (words_back es h.1))

  held_of_node : (holds : W → Bool) (node : ℕ) (es : List (Key × W)) → AllByRecursion (λ e. holds e.1 ≡ true) es → AllByRecursion (λ e. holds e.1 ≡ true) (of_node node es)
  held_of_node holds node [] h = tt
  held_of_node holds node (e ∷ es) h = let rest = held_of_node holds node es h.1 in
      elim (e.0.0 == node) as (λ b. AllByRecursion (λ f. holds f.1 ≡ true) (cond b (e ∷ of_node node es) (of_node node es))) [ true ↦ (h.0, rest) | false ↦ rest ]

  none_past : (es : List (Key × W)) (n : ℕ) (q : Key) → AllByRecursion (λ e. e.0.0 < n) es → nat_lt q.0 n ≡ false → words_at key_cmp join es q ≡ None
  none_past [] n q h past = refl
  none_past (e ∷ es) n q h past =
      elim (eq_by_cmp key_cmp q e.0) as (λ b. eq_by_cmp key_cmp q e.0 ≡ b → cond b (joined_options join (words_at key_cmp join es q) (Some e.1)) (words_at key_cmp join es q) ≡ None) [
        | true ↦ λ is. absurd (beyond q.0 e.0.0 n (ap (λ (k : Key). k.0) (same_key q e.0 is)) h.0 past)
        | false ↦ λ is. none_past es n q h.1 past
      ] refl
    where
      beyond : (a b n : ℕ) → a ≡ b → b < n → nat_lt a n ≡ false → ⊥
      beyond a b n e lt past = grind (arith, nat_tests)

  all_below : (es : List (Key × W)) (n : ℕ) (q : Key) → AllByRecursion (λ e. e.0.0 < n) es → cond (nat_lt q.0 n) (words_at key_cmp join es q) None ≡ words_at key_cmp join es q
  all_below es n q h = elim (nat_lt q.0 n) as (λ b. nat_lt q.0 n ≡ b → cond b (words_at key_cmp join es q) None ≡ words_at key_cmp join es q) [
    | true ↦ λ is. refl
    | false ↦ λ is. sym (none_past es n q h is)
  ] refl

  -- a map whose words hold something, of nodes below n, made again from its entries node by node
  pub map_again : (m : FinMap key_cmp W) (n : ℕ) → AllByRecursion (λ e. e.0.0 < n) (entries m)
      → map_of key_cmp join (flat_map (λ node. of_node node (entries m)) (range_with_len 0 n)) ≡ m
  map_again m n h = same_map key_cmp_total exact_keys _ _ (λ q.
      laws.of_entries (flat_map (λ node. of_node node (entries m)) (range_with_len 0 n)) q
      ∙ (words_at-nodes (entries m) n q ∙ (all_below (entries m) n q h
      ∙ (laws.words_of_map m q))))

-- ---- the two kinds
edge_back : (e : Key × FlatWord) → holds_edge e.1 ≡ true → (r : Record) × (edge_record e ≡ Some r) × (edge_word r ≡ Some e)
edge_back (k, flat.Nothing) h = cc
edge_back (k, flat.Value t) h = (Edge k.0 k.1 t, refl, refl)
edge_back (k, flat.Clash) h = (Clash k.0 k.1, refl, refl)

silence_back : (e : Key × MaxWord) → holds_silence e.1 ≡ true → (r : Record) × (silence_record e ≡ Some r) × (silence_word r ≡ Some e)
silence_back e h = (Silence e.0.0 e.0.1 e.1.word, at (e.1.word == 0) (Some (Silence e.0.0 e.0.1 e.1.word)) h, at (e.1.word == 0) (Some e) h) where
  at : {A : Type 0} (b : Bool) (o : Option A) → not b ≡ true → cond b None o ≡ o
  at true o p = cc
  at false o p = refl

no_edge_word : (ss : List (Key × MaxWord)) → filter_map edge_word (filter_map silence_record ss) ≡ []
no_edge_word [] = refl
no_edge_word (e ∷ ss) = elim (e.1.word == 0) as (λ b. filter_map edge_word (cons_option (cond b None (Some (Silence e.0.0 e.0.1 e.1.word))) (filter_map silence_record ss)) ≡ []) [ true ↦ no_edge_word ss | false ↦ no_edge_word ss ]

no_silence_word : (es : List (Key × FlatWord)) → filter_map silence_word (filter_map edge_record es) ≡ []
no_silence_word [] = refl
no_silence_word ((k, flat.Nothing) ∷ es) = no_silence_word es
no_silence_word ((k, flat.Value t) ∷ es) = no_silence_word es
no_silence_word ((k, flat.Clash) ∷ es) = no_silence_word es

-- ---- the entries of a state of records
-- of each: it holds something, and its node is below n
abbrev pub IsHeld : {W : Type 0} → (W → Bool) → Key × W → Type 0
IsHeld holds e = holds e.1 ≡ true

joined_edge_held : (k : Key) (v w : FlatWord) → holds_edge v ≡ true → holds_edge w ≡ true → holds_edge (joined_flat v w) ≡ true
joined_edge_held k v w p q = tells_edge.over v w ∙ ap (λ b. b || holds_edge w) p

joined_silence_held : (k : Key) (v w : MaxWord) → holds_silence v ≡ true → holds_silence w ≡ true → holds_silence (joined_max v w) ≡ true
joined_silence_held k v w p q = tells_silence.over v w ∙ ap (λ b. b || holds_silence w) p

pub edge_words_held : (rs : List Record) → AllByRecursion (IsHeld holds_edge) (filter_map edge_word rs)
edge_words_held [] = tt
edge_words_held (Edge i s t ∷ rs) = (refl, edge_words_held rs)
edge_words_held (Clash i s ∷ rs) = (refl, edge_words_held rs)
edge_words_held (Silence i c u ∷ rs) = edge_words_held rs

pub silence_words_held : (rs : List Record) → AllByRecursion (IsHeld holds_silence) (filter_map silence_word rs)
silence_words_held [] = tt
silence_words_held (Edge i s t ∷ rs) = silence_words_held rs
silence_words_held (Clash i s ∷ rs) = silence_words_held rs
silence_words_held (Silence i c u ∷ rs) =
    elim (u == 0) as (λ b. (u == 0) ≡ b → AllByRecursion (IsHeld holds_silence) (cons_option (if b then None else Some ((i, c), max_word u)) (filter_map silence_word rs))) [
      | true ↦ λ is. silence_words_held rs
      | false ↦ λ is. (ap not is, silence_words_held rs)
    ] refl

edge_words_below : (n : ℕ) (rs : List Record) → AllByRecursion (λ r. node_of r < n) rs → AllByRecursion (λ (e : Key × FlatWord). e.0.0 < n) (filter_map edge_word rs)
edge_words_below n [] h = tt
edge_words_below n (Edge i s t ∷ rs) h = (h.0, edge_words_below n rs h.1)
edge_words_below n (Clash i s ∷ rs) h = (h.0, edge_words_below n rs h.1)
edge_words_below n (Silence i c u ∷ rs) h = edge_words_below n rs h.1

silence_words_below : (n : ℕ) (rs : List Record) → AllByRecursion (λ r. node_of r < n) rs → AllByRecursion (λ (e : Key × MaxWord). e.0.0 < n) (filter_map silence_word rs)
silence_words_below n [] h = tt
silence_words_below n (Edge i s t ∷ rs) h = silence_words_below n rs h.1
silence_words_below n (Clash i s ∷ rs) h = silence_words_below n rs h.1
silence_words_below n (Silence i c u ∷ rs) h =
    let rest = silence_words_below n rs h.1 in
    elim (u == 0) as (λ b. AllByRecursion (λ (e : Key × MaxWord). e.0.0 < n) (cons_option (if b then None else Some ((i, c), max_word u)) (filter_map silence_word rs))) [ true ↦ rest | false ↦ (h.0, rest) ]

pub edges_held : (nodes : ℕ) (rs : List Record) → AllByRecursion (IsHeld holds_edge) (entries (state_of nodes rs).edges)
edges_held nodes rs = All-entries key_cmp_total exact_keys joined_flat (IsHeld holds_edge) joined_edge_held (filter_map edge_word rs) (edge_words_held rs)

pub silences_held : (nodes : ℕ) (rs : List Record) → AllByRecursion (IsHeld holds_silence) (entries (state_of nodes rs).silences)
silences_held nodes rs = All-entries key_cmp_total exact_keys joined_max (IsHeld holds_silence) joined_silence_held (filter_map silence_word rs) (silence_words_held rs)

-- ---- the state again
edge_words_again : (es : List (Key × FlatWord)) (ss : List (Key × MaxWord)) → AllByRecursion (IsHeld holds_edge) es → (node : ℕ) → filter_map edge_word (records_of_node es ss node) ≡ of_node node es
edge_words_again es ss h node =
    filter_map-append edge_word (filter_map edge_record (of_node node es)) (filter_map silence_record (of_node node ss))
    ∙ ((λ i. words_back edge_maps holds_edge edge_record edge_word edge_back (of_node node es) (held_of_node edge_maps holds_edge node es h) i ++ no_edge_word (of_node node ss) i)
    ∙ append-nil (of_node node es))

silence_words_again : (es : List (Key × FlatWord)) (ss : List (Key × MaxWord)) → AllByRecursion (IsHeld holds_silence) ss → (node : ℕ) → filter_map silence_word (records_of_node es ss node) ≡ of_node node ss
silence_words_again es ss h node =
    filter_map-append silence_word (filter_map edge_record (of_node node es)) (filter_map silence_record (of_node node ss))
    ∙ (λ i. no_silence_word (of_node node es) i ++ words_back silence_maps holds_silence silence_record silence_word silence_back (of_node node ss) (held_of_node silence_maps holds_silence node ss h) i)

-- a state that holds something in each slot that it has, of its nodes
pub state_from : (s : State) → AllByRecursion (IsHeld holds_edge) (entries s.edges) → AllByRecursion (IsHeld holds_silence) (entries s.silences)
    → AllByRecursion (λ (e : Key × FlatWord). e.0.0 < s.nodes) (entries s.edges) → AllByRecursion (λ (e : Key × MaxWord). e.0.0 < s.nodes) (entries s.silences)
    → state_of s.nodes (canonical s) ≡ s
state_from s edges_hold silences_hold edges_below silences_below =
    let es = entries s.edges in
    let ss = entries s.silences in
    let range = range_with_len 0 s.nodes in
    let edges : map_of key_cmp joined_flat (filter_map edge_word (canonical s)) ≡ s.edges =
    ap (map_of key_cmp joined_flat) (filter_map-flat_map edge_word (records_of_node es ss) range ∙ same_of_each _ _ (edge_words_again es ss edges_hold) range)
    ∙ map_again edge_maps s.edges s.nodes edges_below in
    let silences : map_of key_cmp joined_max (filter_map silence_word (canonical s)) ≡ s.silences =
    ap (map_of key_cmp joined_max) (filter_map-flat_map silence_word (records_of_node es ss) range ∙ same_of_each _ _ (silence_words_again es ss silences_hold) range)
    ∙ map_again silence_maps s.silences s.nodes silences_below in
    same_parts _ _ _ _ _ _ refl edges silences

pub state_again : CanonicalDeterminesTheState
state_again nodes rs h =
    let below = recursion_from_All (λ r. node_of r < nodes) rs h in
    state_from (state_of nodes rs) (edges_held nodes rs) (silences_held nodes rs)
    (All-entries key_cmp_total exact_keys joined_flat (λ e. e.0.0 < nodes) (λ k v w p q. p) (filter_map edge_word rs) (edge_words_below nodes rs below))
    (All-entries key_cmp_total exact_keys joined_max (λ e. e.0.0 < nodes) (λ k v w p q. p) (filter_map silence_word rs) (silence_words_below nodes rs below))

pub merging : MergingIsAppending
merging nodes xs ys h =
    ap canonical (sym (state_of-append nodes (canonical (state_of nodes xs)) ys) ∙ (ap (λ s. states_joined s (state_of nodes ys)) (state_again nodes xs h) ∙ state_of-append nodes xs ys))

-- ---- states are told apart by their slots
module _ {W : Type 0} {least : W} {join : W → W → W} {holds : W → Bool} (tells : Tells least join holds) where
  not_least : (w : W) → holds w ≡ true → w ≡ least → ⊥
  not_least w h e = let f : true ≡ false = sym h ∙ (ap holds e ∙ tells.none) in cc

  held_at : (es : List (Key × W)) (q : Key) → AllByRecursion (IsHeld holds) es → IfSome (find key_cmp q es) (λ w. holds w ≡ true)
  held_at [] q h = tt
  held_at (e ∷ es) q h = elim (eq_by_cmp key_cmp q e.0) as (λ b. IfSome (cond b (Some e.1) (find key_cmp q es)) (λ w. holds w ≡ true)) [ true ↦ h.0 | false ↦ held_at es q h.1 ]

  same_found : (a b : Option W) → IfSome a (λ w. holds w ≡ true) → IfSome b (λ w. holds w ≡ true) → unwrap_or a least ≡ unwrap_or b least → a ≡ b
  same_found None None p q e = refl
  same_found None (Some w) p q e = absurd (not_least w q (sym e))
  same_found (Some v) None p q e = absurd (not_least v p e)
  same_found (Some v) (Some w) p q e = ap Some e

  pub same_words : (m n : FinMap key_cmp W) → AllByRecursion (IsHeld holds) (entries m) → AllByRecursion (IsHeld holds) (entries n)
      → ((q : Key) → unwrap_or (get m q) least ≡ unwrap_or (get n q) least) → m ≡ n
  same_words m n h k e = same_map key_cmp_total exact_keys m n (λ q.
      get-entries m q ∙ (same_found (find key_cmp q (entries m)) (find key_cmp q (entries n)) (held_at (entries m) q h) (held_at (entries n) q k)
      (ap (λ o. unwrap_or o least) (sym (get-entries m q)) ∙ (e q ∙ ap (λ o. unwrap_or o least) (get-entries n q))) ∙ sym (get-entries n q)))

pub slot_by_slot : JoinsSlotBySlot
slot_by_slot = record {
  edges = edge_at-joined;
  silences = silence_at-joined;
  no_edges = edge_at-none;
  no_silences = silence_at-none;
  same_slots = λ nodes xs ys e s. same_parts _ _ _ _ _ _ refl
      (same_words tells_edge _ _ (edges_held nodes xs) (edges_held nodes ys) e)
      (same_words tells_silence _ _ (silences_held nodes xs) (silences_held nodes ys) (λ q. ap max_word (s q)));
}
