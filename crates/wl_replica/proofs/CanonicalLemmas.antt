-- What is listed of entries is what they show.
use Rattle.std.specs.Prelude.{◌≡◌, ℕ, ◌+◌, ◌==◌, Bool, true, false, cond, not, List, [], ◌∷◌, ◌++◌, Option, None, filter, refl}
use Rattle.std.specs.List.{filter_map, cons_option, flat_map, range_with_len}
use Rattle.std.specs.List.Sorted.{IsStrictlySortedBy}
use Rattle.std.specs.Map.{keys_of}
use Rattle.std.specs.FinMap.{entries-from_sorted}
use Rattle.std.proofs.Common.{sym, ap, ◌∙◌, arith}
use Rattle.std.proofs.lemmas.List.{append-nil}
use Rattle.std.proofs.lemmas.Grind.{flat_map-append}
use Prim.Native.Nat.{zero, suc}
use Rattle.wl_lattice.specs.declared.FlatWord.{FlatWord}
use Rattle.wl_lattice.specs.declared.FlatWord.TheVariants as flat
use Rattle.wl_lattice.specs.declared.MaxWord.{MaxWord}
use Rattle.wl_record_core.specs.declared.record.Record.{Record}
use Rattle.wl_replica.specs.Keys.{Key, key_cmp}
use Rattle.wl_replica.specs.Dense.{words_shown}
use Rattle.wl_replica.specs.Canonical.{edge_record, silence_record, of_node, records_of_node, canonical}
use Rattle.wl_replica.specs.Dense.{holds_edge, holds_silence}
use Rattle.wl_replica.proofs.Shown.{sorted_filter}

-- an entry that holds nothing is no record
module _ {W : Type 0} (holds : W → Bool) (told : Key × W → Option Record) (nothing : (e : Key × W) → holds e.1 ≡ false → told e ≡ None) where
  one : (b c : Bool) (e : Key × W) (node : ℕ) (es : List (Key × W)) → holds e.1 ≡ b → (e.0.0 == node) ≡ c
      → filter_map told (of_node node (filter (λ f. holds f.1) es)) ≡ filter_map told (of_node node es)
      → filter_map told (of_node node (cond b (e ∷ filter (λ f. holds f.1) es) (filter (λ f. holds f.1) es))) ≡ filter_map told (cond c (e ∷ of_node node es) (of_node node es))
  one true true e node es p q rest = ap (λ z. filter_map told (cond z (e ∷ of_node node (filter (λ f. holds f.1) es)) (of_node node (filter (λ f. holds f.1) es)))) q ∙ ap (cons_option (told e)) rest
  one true false e node es p q rest = ap (λ z. filter_map told (cond z (e ∷ of_node node (filter (λ f. holds f.1) es)) (of_node node (filter (λ f. holds f.1) es)))) q ∙ rest
  one false true e node es p q rest = rest ∙ sym (ap (λ g. cons_option g (filter_map told (of_node node es))) (nothing e p))
  one false false e node es p q rest = rest

  pub told_filtered : (node : ℕ) (es : List (Key × W)) → filter_map told (of_node node (filter (λ f. holds f.1) es)) ≡ filter_map told (of_node node es)
  told_filtered node [] = refl
  told_filtered node (e ∷ es) = one (holds e.1) (e.0.0 == node) e node es refl refl (told_filtered node es)

pub no_edge : (e : Key × FlatWord) → holds_edge e.1 ≡ false → edge_record e ≡ None
no_edge (k, flat.Nothing) h = refl
no_edge (k, flat.Value t) h = cc
no_edge (k, flat.Clash) h = cc

pub no_silence : (e : Key × MaxWord) → holds_silence e.1 ≡ false → silence_record e ≡ None
no_silence e h = zero_is (e.1.word == 0) _ h where
  zero_is : (b : Bool) (o : Option Record) → not b ≡ false → cond b None o ≡ None
  zero_is true o g = refl
  zero_is false o g = cc

pub same_of_each : {A B : Type 0} (f g : A → List B) → ((x : A) → f x ≡ g x) → (xs : List A) → flat_map f xs ≡ flat_map g xs
same_of_each f g h [] = refl
same_of_each f g h (x ∷ xs) = λ i. h x i ++ same_of_each f g h xs i

pub canonical_of_entries : (nodes : ℕ) (edges : List (Key × FlatWord)) (silences : List (Key × MaxWord)) → IsStrictlySortedBy key_cmp (keys_of edges) → IsStrictlySortedBy key_cmp (keys_of silences)
    → flat_map (records_of_node edges silences) (range_with_len 0 nodes)
    ≡ canonical (record { nodes = nodes; edges = words_shown holds_edge edges; silences = words_shown holds_silence silences })
canonical_of_entries nodes edges silences h k =
    let es = entries-from_sorted key_cmp (filter (λ f. holds_edge f.1) edges) (sorted_filter holds_edge edges h) in
    let ss = entries-from_sorted key_cmp (filter (λ f. holds_silence f.1) silences) (sorted_filter holds_silence silences k) in
    same_of_each _ _ (λ node.
    (λ i. sym (told_filtered holds_edge edge_record no_edge node edges) i ++ sym (told_filtered holds_silence silence_record no_silence node silences) i)
    ∙ (λ i. records_of_node (sym es i) (sym ss i) node)) (range_with_len 0 nodes)

pub range_last : (a n : ℕ) → range_with_len a (suc n) ≡ range_with_len a n ++ (a + n) ∷ []
range_last a zero = ap (λ k. k ∷ []) (omega arith)
range_last a (suc n) =
    let next : (a + 1) + n ≡ a + suc n = omega arith in
    ap (λ ks. a ∷ ks) (range_last (a + 1) n ∙ ap (λ k. range_with_len (a + 1) n ++ k ∷ []) next)

-- one more at the end of a range
pub flat_map-range_last : {A : Type 0} (f : ℕ → List A) (n : ℕ) → flat_map f (range_with_len 0 (suc n)) ≡ flat_map f (range_with_len 0 n) ++ f n
flat_map-range_last f n =
    let last : 0 + n ≡ n = omega arith in
    ap (flat_map f) (range_last 0 n) ∙ (flat_map-append f (range_with_len 0 n) ((0 + n) ∷ [])
    ∙ (ap (λ m. flat_map f (range_with_len 0 n) ++ (f m ++ [])) last ∙ ap (λ z. flat_map f (range_with_len 0 n) ++ z) (append-nil (f n))))

-- the records of one node more
pub one_node_more : (f : ℕ → List Record) (n : ℕ) → flat_map f (range_with_len 0 (n + 1)) ≡ flat_map f (range_with_len 0 n) ++ f n
one_node_more f n =
    let add_one : n + 1 ≡ suc n = omega arith in
    ap (λ m. flat_map f (range_with_len 0 m)) add_one ∙ flat_map-range_last f n
