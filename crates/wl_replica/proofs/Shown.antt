-- What entries show, key by key.
use Rattle.std.specs.Prelude.{◌≡◌, Bool, true, false, cond, T, ◌&&◌, ◌||◌, Option, List, [], ◌∷◌, Some, None, unwrap_or, filter, refl, Result, Ok, Err, OnErr}
use Rattle.std.specs.declared.cmp.Ordering.TheVariants.{Less}
use Rattle.std.specs.Ordering.{eq_by_cmp, is_lt}
use Rattle.std.specs.Cmp.{eq_by_cmp_equiv}
use Rattle.std.specs.List.{AllByRecursion}
use Rattle.std.specs.List.Sorted.{IsStrictlySortedBy}
use Rattle.std.specs.Map.{lookup, keys_of}
use Rattle.std.specs.FinMap.{FinMap, get, get-from_sorted, same_map}
use Rattle.std.specs.FinMap.Entries.{find, is_sorted, below_all}
use Rattle.std.proofs.lemmas.Map.Entries.{lookup-filter-values, option_filter}
use Rattle.std.proofs.lemmas.Map.Keys.{IsDistinct-from_sorted}
use Rattle.std.proofs.Common.{sym, ap, ◌∙◌, subst}
use Rattle.wl_lattice.specs.Maps.{joined_options, joined_maps, map_of, words_at, MapLaws}
use Rattle.wl_replica.proofs.SmallFacts.{nothing_more}
use Rattle.wl_replica.specs.Keys.{Key, key_cmp}
use Rattle.wl_replica.proofs.KeyLaws.{key_cmp_total, exact_keys}
use Rattle.wl_replica.specs.Dense.{words_shown}
use Rattle.wl_replica.proofs.KeptLemmas.{found}

both : (a b : Bool) → T a → T b → T (a && b)
both true b p q = q
both false b p q = p

below : {W : Type 0} (p : W → Bool) (x : Key) (es : List (Key × W)) → AllByRecursion (λ y. key_cmp x y ≡ Less) (keys_of es) → T (below_all key_cmp x (filter (λ e. p e.1) es))
below p x [] h = tt
below p x (e ∷ es) h =
    let rest = below p x es h.1 in
    elim (p e.1) as (λ b. T (below_all key_cmp x (cond b (e ∷ filter (λ f. p f.1) es) (filter (λ f. p f.1) es)))) [ true ↦ both _ _ (subst (λ r. T (is_lt r)) (sym h.0) tt) rest | false ↦ rest ]

-- what is left of a list in order is in order
pub sorted_filter : {W : Type 0} (p : W → Bool) (es : List (Key × W)) → IsStrictlySortedBy key_cmp (keys_of es) → T (is_sorted key_cmp (filter (λ e. p e.1) es))
unfolding IsStrictlySortedBy
sorted_filter p [] h = tt
sorted_filter p (e ∷ es) h =
    let rest = sorted_filter p es h.1 in
    elim (p e.1) as (λ b. T (is_sorted key_cmp (cond b (e ∷ filter (λ f. p f.1) es) (filter (λ f. p f.1) es)))) [ true ↦ both _ _ (below p e.0 es h.0) rest | false ↦ rest ]

find_is_lookup : {W : Type 0} (q : Key) (es : List (Key × W)) → find key_cmp q es ≡ lookup (eq_by_cmp key_cmp q) es
find_is_lookup q [] = refl
find_is_lookup q (e ∷ es) = ap (cond (eq_by_cmp key_cmp q e.0) (Some e.1)) (find_is_lookup q es)

-- What it means that a test tells the words that hold something from the least one.
pub record Tells {W : Type 0} (least : W) (join : W → W → W) (holds : W → Bool) : Type 0 where
  pub none : holds least ≡ false
  pub over : (v w : W) → holds (join v w) ≡ (holds v || holds w)
  pub empty : (w : W) → holds w ≡ false → w ≡ least
  pub left : (w : W) → join least w ≡ w
  pub right : (w : W) → join w least ≡ w

module _ {W : Type 0} {least : W} {join : W → W → W} {holds : W → Bool} (laws : MapLaws {K = Key} key_cmp join) (tells : Tells least join holds) where
  abbrev pub seen : W → Option W
  seen w = cond (holds w) (Some w) None

  filtered : (o : Option W) → option_filter holds o ≡ seen (unwrap_or o least)
  filtered None = ap (λ b. cond b (Some least) None) (sym tells.none)
  filtered (Some w) = refl

  pub get-listed : (es : List (Key × W)) → IsStrictlySortedBy key_cmp (keys_of es) → (q : Key) → get (words_shown holds es) q ≡ seen (unwrap_or (found es q) least)
  get-listed es h q =
      get-from_sorted key_cmp (filter (λ e. holds e.1) es) q (sorted_filter holds es h)
      ∙ (find_is_lookup q (filter (λ e. holds e.1) es)
      ∙ (lookup-filter-values (eq_by_cmp_equiv key_cmp_total) holds q es (IsDistinct-from_sorted key_cmp (keys_of es) h)
      ∙ filtered (lookup (eq_by_cmp key_cmp q) es)))

  -- entries that have the same words show the same
  pub listed_same : (es fs : List (Key × W)) → IsStrictlySortedBy key_cmp (keys_of es) → IsStrictlySortedBy key_cmp (keys_of fs)
      → ((q : Key) → unwrap_or (found fs q) least ≡ unwrap_or (found es q) least) → words_shown holds fs ≡ words_shown holds es
  listed_same es fs h k same = same_map key_cmp_total exact_keys _ _ (λ q. get-listed fs k q ∙ (ap seen (same q) ∙ sym (get-listed es h q)))

  seen_both : (a b : Bool) (v w : W) → holds v ≡ a → holds w ≡ b → seen (join v w) ≡ joined_options join (cond a (Some v) None) (cond b (Some w) None)
  seen_both true true v w p q = ap (λ c. cond c (Some (join v w)) None) (tells.over v w ∙ (λ i. p i || q i))
  seen_both true false v w p q = ap (λ c. cond c (Some (join v w)) None) (tells.over v w ∙ (λ i. p i || q i)) ∙ ap Some (ap (join v) (tells.empty w q) ∙ tells.right v)
  seen_both false true v w p q = ap (λ c. cond c (Some (join v w)) None) (tells.over v w ∙ (λ i. p i || q i)) ∙ ap Some (ap (λ x. join x w) (tells.empty v p) ∙ tells.left w)
  seen_both false false v w p q = ap (λ c. cond c (Some (join v w)) None) (tells.over v w ∙ (λ i. p i || q i))

  pub seen-join : (v w : W) → seen (join v w) ≡ joined_options join (seen v) (seen w)
  seen-join v w = seen_both (holds v) (holds w) v w refl refl

  -- entries that have the words of two others, joined, show both, joined
  pub listed_joined : (es fs os : List (Key × W)) → IsStrictlySortedBy key_cmp (keys_of es) → IsStrictlySortedBy key_cmp (keys_of fs) → IsStrictlySortedBy key_cmp (keys_of os)
      → ((q : Key) → unwrap_or (found fs q) least ≡ join (unwrap_or (found es q) least) (unwrap_or (found os q) least))
      → words_shown holds fs ≡ joined_maps join (words_shown holds es) (words_shown holds os)
  listed_joined es fs os h k l is = same_map key_cmp_total exact_keys _ _ (λ q.
      get-listed fs k q ∙ (ap seen (is q) ∙ (seen-join (unwrap_or (found es q) least) (unwrap_or (found os q) least)
      ∙ ((λ i. joined_options join (sym (get-listed es h q) i) (sym (get-listed os l q) i)) ∙ sym (laws.key_by_key (words_shown holds es) (words_shown holds os) q)))))

  -- with one word raised
  single : (b c : Bool) (k q : Key) (v w : W) → eq_by_cmp key_cmp q k ≡ b → holds w ≡ c
      → seen (cond (eq_by_cmp key_cmp q k) (join v w) v) ≡ joined_options join (seen v) (words_at key_cmp join (cond c ((k, w) ∷ []) []) q)
  single true true k q v w e f =
      ap (λ x. seen (cond x (join v w) v)) e ∙ (seen-join v w ∙ (ap (λ x. joined_options join (seen v) (cond x (Some w) None)) f ∙ sym (ap (λ x. joined_options join (seen v) (cond x (Some w) None)) e)))
  single true false k q v w e f = ap (λ x. seen (cond x (join v w) v)) e ∙ (seen-join v w ∙ ap (λ x. joined_options join (seen v) (cond x (Some w) None)) f)
  single false true k q v w e f = ap (λ x. seen (cond x (join v w) v)) e ∙ (sym (nothing_more join (seen v)) ∙ sym (ap (λ x. joined_options join (seen v) (cond x (Some w) None)) e))
  single false false k q v w e f = ap (λ x. seen (cond x (join v w) v)) e ∙ sym (nothing_more join (seen v))

  pub listed_raised : (es fs : List (Key × W)) (k : Key) (w : W) → IsStrictlySortedBy key_cmp (keys_of es) → IsStrictlySortedBy key_cmp (keys_of fs)
      → ((q : Key) → unwrap_or (found fs q) least ≡ cond (eq_by_cmp key_cmp q k) (join (unwrap_or (found es q) least) w) (unwrap_or (found es q) least))
      → words_shown holds fs ≡ joined_maps join (words_shown holds es) (map_of key_cmp join (cond (holds w) ((k, w) ∷ []) []))
  listed_raised es fs k w h l is = same_map key_cmp_total exact_keys _ _ (λ q.
      get-listed fs l q ∙ (ap seen (is q) ∙ (single _ _ k q (unwrap_or (found es q) least) w refl refl
      ∙ ((λ i. joined_options join (sym (get-listed es h q) i) (sym (laws.of_entries (cond (holds w) ((k, w) ∷ []) []) q) i)) ∙ sym (laws.key_by_key (words_shown holds es) _ q)))))

  pub joined_nothing : (m : FinMap key_cmp W) → joined_maps join m (map_of key_cmp join []) ≡ m
  joined_nothing m = same_map key_cmp_total exact_keys _ _ (λ q. laws.key_by_key m _ q ∙ (ap (joined_options join (get m q)) (laws.of_entries [] q) ∙ nothing_more join (get m q)))

  -- a map joined into an empty one
  pub joined_into_nothing : (m : FinMap key_cmp W) → joined_maps join (map_of key_cmp join []) m ≡ m
  joined_into_nothing m = same_map key_cmp_total exact_keys _ _ (λ q. laws.key_by_key _ m q ∙ ap (λ g. joined_options join g (get m q)) (laws.of_entries [] q))

  held : (b : Bool) (w : W) → holds w ≡ b → unwrap_or (cond b (Some w) None) least ≡ w
  held true w e = refl
  held false w e = sym (tells.empty w e)

  -- the word that is shown is the one kept
  pub word_listed : (es : List (Key × W)) → IsStrictlySortedBy key_cmp (keys_of es) → (q : Key) → unwrap_or (get (words_shown holds es) q) least ≡ unwrap_or (found es q) least
  word_listed es h q = ap (λ o. unwrap_or o least) (get-listed es h q) ∙ held (holds (unwrap_or (found es q) least)) (unwrap_or (found es q) least) refl

-- a fact that holds anyway holds at an error
pub at_error : {A E : Type 0} (r : Result A E) (P : Type 0) → P → OnErr r P
at_error (Ok x) P h = tt
at_error (Err e) P h = h
