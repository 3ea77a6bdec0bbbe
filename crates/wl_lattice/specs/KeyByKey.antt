-- Maps of words that keep the laws are joined key by key: what they have at a key, and the laws of that. Callers' proofs take `map_laws`.
use Rattle.std.specs.Prelude.{◌≡◌, Bool, true, false, cond, ◌&&◌, T, List, [], ◌∷◌, ◌++◌, Option, None, Some, unwrap_or, refl, Contains}
use Rattle.std.specs.Option.{option_map}
use Rattle.std.specs.List.{filter_map, cons_option}
use Rattle.std.specs.declared.cmp.Ordering.{Ordering}
use Rattle.std.specs.declared.cmp.Ordering.TheVariants.{Less, Equal, Greater}
use Rattle.std.specs.Ordering.{eq_by_cmp, is_eq, is_lt}
use Rattle.std.specs.Cmp.{IsTotalOrder}
use Rattle.std.specs.FinMap.{FinMap, get, entries, empty, get-insert, get-empty, get-entries, get_tied, entries_sorted, same_map, IsAntisymmetric}
use Rattle.std.specs.FinMap.Entries.{find, is_sorted, below_all}
use Rattle.std.proofs.Common.{sym, ap, ◌∙◌, arith}
use Prim.Native.Nat.{zero, suc}
use Rattle.wl_lattice.specs.Laws.{JoinLaws}
use Rattle.wl_lattice.specs.Maps.{joined_options, raised, raised_all, joined_maps, map_of, words_at, SameMembers, MapLaws}

pub tied_by : (r : Ordering) → is_eq r ≡ true → r ≡ Equal
tied_by Less e = cc
tied_by Equal e = refl
tied_by Greater e = cc

less_by : (r : Ordering) → T (is_lt r) → is_eq r ≡ false
less_by Less h = refl
less_by Equal h = absurd h
less_by Greater h = absurd h

first_of_two : (a b : Bool) → T (a && b) → T a
first_of_two true b p = tt
first_of_two false b p = p

second_of_two : (a b : Bool) → T (a && b) → T b
second_of_two true b p = p
second_of_two false b p = absurd p

module _ {W : Type 0} {is_word : W → Type 0} {least : W} {join : W → W → W} (laws : JoinLaws is_word least join) where
  options_commute : (a b : Option W) → joined_options join a b ≡ joined_options join b a
  options_commute None None = refl
  options_commute None (Some w) = refl
  options_commute (Some v) None = refl
  options_commute (Some v) (Some w) = ap Some (laws.commutes v w)

  options_associate : (a b c : Option W) → joined_options join (joined_options join a b) c ≡ joined_options join a (joined_options join b c)
  options_associate None b c = refl
  options_associate (Some u) None c = refl
  options_associate (Some u) (Some v) None = refl
  options_associate (Some u) (Some v) (Some w) = ap Some (laws.associates u v w)

  options_idempotent : (a : Option W) → joined_options join a a ≡ a
  options_idempotent None = refl
  options_idempotent (Some v) = ap Some (laws.idempotent v)

  module _ {K : Type 0} {R : K → K → Ordering} (o : IsTotalOrder R) where
    raised_by : (b : Bool) (m : Option W) (w : W) → cond b (Some (unwrap_or (option_map (λ v. join v w) m) w)) m ≡ cond b (joined_options join m (Some w)) m
    raised_by true None w = refl
    raised_by true (Some v) w = refl
    raised_by false m w = refl

    at_key : (m : FinMap R W) (k q : K) (w : W) (b : Bool) → eq_by_cmp R q k ≡ b
        → cond b (Some (unwrap_or (option_map (λ v. join v w) (get m k)) w)) (get m q) ≡ cond b (joined_options join (get m q) (Some w)) (get m q)
    at_key m k q w true e = ap (λ g. Some (unwrap_or (option_map (λ v. join v w) g) w)) (get_tied o m q k (tied_by (R q k) e)) ∙ raised_by true (get m q) w
    at_key m k q w false e = refl

    get-raised : (m : FinMap R W) (k : K) (w : W) (q : K) → get (raised join m k w) q ≡ cond (eq_by_cmp R q k) (joined_options join (get m q) (Some w)) (get m q)
    get-raised m k w q = get-insert o m k _ q ∙ at_key m k q w _ refl

    regroup : (b : Bool) (a c : Option W) (w : W) → cond b (joined_options join (joined_options join a c) (Some w)) (joined_options join a c) ≡ joined_options join a (cond b (joined_options join c (Some w)) c)
    regroup true a c w = options_associate a c (Some w)
    regroup false a c w = refl

    nothing_more : (a : Option W) → a ≡ joined_options join a None
    nothing_more None = refl
    nothing_more (Some v) = refl

    get-raised_all : (m : FinMap R W) (es : List (K × W)) (q : K) → get (raised_all join m es) q ≡ joined_options join (get m q) (words_at R join es q)
    get-raised_all m [] q = nothing_more (get m q)
    get-raised_all m (e ∷ es) q =
        get-raised (raised_all join m es) e.0 e.1 q
        ∙ (ap (λ g. cond (eq_by_cmp R q e.0) (joined_options join g (Some e.1)) g) (get-raised_all m es q)
        ∙ regroup (eq_by_cmp R q e.0) (get m q) (words_at R join es q) e.1)

    -- past a key, a list in order has nothing at it
    nothing_below : (x q : K) (es : List (K × W)) → R q x ≡ Equal → T (below_all R x es) → words_at R join es q ≡ None
    nothing_below x q [] e h = refl
    nothing_below x q (f ∷ es) e h =
        let apart : eq_by_cmp R q f.0 ≡ false = ap is_eq (o.congr q x f.0 e) ∙ less_by (R x f.0) (first_of_two _ _ h) in
        ap (λ b. cond b (joined_options join (words_at R join es q) (Some f.1)) (words_at R join es q)) apart ∙ nothing_below x q es e (second_of_two _ _ h)

    first_entry : (e : K × W) (es : List (K × W)) (q : K) (b : Bool) → eq_by_cmp R q e.0 ≡ b → T (below_all R e.0 es) → words_at R join es q ≡ find R q es
        → cond b (joined_options join (words_at R join es q) (Some e.1)) (words_at R join es q) ≡ cond b (Some e.1) (find R q es)
    first_entry e es q true t h rest = ap (λ a. joined_options join a (Some e.1)) (nothing_below e.0 q es (tied_by (R q e.0) t) h)
    first_entry e es q false t h rest = rest

    -- a list in order has one word at most at a key
    words_at-sorted : (es : List (K × W)) (q : K) → T (is_sorted R es) → words_at R join es q ≡ find R q es
    words_at-sorted [] q h = refl
    words_at-sorted (e ∷ es) q h = first_entry e es q _ refl (first_of_two _ _ h) (words_at-sorted es q (second_of_two _ _ h))

    get-joined_maps : (m n : FinMap R W) (q : K) → get (joined_maps join m n) q ≡ joined_options join (get m q) (get n q)
    get-joined_maps m n q = get-raised_all m (entries n) q ∙ ap (joined_options join (get m q)) (words_at-sorted (entries n) q (entries_sorted n) ∙ sym (get-entries n q))

    -- what a list of entries makes
    get-map_of : (es : List (K × W)) (q : K) → get (map_of R join es) q ≡ words_at R join es q
    get-map_of es q = get-raised_all (empty {R = R}) es q ∙ ap (λ g. joined_options join g (words_at R join es q)) (get-empty R q)

    words_at-append : (es fs : List (K × W)) (q : K) → words_at R join (es ++ fs) q ≡ joined_options join (words_at R join es q) (words_at R join fs q)
    words_at-append [] fs q = refl
    words_at-append (e ∷ es) fs q =
        ap (λ a. cond (eq_by_cmp R q e.0) (joined_options join a (Some e.1)) a) (words_at-append es fs q)
        ∙ turned (eq_by_cmp R q e.0) (words_at R join es q) (words_at R join fs q) e.1 where
          turned : (b : Bool) (a c : Option W) (w : W) → cond b (joined_options join (joined_options join a c) (Some w)) (joined_options join a c) ≡ joined_options join (cond b (joined_options join a (Some w)) a) c
          turned true a c w = options_associate a c (Some w) ∙ (ap (joined_options join a) (options_commute c (Some w)) ∙ sym (options_associate a (Some w) c))
          turned false a c w = refl

    module _ (exact : IsAntisymmetric R) where
      maps_commute : (a b : FinMap R W) → joined_maps join a b ≡ joined_maps join b a
      maps_commute a b = same_map o exact _ _ (λ q. get-joined_maps a b q ∙ (options_commute (get a q) (get b q) ∙ sym (get-joined_maps b a q)))

      maps_associate : (a b c : FinMap R W) → joined_maps join (joined_maps join a b) c ≡ joined_maps join a (joined_maps join b c)
      maps_associate a b c = same_map o exact _ _ (λ q.
          get-joined_maps (joined_maps join a b) c q ∙ (ap (λ g. joined_options join g (get c q)) (get-joined_maps a b q)
          ∙ (options_associate (get a q) (get b q) (get c q) ∙ (ap (joined_options join (get a q)) (sym (get-joined_maps b c q)) ∙ sym (get-joined_maps a (joined_maps join b c) q)))))

      maps_idempotent : (a : FinMap R W) → joined_maps join a a ≡ a
      maps_idempotent a = same_map o exact _ _ (λ q. get-joined_maps a a q ∙ options_idempotent (get a q))

      map_of-append : (es fs : List (K × W)) → map_of R join (es ++ fs) ≡ joined_maps join (map_of R join es) (map_of R join fs)
      map_of-append es fs = same_map o exact _ _ (λ q.
          get-map_of (es ++ fs) q ∙ (words_at-append es fs q
          ∙ ((λ i. joined_options join (sym (get-map_of es q) i) (sym (get-map_of fs q) i)) ∙ sym (get-joined_maps (map_of R join es) (map_of R join fs) q))))

    -- ---- lists with the same members
    by_test : (b : Bool) (a : Option W) (w : W) → cond b (joined_options join a (Some w)) a ≡ joined_options join a (cond b (Some w) None)
    by_test true a w = refl
    by_test false a w = nothing_more a

    -- what one element gives at a key
    abbrev given : Option (K × W) → K → Option W
    given None q = None
    given (Some e) q = cond (eq_by_cmp R q e.0) (Some e.1) None

    first_given : (g : Option (K × W)) (es : List (K × W)) (q : K) → words_at R join (cons_option g es) q ≡ joined_options join (words_at R join es q) (given g q)
    first_given None es q = nothing_more (words_at R join es q)
    first_given (Some f) es q = by_test (eq_by_cmp R q f.0) (words_at R join es q) f.1

    module _ {E : Type 0} (entry : E → Option (K × W)) where
      abbrev words_of : List E → K → Option W
      words_of xs q = words_at R join (filter_map entry xs) q

      -- what a member gives is in the words already
      absorbed : (xs : List E) (x : E) (q : K) → Contains xs x → joined_options join (words_of xs q) (given (entry x) q) ≡ words_of xs q
      absorbed [] x q (k, lt, is) = absurd (omega arith)
      absorbed (y ∷ xs) x q (zero, lt, is) =
          ap (λ a. joined_options join a (given (entry x) q)) (first_given (entry y) (filter_map entry xs) q)
          ∙ (options_associate (words_of xs q) (given (entry y) q) (given (entry x) q)
          ∙ (ap (λ z. joined_options join (words_of xs q) (joined_options join (given (entry y) q) (given (entry z) q))) (sym is)
          ∙ (ap (joined_options join (words_of xs q)) (options_idempotent (given (entry y) q)) ∙ sym (first_given (entry y) (filter_map entry xs) q))))
      absorbed (y ∷ xs) x q (suc k, lt, is) =
          ap (λ a. joined_options join a (given (entry x) q)) (first_given (entry y) (filter_map entry xs) q)
          ∙ (options_associate (words_of xs q) (given (entry y) q) (given (entry x) q)
          ∙ (ap (joined_options join (words_of xs q)) (options_commute (given (entry y) q) (given (entry x) q))
          ∙ (sym (options_associate (words_of xs q) (given (entry x) q) (given (entry y) q))
          ∙ (ap (λ a. joined_options join a (given (entry y) q)) (absorbed xs x q (k, omega arith, is)) ∙ sym (first_given (entry y) (filter_map entry xs) q)))))

      subset_absorbed : (xs ys : List E) (q : K) → ((x : E) → Contains xs x → Contains ys x) → joined_options join (words_of ys q) (words_of xs q) ≡ words_of ys q
      subset_absorbed [] ys q h = sym (nothing_more (words_of ys q))
      subset_absorbed (x ∷ xs) ys q h =
          ap (joined_options join (words_of ys q)) (first_given (entry x) (filter_map entry xs) q)
          ∙ (sym (options_associate (words_of ys q) (words_of xs q) (given (entry x) q))
          ∙ (ap (λ a. joined_options join a (given (entry x) q)) (subset_absorbed xs ys q (λ z c. h z (suc c.0, omega (arith, c.1), c.2)))
          ∙ absorbed ys x q (h x (zero, omega arith, refl))))

      -- lists with the same members make the same map
      map_of-same_members : IsAntisymmetric R → (xs ys : List E) → ((x : E) → Contains xs x → Contains ys x) → ((x : E) → Contains ys x → Contains xs x)
          → map_of R join (filter_map entry xs) ≡ map_of R join (filter_map entry ys)
      map_of-same_members exact xs ys to from = same_map o exact _ _ (λ q.
          get-map_of (filter_map entry xs) q
          ∙ (sym (subset_absorbed ys xs q from) ∙ (options_commute (words_of xs q) (words_of ys q) ∙ (subset_absorbed xs ys q to
          ∙ sym (get-map_of (filter_map entry ys) q)))))

-- ---- the laws together

-- a list whose elements are entries
each_listed : {E : Type 0} (es : List E) → filter_map (λ (e : E). Some e) es ≡ es
each_listed [] = refl
each_listed (e ∷ es) = ap (λ fs. e ∷ fs) (each_listed es)

module _ {W : Type 0} {is_word : W → Type 0} {least : W} {join : W → W → W} (laws : JoinLaws is_word least join)
    {K : Type 0} {R : K → K → Ordering} (o : IsTotalOrder R) (exact : IsAntisymmetric R) where
  maps_neutral : (a : FinMap R W) → joined_maps join empty a ≡ a
  maps_neutral a = same_map o exact _ _ (λ q. get-joined_maps laws o empty a q ∙ ap (λ g. joined_options join g (get a q)) (get-empty R q))

  same_entries : (es fs : List (K × W)) → SameMembers es fs → map_of R join es ≡ map_of R join fs
  same_entries es fs h =
      ap (map_of R join) (sym (each_listed es))
      ∙ (map_of-same_members laws o (λ e. Some e) exact es fs (λ x. (h x).0) (λ x. (h x).1) ∙ ap (map_of R join) (each_listed fs))

  pub map_laws : MapLaws R join
  map_laws = record {
    key_by_key = get-joined_maps laws o;
    commutes = maps_commute laws o exact;
    associates = maps_associate laws o exact;
    idempotent = maps_idempotent laws o exact;
    neutral = maps_neutral;
    of_entries = get-map_of laws o;
    of_both = map_of-append laws o exact;
    of_members = same_entries;
    words_of_both = words_at-append laws o;
    words_of_map = λ m q. words_at-sorted laws o (entries m) q (entries_sorted m) ∙ sym (get-entries m q);
    options_commute = options_commute laws;
    options_associate = options_associate laws;
  }
