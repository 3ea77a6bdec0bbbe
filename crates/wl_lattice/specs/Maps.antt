-- Finite maps of words, joined key by key. A key that a map lacks counts as below every word. This project's profile.
use Rattle.std.specs.Prelude.{◌≡◌, cond, List, [], ◌∷◌, ◌++◌, Option, None, Some, unwrap_or, Contains}
use Rattle.std.specs.Option.{option_map}
use Rattle.std.specs.declared.cmp.Ordering.{Ordering}
use Rattle.std.specs.Ordering.{eq_by_cmp}
use Rattle.std.specs.Cmp.{IsTotalOrder}
use Rattle.std.specs.FinMap.{FinMap, get, insert, entries, empty, IsAntisymmetric}

-- what one word and another make, where each may be missing
abbrev pub joined_options : {W : Type 0} → (W → W → W) → Option W → Option W → Option W
joined_options join None b = b
joined_options join (Some v) None = Some v
joined_options join (Some v) (Some w) = Some (join v w)

module _ {K W : Type 0} {R : K → K → Ordering} (join : W → W → W) where
  -- the map with a word joined in at one key
  abbrev pub raised : FinMap R W → K → W → FinMap R W
  raised m k w = insert m k (unwrap_or (option_map (λ v. join v w) (get m k)) w)

  -- and so with each of the entries
  abbrev pub raised_all : FinMap R W → List (K × W) → FinMap R W
  raised_all m [] = m
  raised_all m (e ∷ es) = raised (raised_all m es) e.0 e.1

  -- two maps, joined key by key
  abbrev pub joined_maps : FinMap R W → FinMap R W → FinMap R W
  joined_maps m n = raised_all m (entries n)

-- the map of a list of entries: at each key the join of all that it lists there
abbrev pub map_of : {K W : Type 0} (R : K → K → Ordering) → (W → W → W) → List (K × W) → FinMap R W
map_of R join es = raised_all {R = R} join empty es

-- the join of all the words that a list has at a key
abbrev pub words_at : {K W : Type 0} → (K → K → Ordering) → (W → W → W) → List (K × W) → K → Option W
words_at R join [] q = None
words_at R join (e ∷ es) q = cond (eq_by_cmp R q e.0) (joined_options join (words_at R join es q) (Some e.1)) (words_at R join es q)

-- two lists have the same members, in any order and however often each
abbrev pub SameMembers : {E : Type 0} → List E → List E → Type 0
SameMembers {E} xs ys = (x : E) → (Contains xs x → Contains ys x) × (Contains ys x → Contains xs x)

-- Maps are joined key by key, and that is a join.
pub record MapLaws {K W : Type 0} (R : K → K → Ordering) (join : W → W → W) : Type 0 where
  pub key_by_key : (a b : FinMap R W) (q : K) → get (joined_maps join a b) q ≡ joined_options join (get a q) (get b q)
  pub commutes : (a b : FinMap R W) → joined_maps join a b ≡ joined_maps join b a
  pub associates : (a b c : FinMap R W) → joined_maps join (joined_maps join a b) c ≡ joined_maps join a (joined_maps join b c)
  pub idempotent : (a : FinMap R W) → joined_maps join a a ≡ a
  pub neutral : (a : FinMap R W) → joined_maps join empty a ≡ a
  -- the map of a list of entries has at each key the join of what they have there
  pub of_entries : (es : List (K × W)) (q : K) → get (map_of R join es) q ≡ words_at R join es q
  pub of_both : (es fs : List (K × W)) → map_of R join (es ++ fs) ≡ joined_maps join (map_of R join es) (map_of R join fs)
  pub of_members : (es fs : List (K × W)) → SameMembers es fs → map_of R join es ≡ map_of R join fs
  -- what lists have at a key: two of them, and the entries of a map
  pub words_of_both : (es fs : List (K × W)) (q : K) → words_at R join (es ++ fs) q ≡ joined_options join (words_at R join es q) (words_at R join fs q)
  pub words_of_map : (m : FinMap R W) (q : K) → words_at R join (entries m) q ≡ get m q
  -- where either word may be missing
  pub options_commute : (a b : Option W) → joined_options join a b ≡ joined_options join b a
  pub options_associate : (a b c : Option W) → joined_options join (joined_options join a b) c ≡ joined_options join a (joined_options join b c)

-- of keys in a total order, in which no two are equal but a key and itself
abbrev pub JoinsKeyByKey : (K : Type 0) {W : Type 0} → (W → W → W) → Type 0
JoinsKeyByKey K join = (R : K → K → Ordering) → IsTotalOrder R → IsAntisymmetric R → MapLaws R join
