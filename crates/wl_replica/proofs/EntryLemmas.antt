-- The entries of the map that a list of entries makes: what holds of each, and what they come to.
use Rattle.std.specs.Prelude.{◌≡◌, ℕ, ◌+◌, ◌≤◌, Bool, true, false, cond, T, ◌&&◌, List, [], ◌∷◌, Option, None, Some, unwrap_or, refl}
use Rattle.std.specs.Option.{option_map}
use Rattle.std.specs.List.{AllByRecursion}
use Rattle.std.specs.declared.cmp.Ordering.{Ordering}
use Rattle.std.specs.declared.cmp.Ordering.TheVariants.{Less, Equal, Greater}
use Rattle.std.specs.Ordering.{eq_by_cmp, is_eq, is_lt}
use Rattle.std.specs.Cmp.{IsTotalOrder}
use Rattle.std.specs.FinMap.{entries, entries-insert, get-entries, entries_sorted, empty, len-entries, len-empty, IsAntisymmetric}
use Rattle.std.specs.FinMap.Entries.{find, put, by_order, is_sorted, below_all}
use Rattle.std.proofs.Common.{sym, ap, subst, ◌∙◌, arith}
use Rattle.std.proofs.lemmas.List.{nil_from_length}
use Rattle.wl_lattice.specs.Maps.{map_of}
use Rattle.wl_lattice.specs.KeyByKey.{tied_by}

-- a word with what was found joined in before it
abbrev pub grown : {W : Type 0} → (W → W → W) → Option W → W → W
grown join found w = unwrap_or (option_map (λ v. join v w) found) w

-- the entries of the map, made one by one
abbrev pub listed : {K W : Type 0} → (K → K → Ordering) → (W → W → W) → List (K × W) → List (K × W)
listed R join [] = []
listed R join (e ∷ es) = let rest = listed R join es in put R e.0 (grown join (find R e.0 rest) e.1) rest

pub entries-map_of : {K W : Type 0} {R : K → K → Ordering} (o : IsTotalOrder R) (join : W → W → W) (es : List (K × W)) → entries (map_of R join es) ≡ listed R join es
entries-map_of {W = W} {R = R} o join [] = nil_from_length (entries (empty {X = W} {R = R})) (sym (len-entries (empty {X = W} {R = R})) ∙ len-empty R W)
entries-map_of {R = R} o join (e ∷ es) =
    let is = entries-map_of o join es in
    entries-insert o (map_of R join es) e.0 _
    ∙ (ap (λ g. put R e.0 (grown join g e.1) (entries (map_of R join es))) (get-entries (map_of R join es) e.0)
    ∙ ap (λ fs. put R e.0 (grown join (find R e.0 fs) e.1) fs) is)

less_by : (r : Ordering) → T (is_lt r) → r ≡ Less
less_by Less h = refl
less_by Equal h = absurd h
less_by Greater h = absurd h

first_of_two : (a b : Bool) → T (a && b) → T a
first_of_two true b p = tt
first_of_two false b p = p

second_of_two : (a b : Bool) → T (a && b) → T b
second_of_two true b p = p
second_of_two false b p = absurd p

-- what entries come to, each counted by f
abbrev pub total : {K W : Type 0} → (K × W → ℕ) → List (K × W) → ℕ
total f [] = 0
total f (e ∷ es) = f e + total f es

module _ {K W : Type 0} {R : K → K → Ordering} (o : IsTotalOrder R) (exact : IsAntisymmetric R) (join : W → W → W) where
  -- ---- what holds of each entry, where joining keeps it
  module _ (P : K × W → Type 0) (keeps : (k : K) (v w : W) → P (k, v) → P (k, w) → P (k, join v w)) where
    All-put : (k : K) (v : W) (es : List (K × W)) → P (k, v) → AllByRecursion P es → AllByRecursion P (put R k v es)
    All-put k v [] p h = (p, tt)
    All-put k v (e ∷ es) p h =
        elim (R k e.0) as (λ r. R k e.0 ≡ r → AllByRecursion P (by_order r ((k, v) ∷ e ∷ es) ((e.0, v) ∷ es) (e ∷ put R k v es))) [
          | Less ↦ λ is. (p, h)
          | Equal ↦ λ is. (subst (λ x. P (x, v)) (exact k e.0 is) p, h.1)
          | Greater ↦ λ is. (h.0, All-put k v es p h.1)
        ] refl

    grown_keeps : (k : K) (w : W) (es : List (K × W)) → P (k, w) → AllByRecursion P es → P (k, grown join (find R k es) w)
    grown_keeps k w [] p h = p
    grown_keeps k w (e ∷ es) p h =
        elim (eq_by_cmp R k e.0) as (λ b. eq_by_cmp R k e.0 ≡ b → P (k, grown join (cond b (Some e.1) (find R k es)) w)) [
          | true ↦ λ is. keeps k e.1 w (subst (λ x. P (x, e.1)) (sym (exact k e.0 (tied_by (R k e.0) is))) h.0) p
          | false ↦ λ is. grown_keeps k w es p h.1
        ] refl

    pub All-listed : (es : List (K × W)) → AllByRecursion P es → AllByRecursion P (listed R join es)
    All-listed [] h = tt
    All-listed (e ∷ es) h = let rest = All-listed es h.1 in All-put e.0 _ (listed R join es) (grown_keeps e.0 e.1 (listed R join es) h.0 rest) rest

    pub All-entries : (es : List (K × W)) → AllByRecursion P es → AllByRecursion P (entries (map_of R join es))
    All-entries es h = subst (AllByRecursion P) (sym (entries-map_of o join es)) (All-listed es h)

  -- ---- what the entries come to
  module _ (f : K × W → ℕ) (adds : (k : K) (v w : W) → f (k, join v w) ≤ f (k, v) + f (k, w)) where
    none_below : (k x : K) (es : List (K × W)) → R k x ≡ Less → T (below_all R x es) → find R k es ≡ None
    none_below k x [] less h = refl
    none_below k x (e ∷ es) less h =
        let apart : eq_by_cmp R k e.0 ≡ false = ap is_eq (o.trans k x e.0 less (less_by (R x e.0) (first_of_two _ _ h))) in
        ap (λ b. cond b (Some e.1) (find R k es)) apart ∙ none_below k x es less (second_of_two _ _ h)

    total-put : (k : K) (w : W) (es : List (K × W)) → T (is_sorted R es) → total f (put R k (grown join (find R k es) w) es) ≤ f (k, w) + total f es
    total-put k w [] h = omega arith
    total-put k w (e ∷ es) h =
        elim (R k e.0) as (λ r. R k e.0 ≡ r → total f (by_order r ((k, grown join (find R k (e ∷ es)) w) ∷ e ∷ es) ((e.0, grown join (find R k (e ∷ es)) w) ∷ es) (e ∷ put R k (grown join (find R k (e ∷ es)) w) es)) ≤ f (k, w) + (f e + total f es)) [
          | Less ↦ λ is.
              let none : find R k (e ∷ es) ≡ None = ap (λ r. cond (is_eq r) (Some e.1) (find R k es)) is ∙ none_below k e.0 es is (first_of_two _ _ h) in
              subst (λ u. f (k, grown join u w) + (f e + total f es) ≤ f (k, w) + (f e + total f es)) (sym none) (omega arith)
          | Equal ↦ λ is.
              let one : find R k (e ∷ es) ≡ Some e.1 = ap (λ r. cond (is_eq r) (Some e.1) (find R k es)) is in
              let same : f (k, w) ≡ f (e.0, w) = ap (λ x. f (x, w)) (exact k e.0 is) in
              subst (λ u. f (e.0, grown join u w) + total f es ≤ f (k, w) + (f e + total f es)) (sym one) (omega (arith, adds e.0 e.1 w))
          | Greater ↦ λ is.
              let later : find R k (e ∷ es) ≡ find R k es = ap (λ r. cond (is_eq r) (Some e.1) (find R k es)) is in
              subst (λ u. f e + total f (put R k (grown join u w) es) ≤ f (k, w) + (f e + total f es)) (sym later) (omega (arith, total-put k w es (second_of_two _ _ h)))
        ] refl

    total-listed : (es : List (K × W)) → total f (listed R join es) ≤ total f es
    total-listed [] = omega arith
    total-listed (e ∷ es) =
        let rest = listed R join es in
        let sorted : T (is_sorted R rest) = subst (λ fs. T (is_sorted R fs)) (entries-map_of o join es) (entries_sorted (map_of R join es)) in
        omega (arith, total-put e.0 e.1 rest sorted, total-listed es)

    pub total-entries : (es : List (K × W)) → total f (entries (map_of R join es)) ≤ total f es
    total-entries es = subst (λ fs. total f fs ≤ total f es) (sym (entries-map_of o join es)) (total-listed es)
