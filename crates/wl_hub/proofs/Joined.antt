-- The join of what records give, and its order.
use Rattle.std.proofs.Common.{◌≡◌, ℕ, suc, zero, Bool, true, false, List, [], ◌∷◌, ◌++◌, set, sym, ap, ◌∙◌, refl}
use Rattle.std.specs.Prelude.{filter}
use Rattle.std.proofs.Math.Bool.{cond}
use mathlib.Core.Option.{some, some-injective, some-ne-none}
use lib.ListN.{get_elem?}
use Rattle.wl_record_core.specs.declared.record.Record.{Record}
use Rattle.wl_hub.specs.declared.view.View.{View}
use Rattle.wl_lattice.specs.Laws.{JoinLaws}
use Rattle.wl_hub.specs.Rule.{Kind, kind, share, joined, Below, gifts}

-- the laws of a join, of which each value is a word
pub record IsJoin {J : Type 0} (k : Kind J) : Type 0 where
  pub neutral : (x : J) → k.join k.bottom x ≡ x
  pub idempotent : (x : J) → k.join x x ≡ x
  pub commutative : (x y : J) → k.join x y ≡ k.join y x
  pub associative : (x y z : J) → k.join (k.join x y) z ≡ k.join x (k.join y z)

-- the laws that a member proves
pub laws_of : {J : Type 0} {is_word : J → Type 0} (b : J) (j : J → J → J) (w : J → ℕ) (v : Record → J) (at : List (ℕ × ℕ) → ℕ → Record → Bool)
    → JoinLaws is_word b j → ((x : J) → is_word x) → (shape : List (ℕ × ℕ)) → IsJoin (kind b j w v (at shape))
laws_of b j w v at laws whole shape = record { neutral = λ x. laws.neutral x (whole x); idempotent = laws.idempotent; commutative = laws.commutes; associative = laws.associates }

module _ {J : Type 0} (k : Kind J) (laws : IsJoin k) where
  pub neutral_right : (x : J) → k.join x k.bottom ≡ x
  neutral_right x = laws.commutative x k.bottom ∙ laws.neutral x

  pub joined-append : (i : ℕ) (xs ys : List Record) → joined k i (xs ++ ys) ≡ k.join (joined k i xs) (joined k i ys)
  joined-append i [] ys = sym (laws.neutral (joined k i ys))
  joined-append i (x ∷ xs) ys = ap (k.join (share k i x)) (joined-append i xs ys) ∙ sym (laws.associative (share k i x) (joined k i xs) (joined k i ys))

  pub below_trans : (x y z : J) → Below k x y → Below k y z → Below k x z
  below_trans x y z p q = ap (k.join x) (sym q) ∙ sym (laws.associative x y z) ∙ ap (λ (u : J). k.join u z) p ∙ q

  pub below_left : (x y : J) → Below k x (k.join x y)
  below_left x y = sym (laws.associative x x y) ∙ ap (λ (u : J). k.join u y) (laws.idempotent x)

  pub below_right : (x y : J) → Below k y (k.join x y)
  below_right x y = ap (k.join y) (laws.commutative x y) ∙ below_left y x ∙ laws.commutative y x

  pub below_join : (x y z : J) → Below k x z → Below k y z → Below k (k.join x y) z
  below_join x y z p q = laws.associative x y z ∙ ap (k.join x) q ∙ p

  pub below_bottom : (x : J) → Below k k.bottom x
  below_bottom = laws.neutral

  -- two values, each below the other, are one
  pub below_same : (x y : J) → Below k x y → Below k y x → x ≡ y
  below_same x y p q = sym q ∙ laws.commutative y x ∙ p

  pub filter_below : (i j : ℕ) (xs : List Record) → Below k (joined k j (filter (k.at i) xs)) (joined k j xs)
  filter_below i j [] = laws.neutral k.bottom
  filter_below i j (x ∷ xs) = elim (k.at i x) as (λ b. Below k (joined k j (cond b (x ∷ filter (k.at i) xs) (filter (k.at i) xs))) (k.join (share k j x) (joined k j xs))) [
    | true ↦ below_join (share k j x) (joined k j (filter (k.at i) xs)) (k.join (share k j x) (joined k j xs)) (below_left (share k j x) (joined k j xs))
        (below_trans (joined k j (filter (k.at i) xs)) (joined k j xs) (k.join (share k j x) (joined k j xs)) (filter_below i j xs) (below_right (share k j x) (joined k j xs)))
    | false ↦ below_trans (joined k j (filter (k.at i) xs)) (joined k j xs) (k.join (share k j x) (joined k j xs)) (filter_below i j xs) (below_right (share k j x) (joined k j xs))
  ]

  filter_one : (i : ℕ) (x : Record) (xs : List Record) (b : Bool) → k.at i x ≡ b → joined k i (filter (k.at i) xs) ≡ joined k i xs
      → joined k i (cond b (x ∷ filter (k.at i) xs) (filter (k.at i) xs)) ≡ k.join (share k i x) (joined k i xs)
  filter_one i x xs true e h = ap (k.join (share k i x)) h
  filter_one i x xs false e h = h ∙ sym (ap (λ (b : Bool). k.join (cond b (k.value x) k.bottom) (joined k i xs)) e ∙ laws.neutral (joined k i xs))

  pub filter_here : (i : ℕ) (xs : List Record) → joined k i (filter (k.at i) xs) ≡ joined k i xs
  filter_here i [] = refl
  filter_here i (x ∷ xs) = filter_one i x xs (k.at i x) refl (filter_here i xs)

  one_else : (i j : ℕ) → ((r : Record) → k.at i r ≡ true → k.at j r ≡ false) → (x : Record) (xs : List Record) (b : Bool) → k.at i x ≡ b → joined k j (filter (k.at i) xs) ≡ k.bottom
      → joined k j (cond b (x ∷ filter (k.at i) xs) (filter (k.at i) xs)) ≡ k.bottom
  one_else i j apart x xs true e h = ap (λ (b : Bool). k.join (cond b (k.value x) k.bottom) (joined k j (filter (k.at i) xs))) (apart x e) ∙ laws.neutral (joined k j (filter (k.at i) xs)) ∙ h
  one_else i j apart x xs false e h = h

  -- records of other words give nothing
  pub joined_else : (i j : ℕ) → ((r : Record) → k.at i r ≡ true → k.at j r ≡ false) → (xs : List Record) → joined k j (filter (k.at i) xs) ≡ k.bottom
  joined_else i j apart [] = refl
  joined_else i j apart (x ∷ xs) = one_else i j apart x xs (k.at i x) refl (joined_else i j apart xs)

  -- one record, at its word and elsewhere
  pub joined_one : (i : ℕ) (r : Record) → k.at i r ≡ true → joined k i (r ∷ []) ≡ k.value r
  joined_one i r here = ap (λ (b : Bool). k.join (cond b (k.value r) k.bottom) k.bottom) here ∙ neutral_right (k.value r)

  pub joined_none : (i : ℕ) (r : Record) → (k.at i r ≡ true → ⊥) → joined k i (r ∷ []) ≡ k.bottom
  joined_none i r other = nowhere (k.at i r) refl
    where
      nowhere : (b : Bool) → k.at i r ≡ b → joined k i (r ∷ []) ≡ k.bottom
      nowhere true e = absurd (other e)
      nowhere false e = ap (λ (b : Bool). k.join (cond b (k.value r) k.bottom) k.bottom) e ∙ neutral_right k.bottom

  pub swap_last : (x y z : J) → k.join (k.join x y) z ≡ k.join (k.join x z) y
  swap_last x y z = laws.associative x y z ∙ ap (k.join x) (laws.commutative y z) ∙ sym (laws.associative x z y)

module _ {T J : Type 0} (k : Kind J) (laws : IsJoin k) where
  -- one pass gives some records more
  pub gifts_more : (i : ℕ) (views : List (View T)) (id : ℕ) (v w : View T) (extra : List Record) → get_elem? views id ≡ some v → w.given ≡ v.given ++ extra
      → joined k i (gifts (set views id w)) ≡ k.join (joined k i (gifts views)) (joined k i extra)
  gifts_more i [] id v w extra at is = absurd (some-ne-none v (sym at))
  gifts_more i (x ∷ xs) zero v w extra at is = let rest : J = joined k i (gifts xs) in
      joined-append k laws i w.given (gifts xs)
      ∙ ap (λ (l : List Record). k.join (joined k i l) rest) is
      ∙ ap (λ (u : J). k.join u rest) (joined-append k laws i v.given extra)
      ∙ swap_last k laws (joined k i v.given) (joined k i extra) rest
      ∙ ap (λ (u : View T). k.join (k.join (joined k i u.given) rest) (joined k i extra)) (sym (some-injective x v at))
      ∙ ap (λ (u : J). k.join u (joined k i extra)) (sym (joined-append k laws i x.given (gifts xs)))
  gifts_more i (x ∷ xs) (suc id) v w extra at is =
      joined-append k laws i x.given (gifts (set xs id w))
      ∙ ap (k.join (joined k i x.given)) (gifts_more i xs id v w extra at is)
      ∙ sym (laws.associative (joined k i x.given) (joined k i (gifts xs)) (joined k i extra))
      ∙ ap (λ (u : J). k.join u (joined k i extra)) (sym (joined-append k laws i x.given (gifts xs)))

  -- what a pass gave is below all that was given
  pub own_below : (i : ℕ) (views : List (View T)) (id : ℕ) (v : View T) → get_elem? views id ≡ some v → Below k (joined k i v.given) (joined k i (gifts views))
  own_below i [] id v at = absurd (some-ne-none v (sym at))
  own_below i (x ∷ xs) zero v at = rw (joined-append k laws i x.given (gifts xs), some-injective x v at) (below_left k laws (joined k i v.given) (joined k i (gifts xs)))
  own_below i (x ∷ xs) (suc id) v at = rw (joined-append k laws i x.given (gifts xs))
      (below_trans k laws (joined k i v.given) (joined k i (gifts xs)) (k.join (joined k i x.given) (joined k i (gifts xs))) (own_below i xs id v at) (below_right k laws (joined k i x.given) (joined k i (gifts xs))))
