-- The same records tell the same words.
use Rattle.std.proofs.Common.{◌≡◌, ◌⊎◌, inl, inr, ℕ, zero, suc, ◌<◌, List, [], ◌∷◌, length, Option, Some, None, refl, subst, sym, ap, ◌∙◌, arith}
use Rattle.std.specs.Prelude.{Contains, slice_index_or}
use Rattle.std.specs.List.{filter_map, cons_option}
use Rattle.wl_lattice.specs.Maps.{SameMembers}

-- membership by recursion on the list
abbrev Among : {E : Type 0} → E → List E → Type 0
Among e [] = ⊥
Among e (x ∷ xs) = (x ≡ e) ⊎ Among e xs

at_place : {E : Type 0} (xs : List E) (e : E) (k : ℕ) → k < length xs → slice_index_or xs k e ≡ e → Among e xs
at_place [] e k b h = absurd (omega arith)
at_place (x ∷ xs) e zero b h = inl h
at_place (x ∷ xs) e (suc k) b h = inr (at_place xs e k (omega arith) h)

contains_of : {E : Type 0} (xs : List E) (e : E) → Among e xs → Contains xs e
contains_of [] e m = absurd m
contains_of (x ∷ xs) e (inl is) = (0, omega arith, is)
contains_of (x ∷ xs) e (inr m) = (let c = contains_of xs e m in (suc c.0, (let b = c.1 in omega arith), c.2))

module _ {R E : Type 0} (word : R → Option E) where
  behind : (o : Option E) (es : List E) (e : E) → Among e es → Among e (cons_option o es)
  behind None es e m = m
  behind (Some f) es e m = inr m

  found_in : (rs : List R) (r : R) (e : E) → word r ≡ Some e → Among r rs → Among e (filter_map word rs)
  found_in [] r e is m = absurd m
  found_in (q ∷ qs) r e is (inl same) = subst (λ o. Among e (cons_option o (filter_map word qs))) (sym (ap word same ∙ is)) (inl refl)
  found_in (q ∷ qs) r e is (inr m) = behind (word q) (filter_map word qs) e (found_in qs r e is m)

  first_or : (r : R) (rs : List R) (e : E) (o : Option E) → word r ≡ o → (Among e (filter_map word rs) → (q : R) × Among q rs × (word q ≡ Some e))
      → Among e (cons_option o (filter_map word rs)) → (q : R) × Among q (r ∷ rs) × (word q ≡ Some e)
  first_or r rs e None is rest m = let t = rest m in (t.0, inr t.1, t.2)
  first_or r rs e (Some f) is rest (inl same) = (r, inl refl, is ∙ ap Some same)
  first_or r rs e (Some f) is rest (inr m) = let t = rest m in (t.0, inr t.1, t.2)

  told_by : (rs : List R) (e : E) → Among e (filter_map word rs) → (r : R) × Among r rs × (word r ≡ Some e)
  told_by [] e m = absurd m
  told_by (r ∷ rs) e m = first_or r rs e (word r) refl (told_by rs e) m

  part : (xs ys : List R) → ((r : R) → Contains xs r → Contains ys r) → (e : E) → Contains (filter_map word xs) e → Contains (filter_map word ys) e
  part xs ys h e c =
      let t = told_by xs e (at_place (filter_map word xs) e c.0 c.1 c.2) in
      let there = h t.0 (contains_of xs t.0 t.1) in
      contains_of (filter_map word ys) e (found_in ys t.0 e t.2 (at_place ys t.0 there.0 there.1 there.2))

  pub same_words : (xs ys : List R) → SameMembers xs ys → SameMembers (filter_map word xs) (filter_map word ys)
  same_words xs ys h e = (part xs ys (λ r. (h r).0) e, part ys xs (λ r. (h r).1) e)
