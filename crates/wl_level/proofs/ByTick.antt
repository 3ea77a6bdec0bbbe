-- A list in the order of its ticks is what is listed tick by tick.
use Rattle.std.proofs.Common.{◌≡◌, ◌∙◌, refl, sym, ap, ap₂, arith, ℕ, zero, suc, ◌+◌, ◌<◌, ◌≤◌, ◌==◌, Bool, true, false, List, [], ◌∷◌, ◌++◌, nat_lt, not, ◌&&◌, append-nil, zero-add}
use Rattle.std.specs.List.{All, filter, flat_map, range_with_len}
use Rattle.std.specs.List.Sorted.{IsNonDecreasingBy, IsPermutation, IsStableByKey, ties}
use Rattle.std.specs.Ordering.{nat_cmp, is_lt}
use Rattle.std.specs.Prelude.{cond}
use Rattle.std.specs.declared.cmp.Ordering.TheVariants.{Less, Equal, Greater}
use Rattle.wl_level.specs.ByTick.{by_tick}
use Rattle.std.proofs.lemmas.List.Concat.{flat_map-append}
use Rattle.std.proofs.lemmas.List.Elements.{filter_agree, All-head, All-tail}
use Rattle.std.proofs.lemmas.List.Sorted.{All-permutation}
use Rattle.std.proofs.lemmas.Bool.{le-ltb, lt-ltb, ltb-true, ltb-false, eqb-true, eqb-false, eq-eqb, ne_eqb}

pub range_more : (a n : ℕ) → range_with_len a (suc n) ≡ range_with_len a n ++ (a + n) ∷ []
range_more a zero = ap (λ (m : ℕ). m ∷ []) {x = a} {y = a + 0} (omega arith)
range_more a (suc n) =
    ap (λ ts. a ∷ ts) (range_more (a + 1) n ∙ ap (λ (m : ℕ). range_with_len (a + 1) n ++ m ∷ []) {x = a + 1 + n} {y = a + suc n} (omega arith))

agree : {A : Type 0} (f g : ℕ → List A) → ((t : ℕ) → f t ≡ g t) → (ts : List ℕ) → flat_map f ts ≡ flat_map g ts
agree f g h [] = refl
agree f g h (t ∷ ts) = ap₂ (λ xs ys. xs ++ ys) (h t) (agree f g h ts)

less : (b c : Bool) → is_lt (cond b Less (cond c Equal Greater)) ≡ b
less true c = refl
less false true = refl
less false false = refl

tied_by : (t u : ℕ) (b c : Bool) → nat_lt t u ≡ b → nat_lt u t ≡ c → (not b && not c) ≡ (u == t)
tied_by t u true c is other = let q = ltb-true t u is in rw (ne_eqb u t (λ e. omega arith)) refl
tied_by t u false true is other = let q = ltb-true u t other in rw (ne_eqb u t (λ e. omega arith)) refl
tied_by t u false false is other =
    let q = ltb-false t u is in let r = ltb-false u t other in rw (eq-eqb u t (omega arith)) refl

module _ {X : Type 0} where
  abbrev at : ℕ → ℕ × X → Bool
  at t s = s.0 == t

  abbrev before : ℕ → ℕ × X → Bool
  before t s = nat_lt s.0 t

  -- no tick is before an earlier one
  abbrev Rises : List (ℕ × X) → Type 0
  Rises = IsNonDecreasingBy (λ s. s.0)

  rises_tail : (y : ℕ × X) (ys : List (ℕ × X)) → Rises (y ∷ ys) → Rises ys
  rises_tail y ys h = λ i j d b c. h (suc i) (suc j) d (omega arith) (omega arith)

  rises_head : (y : ℕ × X) (ys : List (ℕ × X)) → Rises (y ∷ ys) → All (λ z. y.0 ≤ z.0) ys
  rises_head y ys h = λ k d b. h 0 (suc k) d (omega arith) (omega arith)

  none_before : (n : ℕ) (ys : List (ℕ × X)) → All (λ z. n ≤ z.0) ys → filter (before n) ys ≡ []
  none_before n [] h = refl
  none_before n (y ∷ ys) h =
      rw (le-ltb y.0 n (All-head (λ z. n ≤ z.0) y ys h)) (none_before n ys (All-tail (λ z. n ≤ z.0) y ys h))

  before_and_at : (n : ℕ) (y : ℕ × X) (ys : List (ℕ × X)) (b c : Bool) → nat_lt y.0 n ≡ b → (y.0 == n) ≡ c → Rises (y ∷ ys)
      → filter (before n) ys ++ filter (at n) ys ≡ filter (before (suc n)) ys
      → filter (before n) (y ∷ ys) ++ filter (at n) (y ∷ ys) ≡ filter (before (suc n)) (y ∷ ys)
  before_and_at n y ys true c is same h more =
      let low : y.0 < n = ltb-true y.0 n is in
      rw (is, ne_eqb y.0 n (λ e. omega arith), lt-ltb y.0 (suc n) (omega arith)) (ap (λ zs. y ∷ zs) more)
  before_and_at n y ys false true is same h more =
      let e : y.0 ≡ n = eqb-true y.0 n same in
      let none : filter (before n) ys ≡ [] = none_before n ys (λ k d b. let q = rises_head y ys h k d b in omega arith) in
      rw (is, same, lt-ltb y.0 (suc n) (omega arith), none) (ap (λ zs. y ∷ zs) (sym (ap (λ zs. zs ++ filter (at n) ys) none) ∙ more))
  before_and_at n y ys false false is same h more =
      let high : n ≤ y.0 = ltb-false y.0 n is in
      let other : n < y.0 = above n y.0 high (λ e. eqb-false y.0 n same e) in
      rw (is, same, le-ltb y.0 (suc n) (omega arith)) more
    where
      above : (a b : ℕ) → a ≤ b → ¬ (b ≡ a) → a < b
      above a b h other = omega arith

  split_more : (n : ℕ) (ys : List (ℕ × X)) → Rises ys → filter (before n) ys ++ filter (at n) ys ≡ filter (before (suc n)) ys
  split_more n [] h = refl
  split_more n (y ∷ ys) h = before_and_at n y ys (nat_lt y.0 n) (y.0 == n) refl refl h (split_more n ys (rises_tail y ys h))

  -- tick by tick below n
  listed : (n : ℕ) (ys : List (ℕ × X)) → Rises ys → flat_map (λ t. filter (at t) ys) (range_with_len 0 n) ≡ filter (before n) ys
  listed zero ys h = sym (none_before 0 ys (λ k d b. omega arith))
  listed (suc n) ys h =
      ap (flat_map (λ t. filter (at t) ys)) (range_more 0 n ∙ ap (λ (m : ℕ). range_with_len 0 n ++ m ∷ []) (zero-add n))
      ∙ flat_map-append (λ t. filter (at t) ys) (range_with_len 0 n) (n ∷ [])
      ∙ ap (λ zs. flat_map (λ t. filter (at t) ys) (range_with_len 0 n) ++ zs) (append-nil (filter (at n) ys))
      ∙ ap (λ zs. zs ++ filter (at n) ys) (listed n ys h)
      ∙ split_more n ys h

  all_before : (n : ℕ) (ys : List (ℕ × X)) → All (λ s. s.0 < n) ys → filter (before n) ys ≡ ys
  all_before n [] h = refl
  all_before n (y ∷ ys) h =
      rw (lt-ltb y.0 n (All-head (λ s. s.0 < n) y ys h)) (ap (λ zs. y ∷ zs) (all_before n ys (All-tail (λ s. s.0 < n) y ys h)))

  tied : (t : ℕ) (d : X) (s : ℕ × X) → ties (λ x y. is_lt (nat_cmp x.0 y.0)) (t, d) s ≡ at t s
  tied t d s = rw (less (nat_lt t s.0) (t == s.0), less (nat_lt s.0 t) (s.0 == t)) (tied_by t s.0 (nat_lt t s.0) (nat_lt s.0 t) refl refl)

  same_at : (t : ℕ) (d : X) (xs ys : List (ℕ × X)) → IsStableByKey (λ s. s.0) nat_cmp xs ys → filter (at t) ys ≡ filter (at t) xs
  same_at t d xs ys h =
      filter_agree (at t) (ties (λ x y. is_lt (nat_cmp x.0 y.0)) (t, d)) (λ s. sym (tied t d s)) ys
      ∙ h (t, d)
      ∙ filter_agree (ties (λ x y. is_lt (nat_cmp x.0 y.0)) (t, d)) (at t) (tied t d) xs

  -- a stable sort by the ticks of a list whose ticks are below n lists them tick by tick
  pub sorted_is_by_tick : (n : ℕ) (d : X) (xs ys : List (ℕ × X)) → IsPermutation xs ys → IsNonDecreasingBy (λ s. s.0) ys
      → IsStableByKey (λ s. s.0) nat_cmp xs ys → All (λ s. s.0 < n) xs
      → ys ≡ by_tick n xs
  sorted_is_by_tick n d xs ys moved rises stable low =
      sym (all_before n ys (All-permutation (λ s. s.0 < n) xs ys moved low))
      ∙ sym (listed n ys rises)
      ∙ agree (λ t. filter (at t) ys) (λ t. filter (at t) xs) (λ t. same_at t d xs ys stable) (range_with_len 0 n)
