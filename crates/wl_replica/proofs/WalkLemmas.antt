-- Where a run of changes ends, and the entries of one node.
use Rattle.std.proofs.Common.{◌≡◌, ℕ, zero, suc, ◌+◌, ◌<◌, ◌≤◌, Bool, true, false, cond, inl, inr, refl, sym, ◌∙◌, ap, subst, arith, nat_lt, nat_le}
use Rattle.std.specs.BTreeMap.{is_at}
use Rattle.std.proofs.lemmas.Bool.{cases_eq, cond-true, cond-false, and_left, and_right, and_from}
use Rattle.std.proofs.lemmas.Bool.Decides.{nat_tests}
use Rattle.wl_lattice.specs.declared.FlatWord.{FlatWord}
use Rattle.wl_lattice.specs.declared.FlatWord.TheVariants as flat
use Rattle.wl_replica.specs.Keys.{Key, key_cmp}
use Rattle.wl_replica.specs.Known.{is_tick, tick_in, run_goes_on, is_run, greatest_passing, after_edges}

-- ---- the greatest number that passes
pub greatest_is : (b m : ℕ) (test : ℕ → Bool) → m ≤ b → test m ≡ true → ((n : ℕ) → m < n → test n ≡ false) → greatest_passing b test ≡ m
greatest_is zero m test h p q = omega arith
greatest_is (suc b) m test h p q = elim (cases_eq m (suc b)) [
  | inl same ↦ cond-true (test (suc b)) (suc b) (greatest_passing b test) (sym (ap test same) ∙ p) ∙ sym same
  | inr other ↦ cond-false (test (suc b)) (suc b) (greatest_passing b test) (q (suc b) (omega arith)) ∙ greatest_is b m test (omega arith) p q
]

-- the greatest number of a run is the length of one
pub longest_passes : (e : ℕ → FlatWord) (s : ℕ → ℕ) (b : ℕ) → is_run e s (greatest_passing b (is_run e s)) ≡ true
longest_passes e s zero = refl
longest_passes e s (suc b) = elim (is_run e s (suc b)) as (λ v. is_run e s (suc b) ≡ v → is_run e s (cond v (suc b) (greatest_passing b (is_run e s))) ≡ true) [
  | true ↦ λ is. is
  | false ↦ λ is. longest_passes e s b
] refl

-- no run goes past a number that does not go on
run_stops : (e : ℕ → FlatWord) (s : ℕ → ℕ) (m n : ℕ) → run_goes_on e s m ≡ false → m < n → is_run e s n ≡ false
run_stops e s m zero stop lt = absurd (omega arith)
run_stops e s m (suc n) stop lt = elim (cases_eq m n) [
  | inl same ↦ and_right (is_run e s n) (run_goes_on e s n) (sym (ap (run_goes_on e s) same) ∙ stop)
  | inr other ↦ and_left (is_run e s n) (run_goes_on e s n) (run_stops e s m n stop (omega arith))
]

pub longest_run : (e : ℕ → FlatWord) (s : ℕ → ℕ) (b m : ℕ) → m ≤ b → is_run e s m ≡ true → run_goes_on e s m ≡ false → m ≡ greatest_passing b (is_run e s)
longest_run e s b m h run stop = sym (greatest_is b m (is_run e s) h run (λ n lt. run_stops e s m n stop lt))

-- what does not go on: no tick, one inside a silence, or one not above the last
no_tick : (e : ℕ → FlatWord) (s : ℕ → ℕ) (m : ℕ) → is_tick (e m) ≡ false → run_goes_on e s m ≡ false
no_tick e s zero h = and_left _ _ h
no_tick e s (suc n) h = and_left _ _ (and_left _ _ h)

pub no_value : (w : FlatWord) → ((t : ℕ) → w ≡ flat.Value t → ⊥) → is_tick w ≡ false
no_value flat.Nothing h = refl
no_value (flat.Value t) h = absurd (h t refl)
no_value flat.Clash h = refl

pub no_more : (e : ℕ → FlatWord) (s : ℕ → ℕ) (m : ℕ) → is_tick (e m) ≡ false → run_goes_on e s m ≡ false
no_more = no_tick

above : (a b t : ℕ) → a ≡ t → t < suc b → nat_lt b a ≡ false
above a b t e h = grind (arith, nat_tests)

above-is : (a b t : ℕ) → a ≡ t → suc b ≤ t → nat_lt b a ≡ true
above-is a b t e h = grind (arith, nat_tests)

outside : (a b t : ℕ) → a ≡ t → t < b → nat_le b a ≡ false
outside a b t e h = grind (arith, nat_tests)

outside-is : (a b t : ℕ) → a ≡ t → b ≤ t → nat_le b a ≡ true
outside-is a b t e h = grind (arith, nat_tests)

module _ (e : ℕ → FlatWord) (s : ℕ → ℕ) (t : ℕ) where
  -- edge m is not above the one before, or lies inside the silence before it
  pub not_above : (m : ℕ) → e m ≡ flat.Value t → t < after_edges e m → run_goes_on e s m ≡ false
  not_above zero is lt = absurd (omega arith)
  not_above (suc n) is lt = and_right _ _ (above (tick_in (e (suc n))) (tick_in (e n)) t (ap tick_in is) lt)

  pub inside : (m : ℕ) → e m ≡ flat.Value t → t < s m → run_goes_on e s m ≡ false
  inside zero is lt = and_right _ _ (outside (tick_in (e 0)) (s 0) t (ap tick_in is) lt)
  inside (suc n) is lt = and_left _ _ (and_right _ _ (outside (tick_in (e (suc n))) (s (suc n)) t (ap tick_in is) lt))

  goes : (m : ℕ) → e m ≡ flat.Value t → after_edges e m ≤ t → s m ≤ t → run_goes_on e s m ≡ true
  goes zero is a b = and_from _ _ (ap is_tick is) (outside-is (tick_in (e 0)) (s 0) t (ap tick_in is) b)
  goes (suc n) is a b =
      and_from _ _ (and_from _ _ (ap is_tick is) (outside-is (tick_in (e (suc n))) (s (suc n)) t (ap tick_in is) b)) (above-is (tick_in (e (suc n))) (tick_in (e n)) t (ap tick_in is) a)

  -- the run is one longer
  pub run_more : (m n : ℕ) → n ≡ m → is_run e s m ≡ true → e m ≡ flat.Value t → after_edges e m ≤ t → s m ≤ t → is_run e s (n + 1) ≡ true
  run_more m n same run is a b =
      let next : suc m ≡ n + 1 = omega arith in
      subst (λ k. is_run e s k ≡ true) next (and_from (is_run e s m) (run_goes_on e s m) run (goes m is a b))

  pub end_more : (m n : ℕ) → n ≡ m → e m ≡ flat.Value t → t + 1 ≡ after_edges e (n + 1)
  end_more m n same is =
      let next : suc m ≡ n + 1 = omega arith in
      let here : tick_in (e m) ≡ t = ap tick_in is in
      let last : t + 1 ≡ suc (tick_in (e m)) = omega arith in
      last ∙ ap (after_edges e) next

-- ---- keys of one node
pub number_after : (node n : ℕ) (k : Key) → k.1 < n → is_at (key_cmp (node, n)) k ≡ false
number_after node n k h = grind (arith, nat_tests)

pub number_at_is : (node n : ℕ) (k : Key) → k.0 ≡ node → k.1 ≡ n → is_at (key_cmp (node, n)) k ≡ true
number_at_is node n k p q = grind (arith, nat_tests)
