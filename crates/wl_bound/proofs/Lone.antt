-- The greatest left side over senders that send alone: what each pair is asked once, over the way of the edges of all of them.
use Rattle.std.proofs.Common.{◌≡◌, ◌≢◌, ℕ, zero, suc, ◌+◌, ◌-◌, ◌*◌, ◌<◌, ◌≤◌, ◌==◌, ◌&&◌, ◌||◌, ◌∙◌, nat_lt, nat_le, not, min, max, Bool, true, false, cond, length, inl, inr, refl, ap, ap₂, sym, subst, arith}
use Rattle.std.proofs.lemmas.Bool.{cases_lt, eq-eqb, eqb-true, le-leb, le-ltb, ne_eqb}
use Rattle.wl_level.specs.Places.{count_places}
use Rattle.wl_topology.specs.Driven.{any_below}
use Rattle.wl_bound.specs.declared.condition.Inequality.{Inequality}
use Rattle.wl_bound.specs.declared.condition.Inequality.TheVariants.{DriftFitsJump, BitIsThereAtSample, NoBitTooEarly}
use Rattle.wl_bound.specs.declared.condition.Senders.TheVariants.{One}
use Rattle.wl_bound.specs.declared.family.Setting.{Setting}
use Rattle.wl_bound.specs.declared.family.Source.TheVariants.{Alone, Together}
use Rattle.wl_bound.specs.Families.{Bus, Buses, bus_of, delay_in, lengths_in, longest_in, member_at, sends_in, shortest_in, turns_in}
use Rattle.wl_bound.specs.Terms.{ahead, answered, apart, chase, drift, early, edges, greatest, is_third, jump, late, look, pull, pulled, sends_but, sends_third, several, spread, strays, there_and_back, tour, trip, way}
use Rattle.wl_bound.specs.Conditions.{left_by, left_of}
use Rattle.wl_bound.specs.Lone.{left_of_lone, own_pull}
use Rattle.wl_bound.proofs.Harder.{any_same}

-- ---- The greatest of some numbers

same_greatest : (n : ℕ) (t : ℕ → Bool) (f g : ℕ → ℕ) → ((k : ℕ) → k < n → f k ≡ g k) → greatest n t f ≡ greatest n t g
same_greatest zero t f g e = refl
same_greatest (suc n) t f g e =
    (let rest = same_greatest n t f g (λ k less. e k (omega arith)) in
    let here = e n (omega arith) in
    cc)

same_tests : (n : ℕ) (t u : ℕ → Bool) (f : ℕ → ℕ) → ((k : ℕ) → t k ≡ u k) → greatest n t f ≡ greatest n u f
same_tests zero t u f e = refl
same_tests (suc n) t u f e = (let rest = same_tests n t u f e in let here = e n in cc)

none_greatest : (n : ℕ) (t : ℕ → Bool) (f : ℕ → ℕ) → ((k : ℕ) → k < n → t k ≡ false) → greatest n t f ≡ 0
none_greatest zero t f e = refl
none_greatest (suc n) t f e = no_more (t n) (greatest n t f) (f n) (e n (omega arith)) (none_greatest n t f (λ k less. e k (omega arith)))
  where
    no_more : (b : Bool) (m x : ℕ) → b ≡ false → m ≡ 0 → max m (cond b x 0) ≡ 0
    no_more true m x e z = absurd (cc)
    no_more false m x e z = omega arith

-- some of those that pass also pass another test; c is on top for each
chosen : (n : ℕ) (t u : ℕ → Bool) (f : ℕ → ℕ) (c : ℕ)
    → (any_below n t ≡ false → greatest n (λ a. t a && u a) f ≡ 0)
    × (greatest n t (λ a. cond (u a) (f a) 0 + c) ≡ cond (any_below n t) (greatest n (λ a. t a && u a) f + c) 0)
chosen zero t u f c = (λ e. refl, refl)
chosen (suc n) t u f c =
    step (any_below n t) (t n) (u n) (greatest n (λ a. t a && u a) f) (greatest n t (λ a. cond (u a) (f a) 0 + c)) (f n) c
    (chosen n t u f c).0 (chosen n t u f c).1
  where
    step : (some here other : Bool) (m g x c : ℕ) → (some ≡ false → m ≡ 0) → g ≡ cond some (m + c) 0
        → ((some || here) ≡ false → max m (cond (here && other) x 0) ≡ 0)
        × (max g (cond here (cond other x 0 + c) 0) ≡ cond (some || here) (max m (cond (here && other) x 0) + c) 0)
    step true true true m g x c z e = (λ h. absurd (cc), omega arith)
    step true true false m g x c z e = (λ h. absurd (cc), omega arith)
    step true false other m g x c z e = (λ h. absurd (cc), omega arith)
    step false true true m g x c z e = (let none = z refl in (λ h. absurd (cc), omega arith))
    step false true false m g x c z e = (let none = z refl in (λ h. absurd (cc), omega arith))
    step false false other m g x c z e = (let none = z refl in (λ h. omega arith, omega arith))

-- one number c for all
constant : (n : ℕ) (t : ℕ → Bool) (c : ℕ) → greatest n t (λ a. c) ≡ cond (any_below n t) c 0
constant zero t c = refl
constant (suc n) t c = step (any_below n t) (t n) (greatest n t (λ a. c)) c (constant n t c)
  where
    step : (some here : Bool) (g c : ℕ) → g ≡ cond some c 0 → max g (cond here c 0) ≡ cond (some || here) c 0
    step true true g c e = omega arith
    step true false g c e = omega arith
    step false true g c e = omega arith
    step false false g c e = omega arith

-- a alone passes, if it passes another test too
single : (n a : ℕ) (t : ℕ → Bool) (f : ℕ → ℕ) → a < n → greatest n (λ k. (a == k) && t k) f ≡ cond (t a) (f a) 0
single zero a t f less = absurd (omega arith)
single (suc n) a t f less = elim (cases_lt a n) [
  | inl before ↦
      (let rest = single n a t f before in
      let not_here : (a == n) ≡ false = ne_eqb a n (λ e. absurd (omega arith)) in
      passed (a == n) (t n) (greatest n (λ k. (a == k) && t k) f) (f n) not_here ∙ rest)
  | inr last ↦
      (let e : a ≡ n = omega arith in
      let none = none_greatest n (λ k. (a == k) && t k) f (λ k below. out (a == k) (t k) (ne_eqb a k (λ same. absurd (omega arith)))) in
      let here : (a == n) ≡ true = eq-eqb a n e in
      alone (a == n) (t n) (greatest n (λ k. (a == k) && t k) f) (f n) here none ∙ ap (λ m. cond (t m) (f m) 0) (sym e))
]
  where
    passed : (b c : Bool) (m x : ℕ) → b ≡ false → max m (cond (b && c) x 0) ≡ m
    passed true c m x e = absurd (cc)
    passed false c m x e = omega arith

    out : (b c : Bool) → b ≡ false → (b && c) ≡ false
    out true c e = absurd (cc)
    out false c e = refl

    alone : (b c : Bool) (m x : ℕ) → b ≡ true → m ≡ 0 → max m (cond (b && c) x 0) ≡ cond c x 0
    alone true true m x e z = omega arith
    alone true false m x e z = omega arith
    alone false c m x e z = absurd (cc)

none_counted : (n a : ℕ) → n ≤ a → count_places (λ k. a == k) n ≡ 0
none_counted zero a le = refl
none_counted (suc n) a le = not_here (a == n) (count_places (λ k. a == k) n) (ne_eqb a n (λ e. absurd (omega arith))) (none_counted n a (omega arith))
  where
    not_here : (b : Bool) (m : ℕ) → b ≡ false → m ≡ 0 → m + cond b 1 0 ≡ 0
    not_here true m e z = absurd (cc)
    not_here false m e z = omega arith

one_counted : (n a : ℕ) → count_places (λ k. a == k) n ≤ 1
one_counted zero a = omega arith
one_counted (suc n) a = elim (cases_lt a n) [
  | inl before ↦ no_other (a == n) (count_places (λ k. a == k) n) (ne_eqb a n (λ e. absurd (omega arith))) (one_counted n a)
  | inr last ↦ first_one (a == n) (count_places (λ k. a == k) n) (none_counted n a last)
]
  where
    no_other : (b : Bool) (m : ℕ) → b ≡ false → m ≤ 1 → m + cond b 1 0 ≤ 1
    no_other true m e le = absurd (cc)
    no_other false m e le = omega arith

    first_one : (b : Bool) (m : ℕ) → m ≡ 0 → m + cond b 1 0 ≤ 1
    first_one true m z = omega arith
    first_one false m z = omega arith

none_of : (n : ℕ) (t : ℕ → Bool) → ((k : ℕ) → t k ≡ false) → any_below n t ≡ false
none_of zero t e = refl
none_of (suc n) t e = (let rest = none_of n t e in let here = e n in cc)

-- ---- A sender alone

module _ (f : Buses) (s : Setting) (a : ℕ) where
  abbrev alone : Bus
  alone = bus_of f (record s { source = Alone a })

  abbrev all : Bus
  all = bus_of f s

  sends_is : (k : ℕ) → alone.sends k ≡ (a == k)
  unfolding sends_in
  sends_is k = refl

  drift_is : (i j : ℕ) → drift alone i j ≡ drift all i j
  unfolding drift shortest_in longest_in lengths_in
  drift_is i j = refl

  look_is : (i : ℕ) → look alone i ≡ look all i
  unfolding look longest_in delay_in
  look_is i = refl

  jump_is : (i : ℕ) → jump alone i ≡ jump all i
  unfolding jump shortest_in lengths_in
  jump_is i = refl

  trip_is : (i j k : ℕ) → trip alone i j k ≡ trip all i j k
  unfolding trip look longest_in delay_in
  trip_is i j k = refl

  ahead_is : (j : ℕ) → ahead alone j ≡ ahead all j
  unfolding ahead turns_in
  ahead_is j = refl

  strays_is : (j : ℕ) → strays alone j ≡ strays all j
  unfolding strays drift shortest_in longest_in lengths_in
  strays_is j = refl

  not_several : several alone ≡ false
  unfolding several sends_in
  not_several = le_one (count_places (λ k. a == k) (length f.members)) (one_counted (length f.members) a)
    where
      le_one : (n : ℕ) → n ≤ 1 → nat_lt 1 n ≡ false
      le_one n le = le-ltb 1 n le

  not_early : (i : ℕ) → early alone i ≡ 0
  unfolding early
  not_early i = (let e = not_several in rw e refl)

  no_edges : (i : ℕ) → edges alone i ≡ 0
  unfolding edges
  no_edges i = first (nat_le (early alone i) (alone.shortest i)) _ (le-leb (early alone i) (alone.shortest i) (let e = not_early i in omega arith))
    where
      first : (b : Bool) (x : ℕ) → b ≡ true → cond b 0 x ≡ 0
      first true x e = refl
      first false x e = absurd (cc)

  no_apart : (i j : ℕ) → apart alone i j ≡ 0
  unfolding apart chase
  no_apart i j = least (any_below (length f.members) (sends_third alone i j)) (edges alone i) (edges alone j) (spread alone i j) (no_edges i)
    where
      least : (b : Bool) (x y z : ℕ) → x ≡ 0 → cond b (min x y) 0 * z ≡ 0
      least true x y z e = (let none : min x y ≡ 0 = omega arith in rw none (omega arith))
      least false x y z e = omega arith

  no_answer : (i j : ℕ) → answered alone i j ≡ 0
  unfolding answered
  no_answer i j = (let e = not_several in rw e refl)

  late_is : (i j : ℕ) → late alone i j ≡ way alone i j
  unfolding late
  late_is i j = by_way (way alone i j) (apart alone i j) (tour alone i j) (answered alone i j) (no_apart i j) (no_answer i j)
    where
      by_way : (w p t q : ℕ) → p ≡ 0 → q ≡ 0 → max (w + min p (t - w)) q ≡ w
      by_way w p t q e z = omega arith

  no_third : (i j : ℕ) → (a == j) ≡ true → any_below (length f.members) (sends_third alone i j) ≡ false
  unfolding sends_in
  no_third i j is =
      none_of (length f.members) (sends_third alone i j) (λ k. out (a == k) (not (k == i)) (k == j) (λ same. eq-eqb k j (sym (eqb-true a k same) ∙ eqb-true a j is)))
    where
      out : (p q r : Bool) → (p ≡ true → r ≡ true) → ((p && q) && not r) ≡ false
      out true true true h = refl
      out true true false h = absurd (let e = h refl in cc)
      out true false r h = refl
      out false q r h = refl

  pulled_is : (i j : ℕ) → pulled alone i j ≡ cond ((i == j) && (a == i)) (all.longest j + all.tick - there_and_back all i j) 0
  unfolding pulled pull sends_in longest_in delay_in
  pulled_is i j =
      by_cases (a == j) (a == i) (i == j) (any_below (length f.members) (sends_third alone i j)) (look alone j)
      (all.longest j + all.tick - there_and_back all i j) (jump alone i - jump alone j) (no_third i j)
      (λ p q. eq-eqb i j (sym (eqb-true a i q) ∙ eqb-true a j p))
      (λ p q. eq-eqb a j (eqb-true a i q ∙ eqb-true i j p))
      (λ p. none_more i j (eqb-true i j p))
    where
      none_more : (k l : ℕ) → k ≡ l → jump alone k - jump alone l ≡ 0
      none_more k l e = (let same : jump alone k ≡ jump alone l = ap (jump alone) e in omega arith)

      by_cases : (sj si ij third : Bool) (l p d : ℕ) → (sj ≡ true → third ≡ false) → (sj ≡ true → si ≡ true → ij ≡ true)
          → (ij ≡ true → si ≡ true → sj ≡ true) → (ij ≡ true → d ≡ 0) → cond sj (cond third l (cond si p 0)) 0 - d ≡ cond (ij && si) p 0
      by_cases true si ij true l p d h k m z = absurd (let e = h refl in cc)
      by_cases true true true false l p d h k m z = (let e = z refl in omega arith)
      by_cases true true false false l p d h k m z = absurd (let e = k refl refl in cc)
      by_cases true false true false l p d h k m z = omega arith
      by_cases true false false false l p d h k m z = omega arith
      by_cases false true true third l p d h k m z = absurd (let e = m refl refl in cc)
      by_cases false false true third l p d h k m z = omega arith
      by_cases false si false third l p d h k m z = omega arith

  way_is : (i j : ℕ) → a < length f.members
      → way alone i j ≡ cond (not (a == j)) (trip all i j a) 0 + greatest (length f.members) (is_third i j) (look all)
  unfolding way sends_in
  way_is i j less =
      ap₂ (λ x y. x + y)
      (single (length f.members) a (λ k. not (k == j)) (trip alone i j) less ∙ ap (λ x. cond (not (a == j)) x 0) (trip_is i j a))
      (same_greatest (length f.members) (is_third i j) (look alone) (look all) (λ k below. look_is k))

  -- ---- The left sides of a sender alone

  drift_side : (i j : ℕ) → left_of alone DriftFitsJump i j
      ≡ cond ((i == j) && (a == i)) (all.longest j + all.tick - there_and_back all i j) 0 + 10 * drift all i j
  unfolding left_of
  drift_side i j = (let d = drift_is i j in let p = pulled_is i j in rw (d, p) (omega arith))

  own_side : (i : ℕ) → left_of alone BitIsThereAtSample i i ≡ all.delay i i + all.turns i
  unfolding left_of delay_in turns_in
  own_side i = (let e = eq-eqb i i refl in rw e refl)

  way_side : (i j : ℕ) → a < length f.members → (i == j) ≡ false
      → left_of alone BitIsThereAtSample i j
      ≡ cond (not (a == j)) (trip all i j a) 0 + (greatest (length f.members) (is_third i j) (look all) + 11 * strays all j + ahead all j)
  unfolding left_of
  way_side i j less apart =
      (let l = late_is i j ∙ way_is i j less in let t = strays_is j in let h = ahead_is j in rw (apart, l, t, h) (omega arith))

  early_side : (i j : ℕ) → left_of alone NoBitTooEarly i j ≡ look all j + 10 * drift all i j + all.tick + ahead all i
  unfolding left_of
  early_side i j =
      (let l = look_is j in let d = drift_is i j in let p = no_apart j i in let h = ahead_is i in rw (l, d, p, h) (omega arith))

-- ---- The greatest over the senders

eq_sym : (x y : ℕ) → (x == y) ≡ (y == x)
eq_sym x y = elim (cases_lt x y) [
  | inl less ↦ ne_eqb x y (λ e. absurd (omega arith)) ∙ sym (ne_eqb y x (λ e. absurd (omega arith)))
  | inr more ↦ elim (cases_lt y x) [
    | inl less ↦ ne_eqb x y (λ e. absurd (omega arith)) ∙ sym (ne_eqb y x (λ e. absurd (omega arith)))
    | inr even ↦ (let e : x ≡ y = omega arith in eq-eqb x y e ∙ sym (eq-eqb y x (sym e)))
  ]
]

module _ (f : Buses) (s : Setting) (together : s.source ≡ Together) where
  abbrev bus : Bus
  bus = bus_of f s

  abbrev nodes : ℕ
  nodes = length f.members

  abbrev sending : ℕ → Bool
  sending a = (member_at f a).sends

  who : (k : ℕ) → sending k ≡ bus.sends k
  unfolding sends_in
  who k = (rw together refl)

  some : any_below nodes sending ≡ any_below nodes bus.sends
  some = any_same nodes sending bus.sends who

  own_is : (i j : ℕ) (p : ℕ) → i < nodes → greatest nodes (λ a. sending a && ((i == j) && (a == i))) (λ a. p) ≡ cond ((i == j) && bus.sends i) p 0
  own_is i j p less =
      by_node (i == j)
    where
      turn : (x y : Bool) → (x && (true && y)) ≡ (y && x)
      turn true true = refl
      turn true false = refl
      turn false true = refl
      turn false false = refl

      never : (x y : Bool) → (x && (false && y)) ≡ false
      never true y = refl
      never false y = refl

      by_node : (same : Bool) → greatest nodes (λ a. sending a && (same && (a == i))) (λ a. p) ≡ cond (same && bus.sends i) p 0
      by_node true =
          same_tests nodes (λ a. sending a && (true && (a == i))) (λ a. (i == a) && sending a) (λ a. p)
          (λ a. turn (sending a) (a == i) ∙ ap (λ e. e && sending a) (eq_sym a i))
          ∙ single nodes i sending (λ a. p) less ∙ ap (λ x. cond x p 0) (who i)
      by_node false = none_greatest nodes (λ a. sending a && (false && (a == i))) (λ a. p) (λ a below. never (sending a) (a == i))

  drift_all : (i j : ℕ) → i < nodes → left_by f s One DriftFitsJump i j ≡ cond (any_below nodes bus.sends) (left_of_lone bus DriftFitsJump i j) 0
  drift_all i j less =
      let p : ℕ = bus.longest j + bus.tick - there_and_back bus i j in
      same_greatest nodes sending (λ a. left_of (bus_of f (record s { source = Alone a })) DriftFitsJump i j)
      (λ a. cond ((i == j) && (a == i)) p 0 + 10 * drift bus i j) (λ a below. drift_side f s a i j)
      ∙ (chosen nodes sending (λ a. (i == j) && (a == i)) (λ a. p) (10 * drift bus i j)).1
      ∙ ap₂ (λ b m. cond b m 0) some (ap (λ m. m + 10 * drift bus i j) (own_is i j p less) ∙ swap (own_pull bus i j) (10 * drift bus i j))
    where
      swap : (x y : ℕ) → x + y ≡ y + x
      swap x y = omega arith

  late_all : (i j : ℕ) → left_by f s One BitIsThereAtSample i j ≡ cond (any_below nodes bus.sends) (left_of_lone bus BitIsThereAtSample i j) 0
  unfolding way
  late_all i j = by_node (i == j) refl
    where
      own : (k l : ℕ) → k ≡ l → (a : ℕ) → left_of (bus_of f (record s { source = Alone a })) BitIsThereAtSample k l ≡ bus.delay k k + bus.turns k
      own k l e a = subst (λ m. left_of (bus_of f (record s { source = Alone a })) BitIsThereAtSample k m ≡ bus.delay k k + bus.turns k) e (own_side f s a k)

      group : (x y z w : ℕ) → x + (y + z + w) ≡ x + y + z + w
      group x y z w = omega arith

      by_node : (same : Bool) → (i == j) ≡ same → left_by f s One BitIsThereAtSample i j
          ≡ cond (any_below nodes bus.sends) (cond same (bus.delay i i + bus.turns i) (way bus i j + 11 * strays bus j + ahead bus j)) 0
      by_node true e =
          same_greatest nodes sending (λ a. left_of (bus_of f (record s { source = Alone a })) BitIsThereAtSample i j)
          (λ a. bus.delay i i + bus.turns i) (λ a below. own i j (eqb-true i j e) a)
          ∙ constant nodes sending (bus.delay i i + bus.turns i) ∙ ap (λ b. cond b (bus.delay i i + bus.turns i) 0) some
      by_node false e =
          let rest : ℕ = greatest nodes (is_third i j) (look bus) + 11 * strays bus j + ahead bus j in
          same_greatest nodes sending (λ a. left_of (bus_of f (record s { source = Alone a })) BitIsThereAtSample i j)
          (λ a. cond (not (a == j)) (trip bus i j a) 0 + rest) (λ a below. way_side f s a i j below e)
          ∙ (chosen nodes sending (λ a. not (a == j)) (trip bus i j) rest).1
          ∙ ap₂ (λ b m. cond b m 0) some
          (ap (λ m. m + rest) (same_tests nodes (λ a. sending a && not (a == j)) (sends_but bus j) (trip bus i j) (λ a. ap (λ x. x && not (a == j)) (who a)))
          ∙ group (greatest nodes (sends_but bus j) (trip bus i j)) (greatest nodes (is_third i j) (look bus)) (11 * strays bus j) (ahead bus j))

  early_all : (i j : ℕ) → left_by f s One NoBitTooEarly i j ≡ cond (any_below nodes bus.sends) (left_of_lone bus NoBitTooEarly i j) 0
  early_all i j =
      let c : ℕ = look bus j + 10 * drift bus i j + bus.tick + ahead bus i in
      same_greatest nodes sending (λ a. left_of (bus_of f (record s { source = Alone a })) NoBitTooEarly i j) (λ a. c) (λ a below. early_side f s a i j)
      ∙ constant nodes sending c ∙ ap (λ b. cond b c 0) some

pub alone_is : (f : Buses) (s : Setting) (e : Inequality) (i j : ℕ) → i < length f.members → s.source ≡ Together
    → left_by f s One e i j ≡ cond (any_below (length f.members) (bus_of f s).sends) (left_of_lone (bus_of f s) e i j) 0
alone_is f s DriftFitsJump i j less together = drift_all f s together i j less
alone_is f s BitIsThereAtSample i j less together = late_all f s together i j
alone_is f s NoBitTooEarly i j less together = early_all f s together i j
