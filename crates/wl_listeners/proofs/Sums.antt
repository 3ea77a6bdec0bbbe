-- Sums over some numbers, each taken once, are at most those over all.
use Rattle.std.proofs.Common.{◌≡◌, ℕ, zero, suc, ◌+◌, ◌<◌, ◌≤◌, ◌==◌, ◌&&◌, ◌∙◌, not, Bool, true, false, cond, inl, inr, refl, ap, arith}
use Rattle.std.proofs.lemmas.Bool.{and_from, cases_Bool, cases_lt, eq-eqb, ne_eqb}
use Rattle.wl_level.specs.Places.{count_places}
use Rattle.wl_bound.specs.Terms.{sum_of}

fewer : (a b : Bool) (x : ℕ) → cond (a && b) x 0 ≤ cond a x 0
fewer true true x = omega arith
fewer true false x = omega arith
fewer false b x = omega arith

none_here : (b : Bool) (x : ℕ) → b ≡ false → cond b x 0 ≡ 0
none_here true x e = absurd (cc)
none_here false x e = refl

here_alone : (a b : Bool) (x : ℕ) → a ≡ true → b ≡ false → cond (a && b) x 0 + x ≤ cond a x 0
here_alone true false x e f = omega arith
here_alone true true x e f = absurd (cc)
here_alone false b x e f = absurd (cc)

sum_fewer : (n : ℕ) (t v : ℕ → Bool) (f : ℕ → ℕ) → sum_of n (λ w. t w && v w) f ≤ sum_of n t f
sum_fewer zero t v f = omega arith
sum_fewer (suc n) t v f = (let rest = sum_fewer n t v f in let here = fewer (t n) (v n) (f n) in omega arith)

-- a number that passes, and all others
taken_out : (n : ℕ) (t : ℕ → Bool) (f : ℕ → ℕ) (k : ℕ) → k < n → t k ≡ true → sum_of n (λ w. t w && not (w == k)) f + f k ≤ sum_of n t f
taken_out zero t f k less e = absurd (omega arith)
taken_out (suc n) t f k less e =
    elim (cases_lt k n) [
      | inl below ↦ (let rest = taken_out n t f k below e in let here = fewer (t n) (not (n == k)) (f n) in omega arith)
      | inr last ↦
          (let same : n ≡ k = omega arith in
          let rest = sum_fewer n t (λ w. not (w == k)) f in
          let here = here_alone (t n) (not (n == k)) (f n) (ap t same ∙ e) (ap not (eq-eqb n k same)) in
          let value : f n ≡ f k = ap f same in
          omega arith)
    ]

pub sum_le : (n m : ℕ) (at : ℕ → ℕ) → ((i : ℕ) → i < n → at i < m) → ((i j : ℕ) → i < n → j < n → at i ≡ at j → i ≡ j)
    → (t u : ℕ → Bool) (g : ℕ → ℕ) → ((i : ℕ) → i < n → t i ≡ true → u (at i) ≡ true) → sum_of n t (λ i. g (at i)) ≤ sum_of m u g
sum_le zero m at inside once t u g e = omega arith
sum_le (suc n) m at inside once t u g e =
    elim (cases_Bool (t n)) [
      | inl passes ↦
          (let out = taken_out m u g (at n) (inside n (omega arith)) (e n (omega arith) passes) in
          let rest = sum_le n m at (λ i b. inside i (omega arith)) (λ i j b d. once i j (omega arith) (omega arith)) t (λ w. u w && not (w == at n)) g
          (λ i b p. and_from (u (at i)) (not (at i == at n)) (e i (omega arith) p)
          (ap not (ne_eqb (at i) (at n) (λ same. (let one = once i n (omega arith) (omega arith) same in omega arith))))) in
          let here : cond (t n) (g (at n)) 0 ≤ g (at n) = fewer true (t n) (g (at n)) in
          omega arith)
      | inr fails ↦
          (let rest = sum_le n m at (λ i b. inside i (omega arith)) (λ i j b d. once i j (omega arith) (omega arith)) t u g (λ i b p. e i (omega arith) p) in
          let here = none_here (t n) (g (at n)) fails in
          omega arith)
    ]

count_is : (n : ℕ) (t : ℕ → Bool) → count_places t n ≡ sum_of n t (λ i. 1)
count_is zero t = refl
count_is (suc n) t = ap (λ x. x + cond (t n) 1 0) (count_is n t)

pub count_le : (n m : ℕ) (at : ℕ → ℕ) → ((i : ℕ) → i < n → at i < m) → ((i j : ℕ) → i < n → j < n → at i ≡ at j → i ≡ j)
    → (t u : ℕ → Bool) → ((i : ℕ) → i < n → t i ≡ true → u (at i) ≡ true) → count_places t n ≤ count_places u m
count_le n m at inside once t u e =
    (let most = sum_le n m at inside once t u (λ i. 1) e in let one = count_is n t in let other = count_is m u in omega arith)

all_numbers : (n : ℕ) → sum_of n (λ i. true) (λ i. 1) ≡ n
all_numbers zero = refl
all_numbers (suc n) = (let rest = all_numbers n in omega arith)

pub numbers_le : (n m : ℕ) (at : ℕ → ℕ) → ((i : ℕ) → i < n → at i < m) → ((i j : ℕ) → i < n → j < n → at i ≡ at j → i ≡ j) → n ≤ m
numbers_le n m at inside once =
    (let most = sum_le n m at inside once (λ i. true) (λ i. true) (λ i. 1) (λ i b p. refl) in
    let one = all_numbers n in let other = all_numbers m in omega arith)
