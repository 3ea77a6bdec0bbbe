-- The greatest of some numbers.
use Rattle.std.proofs.Common.{◌≡◌, ℕ, zero, suc, ◌<◌, ◌≤◌, ◌∙◌, Bool, true, false, cond, max, inl, inr, refl, ap, sym, subst, arith}
use Rattle.std.proofs.lemmas.Bool.{cases_lt}
use Rattle.wl_bound.specs.Terms.{greatest}

chosen : (b : Bool) (x y m : ℕ) → max x (cond b y 0) ≤ m → b ≡ true → y ≤ m
chosen true x y m h e = omega arith
chosen false x y m h e = absurd (cc)

both : (b : Bool) (x y m : ℕ) → x ≤ m → (b ≡ true → y ≤ m) → max x (cond b y 0) ≤ m
both true x y m h k = (let l : y ≤ m = k refl in omega arith)
both false x y m h k = omega arith

-- what bounds it bounds each
pub bounds_each : (n : ℕ) (test : ℕ → Bool) (f : ℕ → ℕ) (m : ℕ) → greatest n test f ≤ m → (k : ℕ) → k < n → test k ≡ true → f k ≤ m
bounds_each zero test f m h k b t = absurd (omega arith)
bounds_each (suc n) test f m h k b t =
    elim (cases_lt k n) [
      | inl below ↦ bounds_each n test f m (omega arith) k below t
      | inr last ↦
          (let e : k ≡ n = omega arith in
          let P : ℕ → Type 0 = λ x. f x ≤ m in
          subst P (sym e) (chosen (test n) (greatest n test f) (f n) m h (ap test (sym e) ∙ t)))
    ]

-- and the other way round
pub bounded : (n : ℕ) (test : ℕ → Bool) (f : ℕ → ℕ) (m : ℕ) → ((k : ℕ) → k < n → test k ≡ true → f k ≤ m) → greatest n test f ≤ m
bounded zero test f m h = omega arith
bounded (suc n) test f m h =
    both (test n) (greatest n test f) (f n) m (bounded n test f m (λ k b t. h k (omega arith) t)) (λ t. h n (omega arith) t)
