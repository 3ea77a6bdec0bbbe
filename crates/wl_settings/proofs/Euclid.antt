-- The steps of Euclid's algorithm, one after another.
use Rattle.std.proofs.Common.{◌≡◌, ◌∙◌, refl, ap, ℕ, suc, ◌+◌, arith}
use Rattle.wl_settings.specs.Plans.{common, step, steps}

pub no_steps : (p : ℕ × ℕ) → p ≡ steps 0 p
unfolding steps
no_steps p = refl

pub one_step : (n : ℕ) (p q r : ℕ × ℕ) → q ≡ steps n p → r ≡ step q → r ≡ steps (n + 1) p
unfolding steps
one_step n p q r so_far next = next ∙ (ap step so_far ∙ ap (λ k. steps k p) {x = suc n} {y = n + 1} (omega arith))

pub all_steps : (n a b : ℕ) (pair : ℕ × ℕ) → n ≡ 128 → pair ≡ steps n (a, b) → pair.0 ≡ common a b
unfolding common
all_steps n a b pair all is = ap (λ p. p.0) (is ∙ ap (λ k. steps k (a, b)) all)
