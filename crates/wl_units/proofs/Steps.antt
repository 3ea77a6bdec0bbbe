-- Steps of the greatest common divisor.
use Rattle.std.proofs.Common.{◌≡◌, ◌∙◌, ℕ, zero, suc, ◌-◌, ◌+◌, ◌<◌, ◌≤◌, ◌==◌, ◌%◌, false, refl, ap, arith}
use Rattle.wl_units.specs.Ratios.{euclid}

left : (k : ℕ) → k < 200 → 200 - k ≡ suc (200 - (k + 1))
left k within = omega arith

-- with no rest it is the first number, whatever steps are left
pub at_end : (n a : ℕ) → euclid n a 0 ≡ a
at_end zero a = refl
at_end (suc n) a = refl

-- one of the steps that are left
pub one_more : (k a b : ℕ) → k < 200 → (b == 0) ≡ false → euclid (200 - k) a b ≡ euclid (200 - (k + 1)) b (a % b)
one_more k a b within some = ap (λ n. euclid n a b) (left k within) ∙ rw some refl

pub none_left : (k a b : ℕ) → 200 ≤ k → euclid (200 - k) a b ≡ a
none_left k a b through = ap (λ n. euclid n a b) (left_none k through) where
  left_none : (k : ℕ) → 200 ≤ k → 200 - k ≡ 0
  left_none k through = omega arith
