-- Ratios with both parts divided by what divides them.
use Rattle.std.proofs.Common.{◌≡◌, ◌∙◌, ℕ, ◌*◌, ◌/◌, ◌%◌, ◌==◌, nat_le, nat_lt, ◌&&◌, MatchOption, sym, ap, arith, inl, inr}
use Rattle.std.proofs.lemmas.Bool.{cases_Bool, and_parts}
use Rattle.std.proofs.lemmas.Bool.Decides.{nat_tests}
use Rattle.std.proofs.Math.Nat.{mod-add-div, mul_comm, mul_left_comm}
use Rattle.wl_units.specs.Ratios.{divides_both, largest_whole, reduced_by}

-- a number that another divides is the quotient times it
exact : (g n : ℕ) → n % g ≡ 0 → n ≡ g * (n / g)
exact g n e = sym (mod-add-div n g) ∙ grind arith

crossed : (g a b num den : ℕ) → num ≡ g * a → den ≡ g * b → a * den ≡ b * num
crossed g a b num den n d = rw (n, d) (mul_left_comm a g b ∙ ap (λ x. g * x) (mul_comm a b) ∙ sym (mul_left_comm b g a))

-- so the reduced ratio keeps the value
pub keeps : (g num den : ℕ) → MatchOption (reduced_by g num den) (Unit {0}) (λ r. r.0 * den ≡ r.1 * num)
keeps g num den =
    elim (cases_Bool (divides_both g num den && nat_le (num / g) largest_whole && nat_le (den / g) largest_whole)) [
      | inl fits ↦
          let (both, low) = and_parts (divides_both g num den && nat_le (num / g) largest_whole) _ fits in
          let (divides, high) = and_parts (divides_both g num den) _ both in
          let (some, of_den) = and_parts (nat_lt 0 g && (num % g == 0)) _ divides in
          let (positive, of_num) = and_parts (nat_lt 0 g) _ some in
          rw fits (crossed g (num / g) (den / g) num den (exact g num (grind (arith, nat_tests))) (exact g den (grind (arith, nat_tests))))
      | inr not_so ↦ rw not_so tt
    ]
