-- The bits of a number, one at a time.
use Rattle.std.proofs.Common.{◌≡◌, ◌∙◌, refl, sym, ap, ℕ, suc, ◌+◌, ◌-◌, ◌<◌, ◌==◌, ◌∷◌, arith}
use Rattle.std.specs.Int.{bit_at}
use Rattle.wl_frame.specs.Crc.{level_of_bit}
use Rattle.wl_frame.specs.Grammar.{number_bits}
use Rattle.wl_longest.specs.declared.ending.Ending.{Ending}
use Rattle.wl_longest.specs.Longest.{ending_after, ending_from}

first_bit : (k n : ℕ) → number_bits (suc k) n ≡ level_of_bit (bit_at n k == 1) ∷ number_bits k n
unfolding number_bits
first_bit k n = refl

-- the first of the bits that are left
pub next_bit : (e : Ending) (count k n : ℕ) → k < count
    → ending_from (ending_after e (level_of_bit (bit_at n (count - 1 - k) == 1))) (number_bits (count - (k + 1)) n) ≡ ending_from e (number_bits (count - k) n)
next_bit e count k n h =
    let place : count - (k + 1) ≡ count - 1 - k = omega (arith, h) in
    let left : count - k ≡ suc (count - 1 - k) = omega (arith, h) in
    ap (λ m. ending_from (ending_after e (level_of_bit (bit_at n (count - 1 - k) == 1))) (number_bits m n)) place
    ∙ sym (ap (ending_from e) (first_bit (count - 1 - k) n))
    ∙ sym (ap (λ m. ending_from e (number_bits m n)) left)

pub no_bits : (e : Ending) (m n : ℕ) → m ≡ 0 → ending_from e (number_bits m n) ≡ e
unfolding number_bits
no_bits e m n none = ap (λ k. ending_from e (number_bits k n)) none
