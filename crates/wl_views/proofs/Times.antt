-- The front of a number and its last four digits.
use Rattle.std.proofs.Common.{◌≡◌, ◌∙◌, ◌+◌, ◌++◌, ◌/◌, ◌%◌, ◌<◌, ◌≤◌, ◌^◌, [], ◌∷◌, List, ℕ, length, length-append, ap, sym, arith, append_assoc, append-nil}
use Rattle.std.specs.Fmt.{decimal}
use Rattle.std.proofs.lemmas.Fmt.{decimal_step, length-decimal-le}
use Rattle.wl_views.specs.Digits.{four_digits}

-- one digit more
shifted : (n : ℕ) (more : List ℕ) → 10 ≤ n → n < 2 ^ 64 → decimal (n / 10) ++ ((48 + n % 10) ∷ more) ≡ decimal n ++ more
shifted n more some fits =
    sym (append_assoc (decimal (n / 10)) ((48 + n % 10) ∷ []) more) ∙ ap (λ (front : List ℕ). front ++ more) (sym (decimal_step n some fits))

pub four_more : (n : ℕ) → 10000 ≤ n → n < 2 ^ 64 → decimal (n / 10000) ++ four_digits n ≡ decimal n
four_more n some fits =
    ap (λ (k : ℕ). decimal k ++ four_digits n) {x = n / 10000} {y = n / 10 / 10 / 10 / 10} (omega arith)
    ∙ ap (λ (k : ℕ). decimal (n / 10 / 10 / 10 / 10) ++ ((48 + k % 10) ∷ (48 + n / 100 % 10) ∷ (48 + n / 10 % 10) ∷ (48 + n % 10) ∷ [])) {x = n / 1000} {y = n / 10 / 10 / 10} (omega arith)
    ∙ shifted (n / 10 / 10 / 10) ((48 + n / 100 % 10) ∷ (48 + n / 10 % 10) ∷ (48 + n % 10) ∷ []) (omega arith) (omega arith)
    ∙ ap (λ (k : ℕ). decimal (n / 10 / 10 / 10) ++ ((48 + k % 10) ∷ (48 + n / 10 % 10) ∷ (48 + n % 10) ∷ [])) {x = n / 100} {y = n / 10 / 10} (omega arith)
    ∙ shifted (n / 10 / 10) ((48 + n / 10 % 10) ∷ (48 + n % 10) ∷ []) (omega arith) (omega arith)
    ∙ shifted (n / 10) ((48 + n % 10) ∷ []) (omega arith) (omega arith)
    ∙ shifted n [] (omega arith) fits
    ∙ append-nil (decimal n)

-- so the front is short
pub short_front : (n : ℕ) → 10000 ≤ n → n < 2 ^ 64 → length (decimal (n / 10000)) + 4 ≤ 20
short_front n some fits =
    let whole = ap length (four_more n some fits) in
    let parts = length-append (decimal (n / 10000)) (four_digits n) in
    let short : length (decimal n) ≤ 20 = length-decimal-le 20 n (omega arith) (omega arith) (omega arith) in
    omega arith
