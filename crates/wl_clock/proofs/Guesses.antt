-- A quotient by a product with an inverse: the guess is the quotient, or 1 less.
use Rattle.std.proofs.Common.{◌≡◌, ℕ, inl, inr, ◌+◌, ◌-◌, ◌*◌, ◌/◌, ◌^◌, ◌<◌, ◌≤◌, arith}
use Rattle.std.proofs.Math.Nat.{lt-div-mul-add, div-mul-le_self, div-eq_of_lt-le, mul-le-mul_left, mul-le-mul_right, le_of_mul-le-mul_right, lt_of_mul-lt-mul_right, mul-lt-mul_of_pos_right}
use Rattle.std.proofs.lemmas.Bool.{cases_lt}

-- an inverse v of b, rounded down: the guess g = n * v / w is no more than n / b
guess_low : (n b v g w : ℕ) → v * b < w → g * w ≤ n * v → g * b ≤ n
guess_low n b v g w fits guess =
    let scaled : g * w * b ≤ n * v * b = mul-le-mul_right b guess in
    let most : n * (v * b) ≤ n * w = mul-le-mul_left n (omega arith) in
    le_of_mul-le-mul_right {k = w} (omega arith) (omega arith)

-- and less than it by 1 at most
guess_high : (n b v g w : ℕ) → 0 < b → n < w → w ≤ v * b + b → n * v < g * w + w → n < g * b + b + b
guess_high n b v g w some small fills guess =
    let scaled : n * v * b < (g * w + w) * b = mul-lt-mul_of_pos_right guess some in
    let least : n * w ≤ n * (v * b + b) = mul-le-mul_left n fills in
    let narrow : n * b < w * b = mul-lt-mul_of_pos_right small some in
    lt_of_mul-lt-mul_right w (omega arith)

-- so what is missing, x, is 0 or 1, as the rest is less than b or not
guess_corrected : (n b g x : ℕ) → g * b ≤ n → n < g * b + b + b → (n - g * b < b → x ≡ 0) → (b ≤ n - g * b → x ≡ 1) → g + x ≡ n / b
guess_corrected n b g x low high none one =
    elim (cases_lt (n - g * b) b) [
      | inl less ↦ (let is : n / b ≡ g = div-eq_of_lt-le b low (omega arith) in omega (arith, none less))
      | inr enough ↦ (let is : n / b ≡ g + 1 = div-eq_of_lt-le b (omega arith) (omega arith) in omega (arith, one enough))
    ]

-- ---- of the inverse that is held, and numbers below 2 ^ 64

abbrev past_u64 : ℕ
past_u64 = 18446744073709551616

pub held_low : (n b v : ℕ) → 0 < b → v ≡ (2 ^ 64 - 1) / b → n * v / past_u64 * b ≤ n
held_low n b v some is =
    let below : v * b ≤ 2 ^ 64 - 1 = rw is (div-mul-le_self (2 ^ 64 - 1) b) in
    guess_low n b v (n * v / past_u64) past_u64 (omega (arith, below)) (div-mul-le_self (n * v) past_u64)

held_high : (n b v : ℕ) → 0 < b → n < past_u64 → v ≡ (2 ^ 64 - 1) / b → n < n * v / past_u64 * b + b + b
held_high n b v some small is =
    let above : 2 ^ 64 - 1 < v * b + b = rw is (lt-div-mul-add {a = 2 ^ 64 - 1} some) in
    guess_high n b v (n * v / past_u64) past_u64 some small (omega (arith, above)) (lt-div-mul-add {a = n * v} {b = past_u64} (omega arith))

pub held_corrected : (n b v x : ℕ) → 0 < b → n < past_u64 → v ≡ (2 ^ 64 - 1) / b → (n - n * v / past_u64 * b < b → x ≡ 0) → (b ≤ n - n * v / past_u64 * b → x ≡ 1)
    → n * v / past_u64 + x ≡ n / b
held_corrected n b v x some small is = guess_corrected n b (n * v / past_u64) x (held_low n b v some is) (held_high n b v some small is)
