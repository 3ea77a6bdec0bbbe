-- The shift register divides.
use Rattle.std.proofs.Common.{◌≡◌, ℕ, zero, suc, ◌+◌, ◌*◌, ◌/◌, ◌%◌, ◌^◌, ◌<◌, ◌∙◌, List, [], ◌∷◌, ◌++◌, length, Bool, true, false, cond, refl, sym, ap, arith, replicate, map, drop, drop-cons, add-one, get_or, fold}
use Rattle.std.specs.Prelude.{◌==◌, bit_xor}
use Rattle.std.specs.Int.{bit_at}
use Rattle.std.proofs.Math.Nat.{pow-succ'}
use Rattle.std.proofs.Math.Numerals.{one-add}
use Rattle.std.proofs.lemmas.Nat.{mod-pow-add, div-add-mod', xor_comm}
use Rattle.std.proofs.lemmas.Nat.Bits.{bit_at_xor, bit_at-suc, bit_at_lowest, bit_at-lt, bit_at_cat_low}
use Rattle.std.proofs.Math.Bool.{not-not}
use Rattle.wl_level.specs.declared.Level.{Level}
use Rattle.wl_frame.specs.Crc.{bit_of_level, generator, differ, subtracted, remainder, crc_bits, number_of}
use Rattle.wl_frame.specs.Register.{register_after}
use Rattle.wl_frame.proofs.Registers.{register_bits}

differ_assoc : (a b c : Bool) → differ a (differ b c) ≡ differ (differ a b) c
differ_assoc true true c = not-not c
differ_assoc true false c = refl
differ_assoc false true c = refl
differ_assoc false false c = refl

-- taking away two lists of one length is taking away their difference
subtracted_twice : (gs hs ds : List Bool) → length gs ≡ length hs → subtracted gs (subtracted hs ds) ≡ subtracted (subtracted gs hs) ds
subtracted_twice [] [] ds e = refl
subtracted_twice [] (h ∷ hs) ds e = cc
subtracted_twice (g ∷ gs) [] ds e = cc
subtracted_twice (g ∷ gs) (h ∷ hs) [] e = refl
subtracted_twice (g ∷ gs) (h ∷ hs) (d ∷ ds) e =
    ap (λ b. b ∷ subtracted gs (subtracted hs ds)) (differ_assoc g h d)
    ∙ ap (λ bs. differ (differ g h) d ∷ bs) (subtracted_twice gs hs ds (let same : length gs ≡ length hs = omega arith in same))

-- a zero more takes nothing away
subtracted_zero : (gs ds : List Bool) → subtracted (gs ++ false ∷ []) ds ≡ subtracted gs ds
subtracted_zero [] [] = refl
subtracted_zero [] (d ∷ ds) = refl
subtracted_zero (g ∷ gs) [] = refl
subtracted_zero (g ∷ gs) (d ∷ ds) = ap (λ bs. differ g d ∷ bs) (subtracted_zero gs ds)

xor_bit : (x y z : ℕ) → x < 2 → y < 2 → z ≡ (x + y) % 2 → (z == 1) ≡ differ (x == 1) (y == 1)
xor_bit zero zero z p q e = rw e refl
xor_bit zero (suc zero) z p q e = rw e refl
xor_bit (suc zero) zero z p q e = rw e refl
xor_bit (suc zero) (suc zero) z p q e = rw e refl
xor_bit zero (suc (suc y)) z p q e = absurd (omega arith)
xor_bit (suc zero) (suc (suc y)) z p q e = absurd (omega arith)
xor_bit (suc (suc x)) y z p q e = absurd (omega arith)

-- the bits of a difference
xor_bits : (k a b : ℕ) → register_bits k (bit_xor a b) ≡ subtracted (register_bits k a) (register_bits k b)
unfolding register_bits
xor_bits zero a b = refl
xor_bits (suc k) a b =
    ap (λ c. c ∷ register_bits k (bit_xor a b)) (xor_bit (bit_at a k) (bit_at b k) (bit_at (bit_xor a b) k) (bit_at-lt a k) (bit_at-lt b k) (bit_at_xor a b k))
    ∙ ap (λ bs. differ (bit_at a k == 1) (bit_at b k == 1) ∷ bs) (xor_bits k a b)

bit_at_low : (n i : ℕ) → i < 15 → bit_at (n % 2 ^ 15) i ≡ bit_at n i
bit_at_low n i h = sym (bit_at_cat_low (n / 2 ^ 15) 15 (n % 2 ^ 15) i h) ∙ ap (λ m. bit_at m i) (div-add-mod' n (2 ^ 15))

-- moved by one place, the register ends in 0
moved_bits : (r k : ℕ) → k < 15 → register_bits (suc k) (r * 2 % 2 ^ 15) ≡ register_bits k r ++ false ∷ []
unfolding register_bits
moved_bits r zero h =
    ap (λ b. (b == 1) ∷ []) (bit_at_low (r * 2) 0 (omega arith) ∙ bit_at_lowest (r * 2) ∙ (let even : r * 2 % 2 ≡ 0 = omega arith in even))
moved_bits r (suc k) h =
    ap (λ b. (b == 1) ∷ register_bits (suc k) (r * 2 % 2 ^ 15))
    (bit_at_low (r * 2) (suc k) h ∙ bit_at-suc (r * 2) k ∙ ap (λ m. bit_at m k) (let half : r * 2 / 2 ≡ r = omega arith in half))
    ∙ ap (λ bs. (bit_at r k == 1) ∷ bs) (moved_bits r k (omega arith))

generator_bits : register_bits 15 17817 ≡ generator
unfolding register_bits
generator_bits = refl

pub length_bits : (k r : ℕ) → length (register_bits k r) ≡ k
unfolding register_bits
length_bits zero r = refl
length_bits (suc k) r = ap suc (length_bits k r)

top_bits : (r : ℕ) → register_bits 15 r ≡ (bit_at r 14 == 1) ∷ register_bits 14 r
unfolding register_bits
top_bits r = refl

-- the bits of the register after one more bit, taken from what follows
shifted_false : (r : ℕ) (ds : List Bool) → subtracted (register_bits 15 (r * 2 % 2 ^ 15)) ds ≡ subtracted (register_bits 14 r) ds
shifted_false r ds = ap (λ bs. subtracted bs ds) (moved_bits r 14 (omega arith)) ∙ subtracted_zero (register_bits 14 r) ds

shifted_true : (r : ℕ) (ds : List Bool) → subtracted (register_bits 15 (bit_xor (r * 2 % 2 ^ 15) 17817)) ds ≡ subtracted generator (subtracted (register_bits 14 r) ds)
shifted_true r ds =
    ap (λ n. subtracted (register_bits 15 n) ds) (xor_comm (r * 2 % 2 ^ 15) 17817)
    ∙ ap (λ bs. subtracted bs ds) (xor_bits 15 17817 (r * 2 % 2 ^ 15))
    ∙ sym (subtracted_twice (register_bits 15 17817) (register_bits 15 (r * 2 % 2 ^ 15)) ds (length_bits 15 17817 ∙ sym (length_bits 15 (r * 2 % 2 ^ 15))))
    ∙ ap (subtracted (register_bits 15 17817)) (shifted_false r ds)
    ∙ ap (λ bs. subtracted bs (subtracted (register_bits 14 r) ds)) generator_bits

-- one step of the division
division_step : (r n : ℕ) (b v : Bool) (ds : List Bool) → differ (bit_at r 14 == 1) b ≡ v
    → remainder (suc n) (v ∷ subtracted (register_bits 14 r) ds) ≡ remainder n (subtracted (register_bits 15 (cond v (bit_xor (r * 2 % 2 ^ 15) 17817) (r * 2 % 2 ^ 15))) ds)
division_step r n b true ds e = ap (remainder n) (sym (shifted_true r ds))
division_step r n b false ds e = ap (remainder n) (sym (shifted_false r ds))

-- what is left to divide, with the register taken from its front
abbrev pub left : List Level → ℕ → List Bool
left rest r = remainder (length rest) (subtracted (register_bits 15 r) (map bit_of_level rest ++ replicate 15 false))

left_step : (level : Level) (rest : List Level) (r : ℕ) → left (level ∷ rest) r ≡ left rest (register_after r (bit_of_level level))
unfolding register_after
left_step level rest r =
    ap (λ bs. remainder (suc (length rest)) (subtracted bs (bit_of_level level ∷ (map bit_of_level rest ++ replicate 15 false)))) (top_bits r)
    ∙ division_step r (length rest) (bit_of_level level) (differ (bit_at r 14 == 1) (bit_of_level level)) (map bit_of_level rest ++ replicate 15 false) refl

pub left_more : (levels : List Level) (i r : ℕ) (default : Level) → i < length levels
    → left (drop i levels) r ≡ left (drop (i + 1) levels) (register_after r (bit_of_level (get_or levels i default)))
left_more levels i r default h =
    ap (λ rest. left rest r) (drop-cons levels i default h)
    ∙ left_step (get_or levels i default) (drop (suc i) levels) r
    ∙ ap (λ j. left (drop j levels) (register_after r (bit_of_level (get_or levels i default)))) (sym (add-one i))

subtracted_zeros : (n : ℕ) (ds : List Bool) → subtracted (replicate n false) ds ≡ ds
subtracted_zeros zero ds = refl
subtracted_zeros (suc n) [] = refl
subtracted_zeros (suc n) (d ∷ ds) = ap (λ bs. d ∷ bs) (subtracted_zeros n ds)

zero_bits : register_bits 15 0 ≡ replicate 15 false
unfolding register_bits
zero_bits = refl

pub left_none : (levels : List Level) → left levels 0 ≡ crc_bits levels
left_none levels =
    ap (λ bs. remainder (length levels) (subtracted bs (map bit_of_level levels ++ replicate 15 false))) zero_bits
    ∙ ap (remainder (length levels)) (subtracted_zeros 15 (map bit_of_level levels ++ replicate 15 false))

subtracted_from_zeros : (gs : List Bool) (n : ℕ) → length gs ≡ n → subtracted gs (replicate n false) ≡ gs
subtracted_from_zeros [] zero e = refl
subtracted_from_zeros [] (suc n) e = cc
subtracted_from_zeros (g ∷ gs) zero e = cc
subtracted_from_zeros (true ∷ gs) (suc n) e = ap (λ bs. true ∷ bs) (subtracted_from_zeros gs n (let same : length gs ≡ n = omega arith in same))
subtracted_from_zeros (false ∷ gs) (suc n) e = ap (λ bs. false ∷ bs) (subtracted_from_zeros gs n (let same : length gs ≡ n = omega arith in same))

left_all : (r : ℕ) → left [] r ≡ register_bits 15 r
left_all r = subtracted_from_zeros (register_bits 15 r) 15 (length_bits 15 r)

bit_number : (x : ℕ) → x < 2 → cond (x == 1) 1 0 ≡ x
bit_number zero h = refl
bit_number (suc zero) h = refl
bit_number (suc (suc x)) h = absurd (omega arith)

regroup : (acc c p m : ℕ) → (2 * acc + c) * p + m ≡ acc * (2 * p) + (c * p + m)
regroup acc c p m = omega arith

number_from : (k r acc : ℕ) → fold (λ n b. 2 * n + (cond b 1 0)) acc (register_bits k r) ≡ acc * 2 ^ k + r % 2 ^ k
unfolding register_bits
number_from zero r acc = omega arith
number_from (suc k) r acc =
    number_from k r (2 * acc + cond (bit_at r k == 1) 1 0)
    ∙ ap (λ c. (2 * acc + c) * 2 ^ k + r % 2 ^ k) (bit_number (bit_at r k) (bit_at-lt r k))
    ∙ regroup acc (bit_at r k) (2 ^ k) (r % 2 ^ k)
    ∙ ap (λ p. acc * p + (bit_at r k * 2 ^ k + r % 2 ^ k)) (sym (pow-succ' 2 k))
    ∙ ap (λ m. acc * 2 ^ suc k + m) (sym (mod-pow-add r 1 k) ∙ ap (λ j. r % 2 ^ j) (one-add k))

pub number_of_bits : (k r : ℕ) → number_of (register_bits k r) ≡ r % 2 ^ k
number_of_bits k r = number_from k r 0 ∙ (let none : 0 * 2 ^ k + r % 2 ^ k ≡ r % 2 ^ k = omega arith in none)

pub left_number : (r : ℕ) → r < 2 ^ 15 → r ≡ number_of (left [] r)
left_number r h =
    sym (ap number_of (left_all r) ∙ number_from 15 r 0 ∙ (let low : 0 * 2 ^ 15 + r % 2 ^ 15 ≡ r = omega arith in low))
