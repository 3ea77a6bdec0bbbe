-- Numbers as lists of bits, and back.
use Rattle.std.proofs.Common.{◌≡◌, ℕ, zero, suc, ◌+◌, ◌*◌, ◌%◌, ◌^◌, ◌<◌, ◌≤◌, ◌∙◌, List, [], ◌∷◌, ◌++◌, length, Bool, true, false, cond, refl, sym, ap, subst, arith, fold, map, length-append, replicate, take, append_assoc, ◌-◌}
use Rattle.std.proofs.lemmas.List.{length-map, length-take}
use Rattle.std.specs.Prelude.{◌==◌}
use Rattle.std.specs.Int.{bit_at}
use Rattle.std.proofs.Math.Nat.{mod-eq_of_lt, pow-le-pow_right, pow-succ'}
use Rattle.wl_level.specs.declared.Level.{Level}
use Rattle.wl_level.specs.declared.Level.TheVariants.{Dominant, Recessive}
use Rattle.wl_frame.specs.Crc.{bit_of_level, level_of_bit, number_of, remainder, subtracted, generator, crc_bits, crc_of}
use Rattle.wl_frame.specs.Grammar.{number_bits}
use Rattle.wl_frame.proofs.Registers.{register_bits}
use Rattle.wl_frame.proofs.Division.{number_of_bits}

pub bit_level : (b : Bool) → bit_of_level (level_of_bit b) ≡ b
bit_level true = refl
bit_level false = refl

pub level_bit : (l : Level) → level_of_bit (bit_of_level l) ≡ l
level_bit Dominant = refl
level_bit Recessive = refl

pub map_bit_level : (bs : List Bool) → map bit_of_level (map level_of_bit bs) ≡ bs
map_bit_level [] = refl
map_bit_level (b ∷ bs) = ap (λ c. c ∷ map bit_of_level (map level_of_bit bs)) (bit_level b) ∙ ap (λ cs. b ∷ cs) (map_bit_level bs)

pub map_level_bit : (ls : List Level) → map level_of_bit (map bit_of_level ls) ≡ ls
map_level_bit [] = refl
map_level_bit (l ∷ ls) = ap (λ c. c ∷ map level_of_bit (map bit_of_level ls)) (level_bit l) ∙ ap (λ cs. l ∷ cs) (map_level_bit ls)

step : (acc c p n : ℕ) → (2 * acc + c) * p + n ≡ acc * (2 * p) + ((2 * 0 + c) * p + n)
step acc c p n = omega arith

number_from : (bs : List Bool) (acc : ℕ) → fold (λ n b. 2 * n + cond b 1 0) acc bs ≡ acc * 2 ^ length bs + number_of bs
number_from [] acc = omega arith
number_from (b ∷ bs) acc =
    number_from bs (2 * acc + cond b 1 0)
    ∙ step acc (cond b 1 0) (2 ^ length bs) (number_of bs)
    ∙ ap (λ p. acc * p + ((2 * 0 + cond b 1 0) * 2 ^ length bs + number_of bs)) (sym (pow-succ' 2 (length bs)))
    ∙ ap (λ n. acc * 2 ^ suc (length bs) + n) (sym (number_from bs (2 * 0 + cond b 1 0)))

-- the first bit is worth all that follow, and one more
number_true : (bs : List Bool) → number_of (true ∷ bs) ≡ 2 ^ length bs + number_of bs
number_true bs = number_from bs 1 ∙ (let one : 1 * 2 ^ length bs + number_of bs ≡ 2 ^ length bs + number_of bs = omega arith in one)

pub number_lt : (bs : List Bool) → number_of bs < 2 ^ length bs
number_lt [] = omega arith
number_lt (true ∷ bs) = omega (arith, number_true bs, number_lt bs, pow-succ' 2 (length bs))
number_lt (false ∷ bs) = omega (arith, number_lt bs, pow-succ' 2 (length bs))

-- lists of one length with the same number are the same
pub number_injective : (bs cs : List Bool) → length bs ≡ length cs → number_of bs ≡ number_of cs → bs ≡ cs
number_injective [] [] h e = refl
number_injective [] (c ∷ cs) h e = cc
number_injective (b ∷ bs) [] h e = cc
number_injective (true ∷ bs) (true ∷ cs) h e =
    let same : length bs ≡ length cs = omega arith in
    ap (λ ds. true ∷ ds) (number_injective bs cs same (omega (arith, number_true bs, number_true cs, e, ap (λ k. 2 ^ k) same)))
number_injective (false ∷ bs) (false ∷ cs) h e =
    let same : length bs ≡ length cs = omega arith in
    ap (λ ds. false ∷ ds) (number_injective bs cs same e)
number_injective (true ∷ bs) (false ∷ cs) h e =
    let same : length bs ≡ length cs = omega arith in
    absurd (omega (arith, number_true bs, number_lt cs, e, ap (λ k. 2 ^ k) same))
number_injective (false ∷ bs) (true ∷ cs) h e =
    let same : length bs ≡ length cs = omega arith in
    absurd (omega (arith, number_true cs, number_lt bs, e, ap (λ k. 2 ^ k) same))

-- the bits of a number
pub number_bits_register : (k n : ℕ) → map bit_of_level (number_bits k n) ≡ register_bits k n
unfolding register_bits number_bits
number_bits_register zero n = refl
number_bits_register (suc k) n =
    ap (λ b. b ∷ map bit_of_level (number_bits k n)) (bit_level (bit_at n k == 1)) ∙ ap (λ bs. (bit_at n k == 1) ∷ bs) (number_bits_register k n)

pub number_back : (k n : ℕ) → number_of (map bit_of_level (number_bits k n)) ≡ n % 2 ^ k
number_back k n = ap number_of (number_bits_register k n) ∙ number_of_bits k n

pub length_number_bits : (k n : ℕ) → length (number_bits k n) ≡ k
unfolding number_bits
length_number_bits zero n = refl
length_number_bits (suc k) n = ap suc (length_number_bits k n)

pub levels_lt : (ls : List Level) → number_of (map bit_of_level ls) < 2 ^ length ls
levels_lt ls = subst (λ k. number_of (map bit_of_level ls) < 2 ^ k) (length-map ls bit_of_level) (number_lt (map bit_of_level ls))

small_mod : (n p : ℕ) → n < p → n % p ≡ n
small_mod n p h = mod-eq_of_lt h

-- levels are the bits of the number that they spell
pub bits_back : (ls : List Level) → number_bits (length ls) (number_of (map bit_of_level ls)) ≡ ls
bits_back ls =
    let n : ℕ = number_of (map bit_of_level ls) in
    let bits : map bit_of_level (number_bits (length ls) n) ≡ map bit_of_level ls =
    number_injective (map bit_of_level (number_bits (length ls) n)) (map bit_of_level ls)
    (length-map (number_bits (length ls) n) bit_of_level ∙ length_number_bits (length ls) n ∙ sym (length-map ls bit_of_level))
    (number_back (length ls) n ∙ small_mod n (2 ^ length ls) (levels_lt ls))
    in
    sym (map_level_bit (number_bits (length ls) n)) ∙ ap (map level_of_bit) bits ∙ map_level_bit ls

-- a division leaves a list of the generator's length
length_subtracted : (gs ds : List Bool) → length (subtracted gs ds) ≡ length ds
length_subtracted [] ds = refl
length_subtracted (g ∷ gs) [] = refl
length_subtracted (g ∷ gs) (d ∷ ds) = ap suc (length_subtracted gs ds)

length_remainder : (n : ℕ) (ds : List Bool) (k : ℕ) → length ds ≡ n + k → length (remainder n ds) ≡ k
length_remainder zero ds k h = omega arith
length_remainder (suc n) [] k h = absurd (omega arith)
length_remainder (suc n) (true ∷ ds) k h = length_remainder n (subtracted generator ds) k (omega (arith, length_subtracted generator ds))
length_remainder (suc n) (false ∷ ds) k h = length_remainder n ds k (omega arith)

pub length_crc : (levels : List Level) → length (crc_bits levels) ≡ 15
length_crc levels =
    length_remainder (length levels) (map bit_of_level levels ++ replicate 15 false) 15
    (length-append (map bit_of_level levels) (replicate 15 false) ∙ ap (λ n. n + 15) (length-map levels bit_of_level))

-- so few levels spell a number of 17 bits
pub taken_lt : (ls : List Level) (i : ℕ) → i < 18 → number_of (map bit_of_level (take i ls)) < 131072
taken_lt ls i h =
    let short : length (take i ls) ≤ 17 = omega (arith, length-take i ls) in
    omega (arith, levels_lt (take i ls), pow-le-pow_right {n = 2} (omega arith) short)

-- one bit more of a number
pub push_step : (bits all : List Level) (b : Level) (count k n : ℕ) → k < count → b ≡ level_of_bit (bit_at n (count - 1 - k) == 1)
    → bits ++ number_bits (count - k) n ≡ all → (bits ++ b ∷ []) ++ number_bits (count - (k + 1)) n ≡ all
unfolding number_bits
push_step bits all b count k n h e before =
    let next : count - (k + 1) ≡ count - 1 - k = omega arith in
    let here : count - k ≡ suc (count - 1 - k) = omega arith in
    append_assoc bits (b ∷ []) (number_bits (count - (k + 1)) n)
    ∙ ap (λ j. bits ++ b ∷ number_bits j n) next
    ∙ ap (λ c. bits ++ c ∷ number_bits (count - 1 - k) n) e
    ∙ ap (λ j. bits ++ number_bits j n) (sym here)
    ∙ before

pub number_bits_none : (n : ℕ) → number_bits 0 n ≡ []
unfolding number_bits
number_bits_none n = refl

-- the CRC sequence as its number spells it
pub crc_spelled : (ls : List Level) → number_bits 15 (crc_of ls) ≡ map level_of_bit (crc_bits ls)
crc_spelled ls =
    let levels : List Level = map level_of_bit (crc_bits ls) in
    let long : length levels ≡ 15 = length-map (crc_bits ls) level_of_bit ∙ length_crc ls in
    ap (λ bs. number_bits 15 (number_of bs)) (sym (map_bit_level (crc_bits ls)))
    ∙ ap (λ k. number_bits k (number_of (map bit_of_level levels))) (sym long)
    ∙ bits_back levels
