-- The CRC sequence of a list of bits: the remainder of a long division of lists of bits.
use Rattle.std.specs.Prelude.{ℕ, zero, suc, ◌+◌, ◌*◌, Bool, true, false, not, List, [], ◌∷◌, ◌++◌, length, replicate, map, fold, if◌then◌else◌}
use Rattle.wl_level.specs.declared.Level.{Level}
use Rattle.wl_level.specs.declared.Level.TheVariants.{Dominant, Recessive}
use Rattle.wl_level.specs.Levels.{is_dominant}

-- dominant is bit 0, recessive bit 1; Bosch CAN 2.0 part B, section 2
abbrev pub bit_of_level : Level → Bool
bit_of_level level = not (is_dominant level)

abbrev pub level_of_bit : Bool → Level
level_of_bit true = Recessive
level_of_bit false = Dominant

-- the number of a list of bits, the first one being the most significant; Bosch CAN 2.0 part B, section 3.2.1
abbrev pub number_of : List Bool → ℕ
number_of bits = fold (λ n b. 2 * n + (if b then 1 else 0)) 0 bits

-- the generator x^15 + x^14 + x^10 + x^8 + x^7 + x^4 + x^3 + 1, without its first bit; Bosch CAN 2.0 part B, section 3.2.1
abbrev pub generator : List Bool
generator = true ∷ false ∷ false ∷ false ∷ true ∷ false ∷ true ∷ true ∷ false ∷ false ∷ true ∷ true ∷ false ∷ false ∷ true ∷ []

-- the difference of two bits, without carry: coefficients are taken modulo 2; Bosch CAN 2.0 part B, section 3.2.1
abbrev pub differ : Bool → Bool → Bool
differ true b = not b
differ false b = b

-- the bits of ds with those of gs taken from their front, without carry; Bosch CAN 2.0 part B, section 3.2.1
abbrev pub subtracted : List Bool → List Bool → List Bool
subtracted [] ds = ds
subtracted (g ∷ gs) [] = []
subtracted (g ∷ gs) (d ∷ ds) = differ g d ∷ subtracted gs ds

-- What is left of ds after n steps of the division. A step takes the generator from the front where the first bit is 1, and
-- then leaves the first bit out. Bosch CAN 2.0 part B, section 3.2.1
abbrev pub remainder : ℕ → List Bool → List Bool
remainder zero ds = ds
remainder (suc n) [] = []
remainder (suc n) (true ∷ ds) = remainder n (subtracted generator ds)
remainder (suc n) (false ∷ ds) = remainder n ds

-- how many bits a CRC sequence has; Bosch CAN 2.0 part B, section 3.2.1
abbrev pub crc_length : ℕ
crc_length = 15

-- the remainder of the list followed by 15 zeros; Bosch CAN 2.0 part B, section 3.2.1
abbrev pub crc_bits : List Level → List Bool
crc_bits levels = remainder (length levels) (map bit_of_level levels ++ replicate crc_length false)

-- the CRC sequence as a number; Bosch CAN 2.0 part B, section 3.2.1
abbrev pub crc_of : List Level → ℕ
crc_of levels = number_of (crc_bits levels)
