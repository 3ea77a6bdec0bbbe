-- Ratios of whole numbers: where they are whole, and in lowest terms (Euclid, Elements, book VII, proposition 2).
use Rattle.std.specs.Prelude.{◌≡◌, ℕ, zero, suc, ◌+◌, ◌-◌, ◌*◌, ◌/◌, ◌%◌, ◌==◌, nat_le, nat_lt, min, Bool, ◌&&◌, if◌then◌else◌, Option, Some, None, MatchOption}
use Rattle.wl_units.specs.declared.ratio.TheConstants.{LARGEST_WHOLE}

-- the greatest number that is made of a text
abbrev pub largest_whole : ℕ
largest_whole = LARGEST_WHOLE

-- a ratio as a whole number, if it is one and not too large
abbrev pub whole : (num den : ℕ) → Option ℕ
whole num den = if nat_lt 0 den && (num % den == 0) && nat_le (num / den) largest_whole then Some (num / den) else None

-- the greatest common divisor, after so many steps
abbrev pub euclid : ℕ → (a b : ℕ) → ℕ
euclid zero a b = a
euclid (suc steps) a b = if b == 0 then a else euclid steps b (a % b)

-- of two numbers below 2^128 it takes fewer steps
unfoldable pub greatest_common : (a b : ℕ) → ℕ
greatest_common a b = euclid 200 a b

-- what divides both, and is not 0
abbrev pub divides_both : ℕ → (num den : ℕ) → Bool
divides_both g num den = nat_lt 0 g && (num % g == 0) && (den % g == 0)

-- a ratio in lowest terms, if both are not too large
abbrev pub reduced_by : ℕ → (num den : ℕ) → Option (ℕ × ℕ)
reduced_by g num den =
    if divides_both g num den && nat_le (num / g) largest_whole && nat_le (den / g) largest_whole then Some (num / g, den / g) else None

abbrev pub lowest : (num den : ℕ) → Option (ℕ × ℕ)
lowest num den = reduced_by (greatest_common num den) num den

-- lowest terms have the value of the ratio
abbrev pub LowestTermsKeepTheValue : Type 0
LowestTermsKeepTheValue = (num den : ℕ) → MatchOption (lowest num den) (Unit {0}) (λ r. r.0 * den ≡ r.1 * num)

-- how many ticks a quantum takes, of so many femtoseconds each: the prescaler over the clock in Hz
abbrev pub ticks_of_quantum : (clock prescaler tick : ℕ) → Option (ℕ × ℕ)
ticks_of_quantum clock prescaler tick = lowest (prescaler * 1000000000000000) (clock * tick)

-- a fraction that lasts so many millionths of what it is, in lowest terms
abbrev pub divided : ℕ → ℕ → ℕ
divided g n = if g == 0 then n else n / g

abbrev pub fraction_with : (num den millionths : ℕ) → ℕ × ℕ
fraction_with num den millionths = (
  divided (greatest_common (num * millionths) (den * 1000000)) (num * millionths),
  min (divided (greatest_common (num * millionths) (den * 1000000)) (den * 1000000)) largest_whole,
)

-- The first of the quanta 0, 1, .. that begins at a tick or later, where quantum k begins k * num * millionths / (den * 1000000) ticks
-- after tick 0, rounded down.
abbrev pub rounded_up : (a b : ℕ) → ℕ
rounded_up a b = (a + (b - 1)) / b

abbrev pub quantum_from : (ticks num den millionths : ℕ) → Option ℕ
quantum_from ticks num den millionths =
    if nat_lt 0 (num * millionths) && nat_le den 1000000 && nat_le (rounded_up (ticks * (den * 1000000)) (num * millionths)) largest_whole
    then Some (rounded_up (ticks * (den * 1000000)) (num * millionths)) else None

-- how many quanta of num / den ticks some ticks are, if they are whole
abbrev pub whole_quanta : (ticks num den : ℕ) → Option ℕ
whole_quanta ticks num den = whole (ticks * den) num
