-- What a text of a number with a unit says (the SI brochure, sections 2 and 3, for the units; this project's profile for the texts).
use Rattle.std.specs.Prelude.{ℕ, ◌==◌, if◌then◌else◌, List, [], ◌∷◌, Option, Some, None, option_map, option_and_then, codes, ◌≤◌, ◌<◌}
use Rattle.std.specs.Str.{bytes_eq}
use Rattle.wl_units.specs.declared.decimal.Decimal.{Decimal}
use Rattle.wl_units.specs.declared.quantity.Measure.{Measure}
use Rattle.wl_units.specs.declared.quantity.Measure.TheVariants.{Time, Length, PerLength, Frequency, BitRate}
use Rattle.wl_units.specs.declared.quantity.Quantity.{Quantity}
use Rattle.wl_units.specs.Decimals.{IsDecimal, decimal_in}

-- a factor over a divisor
abbrev pub Factors : Type 0
Factors = ℕ × ℕ

-- how many femtoseconds a unit of time has
abbrev pub time_factor : List ℕ → Option ℕ
time_factor word =
    if bytes_eq word (codes "ns") then Some 1000000
    else if bytes_eq word (codes "us") then Some 1000000000
    else if bytes_eq word (codes "ms") then Some 1000000000000
    else if bytes_eq word (codes "s") then Some 1000000000000000
    else if bytes_eq word (codes "ps") then Some 1000
    else if bytes_eq word (codes "fs") then Some 1
    else None

-- how many micrometres a unit of length has
abbrev pub length_factor : List ℕ → Option ℕ
length_factor word =
    if bytes_eq word (codes "m") then Some 1000000
    else if bytes_eq word (codes "cm") then Some 10000
    else if bytes_eq word (codes "mm") then Some 1000
    else if bytes_eq word (codes "km") then Some 1000000000
    else if bytes_eq word (codes "um") then Some 1
    else None

-- how many femtoseconds a time along a length has, and how many micrometres the length
abbrev pub per_length_factors : List ℕ → Option Factors
per_length_factors word =
    if bytes_eq word (codes "ns/m") then Some (1000000, 1000000)
    else if bytes_eq word (codes "ps/m") then Some (1000, 1000000)
    else if bytes_eq word (codes "us/m") then Some (1000000000, 1000000)
    else if bytes_eq word (codes "ps/mm") then Some (1000, 1000)
    else if bytes_eq word (codes "ps/cm") then Some (1000, 10000)
    else if bytes_eq word (codes "ns/cm") then Some (1000000, 10000)
    else if bytes_eq word (codes "us/km") then Some (1000000000, 1000000000)
    else if bytes_eq word (codes "ns/km") then Some (1000000, 1000000000)
    else None

-- how many Hz a unit of frequency has
abbrev pub frequency_factor : List ℕ → Option ℕ
frequency_factor word =
    if bytes_eq word (codes "MHz") then Some 1000000
    else if bytes_eq word (codes "kHz") then Some 1000
    else if bytes_eq word (codes "Hz") then Some 1
    else None

-- how many bit/s a unit of a bit rate has
abbrev pub bit_rate_factor : List ℕ → Option ℕ
bit_rate_factor word =
    if bytes_eq word (codes "kbit/s") then Some 1000
    else if bytes_eq word (codes "k") then Some 1000
    else if bytes_eq word (codes "Mbit/s") then Some 1000000
    else if bytes_eq word (codes "M") then Some 1000000
    else if bytes_eq word (codes "bit/s") then Some 1
    else None

abbrev pub over_one : ℕ → Factors
over_one factor = (factor, 1)

abbrev pub factors_of : Measure → List ℕ → Option Factors
factors_of Time word = option_map over_one (time_factor word)
factors_of Length word = option_map over_one (length_factor word)
factors_of PerLength word = per_length_factors word
factors_of Frequency word = option_map over_one (frequency_factor word)
factors_of BitRate word = option_map over_one (bit_rate_factor word)

-- a text without a space at its start, if it has one
abbrev pub behind_space : List ℕ → List ℕ
behind_space [] = []
behind_space (c ∷ cs) = if c == 32 then cs else c ∷ cs

-- a number and the factors of its unit
abbrev pub quantity_with : Decimal → Factors → Quantity
quantity_with d f = record { number = d; factor = f.0; divisor = f.1 }

abbrev pub in_unit : Measure → Decimal × List ℕ → Option Quantity
in_unit measure r = option_map (quantity_with r.0) (factors_of measure (behind_space r.1))

-- a number, a space or none, and a unit of the measure
abbrev pub quantity_of : Measure → List ℕ → Option Quantity
quantity_of measure text = option_and_then (in_unit measure) (decimal_in text)

-- what holds of each: a factor and a divisor within bounds
pub record IsQuantity (q : Quantity) : Type 0 where
  pub number : IsDecimal q.number
  pub factor : q.factor ≤ 1000000000000000
  pub unit : 0 < q.divisor
  pub units : q.divisor ≤ 1000000000
