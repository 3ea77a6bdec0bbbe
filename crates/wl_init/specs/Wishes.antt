-- What is asked for of a plan, by words (this project's profile).
use Rattle.std.specs.Prelude.{ℕ, zero, suc, ◌&&◌, nat_le, List, [], ◌∷◌, map, Option, Some, None, option_and_then, if◌then◌else◌}
use Rattle.std.specs.Str.{bytes_eq}
use Rattle.wl_kinds.specs.declared.kinds.TheConstants.{KINDS}
use Rattle.wl_units.specs.Scales.{number_said}
use Rattle.wl_units.specs.declared.quantity.Measure.{Measure}
use Rattle.wl_units.specs.declared.quantity.Measure.TheVariants.{BitRate, Length}
use Rattle.wl_init.specs.declared.wish.TheConstants.{LEAST_RATE, MOST_RATE, MOST_UNITS, SCALE}

-- a number within bounds
abbrev pub within : (least most n : ℕ) → Option ℕ
within least most n = if nat_le least n && nat_le n most then Some n else None

-- what a text says by ticks of 1 ns and units of 20 cm
abbrev pub number_said_within : Measure → (least most : ℕ) → List ℕ → Option ℕ
number_said_within measure least most text = option_and_then (within least most) (number_said measure SCALE text)

-- the number of the first of some names that is this, counted from a number on
abbrev pub kind_number : ℕ → List (List ℕ) → List ℕ → Option ℕ
kind_number n [] name = None
kind_number n (word ∷ words) name = if bytes_eq name word then Some n else kind_number (suc n) words name

-- what texts ask for: a bit rate in bit/s, a length in units of 20 cm, and the number of a kind
unfoldable pub rate_said : List ℕ → Option ℕ
rate_said = number_said_within BitRate LEAST_RATE MOST_RATE

unfoldable pub cable_said : List ℕ → Option ℕ
cable_said = number_said_within Length 0 MOST_UNITS

unfoldable pub kind_said : List ℕ → Option ℕ
kind_said = kind_number 0 (map (λ k. k.0.now) KINDS)
