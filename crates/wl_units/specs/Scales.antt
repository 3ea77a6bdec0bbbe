-- How long a tick and a unit of length are, and what a text says by them (this project's profile).
use Rattle.std.specs.Prelude.{ℕ, ◌*◌, nat_le, Bool, ◌&&◌, if◌then◌else◌, List, Option, Some, None, option_and_then}
use Rattle.wl_units.specs.declared.quantity.Measure.{Measure}
use Rattle.wl_units.specs.declared.quantity.Measure.TheVariants.{Time, Length, PerLength}
use Rattle.wl_units.specs.declared.quantity.Quantity.{Quantity}
use Rattle.wl_units.specs.declared.scale.Scale.{Scale}
use Rattle.wl_units.specs.declared.scale.TheConstants.{LONGEST_TICK, LONGEST_UNIT}
use Rattle.wl_units.specs.Ratios.{whole}
use Rattle.wl_units.specs.Units.{quantity_of}

-- a whole number from 1 to the greatest
abbrev pub up_to : ℕ → ℕ → Option ℕ
up_to most n = if nat_le 1 n && nat_le n most then Some n else None

-- a quantity, in whole numbers of what it is counted in
abbrev pub in_small_units : Quantity → Option ℕ
in_small_units q = whole (q.number.mantissa * q.factor) (q.number.divisor * q.divisor)

-- the length of a tick in femtoseconds, and of a unit of length in micrometres
abbrev pub tick_said : List ℕ → Option ℕ
tick_said text = option_and_then (up_to LONGEST_TICK) (option_and_then in_small_units (quantity_of Time text))

abbrev pub unit_said : List ℕ → Option ℕ
unit_said text = option_and_then (up_to LONGEST_UNIT) (option_and_then in_small_units (quantity_of Length text))

abbrev pub is_scale : Scale → Bool
is_scale s = nat_le 1 s.tick && nat_le s.tick LONGEST_TICK && nat_le 1 s.unit && nat_le s.unit LONGEST_UNIT

-- by what a quantity of a measure is multiplied and divided, to be in ticks, units, ticks a unit, Hz or bit/s
abbrev pub times : Measure → Scale → ℕ
times PerLength s = s.unit
times _ s = 1

abbrev pub over : Measure → Scale → ℕ
over Time s = s.tick
over Length s = s.unit
over PerLength s = s.tick
over _ s = 1

abbrev pub scaled : Measure → Scale → Quantity → Option ℕ
scaled measure s q =
    whole (q.number.mantissa * q.factor * times measure s) (q.number.divisor * q.divisor * over measure s)

-- the number that a text says: exact, or none
abbrev pub number_said : Measure → Scale → List ℕ → Option ℕ
number_said measure s text = if is_scale s then option_and_then (scaled measure s) (quantity_of measure text) else None
