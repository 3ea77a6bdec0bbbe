-- Worked values, by the SI brochure and by hand.
use Rattle.std.specs.Prelude.{◌≡◌, Some, None, codes, refl}
use Rattle.wl_units.specs.declared.quantity.Measure.TheVariants.{Time, Length, PerLength, Frequency, BitRate}
use Rattle.wl_units.specs.declared.scale.Scale.{Scale}
use Rattle.wl_units.specs.Ratios.{greatest_common, lowest}
use Rattle.wl_units.specs.Scales.{number_said, tick_said, unit_said}

abbrev nanosecond : Scale
nanosecond = record { tick = 1000000; unit = 1000000 }

-- an eighth of a nanosecond
abbrev eighth : Scale
eighth = record { tick = 125000; unit = 100000 }

tick : tick_said (codes "125ps") ≡ Some 125000
tick = refl

tick_decimal : tick_said (codes "12.5 ns") ≡ Some 12500000
tick_decimal = refl

tick_too_fine : tick_said (codes "0.5fs") ≡ None
tick_too_fine = refl

tick_none : tick_said (codes "0ns") ≡ None
tick_none = refl

unit : unit_said (codes "10cm") ≡ Some 100000
unit = refl

ten_ms : number_said Time nanosecond (codes "10ms") ≡ Some 10000000
ten_ms = refl

half : number_said Time nanosecond (codes "12.5ns") ≡ None
half = refl

eighths : number_said Time eighth (codes "12.5ns") ≡ Some 100
eighths = refl

point : number_said Time nanosecond (codes "1.") ≡ None
point = refl

no_unit : number_said Time nanosecond (codes "12") ≡ None
no_unit = refl

two_spaces : number_said Time nanosecond (codes "12  ns") ≡ None
two_spaces = refl

other_unit : number_said Time nanosecond (codes "12m") ≡ None
other_unit = refl

metres : number_said Length eighth (codes "12.5m") ≡ Some 125
metres = refl

along : number_said PerLength nanosecond (codes "5ns/m") ≡ Some 5
along = refl

-- 10 cm of 5 ns a metre are four eighths of a nanosecond
along_short : number_said PerLength eighth (codes "5ns/m") ≡ Some 4
along_short = refl

clock : number_said Frequency nanosecond (codes "80MHz") ≡ Some 80000000
clock = refl

rate : number_said BitRate nanosecond (codes "83.333k") ≡ Some 83333
rate = refl

-- 12 periods of 42 MHz, in nanoseconds
quantum : lowest 12000000000000000 42000000000000 ≡ Some (2000, 7)
unfolding greatest_common
quantum = refl
