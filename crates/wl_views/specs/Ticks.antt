-- How long a tick takes, and the time of a tick: a plan leaves open what its ticks are (this project's profile).
use Rattle.std.specs.Prelude.{ℕ, ◌+◌, ◌-◌, ◌*◌, ◌/◌, ◌==◌, ◌&&◌, nat_lt, List, length, take, drop, fold, slice_index, if◌then◌else◌, Option, Some, None, option_map, option_and_then}
use Rattle.std.specs.Char.{is_ascii_digit}
use Rattle.wl_views.specs.declared.tick.TimeUnit.{TimeUnit}
use Rattle.wl_views.specs.declared.tick.TimeUnit.TheVariants.{Picosecond, Nanosecond, Microsecond}
use Rattle.wl_views.specs.declared.tick.Tick.{Tick}

abbrev pub unit_picoseconds : TimeUnit → ℕ
unit_picoseconds Picosecond = 1
unit_picoseconds Nanosecond = 1000
unit_picoseconds Microsecond = 1000000

abbrev pub tick_picoseconds : Tick → ℕ
tick_picoseconds tick = tick.count * unit_picoseconds tick.unit

-- the whole microseconds from tick 0 to tick t
abbrev pub microseconds : Tick → ℕ → ℕ
microseconds tick t = t * tick_picoseconds tick / 1000000

-- the unit that a word names: `ps`, `ns` or `us`
abbrev pub unit_of : List ℕ → Option TimeUnit
unit_of word =
    if length word == 2 && slice_index word 1 == 115
    then (if slice_index word 0 == 112 then Some Picosecond
    else if slice_index word 0 == 110 then Some Nanosecond
    else if slice_index word 0 == 117 then Some Microsecond
    else None)
    else None

-- a number with one decimal digit more after it, as long as it stays below 1000
abbrev pub with_digit : Option ℕ → ℕ → Option ℕ
with_digit number digit =
    option_and_then (λ n. if is_ascii_digit digit && nat_lt n 100 then Some (10 * n + (digit - 48)) else None) number

abbrev pub not_zero : ℕ → Option ℕ
not_zero n = if n == 0 then None else Some n

-- the number from 1 to 999 that these digits spell
abbrev pub count_of : List ℕ → Option ℕ
count_of digits = option_and_then not_zero (fold with_digit (Some 0) digits)

-- so many of a unit, and the unit's word right after the number
abbrev pub read_tick : List ℕ → Option Tick
read_tick text =
    option_and_then (λ unit. option_map (λ count. record { count = count; unit = unit }) (count_of (take (length text - 2) text)))
    (unit_of (drop (length text - 2) text))
