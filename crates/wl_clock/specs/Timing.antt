-- A drifting clock: when each of its quanta begins.
use Rattle.std.specs.Prelude.{ℕ, suc, ℤ, pos, negsuc, ◌+◌, ◌-◌, ◌*◌, ◌/◌, ◌<◌, ◌≤◌, ◌==◌, nat_lt, nat_le, unsigned_abs, Bool, true, IsTrue, not, ◌&&◌, List, [], ◌∷◌, length, All, Result, Ok, Err, if◌then◌else◌}
use Rattle.std.specs.List.{list_any}
use Rattle.wl_clock.specs.declared.ClockFault.{ClockFault}
use Rattle.wl_clock.specs.declared.ClockFault.TheVariants.{ZeroDen, TooFast, TooSlow, BigOffset, BigDen, BadPpm, NoRates, TooManyRates, RateOrder, BadFrom}
use Rattle.wl_clock.specs.declared.Rate.{Rate}
use Rattle.wl_limits.specs.declared.Limits.{Limits}
use Rattle.wl_limits.specs.declared.Limits.TheVariants.{Narrow, Wide}
use Rattle.wl_limits.specs.Limits.{offset_limit, from_limit}

-- the most ticks that a quantum may take (this project's profile)
abbrev pub slowest_rate : ℕ
slowest_rate = 1048576

-- the largest denominator of a rate (this project's profile)
abbrev pub largest_denominator : ℕ
largest_denominator = 1000000

-- the largest deviation from a nominal rate, in parts per million (this project's profile)
abbrev pub largest_deviation : ℕ
largest_deviation = 100000

-- the most rates that a clock has, one after another (this project's profile)
abbrev pub most_rates : ℕ
most_rates = 16

-- the tick of quantum 0, and the rates: each from its first quantum up to the next one's
pub record Timing : Type 0 where
  pub offset : ℕ
  pub rates : List Rate

-- how many ticks lie between a rate's first quantum and quantum k, at this rate, rounded down (this project's profile)
abbrev pub ticks_at_rate : Rate → ℕ → ℕ
ticks_at_rate r k = (k - r.from) * r.num / r.den

-- The same over a rate and the later ones: up to the next rate's first quantum, that one too, by this rate; after it
-- the ticks up to there, and from there on those of the later rates (this project's profile).
abbrev pub ticks_after : Rate → List Rate → ℕ → ℕ
ticks_after r [] k = ticks_at_rate r k
ticks_after r (next ∷ later) k =
    if nat_le k next.from then ticks_at_rate r k else ticks_at_rate r next.from + ticks_after next later k

abbrev pub ticks_over : List Rate → ℕ → ℕ
ticks_over [] k = 0
ticks_over (r ∷ later) k = ticks_after r later k

-- the tick at which quantum k begins (this project's profile)
unfoldable pub tick_of : Timing → ℕ → ℕ
tick_of t k = t.offset + ticks_over t.rates k

-- what holds of every rate: a quantum takes 1 to 2^20 ticks, and denominator and first quantum are within their limits
pub record IsRate (r : Rate) : Type 0 where
  pub divides : 0 < r.den
  pub not_fast : r.den ≤ r.num
  pub not_slow : r.num ≤ slowest_rate * r.den
  pub small : r.den ≤ largest_denominator
  pub soon : r.from ≤ from_limit Wide

-- the first rate begins after this quantum, and each other one after the one in front of it
abbrev pub begin_after : ℕ → List Rate → Bool
begin_after from [] = true
begin_after from (r ∷ later) = nat_lt from r.from && begin_after r.from later

-- the first rate begins with quantum 0, and each other one after the one in front of it (this project's profile)
abbrev pub in_order : List Rate → Bool
in_order [] = true
in_order (r ∷ later) = r.from == 0 && begin_after r.from later

-- what holds of every clock: some rates, but not too many, one after another, and an offset within its limit
pub record IsTiming (t : Timing) : Type 0 where
  pub rates : All IsRate t.rates
  pub some : 0 < length t.rates
  pub few : length t.rates ≤ most_rates
  pub order : IsTrue (in_order t.rates)
  pub near : t.offset ≤ offset_limit Wide

-- what refuses a rate (this project's profile)
abbrev pub has_zero_den : Rate → Bool
has_zero_den r = r.den == 0

abbrev pub is_too_fast : Rate → Bool
is_too_fast r = nat_lt r.num r.den

abbrev pub is_too_slow : Rate → Bool
is_too_slow r = nat_lt (slowest_rate * r.den) r.num

abbrev pub has_big_den : Rate → Bool
has_big_den r = nat_lt largest_denominator r.den

abbrev pub has_bad_from : Limits → Rate → Bool
has_bad_from limits r = nat_lt (from_limit limits) r.from

-- The timing of an offset and rates by these limits, or the first refusal that applies: each is asked of all rates before the next one
-- is asked of any (this project's profile).
abbrev pub timing_within : Limits → ℕ → List Rate → Result Timing ClockFault
timing_within limits offset rates =
    if list_any has_zero_den rates then Err ZeroDen
    else if list_any is_too_fast rates then Err TooFast
    else if list_any is_too_slow rates then Err TooSlow
    else if nat_lt (offset_limit limits) offset then Err BigOffset
    else if list_any has_big_den rates then Err BigDen
    else if length rates == 0 then Err NoRates
    else if nat_lt most_rates (length rates) then Err TooManyRates
    else if not (in_order rates) then Err RateOrder
    else if list_any (has_bad_from limits) rates then Err BadFrom
    else Ok (record { offset = offset; rates = rates })

-- the same by the limits of plan texts of versions 1 to 3
abbrev pub timing_of_rates : ℕ → List Rate → Result Timing ClockFault
timing_of_rates offset rates = timing_within Narrow offset rates

-- the timing of an offset and one rate, from quantum 0 on, or the first refusal that applies
abbrev pub timing_of : ℕ → ℕ → ℕ → Result Timing ClockFault
timing_of offset num den = timing_of_rates offset (record { from = 0; num = num; den = den } ∷ [])

-- how many millionths of its nominal length a quantum lasts: a positive deviation is a slow clock
abbrev pub millionths : ℤ → ℕ
millionths (pos ppm) = 1000000 + ppm
millionths (negsuc n) = 1000000 - suc n

-- the rate of a nominal quantum, in ticks, and a deviation from it, in parts per million
abbrev pub rate_of_ppm : ℕ → ℕ → ℤ → Result Rate ClockFault
rate_of_ppm from quantum ppm =
    if nat_lt largest_deviation (unsigned_abs ppm) then Err BadPpm
    else Ok (record { from = from; num = quantum * millionths ppm; den = 1000000 })

-- the timing of a nominal quantum and a deviation from it
abbrev pub timing_of_ppm : ℕ → ℕ → ℤ → Result Timing ClockFault
timing_of_ppm offset quantum ppm =
    if nat_lt largest_deviation (unsigned_abs ppm) then Err BadPpm
    else timing_of offset (quantum * millionths ppm) 1000000
