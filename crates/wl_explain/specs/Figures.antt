-- What is read off a node's settings, in whole numbers. A tick is taken for a nanosecond.
use Rattle.std.specs.Prelude.{ℕ, ◌+◌, ◌*◌, ◌-◌, ◌/◌, ◌<◌, ◌≤◌, ◌||◌, ◌&&◌, ◌==◌, nat_lt, min, max, Bool, Option, Some, None, if◌then◌else◌}
use Rattle.wl_level.specs.Places.{count_places}
use Rattle.wl_clock.specs.declared.Rate.{Rate}
use Rattle.wl_clock.specs.Timing.{Timing, tick_of}
use Rattle.wl_segments.specs.Lengths.{Lengths, sample_at, bit_quanta}
use Rattle.wl_plan.specs.Limits.{most_quanta}

-- the most ticks that a quantum may take, and the largest denominator (this project's profile, as for a clock)
abbrev pub longest_quantum : ℕ
longest_quantum = 1048576

abbrev pub largest_den : ℕ
largest_den = 1000000

-- a quantum of num / den ticks
pub record Ratio : Type 0 where
  pub num : ℕ
  pub den : ℕ

-- what holds of every quantum: it takes 1 to 2^20 ticks
pub record IsQuantum (q : Ratio) : Type 0 where
  pub divides : 0 < q.den
  pub small : q.den ≤ largest_den
  pub not_fast : q.den ≤ q.num
  pub not_slow : q.num ≤ longest_quantum * q.den

-- the quantum of these numbers, where they make one
abbrev pub quantum_of : ℕ → ℕ → Option Ratio
quantum_of num den =
    if den == 0 || nat_lt largest_den den || nat_lt num den || nat_lt (longest_quantum * den) num then None
    else Some (record { num = num; den = den })

-- The quanta of a clock that a plan is about: those that begin before its end, one at least. Quantum k begins at tick k or later, and a plan that can
-- be run has no more quanta than these.
abbrev pub quanta_begun : ℕ → Timing → ℕ
quanta_begun end t = max (count_places (λ k. nat_lt (tick_of t k) end) (min end most_quanta)) 1

-- the ticks that the first n quanta of a clock take
abbrev pub ticks_of : Timing → ℕ → ℕ
ticks_of t n = tick_of t n - tick_of t 0

-- n quanta of this mean, in millionths of a tick, may take so many ticks: both are rounded down
abbrev pub may_take : ℕ → ℕ → ℕ → Bool
may_take n mean ticks = nat_lt (n * mean) (1000000 * (ticks + 1)) && nat_lt (1000000 * ticks) (n * (mean + 1))

-- The mean of the first n quanta, in millionths of a tick. Their ticks are whole, so they tell it to less than a tick in n quanta: it is that of the
-- first 1,000,000 quanta where these n may have it, which in a clock of one rate they have, and else what the ticks of the n say, rounded down.
abbrev pub mean_of : Timing → ℕ → ℕ
mean_of t n = if may_take n (ticks_of t 1000000) (ticks_of t n) then ticks_of t 1000000 else 1000000 * ticks_of t n / n

-- the mean quantum of a clock up to the end of a plan (this project's profile)
abbrev pub mean_quantum : ℕ → Timing → Ratio
mean_quantum end t = record { num = mean_of t (quanta_begun end t); den = 1000000 }

-- the quantum of a rate, in millionths of a tick, rounded down
abbrev pub rate_quantum : Rate → Ratio
rate_quantum r = record { num = 1000000 * r.num / r.den; den = 1000000 }

-- the length of a quantum in picoseconds, rounded down
abbrev pub picoseconds : Ratio → ℕ
picoseconds q = 1000 * q.num / q.den

-- the nominal bit rate in bits a second, rounded down: a bit takes its quanta (Bosch CAN 2.0 part B, section 10)
abbrev pub bits_per_second : Ratio → Lengths → ℕ
bits_per_second q l = 1000000000 * q.den / (bit_quanta l * q.num)

-- the sample point in hundredths of a per cent of the bit, rounded down (Bosch CAN 2.0 part B, section 10)
abbrev pub sample_point : Lengths → ℕ
sample_point l = 10000 * sample_at l / bit_quanta l

-- A level that takes so many ticks to another node, as long back, and is seen up to a quantum later, is there at the sample of
-- the bit in which it set out (Bosch CAN 2.0 part B, section 10, PROP_SEG; the quantum: this project's profile)
pub record ComesBack (q : Ratio) (l : Lengths) (way : ℕ) : Type 0 where
  pub in_time : 2 * way * q.den + q.num ≤ sample_at l * q.num

-- the greatest such way
abbrev pub furthest_way : Ratio → Lengths → ℕ
furthest_way q l = (sample_at l - 1) * q.num / (2 * q.den)

-- the most ticks that a level may be on its way there and back
abbrev pub longest_trip : Ratio → Lengths → ℕ
longest_trip q l = (sample_at l - 1) * q.num / q.den

-- the greatest length that takes at most `way` ticks, where `ends` are the nodes' own and `per` go with each unit of length
abbrev pub longest_cable : ℕ → ℕ → ℕ → Option ℕ
longest_cable way ends per = if nat_lt way ends then None else Some ((way - ends) / per)

-- the whole metres of a cable along which a level takes so many nanoseconds, at five a metre
abbrev pub metres : ℕ → ℕ
metres time = time / 5

-- the greatest deviation in parts per million that both oscillators of a pair may have with these segments (this project's profile)
abbrev pub tolerance : Lengths → ℕ
tolerance l = min (1000000 * min l.ps1 l.ps2 / (2 * (13 * bit_quanta l - l.ps2))) (1000000 * l.sjw / (20 * bit_quanta l))
