-- Whether the clocks of a plan keep to their tolerances (this project's profile).
use Rattle.std.specs.Prelude.{◌≡◌, ℕ, ◌+◌, ◌-◌, ◌*◌, ◌/◌, ◌^◌, ◌==◌, ◌&&◌, ◌||◌, nat_le, nat_lt, not, min, Bool, true, false, List, [], ◌∷◌, length, Option, Some, None, Result, Ok, Err, slice_index_or, if◌then◌else◌}
use Rattle.std.specs.Option.{is_some}
use Rattle.wl_level.specs.Places.{first_place}
use Rattle.wl_clock.specs.declared.ClockFault.{ClockFault}
use Rattle.wl_clock.specs.declared.Rate.{Rate}
use Rattle.wl_clock.specs.Same.{same_timing}
use Rattle.wl_clock.specs.Timing.{Timing, tick_of, timing_within}
use Rattle.wl_limits.specs.declared.Limits.TheVariants.{Wide}
use Rattle.wl_topology.specs.Driven.{any_below}
use Rattle.wl_units.specs.Ratios.{fraction_with}
use Rattle.wl_node.specs.Limits.{most_run_quanta}
use Rattle.wl_plan.specs.declared.plan.Plan.{Plan}
use Rattle.wl_plan.specs.PlanLine.{setup_at}
use Rattle.wl_setup.specs.declared.bus.Deviation.{Deviation}
use Rattle.wl_bound.specs.Conditions.{plain}
use Rattle.wl_bound.specs.Families.{Buses, longest_in, member_at, shortest_in, units}
use Rattle.wl_bound.specs.Oscillators.{Pace, longest_of, shortest_of}
use Rattle.wl_margin.specs.declared.paces.Stray.{Stray}

-- what the laws ask of clocks: one rate, by which a quantum takes no less than the shortest and no more than the longest of the node's oscillator
abbrev pub keeps_pace : Buses → ℕ → List Rate → Bool
keeps_pace f i (r ∷ []) = nat_le (units plain * r.num) (longest_in f plain i * r.den) && nat_le (shortest_in f plain i * r.den) (units plain * r.num)
keeps_pace f i rates = false

abbrev pub breaks_pace : Plan → Buses → ℕ → Bool
breaks_pace plan f i = not (keeps_pace f i (setup_at plan i).clock.rates)

-- so do the clocks of all nodes
abbrev pub keep_pace : Plan → Buses → Bool
keep_pace plan f = not (any_below (length plan.nodes) (breaks_pace plan f))

-- the rates of a node's oscillator: without `ppm` if the node has a tolerance
abbrev pub rates_at : List Deviation → ℕ → List Rate
rates_at deviations i = (slice_index_or deviations i (record { rates = []; tolerance = 0 })).rates

-- the oscillator of node i has several rates
abbrev pub is_turning : List Deviation → ℕ → Bool
is_turning deviations i = not (length (rates_at deviations i) == 1)

-- the ticks of n quanta from quantum k on; no plan has a rate that begins later than half of the last quantum that a clock knows
abbrev pub ticks_of_quanta : Timing → ℕ → ℕ → ℕ
ticks_of_quanta t k n = tick_of t (min (k + n) most_run_quanta) - tick_of t (min k most_run_quanta)

-- as many quanta as a tick has millionths: their ticks are the millionths of a tick that one quantum takes
abbrev pub told_quanta : ℕ
told_quanta = 1000000

-- the one rate of a clock, as far as ticks tell it: exactly that which it has if its text has a quantum and its ppm
abbrev pub told_rate : Timing → Rate
told_rate t = record { from = 0; num = ticks_of_quanta t 0 told_quanta; den = told_quanta }

-- a rate is within the tolerance of an oscillator
abbrev pub is_tolerated : Pace → Rate → Bool
is_tolerated p r = nat_le (1000000 * r.num) (longest_of p 0 * r.den) && nat_le (shortest_of p 0 * r.den) (1000000 * r.num)

abbrev pub is_timing : Timing → Result Timing ClockFault → Bool
is_timing t (Ok other) = same_timing t other
is_timing t (Err fault) = false

-- a clock has this one rate, and that is within the tolerance
abbrev pub has_rate : Pace → Timing → Rate → Bool
has_rate p t r = is_timing t (timing_within Wide t.offset (r ∷ [])) && is_tolerated p r

-- how many millionths of a rate's quantum one quantum of a clock lasts, rounded down, as far as ticks tell it; no `ppm` makes it last twice as long
abbrev pub told_millionths : Timing → Rate → ℕ
told_millionths t r = if r.num == 0 then 0 else min (ticks_of_quanta t 0 told_quanta * r.den / r.num) 2000000

-- the fraction of a rate with a deviation, as a text's `ppm` makes it
abbrev pub deviated_parts : Rate → (millionths : ℕ) → ℕ × ℕ
deviated_parts r millionths = fraction_with (min r.num (2 ^ 64 - 1)) r.den millionths

abbrev pub deviated : Rate → (millionths : ℕ) → Rate
deviated r millionths = record { from = 0; num = (deviated_parts r millionths).0; den = (deviated_parts r millionths).1 }

-- a quantum of a tick at least loses less than a millionth by being told in ticks
abbrev pub has_deviation : Pace → Rate → Timing → Bool
has_deviation p r t = has_rate p t (deviated r (told_millionths t r)) || has_rate p t (deviated r (told_millionths t r + 1))

abbrev pub has_told_rate : Pace → Rate → Timing → Bool
has_told_rate p r t = has_rate p t (told_rate t) || has_deviation p r t

-- A clock whose oscillator has one rate keeps to it: it has that rate, or the one that its ticks tell, or that rate with a `ppm`, within the tolerance.
abbrev pub keeps_rate : Pace → Rate → Timing → Bool
keeps_rate p r t = has_rate p t r || has_told_rate p r t

-- the ticks that n quanta take at least and at most
abbrev pub least_ticks : Pace → ℕ → ℕ
least_ticks p n = shortest_of p 0 * n / 1000000

abbrev pub most_ticks : Pace → ℕ → ℕ
most_ticks p n = longest_of p 0 * n / 1000000

abbrev pub told_stretch : Timing → ℕ → ℕ → Stray
told_stretch t k n = record { quanta = n; ticks = ticks_of_quanta t k n }

-- n quanta from quantum k on take too few ticks or too many
abbrev pub stray_from : Pace → Timing → ℕ → ℕ → Option Stray
stray_from p t k n =
    if nat_lt (ticks_of_quanta t k n) (least_ticks p n) || nat_lt (most_ticks p n) (ticks_of_quanta t k n) then Some (told_stretch t k n) else None

abbrev pub or_stray : Option Stray → Option Stray → Option Stray
or_stray None other = other
or_stray (Some stray) other = Some stray

-- Of an oscillator with several rates: the first stretch of one rate that does. The last one is as long as `told_quanta`.
abbrev pub stray_over : Pace → Timing → List Rate → Option Stray
stray_over p t [] = None
stray_over p t (r ∷ []) = stray_from p t r.from told_quanta
stray_over p t (r ∷ next ∷ later) = or_stray (stray_from p t r.from (next.from - r.from)) (stray_over p t (next ∷ later))

-- where a clock leaves its tolerance
abbrev pub stray_by : Pace → Timing → List Rate → Option Stray
stray_by p t (r ∷ []) = if keeps_rate p r t then None else Some (told_stretch t 0 told_quanta)
stray_by p t rates = stray_over p t rates

abbrev pub stray_at : List Deviation → Plan → Buses → ℕ → Option Stray
stray_at deviations plan f i = stray_by (member_at f i).oscillator (setup_at plan i).clock (rates_at deviations i)

abbrev pub is_astray : List Deviation → Plan → Buses → ℕ → Bool
is_astray deviations plan f i = is_some (stray_at deviations plan f i)

-- the first node whose clock does
abbrev pub first_stray : List Deviation → Plan → Buses → Option ℕ
first_stray deviations plan f = first_place (is_astray deviations plan f) (length plan.nodes)

-- What is tested keeps the pace that the laws ask: all clocks keep to their tolerances, and each oscillator has one rate.
abbrev pub PaceLaw : Type 0
PaceLaw = (deviations : List Deviation) (plan : Plan) (f : Buses) → first_stray deviations plan f ≡ None
    → any_below (length plan.nodes) (is_turning deviations) ≡ false → keep_pace plan f ≡ true
