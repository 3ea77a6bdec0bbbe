-- Worked clocks: quanta of one tick and a half, a clock that is 150 ppm fast, and one that changes its rate.
use Rattle.std.proofs.Common.{◌≡◌, ℕ, negsuc, List, [], ◌∷◌, map, replicate, Ok, Err, refl}
use Rattle.wl_clock.specs.declared.ClockFault.TheVariants.{ZeroDen, TooFast, BigOffset, BadPpm, NoRates, TooManyRates, RateOrder, BadFrom}
use Rattle.wl_clock.specs.declared.Rate.{Rate}
use Rattle.wl_clock.specs.Timing.{Timing, tick_of, timing_of, timing_of_rates, timing_of_ppm, rate_of_ppm}

abbrev rate : ℕ → ℕ → ℕ → Rate
rate from num den = record { from = from; num = num; den = den }

abbrev clock : Timing
clock = record { offset = 1; rates = rate 0 3 2 ∷ [] }

accepted : timing_of 1 3 2 ≡ Ok clock
accepted = refl

quanta_0_to_4 : map (tick_of clock) (0 ∷ 1 ∷ 2 ∷ 3 ∷ 4 ∷ []) ≡ 1 ∷ 2 ∷ 4 ∷ 5 ∷ 7 ∷ []
unfolding tick_of
quanta_0_to_4 = refl

half_a_tick : timing_of 0 1 2 ≡ Err TooFast
half_a_tick = refl

-- 150 parts per million below the nominal quantum of 100 ticks; a negsuc n is -(n + 1)
abbrev fast : Timing
fast = record { offset = 0; rates = rate 0 99985000 1000000 ∷ [] }

fast_by_150_ppm : timing_of_ppm 0 100 (negsuc 149) ≡ Ok fast
fast_by_150_ppm = refl

fast_1 : tick_of fast 1 ≡ 99
unfolding tick_of
fast_1 = refl

fast_10000 : tick_of fast 10000 ≡ 999850
unfolding tick_of
fast_10000 = refl

too_far_from_nominal : timing_of_ppm 1048577 0 (negsuc 100000) ≡ Err BadPpm
too_far_from_nominal = refl

-- ---- rates that change

abbrev changing : List Rate
changing = rate 0 3 2 ∷ rate 4 2 1 ∷ []

abbrev changing_clock : Timing
changing_clock = record { offset = 1; rates = changing }

two_rates : timing_of_rates 1 changing ≡ Ok changing_clock
two_rates = refl

quanta_0_to_6 : map (tick_of changing_clock) (0 ∷ 1 ∷ 2 ∷ 3 ∷ 4 ∷ 5 ∷ 6 ∷ []) ≡ 1 ∷ 2 ∷ 4 ∷ 5 ∷ 7 ∷ 9 ∷ 11 ∷ []
unfolding tick_of
quanta_0_to_6 = refl

-- a fraction of a tick that is left at a seam is left for good
fraction_is_left : map (tick_of (record { offset = 0; rates = rate 0 3 2 ∷ rate 3 3 2 ∷ rate 4 5 3 ∷ [] })) (2 ∷ 3 ∷ 4 ∷ 5 ∷ 6 ∷ 7 ∷ []) ≡ 3 ∷ 4 ∷ 5 ∷ 6 ∷ 8 ∷ 10 ∷ []
unfolding tick_of
fraction_is_left = refl

rate_of_150_ppm : rate_of_ppm 7 100 (negsuc 149) ≡ Ok (rate 7 99985000 1000000)
rate_of_150_ppm = refl

no_rate : timing_of_rates 0 [] ≡ Err NoRates
no_rate = refl

begins_with_quantum_1 : timing_of_rates 0 (rate 1 1 1 ∷ []) ≡ Err RateOrder
begins_with_quantum_1 = refl

begin_together : timing_of_rates 0 (rate 0 1 1 ∷ rate 4 1 1 ∷ rate 4 2 1 ∷ []) ≡ Err RateOrder
begin_together = refl

second_is_too_fast : timing_of_rates 0 (rate 0 100 1 ∷ rate 5 1 2 ∷ []) ≡ Err TooFast
second_is_too_fast = refl

-- by the refusal's number first, over all rates
later_rate_refused_first : timing_of_rates 1048577 (rate 0 1 2 ∷ rate 5 1 0 ∷ []) ≡ Err ZeroDen
later_rate_refused_first = refl

offset_before_rates : timing_of_rates 1048577 [] ≡ Err BigOffset
offset_before_rates = refl

begins_too_late : timing_of_rates 0 (rate 0 1 1 ∷ rate 1048577 1 1 ∷ []) ≡ Err BadFrom
begins_too_late = refl

seventeen : timing_of_rates 0 (replicate 17 (rate 0 1 1)) ≡ Err TooManyRates
seventeen = refl
