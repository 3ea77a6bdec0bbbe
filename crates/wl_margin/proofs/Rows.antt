-- Worked rows of a bus's margin, by the rules of docs/use/margins.md.
use Rattle.std.proofs.Common.{◌≡◌, ℕ, ◌*◌, List, [], ◌∷◌, true, false, Some, codes, refl}
use Rattle.std.specs.Fmt.{digits}
use Rattle.wl_bound.specs.declared.verdict.Outside.TheVariants.{ListenerSends, NobodyAcknowledges}
use Rattle.wl_clock.specs.declared.Rate.{Rate}
use Rattle.wl_clock.specs.Timing.{Timing, tick_of}
use Rattle.wl_bound.specs.Oscillators.{Pace}
use Rattle.wl_units.specs.Ratios.{greatest_common}
use Rattle.wl_margin.specs.Margins.{any_lead, growth_words, outside_words, unless_proved}
use Rattle.wl_margin.specs.Paces.{keeps_rate, stray_by}
use Rattle.wl_margin.specs.Reasons.{astray_words}
use Rattle.wl_margin.specs.Sentences.{Measure, picoseconds_around, picoseconds_within, quanta_around, quanta_within, spare_words}

-- ticks of a nanosecond, quanta of 125 ticks
abbrev nanoseconds : Measure
nanoseconds = record { tick = 1000; quantum = 125000000 }

-- a third of a tick is 333.3 ps
third_below : picoseconds_within nanoseconds 333333 ≡ 333
third_below = refl

third_above : picoseconds_around nanoseconds 333333 ≡ 334
third_above = refl

-- 10 ticks are 8 hundredths of a quantum, and a little more than that is 9 rounded up
hundredths_below : quanta_within nanoseconds 10000001 ≡ 8
hundredths_below = refl

hundredths_above : quanta_around nanoseconds 10000001 ≡ 9
hundredths_above = refl

-- the sample at 13 quanta of 125 ns, and what comes after 1500 ns, and after 1700.0005 ns
to_spare : spare_words nanoseconds (record { left = 1500000000; right = 1625000000 }) ≡ codes "125.000 ns (1.00 quanta)"
unfolding digits
to_spare = refl

too_much : spare_words nanoseconds (record { left = 1700000500; right = 1625000000 }) ≡ codes "-75.001 ns (-0.61 quanta)"
unfolding digits
too_much = refl

-- frames of a listener, and those of a lone sender
abbrev two_names : List (List ℕ)
two_names = codes "a" ∷ codes "b" ∷ []

mute : outside_words two_names (ListenerSends 1) ≡ codes "does not hold: b only listens, and nobody hears the frames that it has\n"
mute = refl

lone : outside_words two_names (NobodyAcknowledges 0) ≡ codes "does not hold: all nodes but a only listen, and nobody acknowledges its frames\n"
lone = refl

-- a crystal of 100 ppm and a quantum of 125 ticks, and clocks of it with a deviation in millionths
abbrev nominal : Rate
nominal = record { from = 0; num = 125; den = 1 }

abbrev crystal : Pace
crystal = record { fastest = nominal; slowest = nominal; tolerance = 100; turns = 0 }

abbrev clock_of : ℕ → Timing
clock_of millionths = record { offset = 7; rates = record { from = 0; num = 125 * millionths; den = 1000000 } ∷ [] }

-- it keeps to the crystal at both limits and as it is written without a deviation, and not a millionth beyond
slow_limit : keeps_rate crystal nominal (clock_of 1000100) ≡ true
unfolding tick_of
slow_limit = refl

fast_limit : keeps_rate crystal nominal (clock_of 999900) ≡ true
unfolding tick_of
fast_limit = refl

as_written : keeps_rate crystal nominal (record { offset = 7; rates = nominal ∷ [] }) ≡ true
unfolding tick_of
as_written = refl

-- a quantum of 250 ticks with a `ppm` of 49, in lowest terms; of a crystal of 50 ppm and of 48 ppm
abbrev longer : Rate
longer = record { from = 0; num = 250; den = 1 }

abbrev crystal_of : ℕ → Pace
crystal_of ppm = record { fastest = longer; slowest = longer; tolerance = ppm; turns = 0 }

abbrev with_ppm : Timing
with_ppm = record { offset = 0; rates = record { from = 0; num = 1000049; den = 4000 } ∷ [] }

deviating : keeps_rate (crystal_of 50) longer with_ppm ≡ true
unfolding tick_of greatest_common
deviating = refl

deviating_beyond : keeps_rate (crystal_of 48) longer with_ppm ≡ false
unfolding tick_of greatest_common
deviating_beyond = refl

too_slow : stray_by crystal (clock_of 1000101) (nominal ∷ []) ≡ Some (record { quanta = 1000000; ticks = 125012625 })
unfolding tick_of greatest_common
too_slow = refl

too_fast : stray_by crystal (clock_of 999899) (nominal ∷ []) ≡ Some (record { quanta = 1000000; ticks = 124987375 })
unfolding tick_of greatest_common
too_fast = refl

-- of two rates the second one, from quantum 1000 on, is too slow
abbrev two_rates : List Rate
two_rates = nominal ∷ record { from = 1000; num = 125; den = 1 } ∷ []

second_slow : stray_by crystal (record { offset = 0; rates = nominal ∷ record { from = 1000; num = 126; den = 1 } ∷ [] }) two_rates
    ≡ Some (record { quanta = 1000000; ticks = 126000000 })
unfolding tick_of
second_slow = refl

astray_line : astray_words (codes "b") crystal (record { quanta = 1000000; ticks = 125012625 })
    ≡ codes "does not hold: the clock of b is outside of its tolerance of 100 ppm: 1000000 quanta take 125012625 ticks, and 124987500 to 125012500 are within it\n"
unfolding digits
astray_line = refl

-- first lines, why it isn't proved, and what stays proved
proved_lead : any_lead (codes "a and b") (record { any = true; one = true }) ≡ codes "holds for any senders of a and b, proved: any_senders_are_clean\n"
proved_lead = refl

searched_lead : any_lead (codes "a") (record { any = false; one = false }) ≡ codes "holds for any senders of a, as far as searched, not proved\n"
searched_lead = refl

reason : unless_proved false (codes "b only listens") ≡ codes "not proved: b only listens\n"
reason = refl

stays_proved : growth_words (codes "tolerance") (codes " ppm wider") (record { one = Some 3015; any = Some 679; proved = Some 288 })
    ≡ codes "tolerance: one sender at a time 3015 ppm wider, any senders 679 ppm wider, proved 288\n"
unfolding digits
stays_proved = refl
