-- Worked settings: 500 kbit/s and 1 Mbit/s as can-utils' can-calc-bit-timing proposes them, and the figures that it prints.
use Rattle.std.proofs.Common.{◌≡◌, ℕ, List, [], ◌∷◌, Some, None, refl, arith}
use Rattle.wl_clock.specs.declared.Rate.{Rate}
use Rattle.wl_clock.specs.Timing.{Timing, tick_of}
use Rattle.wl_plan.specs.Limits.{most_quanta}
use Rattle.wl_segments.specs.declared.SyncRules.TheVariants.{After}
use Rattle.wl_segments.specs.Lengths.{Lengths}
use Rattle.wl_explain.specs.Figures.{Ratio, ComesBack, quantum_of, picoseconds, bits_per_second, sample_point, furthest_way, longest_cable, longest_trip, mean_quantum, quanta_begun, tolerance}

abbrev half : Lengths
half = record { prop = 6; ps1 = 7; ps2 = 2; sjw = 1; sync = After }

abbrev whole : Lengths
whole = record { prop = 7; ps1 = 7; ps2 = 5; sjw = 1; sync = After }

abbrev ratio : ℕ → ℕ → Ratio
ratio num den = record { num = num; den = den }

accepted : quantum_of 125 2 ≡ Some (ratio 125 2)
accepted = refl

too_fast : quantum_of 1 2 ≡ None
too_fast = refl

no_den : quantum_of 1 0 ≡ None
no_den = refl

half_a_nanosecond : picoseconds (ratio 125 2) ≡ 62500
half_a_nanosecond = refl

slow : picoseconds (ratio 125625 1000) ≡ 125625
slow = refl

half_a_megabit : bits_per_second (ratio 125 1) half ≡ 500000
half_a_megabit = refl

megabit : bits_per_second (ratio 50 1) whole ≡ 1000000
megabit = refl

half_a_megabit_sampled : sample_point half ≡ 8750
half_a_megabit_sampled = refl

megabit_sampled : sample_point whole ≡ 7500
megabit_sampled = refl

-- 25 m with 220 ns of transceivers: 345 ns; there and back and a quantum are 740 of the 750 ns up to the sample
comes_back : ComesBack (ratio 50 1) whole 345
comes_back = record { in_time = omega arith }

megabit_way : furthest_way (ratio 50 1) whole ≡ 350
megabit_way = refl

megabit_cable : longest_cable 350 220 5 ≡ Some 26
megabit_cable = refl

no_cable : longest_cable 219 220 5 ≡ None
no_cable = refl

-- the values that `check` prints of these segments
half_tolerance : tolerance half ≡ 3125
half_tolerance = refl

resonators : tolerance (record { prop = 7; ps1 = 4; ps2 = 4; sjw = 4; sync = After }) ≡ 9803
resonators = refl

megabit_trip : longest_trip (ratio 50 1) whole ≡ 700
megabit_trip = refl

-- ---- Clocks whose rate changes

abbrev clock : List Rate → Timing
clock rates = record { offset = 7; rates = rates }

-- quanta of 125 ticks, and from quantum 8, at tick 1007, of 250
abbrev late : Timing
late = clock (record { from = 0; num = 125; den = 1 } ∷ record { from = 8; num = 250; den = 1 } ∷ [])

eight : quanta_begun 1007 late ≡ 8
unfolding tick_of most_quanta
eight = refl

nine : quanta_begun 1008 late ≡ 9
unfolding tick_of most_quanta
nine = refl

none : quanta_begun 7 late ≡ 1
unfolding tick_of most_quanta
none = refl

before_the_change : mean_quantum 1007 late ≡ ratio 125000000 1000000
unfolding tick_of most_quanta
before_the_change = refl

-- eight of 125 and four of 250
over_the_change : mean_quantum 2007 late ≡ ratio 166666666 1000000
unfolding tick_of most_quanta
over_the_change = refl

no_quantum : mean_quantum 0 late ≡ ratio 125000000 1000000
unfolding tick_of most_quanta
no_quantum = refl

-- whole ticks: three quanta of 4/3 that take four ticks may be of any mean up to 5/3
thirds : mean_quantum 11 (clock (record { from = 0; num = 4; den = 3 } ∷ [])) ≡ ratio 1333333 1000000
unfolding tick_of most_quanta
thirds = refl

halves : mean_quantum 11 (clock (record { from = 0; num = 3; den = 2 } ∷ [])) ≡ ratio 1500000 1000000
unfolding tick_of most_quanta
halves = refl

halves_and_more : mean_quantum 11 (clock (record { from = 0; num = 3; den = 2 } ∷ record { from = 100; num = 9; den = 1 } ∷ [])) ≡ ratio 1333333 1000000
unfolding tick_of most_quanta
halves_and_more = refl
