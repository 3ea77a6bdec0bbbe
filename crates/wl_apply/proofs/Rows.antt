-- Worked values, by hand.
use Rattle.std.proofs.Common.{◌≡◌, refl, true, false, Some, None}
use Rattle.std.specs.Prelude.{pos}
use Rattle.wl_units.specs.Ratios.{greatest_common}
use Rattle.wl_setup.specs.declared.plan_text.ClockText.TheVariants.{Ppm, Fraction}
use Rattle.wl_apply.specs.Applied.{is_tick_said}
use Rattle.wl_apply.specs.Moves.{moved, moved_every, ratio_of}
use Rattle.wl_apply.specs.Nodes.{deviating_clock}

-- A quantum of 500 ns is four of 125 ns, and 250 ns are five quarters of 200 ns; 1000/9 ns are eight ninths of 125 ns.
quarter : ratio_of (record { num = 500; den = 1 }) (record { num = 125; den = 1 }) ≡ Some (4, 1)
unfolding greatest_common
quarter = refl

five_quarters : ratio_of (record { num = 250; den = 1 }) (record { num = 200; den = 1 }) ≡ Some (5, 4)
unfolding greatest_common
five_quarters = refl

eight_ninths : ratio_of (record { num = 1000; den = 9 }) (record { num = 125; den = 1 }) ≡ Some (8, 9)
unfolding greatest_common
eight_ninths = refl

-- 30 bits of 16 quanta are 600 of 20; one quantum more is no whole number
whole_bits : moved (Some (5, 4)) 480 ≡ Some 600
whole_bits = refl

no_whole : moved (Some (5, 4)) 481 ≡ None
no_whole = refl

at_once : moved (Some (5, 4)) 0 ≡ Some 0
at_once = refl

-- what doesn't come again doesn't in new quanta either
once : moved_every (Some (5, 4)) None ≡ Some None
once = refl

again : moved_every (Some (5, 4)) (Some 4000) ≡ Some (Some 5000)
again = refl

not_again : moved_every (Some (5, 4)) (Some 3) ≡ None
not_again = refl

-- a deviation stays, and beside a fraction it wants version 4
stays : deviating_clock false (record { num = 125; den = 1 }) (Ppm 500 (pos 40)) ≡ Some (Ppm 125 (pos 40))
stays = refl

old_version : deviating_clock false (record { num = 1000; den = 9 }) (Ppm 500 (pos 40)) ≡ None
old_version = refl

new_version : deviating_clock true (record { num = 1000; den = 9 }) (Ppm 500 (pos 40)) ≡ Some (Fraction 1000 9 (pos 40))
new_version = refl

-- a tick of 125 ps has 125,000 fs
same_tick : is_tick_said 125 (Some 125000) ≡ true
same_tick = refl

other_tick : is_tick_said 1000 (Some 125000) ≡ false
other_tick = refl
