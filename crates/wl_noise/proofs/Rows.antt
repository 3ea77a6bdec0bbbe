-- Worked values: words of the generator as its public program gives them for the seed 1234567, and bursts by hand.
use Rattle.std.specs.Prelude.{◌≡◌, [], ◌∷◌, Some, None, refl}
use Rattle.rand_xoshiro.specs.SplitMix64.{mix_u64}
use Rattle.wl_noise.specs.declared.noise.Noise.{Noise}
use Rattle.wl_noise.specs.Noise.{bursts, mean_gap, state_before}

-- four disturbances of 2 us in a second of nanoseconds
four_a_second : mean_gap 1000000 4 2000 ≡ Some 249998000
four_a_second = refl

-- three: a third of a second, rounded down
three_a_second : mean_gap 1000000 3 2000 ≡ Some 333331333
three_a_second = refl

-- one tick is left, and none
one_tick : mean_gap 1000000 500000 1999 ≡ Some 1
one_tick = refl

no_tick : mean_gap 1000000 500000 2000 ≡ None
no_tick = refl

no_rate : mean_gap 1000000 0 2000 ≡ None
no_rate = refl

no_length : mean_gap 1000000 4 0 ≡ None
no_length = refl

abbrev example : Noise
example = record { seed = 1234567; gap = 500; length = 100; places = 3 }

first_word : (mix_u64 example.seed).0 ≡ 6457827717110365317
first_word = refl

third_word : (mix_u64 (state_before example 1)).0 ≡ 9817491932198370423
third_word = refl

-- gaps of 802, 244 and 711 ticks
three_bursts : bursts example 2000 10
    ≡ (record { from = 802; to = 902; place = 1 }) ∷ (record { from = 1146; to = 1246; place = 1 }) ∷ (record { from = 1957; to = 2000; place = 0 }) ∷ []
three_bursts = refl

-- the first burst alone, and none that would begin at the end
one_burst : bursts example 2000 1 ≡ (record { from = 802; to = 902; place = 1 }) ∷ []
one_burst = refl

none_at_end : bursts example 802 10 ≡ []
none_at_end = refl
