-- Lines of logs and texts of ticks, computed. The frames are those that can-utils shows in its own descriptions.
use Rattle.std.specs.Prelude.{◌≡◌, ℕ, Bool, true, false, List, [], ◌∷◌, ◌++◌, codes, None, Some, refl}
use Rattle.wl_frame.specs.Grammar.{Content}
use Rattle.wl_views.specs.declared.tick.Tick.{Tick}
use Rattle.wl_views.specs.declared.tick.TimeUnit.{TimeUnit}
use Rattle.wl_views.specs.declared.tick.TimeUnit.TheVariants.{Picosecond, Nanosecond, Microsecond}
use Rattle.wl_views.specs.Candump.{log_line}
use Rattle.wl_views.specs.Digits.{digits_of}
use Rattle.wl_level.specs.ByTick.{by_tick}
use Rattle.wl_views.specs.Ticks.{read_tick}

abbrev tick : ℕ → TimeUnit → Tick
tick count unit = record { count = count; unit = unit }

abbrev content : Bool → ℕ → Bool → ℕ → List ℕ → Content
content extended id remote dlc bytes = record { extended = extended; id = id; remote = remote; dlc = dlc; bytes = bytes }

no_byte : log_line (tick 1 Nanosecond) 0 (60900, content false 0 false 0 []) ≡ codes "(0000000000.000060) can0 000#" ++ 10 ∷ []
unfolding digits_of
no_byte = refl

extended_data : log_line (tick 1 Microsecond) 0 (1436509052, content true 523453525 false 8 (17 ∷ 34 ∷ 51 ∷ 68 ∷ 85 ∷ 102 ∷ 119 ∷ 136 ∷ []))
    ≡ codes "(0000001436.509052) can0 1F334455#1122334455667788" ++ 10 ∷ []
unfolding digits_of
extended_data = refl

-- from a second on
second_of_a_log : log_line (tick 1 Microsecond) 1436509050 (2052, content false 291 false 1 (10 ∷ [])) ≡ codes "(1436509050.002052) can0 123#0A" ++ 10 ∷ []
unfolding digits_of
second_of_a_log = refl

extended_as_short : log_line (tick 1 Nanosecond) 0 (0, content true 291 false 1 (10 ∷ [])) ≡ codes "(0000000000.000000) can0 00000123#0A" ++ 10 ∷ []
unfolding digits_of
extended_as_short = refl

remote : log_line (tick 125 Picosecond) 0 (16000, content false 291 true 0 []) ≡ codes "(0000000000.000002) can0 123#R" ++ 10 ∷ []
unfolding digits_of
remote = refl

remote_of_five : log_line (tick 1 Nanosecond) 0 (999, content false 291 true 5 []) ≡ codes "(0000000000.000000) can0 123#R5" ++ 10 ∷ []
unfolding digits_of
remote_of_five = refl

remote_above_eight : log_line (tick 1 Nanosecond) 0 (0, content false 291 true 14 []) ≡ codes "(0000000000.000000) can0 123#R8_E" ++ 10 ∷ []
unfolding digits_of
remote_above_eight = refl

data_above_eight : log_line (tick 1 Nanosecond) 0 (0, content false 291 false 9 (1 ∷ 2 ∷ 3 ∷ 4 ∷ 5 ∷ 6 ∷ 7 ∷ 248 ∷ []))
    ≡ codes "(0000000000.000000) can0 123#01020304050607F8_9" ++ 10 ∷ []
unfolding digits_of
data_above_eight = refl

-- of two at one tick the first stays in front
in_order : by_tick 4 ((3, content false 1 true 0 []) ∷ (1, content false 2 true 0 []) ∷ (3, content false 0 true 0 []) ∷ [])
    ≡ (1, content false 2 true 0 []) ∷ (3, content false 1 true 0 []) ∷ (3, content false 0 true 0 []) ∷ []
in_order = refl

some_tick : read_tick (codes "125ps") ≡ Some (tick 125 Picosecond)
some_tick = refl

greatest_tick : read_tick (codes "999us") ≡ Some (tick 999 Microsecond)
greatest_tick = refl

too_many : read_tick (codes "1000ns") ≡ None
too_many = refl

none : read_tick (codes "0ns") ≡ None
none = refl

no_number : read_tick (codes "ns") ≡ None
no_number = refl

no_unit : read_tick (codes "5s") ≡ None
no_unit = refl

another_unit : read_tick (codes "5ms") ≡ None
another_unit = refl

a_sign : read_tick (codes "+5ns") ≡ None
a_sign = refl
