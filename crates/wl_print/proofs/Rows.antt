-- Worked rows: keys as they are written.
use Rattle.std.specs.Prelude.{◌≡◌, ◌∷◌, [], ℕ, pos, true, false, codes, refl, Some, None}
use Rattle.std.specs.Fmt.{digits}
use Rattle.wl_setup.specs.declared.plan_text.RateText.{RateText}
use Rattle.wl_setup.specs.declared.plan_text.ClockText.TheVariants as text
use Rattle.wl_setup.specs.declared.plan_text.QueueText.TheVariants as queue
use Rattle.wl_setup.specs.Limits.{largest_number, largest_ppm}
use Rattle.wl_print.specs.Printable.{are_rates, is_clock_text, is_number_if, is_positive, is_scale_if, is_spot}
use Rattle.wl_print.specs.Written.{data_line, flag_line, header_line, is_own, measure_line, number_line, queue_line, spot_line}

two_bytes : data_line (0 ∷ 60 ∷ []) ≡ codes "bytes = [0x00, 0x3c]\n"
unfolding data_line
two_bytes = refl

table : header_line (codes "node.frame") ≡ codes "\n[[node.frame]]\n"
unfolding header_line
table = refl

no_flag : flag_line (codes "remote") false ≡ []
unfolding flag_line
no_flag = refl

periodic : number_line (codes "every") (Some 16000) ≡ codes "every = 16000\n"
unfolding number_line digits
periodic = refl

once : number_line (codes "every") None ≡ []
unfolding number_line
once = refl

at_one_node : spot_line (Some (codes "sensor")) 0 ≡ codes "node = \"sensor\"\n"
unfolding spot_line
at_one_node = refl

on_the_cable : spot_line None 25 ≡ codes "x = 25\n"
unfolding spot_line digits
on_the_cable = refl

-- a rate from a quantum on
abbrev from : ℕ → RateText
from quantum = record { from = quantum; clock = text.Rate 125 1 }

-- one rate from quantum 0 on has the keys of the node in versions 1 and 3; all others have tables
own_of_first : is_own 1 (from 0 ∷ []) ≡ true
own_of_first = refl

tables_of_second : is_own 2 (from 0 ∷ []) ≡ false
tables_of_second = refl

own_of_third : is_own 3 (from 0 ∷ []) ≡ true
own_of_third = refl

later_rate : is_own 3 (from 5 ∷ []) ≡ false
later_rate = refl

several_rates : is_own 3 (from 0 ∷ from 5 ∷ []) ≡ false
several_rates = refl

length_of_a_tick : measure_line (codes "tick") (codes "fs") (Some 125) ≡ codes "tick = \"125fs\"\n"
unfolding measure_line digits
length_of_a_tick = refl

by_priority : queue_line queue.Priority ≡ codes "queue = \"priority\"\n"
unfolding queue_line
by_priority = refl

first_in_first_out : queue_line queue.Fifo ≡ []
unfolding queue_line
first_in_first_out = refl

-- a deviation beside a fraction is of the version that has both
deviation : is_clock_text true (text.Fraction 125 3 (pos 20)) ≡ true
unfolding largest_number largest_ppm
deviation = refl

deviation_before : is_clock_text false (text.Fraction 125 3 (pos 20)) ≡ false
deviation_before = refl

deviation_too_large : is_clock_text true (text.Ppm 125 (pos 1000000001)) ≡ false
unfolding largest_number largest_ppm
deviation_too_large = refl

-- a node of version 1 has one rate, from quantum 0 on, and one of version 2 has a list of some
one_of_first : are_rates 1 (from 0 ∷ []) ≡ true
unfolding largest_number
one_of_first = refl

later_of_first : are_rates 1 (from 5 ∷ []) ≡ false
unfolding largest_number
later_of_first = refl

later_of_second : are_rates 2 (from 5 ∷ []) ≡ true
unfolding largest_number
later_of_second = refl

none_of_second : are_rates 2 [] ≡ false
none_of_second = refl

every_of_second : is_positive false (Some 16000) ≡ false
every_of_second = refl

every_none : is_positive true (Some 0) ≡ false
every_none = refl

deadline_too_late : is_number_if true (Some 281474976710656) ≡ false
unfolding largest_number
deadline_too_late = refl

tick_too_long : is_scale_if true 1000000000000 (Some 1000000000001) ≡ false
tick_too_long = refl

-- a disturbance at a node has no place besides
node_and_place : is_spot true (Some (codes "sensor")) 25 ≡ false
node_and_place = refl
