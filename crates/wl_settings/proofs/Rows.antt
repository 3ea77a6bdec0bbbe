-- The definitions on worked values: by hand, from the rules of a bit and from the words of the output.
use Rattle.std.proofs.Common.{◌≡◌, ◌+◌, ◌*◌, ◌^◌, refl, ℕ, Bool, true, false, Some, None, option_map, codes}
use Rattle.std.specs.Result.{is_ok}
use Rattle.wl_bound.specs.declared.condition.Senders.TheVariants.{Any, One}
use Rattle.wl_settings.specs.declared.asked.Asked.{Asked}
use Rattle.wl_settings.specs.declared.asked.Setting.{Setting}
use Rattle.wl_settings.specs.declared.judged.Reach.{Reach}
use Rattle.wl_settings.specs.declared.parts.Parts.TheVariants.{Each, Joint}
use Rattle.wl_kinds.specs.Kinds.{kind_named}
use Rattle.wl_settings.specs.Judged.{margin, part}
use Rattle.wl_settings.specs.Kinds.{sample_said}
use Rattle.wl_settings.specs.Plans.{plan_end, node_ready}
use Rattle.wl_settings.specs.Questions.{number_in_text}
use Rattle.wl_settings.specs.Rankings.{place_in_order}
use Rattle.wl_settings.specs.Registers.{bounds_of_kind, widest_bounds}
use Rattle.wl_settings.specs.Settings.{bit_divisor, fits_registers, is_near, distance_to, is_taken_by, sample_permille, segments_by, setting_quanta}
use Rattle.wl_settings.specs.Rates.{error_by}
use Rattle.wl_settings.specs.declared.topics.Topic.TheVariants as topic

abbrev asked : ℕ → Asked
asked error = record {
  bitrate = 500000;
  cable = 40;
  per = 5;
  out_delay = 120;
  in_delay = 130;
  tolerance = 100;
  senders = Any;
  rate_error = error;
  sample = None;
  nodes = 2;
  tick = 1000;
}

-- 16 MHz by 2 is 8 MHz, and 16 quanta make 500 kbit/s; the sample is after 14 of them
abbrev eight_megahertz : Setting
eight_megahertz = record { prescaler = 2; parts = Each 5 8 2; sjw = 4 }

has_sixteen_quanta : setting_quanta eight_megahertz ≡ 16
has_sixteen_quanta = refl

samples_late : sample_permille eight_megahertz ≡ 875
samples_late = refl

has_the_rate : is_near (asked 0) 16000000 eight_megahertz ≡ true
has_the_rate = refl

-- a hertz off is 62.5 parts in a thousand million, which is more than nothing, and less than a part per million
just_off : is_near (asked 0) 16000001 eight_megahertz ≡ false
just_off = refl

near_enough : is_near (asked 1) 16000001 eight_megahertz ≡ true
near_enough = refl

rounded_up : error_by 16000001 (bit_divisor 500000 eight_megahertz) ≡ 1
rounded_up = refl

-- registers that hold it, and one that is a quantum too narrow
holds_it : fits_registers (record { prescaler = 2; parts = Each 5 8 2; sjw = 4; is_sjw_free = true; kind = None }) eight_megahertz ≡ true
holds_it = refl

too_narrow : fits_registers (record { prescaler = 2; parts = Each 5 7 2; sjw = 4; is_sjw_free = true; kind = None }) eight_megahertz ≡ false
too_narrow = refl

-- its jump width is above PHASE_SEG2
not_asked_for : fits_registers (record { prescaler = 2; parts = Each 5 8 2; sjw = 4; is_sjw_free = false; kind = None }) eight_megahertz ≡ false
not_asked_for = refl

-- 80 MHz by 1, and 160 quanta make 500 kbit/s; the sample is after 128 of them
abbrev eighty_megahertz : Setting
eighty_megahertz = record { prescaler = 1; parts = Joint 127 32; sjw = 32 }

has_many_quanta : setting_quanta eighty_megahertz ≡ 160
has_many_quanta = refl

samples_at_eighty : sample_permille eighty_megahertz ≡ 800
samples_at_eighty = refl

has_that_rate : is_near (asked 0) 80000000 eighty_megahertz ≡ true
has_that_rate = refl

-- the jump width is at most TSEG2, and at most TSEG1 - 1 (ISO 11898-1)
wide_enough : is_ok (segments_by eighty_megahertz.parts 32) ≡ true
wide_enough = refl

too_wide : is_ok (segments_by eighty_megahertz.parts 33) ≡ false
too_wide = refl

-- registers with one length for PROP_SEG and PHASE_SEG1 don't hold three
other_registers : fits_registers widest_bounds eight_megahertz ≡ false
other_registers = refl

-- The MCP2515 asks for an even prescaler, PHASE_SEG2 above the jump width, and PHASE_SEG2 of PROP_SEG and PHASE_SEG1 at most.
abbrev of_mcp2515 : (prescaler tseg1 tseg2 sjw : ℕ) → Bool
of_mcp2515 prescaler tseg1 tseg2 sjw = is_taken_by (kind_named (codes "mcp2515")) (record { prescaler = prescaler; parts = Joint tseg1 tseg2; sjw = sjw })

obeyed : of_mcp2515 2 13 2 1 ≡ true
obeyed = refl

odd_prescaler : of_mcp2515 1 13 2 1 ≡ false
odd_prescaler = refl

jump_of_second : of_mcp2515 2 13 2 2 ≡ false
jump_of_second = refl

late_enough : of_mcp2515 2 8 8 1 ≡ true
late_enough = refl

too_early : of_mcp2515 2 7 8 1 ≡ false
too_early = refl

-- the registers of a kind of the catalogue, and a word that is in none
parts_by_word : option_map (λ k. (bounds_of_kind k).parts) (kind_named (codes "mcp2518fd")) ≡ Some (Joint 256 128)
parts_by_word = refl

jump_by_word : option_map (λ k. (bounds_of_kind k).sjw) (kind_named (codes "sja1000")) ≡ Some 4
jump_by_word = refl

by_no_word : kind_named (codes "mcp2516") ≡ None
by_no_word = refl

-- 84 m more than 40 m are 2.1 times as much, and 6,086 ppm more than 100 ppm are 60.86 times as much
abbrev reach : Reach
reach = record { longer = Some 84; wider = Some 6086 }

abbrev short : Reach
short = record { longer = Some 4; wider = None }

lesser_of_both : margin (asked 0) short reach ≡ 2100
lesser_of_both = refl

none_is_nothing : margin (record (asked 0) { senders = One }) short reach ≡ 0
none_is_nothing = refl

-- nothing is asked for: each unit more is a whole
of_nothing : part 0 (Some 3) ≡ 3000
of_nothing = refl

-- one sender at a time waits for 200 bits more
waits : node_ready One 1 eight_megahertz ≡ 3680
waits = refl

-- 200 bits for each of two nodes, of 16 quanta of 125 ns
ends : plan_end 2 (record { num = 125; den = 1 }) eight_megahertz ≡ 800000
ends = refl

-- the sample point as texts wish for it
wished : sample_said (codes "87.5%") ≡ Some 875
wished = refl

wished_apart : sample_said (codes "80 %") ≡ Some 800
wished_apart = refl

not_wished : sample_said (codes "8.5%") ≡ None
not_wished = refl

at_the_wish : distance_to (Some 800) eight_megahertz ≡ 75
at_the_wish = refl

-- words: 16 MHz in Hz, 40 m in metres, 5 ns/m in ticks of 1 ns a metre, and no length of half a metre
clock_said : number_in_text 1000 topic.Clock (codes "16MHz") ≡ Some 16000000
clock_said = refl

cable_said : number_in_text 1000 topic.Cable (codes "40m") ≡ Some 40
cable_said = refl

half_a_metre : number_in_text 1000 topic.Cable (codes "40.5m") ≡ None
half_a_metre = refl

way_said : number_in_text 500 topic.Per (codes "5ns/m") ≡ Some 10
way_said = refl

tolerance_said : number_in_text 1000 topic.Tolerance (codes "100") ≡ Some 100
tolerance_said = refl

too_tolerant : number_in_text 1000 topic.Tolerance (codes "100001") ≡ None
too_tolerant = refl

-- of two that differ in the jump width alone, the wider one comes first
wide_first : place_in_order eight_megahertz ≡ 2 * 2 ^ 64 + (5 * 2 ^ 32 + 8 * 2 ^ 16 + 2) * 2 ^ 16 + 65531
wide_first = refl

quanta_first : place_in_order eighty_megahertz ≡ 2 ^ 64 + (160 * 2 ^ 16 + 127) * 2 ^ 16 + 65503
quanta_first = refl
