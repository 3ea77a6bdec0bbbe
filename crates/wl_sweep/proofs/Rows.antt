-- Worked rows: members, findings, tallies and lines of sweeps, computed.
use Rattle.std.specs.Prelude.{◌≡◌, ℕ, pos, negsuc, Bool, true, false, List, [], ◌∷◌, codes, map, Option, Some, None, Ok, Err, refl}
use Rattle.std.specs.List.{range_with_len}
use Rattle.std.specs.Fmt.{digits}
use Rattle.wl_confine.specs.Counts.{Counts, no_counts}
use Rattle.wl_frame.specs.Same.{same_content}
use Rattle.wl_node.specs.declared.setup.Passed.{Passed}
use Rattle.wl_node.specs.Extremes.{phase_totals}
use Rattle.wl_serial.specs.declared.outcome.NodeTotals.{NodeTotals}
use Rattle.wl_setup.specs.declared.fault.SetupFault.TheVariants as fault
use Rattle.wl_setup.specs.declared.plan_text.NodeText.{NodeText}
use Rattle.wl_setup.specs.declared.plan_text.ClockText.{ClockText}
use Rattle.wl_setup.specs.declared.plan_text.ClockText.TheVariants as text
use Rattle.wl_setup.specs.declared.plan_text.SegmentsText.TheVariants as segments
use Rattle.wl_sweep.specs.declared.change.SweptKey.TheVariants as key
use Rattle.wl_sweep.specs.declared.change.Side.TheVariants.{Own, Slow, Fast}
use Rattle.wl_sweep.specs.declared.digit_source.DigitSource.TheVariants.{Number, Words}
use Rattle.wl_sweep.specs.declared.finding.Finding.TheVariants.{Clean, Faulty, Off, Early, Missed, Refused}
use Rattle.wl_sweep.specs.declared.options.Options.{Options}
use Rattle.wl_sweep.specs.declared.range.SweptRange.{SweptRange}
use Rattle.wl_sweep.specs.Changes.{clock_on, moved_node, node_set}
use Rattle.wl_sweep.specs.Family.{choice_count, chosen, drawn, offset_count, run_seed, sign_count}
use Rattle.wl_sweep.specs.Findings.{finding_of_totals}
use Rattle.wl_sweep.specs.Rows.{row_count}
use Rattle.wl_sweep.specs.Tallies.{part_start, tally_of}
use Rattle.wl_setup.specs.declared.plan_text.PlanText.{PlanText}
use Rattle.wl_setup.specs.declared.plan_text.QueueText.TheVariants.{Fifo}
use Rattle.wl_sweep.specs.declared.vary.RangeFault.TheVariants as range
use Rattle.wl_sweep.specs.Vary.{ends_of, has_key, number_of, step_of, values_of}
use Rattle.wl_sweep.specs.Worst.{last_ready, later_end, next_id}
use Rattle.wl_sweep.specs.Words.{choice_words, finding_words, members_line, row_line}

-- a node of 500 kbit/s with ticks of 1 ns: 16 quanta of 125 ns, this deviation
abbrev node : List ℕ → ClockText → NodeText
node name clock = record {
  name = name;
  offset = 1000;
  rates = (record { from = 0; clock = clock }) ∷ [];
  segments = segments.Each 8 4 3;
  sjw = 3;
  x = 0;
  out_delay = 120;
  in_delay = 130;
  frame = [];
  tolerance = Some 250;
  listens = false;
  queue = Fifo;
  until = None;
}

abbrev engine : NodeText
engine = node (codes "engine") (text.Ppm 125 (pos 5000))

abbrev probe : NodeText
probe = record (node (codes "probe") (text.Ppm 125 (pos 100))) { tolerance = None }

abbrev options : Options
options = record { step = None; keep_offsets = false; keep_ppm = false; runs = 1000; seed = 1 }

-- a bit of 2,000 ticks in steps of 25 has 80 offsets, but the first node has one
offsets : offset_count options 25 (1, engine) ≡ 80
offsets = refl

first_offset : offset_count options 25 (0, engine) ≡ 1
first_offset = refl

kept_offset : offset_count (record options { keep_offsets = true }) 25 (1, engine) ≡ 1
kept_offset = refl

-- a step that doesn't divide the bit has its last offset before the bit's end: 0, 300 to 1,800
uneven_offsets : offset_count options 300 (1, engine) ≡ 7
uneven_offsets = refl

both_signs : sign_count options engine ≡ 2
both_signs = refl

-- without a tolerance the plan's own rate is the only one, whatever its `ppm`
no_sign : sign_count options probe ≡ 1
no_sign = refl

no_width : sign_count options (record engine { tolerance = Some 0 }) ≡ 1
no_width = refl

kept_sign : sign_count (record options { keep_ppm = true }) engine ≡ 1
kept_sign = refl

-- the engine's two signs, by the probe's 80 offsets, by 80 offsets and two signs
members : choice_count options 25 ((0, engine) ∷ (1, probe) ∷ (2, engine) ∷ []) ≡ 25600
members = refl

-- the digits of a number, the first one the fastest; nothing is taken below 2
first_digit : drawn 3 (Number 7) ≡ (1, Number 2)
first_digit = refl

no_digit : drawn 1 (Number 7) ≡ (0, Number 7)
no_digit = refl

-- the first word of SplitMix64 from 1234567, as its author prints it, is 6457827717110365317: 350 thousandths of 2^64
random_digit : drawn 1000 (Words 1234567) ≡ (350, Words 11400714819324433052)
random_digit = refl

seeds_differ : run_seed (record options { seed = 2 }) 3 ≡ 8589934595
seeds_differ = refl

-- member 161 of a node with 80 offsets and two signs: offset 1, and the second sign is taken by member 80 on
third_choice : chosen options 25 (1, engine) (Number 161) ≡ (record { by = 25; side = Slow 250 }, Number 1)
third_choice = refl

second_sign : chosen options 25 (1, engine) (Number 81) ≡ (record { by = 25; side = Fast 250 }, Number 0)
second_sign = refl

only_rate : chosen options 25 (1, probe) (Number 81) ≡ (record { by = 25; side = Own }, Number 1)
only_rate = refl

kept_rate : chosen (record options { keep_ppm = true }) 25 (1, engine) (Number 81) ≡ (record { by = 25; side = Own }, Number 1)
kept_rate = refl

-- a tolerance counts from the quantum without `ppm`, and a member has no tolerance
slow_engine : moved_node 25 (Slow 250) engine
    ≡ record (node (codes "engine") (text.Ppm 125 (pos 250))) { offset = 1025; tolerance = None }
slow_engine = refl

fast_engine : moved_node 0 (Fast 250) engine ≡ record (node (codes "engine") (text.Ppm 125 (negsuc 249))) { tolerance = None }
fast_engine = refl

own_engine : moved_node 25 Own engine ≡ record engine { offset = 1025 }
own_engine = refl

-- 62.5 ticks, 100 ppm slow and fast: 62.50625 and 62.49375
slow_rate : clock_on (Slow 100) (text.Rate 125 2) ≡ text.Rate 62506250 1000000
slow_rate = refl

fast_rate : clock_on (Fast 100) (text.Rate 125 2) ≡ text.Rate 62493750 1000000
fast_rate = refl

-- a third of a tick more than 62: 62.339566.. and 62.327099.., rounded towards it in parts of 999,999
slow_third : clock_on (Slow 100) (text.Rate 187 3) ≡ text.Rate 62339504 999999
slow_third = refl

fast_third : clock_on (Fast 100) (text.Rate 187 3) ≡ text.Rate 62327038 999999
fast_third = refl

-- a value of a clock's key is one of the rates that have it
new_ppm : node_set key.Ppm (negsuc 99) engine ≡ node (codes "engine") (text.Ppm 125 (negsuc 99))
new_ppm = refl

no_num : node_set key.Num (pos 99) engine ≡ engine
no_num = refl

new_tolerance : node_set key.Tolerance (pos 99) probe ≡ record probe { tolerance = Some 99 }
new_tolerance = refl

-- a value of a key of frames is one of the frames that have it
abbrev periodic : Option ℕ → NodeText
periodic every = record engine { frame = (record { id = 1; dlc = 0; remote = false; bytes = []; ready = 0; extended = false; every = every; count = None; deadline = None; jitter = None }) ∷ [] }

new_every : node_set key.Every (pos 99) (periodic (Some 16000)) ≡ periodic (Some 99)
new_every = refl

once_only : node_set key.Every (pos 99) (periodic None) ≡ periodic None
once_only = refl

no_count : has_key key.Count (periodic (Some 16000)) ≡ false
no_count = refl

has_every : has_key key.Every (periodic (Some 16000)) ≡ true
has_every = refl

-- ten runs by three workers: four, four and two
parts : map (part_start 0 10 4) (range_with_len 0 4) ≡ 0 ∷ 4 ∷ 8 ∷ 10 ∷ []
parts = refl

-- two values by three: the last range changes the fastest
abbrev places : List SweptRange
places =
    (record { called = codes "x"; key = key.X; named = Some 2; values = pos 10 ∷ pos 20 ∷ [] })
    ∷ (record { called = codes "engine.ppm"; key = key.Ppm; named = Some 0; values = negsuc 99 ∷ pos 0 ∷ pos 100 ∷ [] }) ∷ []

six_rows : row_count places ≡ 6
six_rows = refl

fifth_row : row_line 4 places (tally_of (Clean ∷ Early 2 ∷ Refused fault.Size ∷ []))
    ≡ codes "x 20 engine.ppm 0 clean in 1 of 3, too early in 1, refused in 1\n"
unfolding digits
fifth_row = refl

-- a refused member isn't clean, and isn't the first that failed
refused_apart : tally_of (Clean ∷ Refused fault.Size ∷ Off ∷ Missed ∷ [])
    ≡ record { runs = 4; clean = 1; early = 0; refused = 1; first = Some 2; first_refused = Some 1 }
refused_apart = refl

all_run : members_line options 80 80 ≡ codes "all 80 members were run\n"
unfolding digits
all_run = refl

part_run : members_line options 1000 25600 ≡ codes "1000 of 25600 members were run, drawn by seed 1\n"
unfolding digits
part_run = refl

changed : choice_words engine (record { by = 25; side = Fast 250 }) ≡ codes ", engine.offset = 1025, engine.ppm = -250"
unfolding digits
changed = refl

-- what a node came to that no error met: these counters, these frames, so many left to send
abbrev told : Counts → List Passed → ℕ → NodeTotals
told counters frames unsent =
    record { samples = 0; frames = frames; counters = counters; phases = phase_totals []; hards = 0; errors = 0; unsent = unsent }

abbrev passed : Bool → ℕ → List Passed
passed sent id = (record { sent = sent; quantum = 1; frame = record { extended = false; id = id; remote = false; dlc = 0; bytes = [] } }) ∷ []

-- what one node sent the other received
clean_bus : finding_of_totals (told no_counts (passed true 5) 0 ∷ told no_counts (passed false 5) 0 ∷ []) ≡ Clean
unfolding same_content
clean_bus = refl

early_bus : finding_of_totals (told no_counts (passed true 5) 3 ∷ told no_counts (passed false 5) 0 ∷ []) ≡ Early 3
early_bus = refl

missed_frame : finding_of_totals (told no_counts (passed true 5) 0 ∷ told no_counts [] 0 ∷ []) ≡ Missed
unfolding same_content
missed_frame = refl

-- a node that was off at the start of its history has found no error
off_bus : finding_of_totals (told (record { tec = 256; rec = 0 }) [] 1 ∷ []) ≡ Off
off_bus = refl

errors_first : finding_of_totals (record (told no_counts [] 2) { errors = 7 } ∷ []) ≡ Faulty 7 2
errors_first = refl

its_words : finding_words (Faulty 7 2) ≡ codes "verdict faulty errors 7 unsent 2"
unfolding digits
its_words = refl

-- numbers of a range: whole, below 2^48, with no more than a minus in front
negative_number : number_of (codes "-50") ≡ Some (negsuc 49)
negative_number = refl

no_plus_sign : number_of (codes "+5") ≡ None
no_plus_sign = refl

no_float : ends_of (codes "1..2.5") ≡ None
no_float = refl

stepped_ends : ends_of (codes "16..4:2") ≡ Some (record { low = pos 16; high = pos 4; step = Some (pos 2) })
stepped_ends = refl

-- the step is the first of 1, 2, 5, 10 .. by which there are at most twenty values
round_step : step_of 100 None ≡ Ok 10
round_step = refl

four_values : values_of key.Sjw (record { low = pos 1; high = pos 4; step = None }) ≡ Ok (pos 1 ∷ pos 2 ∷ pos 3 ∷ pos 4 ∷ [])
four_values = refl

last_not_reached : values_of key.Ppm (record { low = negsuc 0; high = pos 4; step = Some (pos 2) }) ≡ Ok (negsuc 0 ∷ pos 1 ∷ pos 3 ∷ [])
last_not_reached = refl

wide_tolerance : values_of key.Tolerance (record { low = pos 0; high = pos 100001; step = None }) ≡ Err range.Bounds
wide_tolerance = refl

never_again : values_of key.Every (record { low = pos 0; high = pos 10; step = None }) ≡ Err range.Bounds
never_again = refl

reversed : values_of key.X (record { low = pos 40; high = pos 30; step = None }) ≡ Err range.Order
reversed = refl

too_many : values_of key.Offset (record { low = pos 0; high = pos 10000; step = Some (pos 1) }) ≡ Err range.Rows
too_many = refl

-- frames that test the clocks have identifiers of their own, and come after the frames that wait
abbrev sender : NodeText
sender = record engine { frame = (record { id = 2031; dlc = 0; remote = false; bytes = []; ready = 480; extended = false; every = None; count = None; deadline = None; jitter = None }) ∷ [] }

new_id : next_id (sender ∷ probe ∷ []) 2032 sender ≡ 2030
new_id = refl

silent_id : next_id (sender ∷ probe ∷ []) 2030 probe ≡ 2030
silent_id = refl

new_ready : last_ready sender.frame ≡ 480
new_ready = refl

-- a bit of 16 quanta of 125 ticks, 160 of these for each sender
new_end : (plan : PlanText) → later_end (record plan { end = 600000; node = sender ∷ probe ∷ [] }) ≡ 920000
new_end plan = refl
