-- The definitions on words that name no task: in each of them clap finds a fault, so none of them enters a task.
use Rattle.std.proofs.Common.{◌≡◌, ◌∙◌, refl, sym, ap, Bool, true, false, List, [], ◌∷◌, codes, Some, None}
use Rattle.std.specs.Prelude.{ℕ, Option, option_and_then}
use Rattle.clap.specs.Words.{Text, fault_of}
use Rattle.clap.proofs.OnLiterals.{clap_on_literals}
use Rattle.wl_words.specs.CommandLine.{program, entered, file_in, has_flag, plainly_swept, ranges_in, rows_in, swept_among, tick_among, workers_among, link_among, Enters}
use Rattle.wl_words.specs.declared.task.Swept.{Swept}
use Rattle.wl_worker.specs.declared.by_links.LinkKind.{LinkKind}
use Rattle.wl_worker.specs.declared.by_links.LinkKind.TheVariants.{Hub, Mail}
use Rattle.wl_views.specs.declared.tick.Tick.{Tick}
use Rattle.wl_views.specs.declared.tick.TimeUnit.TheVariants.{Picosecond, Microsecond}
use Rattle.wl_words.specs.declared.task.Task.{Task}

is_faulty : {A : Type 0} → List A → Bool
is_faulty [] = false
is_faulty (x ∷ xs) = true

enters_none : (words : List Text) → is_faulty (fault_of program words) ≡ true → (t : Task) → ¬ Enters t words
unfolding is_faulty
enters_none words faulty t enters = let no : false ≡ true = ap is_faulty (sym enters.1) ∙ faulty in cc

behind_name : List Text → List Text
behind_name words = codes "wl_sim" ∷ words

abbrev entered_tick : List Text → Option Tick
entered_tick words = option_and_then tick_among (rows_in (entered words))

abbrev entered_workers : List Text → Option ℕ
entered_workers words = option_and_then workers_among (rows_in (entered words))

abbrev entered_link : List Text → Option LinkKind
entered_link words = option_and_then link_among (rows_in (entered words))

no_word : is_faulty (fault_of program (behind_name [])) ≡ true
unfolding clap_on_literals is_faulty behind_name
no_word = refl

empty_word : is_faulty (fault_of program (behind_name ([] ∷ []))) ≡ true
unfolding clap_on_literals is_faulty behind_name
empty_word = refl

capital_letter : is_faulty (fault_of program (behind_name (codes "Merge" ∷ []))) ≡ true
unfolding clap_on_literals is_faulty behind_name
capital_letter = refl

one_letter_more : is_faulty (fault_of program (behind_name (codes "runs" ∷ []))) ≡ true
unfolding clap_on_literals is_faulty behind_name
one_letter_more = refl

two_files : is_faulty (fault_of program (behind_name (codes "run" ∷ codes "one" ∷ codes "two" ∷ []))) ≡ true
unfolding clap_on_literals is_faulty behind_name
two_files = refl

no_name : is_faulty (fault_of program (behind_name (codes "run" ∷ codes "-o" ∷ []))) ≡ true
unfolding clap_on_literals is_faulty behind_name
no_name = refl

-- files that are given, in front of options and behind them, and the standard streams
given_input : file_in (codes "input") (entered (behind_name (codes "run" ∷ codes "plan.toml" ∷ codes "-o" ∷ codes "out" ∷ []))) ≡ Some (codes "plan.toml")
unfolding clap_on_literals behind_name
given_input = refl

given_output : file_in (codes "output") (entered (behind_name (codes "merge" ∷ codes "-o" ∷ codes "out" ∷ []))) ≡ Some (codes "out")
unfolding clap_on_literals behind_name
given_output = refl

standard_input : file_in (codes "input") (entered (behind_name (codes "check" ∷ codes "-" ∷ []))) ≡ None
unfolding clap_on_literals behind_name
standard_input = refl

dashed_input : file_in (codes "input") (entered (behind_name (codes "check" ∷ codes "--" ∷ codes "-x" ∷ []))) ≡ Some (codes "-x")
unfolding clap_on_literals behind_name
dashed_input = refl

given_hint : has_flag (codes "hint") (entered (behind_name (codes "check" ∷ codes "--hint" ∷ []))) ≡ true
unfolding clap_on_literals behind_name
given_hint = refl

no_hint : has_flag (codes "hint") (entered (behind_name (codes "check" ∷ []))) ≡ false
unfolding clap_on_literals behind_name
no_hint = refl

given_progress : has_flag (codes "progress") (entered (behind_name (codes "vcd" ∷ codes "--progress" ∷ []))) ≡ true
unfolding clap_on_literals behind_name
given_progress = refl

other_flag : has_flag (codes "progress") (entered (behind_name (codes "vcd" ∷ codes "--hint" ∷ []))) ≡ false
unfolding clap_on_literals behind_name
other_flag = refl

behind_two_dashes : is_faulty (fault_of program (behind_name (codes "--" ∷ codes "run" ∷ []))) ≡ true
unfolding clap_on_literals is_faulty behind_name
behind_two_dashes = refl

help_asked : is_faulty (fault_of program (behind_name (codes "--help" ∷ []))) ≡ true
unfolding clap_on_literals is_faulty behind_name
help_asked = refl

help_word : is_faulty (fault_of program (behind_name (codes "help" ∷ []))) ≡ true
unfolding clap_on_literals is_faulty behind_name
help_word = refl

-- ticks that are given, in both forms of an option, and one that is none
given_tick : entered_tick (behind_name (codes "candump" ∷ codes "--tick" ∷ codes "125ps" ∷ [])) ≡ Some (record { count = 125; unit = Picosecond })
unfolding clap_on_literals behind_name
given_tick = refl

joined_tick : entered_tick (behind_name (codes "candump" ∷ codes "--tick=10us" ∷ [])) ≡ Some (record { count = 10; unit = Microsecond })
unfolding clap_on_literals behind_name
joined_tick = refl

no_tick : entered_tick (behind_name (codes "candump" ∷ codes "--tick" ∷ codes "1000ns" ∷ [])) ≡ None
unfolding clap_on_literals behind_name
no_tick = refl

tick_of_another : is_faulty (fault_of program (behind_name (codes "run" ∷ codes "--tick" ∷ codes "1ns" ∷ []))) ≡ true
unfolding clap_on_literals is_faulty behind_name
tick_of_another = refl

-- workers that are given, in both forms of an option, and none and too many, which are refused
given_workers : entered_workers (behind_name (codes "run" ∷ codes "--workers" ∷ codes "3" ∷ [])) ≡ Some 3
unfolding clap_on_literals behind_name
given_workers = refl

joined_workers : entered_workers (behind_name (codes "run" ∷ codes "--workers=8" ∷ [])) ≡ Some 8
unfolding clap_on_literals behind_name
joined_workers = refl

workers_taken : is_faulty (fault_of program (behind_name (codes "run" ∷ codes "--workers" ∷ codes "8" ∷ []))) ≡ false
unfolding clap_on_literals is_faulty behind_name
workers_taken = refl

-- a plus and zeros in front are part of a whole number, as clap reads it
workers_with_a_plus : entered_workers (behind_name (codes "run" ∷ codes "--workers" ∷ codes "+2" ∷ [])) ≡ Some 2
unfolding clap_on_literals behind_name
workers_with_a_plus = refl

workers_with_a_zero : is_faulty (fault_of program (behind_name (codes "run" ∷ codes "--workers" ∷ codes "02" ∷ []))) ≡ false
unfolding clap_on_literals is_faulty behind_name
workers_with_a_zero = refl

no_workers : is_faulty (fault_of program (behind_name (codes "run" ∷ codes "--workers" ∷ codes "0" ∷ []))) ≡ true
unfolding clap_on_literals is_faulty behind_name
no_workers = refl

too_many_workers : is_faulty (fault_of program (behind_name (codes "run" ∷ codes "--workers" ∷ codes "9" ∷ []))) ≡ true
unfolding clap_on_literals is_faulty behind_name
too_many_workers = refl

-- links that are given, in both forms of an option, the one where none is, and a word that is none
given_link : entered_link (behind_name (codes "run" ∷ codes "--link" ∷ codes "mail" ∷ [])) ≡ Some Mail
unfolding clap_on_literals behind_name
given_link = refl

joined_link : entered_link (behind_name (codes "run" ∷ codes "--workers" ∷ codes "2" ∷ codes "--link=hub" ∷ [])) ≡ Some Hub
unfolding clap_on_literals behind_name
joined_link = refl

silent_link : entered_link (behind_name (codes "run" ∷ [])) ≡ Some Hub
unfolding clap_on_literals behind_name
silent_link = refl

no_link : entered_link (behind_name (codes "run" ∷ codes "--link" ∷ codes "Mail" ∷ [])) ≡ None
unfolding clap_on_literals behind_name
no_link = refl

link_of_another : is_faulty (fault_of program (behind_name (codes "check" ∷ codes "--link" ∷ codes "hub" ∷ []))) ≡ true
unfolding clap_on_literals is_faulty behind_name
link_of_another = refl

workers_of_another : is_faulty (fault_of program (behind_name (codes "check" ∷ codes "--workers" ∷ codes "2" ∷ []))) ≡ true
unfolding clap_on_literals is_faulty behind_name
workers_of_another = refl

-- a sweep: what it is where nothing is said, ranges in their order, numbers, and what is refused
abbrev entered_sweep : List Text → Option Swept
entered_sweep words = option_and_then swept_among (rows_in (entered words))

silent_sweep : entered_sweep (behind_name (codes "sweep" ∷ [])) ≡ Some plainly_swept
unfolding clap_on_literals behind_name
silent_sweep = refl

given_ranges : ranges_in (entered (behind_name (codes "sweep" ∷ codes "--vary" ∷ codes "x=1..2" ∷ codes "plan" ∷ codes "--vary=sjw=1..4:1" ∷ [])))
    ≡ codes "x=1..2" ∷ codes "sjw=1..4:1" ∷ []
unfolding clap_on_literals behind_name
given_ranges = refl

given_numbers : entered_sweep (behind_name (codes "sweep" ∷ codes "--runs" ∷ codes "7" ∷ codes "--seed=9" ∷ codes "--step" ∷ codes "25" ∷ codes "--print=137" ∷ []))
    ≡ Some (record {
      options = record { step = Some 25; keep_offsets = false; keep_ppm = false; runs = 7; seed = 9 };
      worst = false;
      workers = None;
      print = Some 137;
      page = false;
      part = None;
      join = false;
      spike = false;
    })
unfolding clap_on_literals behind_name
given_numbers = refl

given_flags : entered_sweep (behind_name (codes "sweep" ∷ codes "--keep-ppm" ∷ codes "--worst" ∷ codes "--keep-offsets" ∷ codes "--workers" ∷ codes "4" ∷ []))
    ≡ Some (record {
      options = record { step = None; keep_offsets = true; keep_ppm = true; runs = 1000; seed = 1 };
      worst = true;
      workers = Some 4;
      print = None;
      page = false;
      part = None;
      join = false;
      spike = false;
    })
unfolding clap_on_literals behind_name
given_flags = refl

-- a spike with its length, and words that aren't one
given_spike : ranges_in (entered (behind_name (codes "sweep" ∷ codes "--spike" ∷ codes "motor" ∷ codes "--length=2us" ∷ [])))
    ≡ codes "motor" ∷ codes "2us" ∷ []
unfolding clap_on_literals behind_name
given_spike = refl

spiked : entered_sweep (behind_name (codes "sweep" ∷ codes "--spike" ∷ codes "motor" ∷ codes "--length=2us" ∷ []))
    ≡ Some (record plainly_swept { spike = true })
unfolding clap_on_literals behind_name
spiked = refl

no_length : entered_sweep (behind_name (codes "sweep" ∷ codes "--spike" ∷ codes "motor" ∷ [])) ≡ None
unfolding clap_on_literals behind_name
no_length = refl

spike_over_range : entered_sweep (behind_name (codes "sweep" ∷ codes "--spike=motor" ∷ codes "--length=9" ∷ codes "--vary=sjw=1..4:1" ∷ [])) ≡ None
unfolding clap_on_literals behind_name
spike_over_range = refl

no_sweep : entered_sweep (behind_name (codes "run" ∷ [])) ≡ None
unfolding clap_on_literals behind_name
no_sweep = refl

no_runs : is_faulty (fault_of program (behind_name (codes "sweep" ∷ codes "--runs" ∷ codes "0" ∷ []))) ≡ true
unfolding clap_on_literals is_faulty behind_name
no_runs = refl

step_back : is_faulty (fault_of program (behind_name (codes "sweep" ∷ codes "--step" ∷ codes "-5" ∷ []))) ≡ true
unfolding clap_on_literals is_faulty behind_name
step_back = refl

range_of_another : is_faulty (fault_of program (behind_name (codes "run" ∷ codes "--vary" ∷ codes "x=1..2" ∷ []))) ≡ true
unfolding clap_on_literals is_faulty behind_name
range_of_another = refl
