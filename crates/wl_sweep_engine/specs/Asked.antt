-- What is swept, by a plan's text, words and options (this project's profile).
use Rattle.std.specs.Prelude.{◌≡◌, ◌≢◌, ℕ, ◌+◌, ◌==◌, ◌||◌, nat_lt, Bool, true, false, List, [], ◌∷◌, Option, Some, None, Result, Ok, Err, MatchResult, if◌then◌else◌}
use Rattle.wl_plan.specs.declared.plan.Plan.{Plan}
use Rattle.wl_setup.specs.declared.plan_text.PlanText.{PlanText}
use Rattle.wl_setup.specs.Plans.{plan_of_text}
use Rattle.wl_sweep.specs.declared.options.Options.{Options}
use Rattle.wl_sweep.specs.declared.part.Share.{Share}
use Rattle.wl_sweep.specs.declared.range.SweptRange.{SweptRange}
use Rattle.wl_sweep.specs.declared.sweep.Sweep.{Sweep}
use Rattle.wl_sweep.specs.Sweeps.{is_small}
use Rattle.wl_sweep.specs.Vary.{range_of}
use Rattle.wl_sweep.specs.Worst.{worst_text}
use Rattle.wl_sweep_engine.specs.declared.asked.Asked.{Asked}
use Rattle.wl_sweep_engine.specs.declared.fault.SweepFault.{SweepFault}
use Rattle.wl_sweep_engine.specs.declared.fault.SweepFault.TheVariants as fault
use Rattle.wl_sweep_engine.specs.Faults.{of_range, of_setup}

-- a step is given, and is 0
abbrev pub is_no_step : Option ℕ → ℕ
is_no_step None = 1
is_no_step (Some step) = step

-- options that can be asked for, or their first fault
abbrev pub checked_options : Options → Result (Unit {0}) SweepFault
checked_options options = if options.runs == 0 then Err fault.Runs else if is_no_step options.step == 0 then Err fault.Step else Ok tt

-- what is made of a value, or of its refusal a fault
abbrev pub after : {T U E : Type 0} → (E → SweepFault) → Result T E → (T → Result U SweepFault) → Result U SweepFault
after name (Ok x) make = make x
after name (Err e) make = Err (name e)

abbrev pub same_fault : SweepFault → SweepFault
same_fault fault = fault

-- the same, and 1 to 8 threads
abbrev pub checked_count : ℕ → Result (Unit {0}) SweepFault
checked_count workers = if (workers == 0) || nat_lt 8 workers then Err fault.Workers else Ok tt

abbrev pub checked_workers : Options → ℕ → Result (Unit {0}) SweepFault
checked_workers options workers = after same_fault (checked_options options) (λ checked. checked_count workers)

-- a share that is a part, from 1 to the number of parts
abbrev pub checked_share : Share → Result (Unit {0}) SweepFault
checked_share share = if (share.number == 0) || nat_lt share.count share.number then Err fault.Part else Ok tt

-- the same options and threads, and such a share
abbrev pub checked_part : Options → ℕ → Share → Result (Unit {0}) SweepFault
checked_part options workers share = after same_fault (checked_workers options workers) (λ checked. checked_share share)

-- the ranges of words from number i on, or the fault of the first that is none
abbrev pub ranges_of : PlanText → ℕ → List (List ℕ) → Result (List SweptRange) SweepFault
ranges_of plan i [] = Ok []
ranges_of plan i (w ∷ ws) =
    after (of_range i) (range_of plan w) (λ range. after same_fault (ranges_of plan (i + 1) ws) (λ ranges. Ok (range ∷ ranges)))

-- few enough rows
abbrev pub if_small : Sweep → Result Sweep SweepFault
if_small s = if is_small s then Ok s else Err fault.Rows

-- the plan of a text, which can be run as it stands, and its sweep by words and options; or the first fault
abbrev pub sweep_of_text : PlanText → List (List ℕ) → Options → Result (Plan × Sweep) SweepFault
sweep_of_text text words options =
    after of_setup (plan_of_text text)
    (λ plan. after same_fault (ranges_of text 0 words)
    (λ ranges. after same_fault (if_small (record { text = text; ranges = ranges; options = options })) (λ s. Ok (plan, s))))

-- a plan's text with the frames that are asked for
abbrev pub text_asked : Bool → PlanText → PlanText
text_asked true text = worst_text text
text_asked false text = text

-- the same of the text with the frames that are asked for
abbrev pub sweep_of : PlanText → List (List ℕ) → Asked → Result (Plan × Sweep) SweepFault
sweep_of text words asked = sweep_of_text (text_asked asked.worst text) words asked.options

-- an answer is this one, unless memory was refused
abbrev pub IsRead : {T : Type 0} → Result T SweepFault → Result T SweepFault → Type 0
IsRead wanted answer = MatchResult answer (λ x. wanted ≡ Ok x) (λ e. e ≢ fault.Memory → wanted ≡ Err e)
