-- The members of a family of plan texts: offsets over one bit, and both limits of each tolerance, by a mixed radix (this project's profile).
use Rattle.std.specs.Prelude.{ℕ, ◌+◌, ◌-◌, ◌*◌, ◌/◌, ◌%◌, ◌^◌, ◌==◌, ◌||◌, nat_lt, nat_le, min, max, true, List, [], ◌∷◌, fold, is_ok, slice_get, Option, Some, None, unwrap_or, if◌then◌else◌}
use Rattle.std.specs.Int.{div_ceil}
use Rattle.std.specs.List.{enumerate_from}
use Rattle.rand_xoshiro.specs.SplitMix64.{mix_u64}
use Rattle.wl_setup.specs.declared.plan_text.PlanText.{PlanText}
use Rattle.wl_setup.specs.declared.plan_text.NodeText.{NodeText}
use Rattle.wl_setup.specs.declared.plan_text.RateText.{RateText}
use Rattle.wl_setup.specs.declared.plan_text.ClockText.{ClockText}
use Rattle.wl_setup.specs.declared.plan_text.ClockText.TheVariants as text
use Rattle.wl_setup.specs.declared.plan_text.SegmentsText.{SegmentsText}
use Rattle.wl_setup.specs.declared.plan_text.SegmentsText.TheVariants as segments
use Rattle.wl_setup.specs.Plans.{plan_of_text}
use Rattle.wl_sweep.specs.declared.options.Options.{Options}
use Rattle.wl_sweep.specs.declared.digit_source.DigitSource.{DigitSource}
use Rattle.wl_sweep.specs.declared.digit_source.DigitSource.TheVariants.{Number, Words}
use Rattle.wl_sweep.specs.declared.family.Choice.{Choice}
use Rattle.wl_sweep.specs.declared.change.Side.{Side}
use Rattle.wl_sweep.specs.declared.change.Side.TheVariants.{Own, Slow, Fast}
use Rattle.wl_sweep.specs.Changes.{moved_node}

-- the next digit below a radix of 2 or more: of a number the least one, of a generator a word as a part of 2^64, times the radix
abbrev pub digit_of : ℕ → DigitSource → ℕ × DigitSource
digit_of radix (Number n) = (n % radix, Number (n / radix))
digit_of radix (Words state) = ((mix_u64 state).0 * radix / 2 ^ 64, Words (mix_u64 state).1)

-- below 2 it is 0, and nothing is taken
abbrev pub drawn : ℕ → DigitSource → ℕ × DigitSource
drawn radix draws = if nat_lt radix 2 then (0, draws) else digit_of radix draws

-- the ticks of a quantum at a rate, rounded down, at least one
abbrev pub quantum_at : ClockText → ℕ
quantum_at (text.Rate num den) = max (num / max den 1) 1
quantum_at (text.Fraction num den ppm) = max (num / max den 1) 1
quantum_at (text.Ppm quantum ppm) = max quantum 1

abbrev pub quantum_of_rate : Option RateText → ℕ
quantum_of_rate None = 1
quantum_of_rate (Some rate) = quantum_at rate.clock

-- those of a node: of its first rate
abbrev pub quantum_in : NodeText → ℕ
quantum_in node = quantum_of_rate (slice_get node.rates 0)

-- the quanta of a bit
abbrev pub quanta_in : SegmentsText → ℕ
quanta_in (segments.Each prop ps1 ps2) = 1 + prop + ps1 + ps2
quanta_in (segments.Controller tseg1 tseg2) = 1 + tseg1 + tseg2

-- the ticks of a node's bit, at most 2^48
abbrev pub bit_in : NodeText → ℕ
bit_in node = min (quantum_in node * quanta_in node.segments) (2 ^ 48)

-- the shortest quantum
abbrev pub least_quantum : List NodeText → ℕ
least_quantum nodes = fold (λ least node. min least (quantum_in node)) (2 ^ 64 - 1) nodes

-- the ticks between two offsets: those that are given, or a fifth of the shortest quantum, at least one
abbrev pub step_or : Option ℕ → ℕ → ℕ
step_or None quantum = max (quantum / 5) 1
step_or (Some step) quantum = step

abbrev pub offset_step : Options → PlanText → ℕ
offset_step options plan = step_or options.step (least_quantum plan.node)

-- how many offsets a numbered node has: those over one bit, but one of the first node, and where they are kept
abbrev pub offset_count : Options → ℕ → ℕ × NodeText → ℕ
offset_count options step m = if options.keep_offsets || (m.0 == 0) then 1 else div_ceil (bit_in m.1) (max step 1)

-- how many signs a node has: two if its rate may deviate, unless it is kept
abbrev pub sign_count : Options → NodeText → ℕ
sign_count options node = if options.keep_ppm || (unwrap_or node.tolerance 0 == 0) then 1 else 2

-- on which side of its rates a clock is, by its sign: slow or fast by the whole tolerance; its own where there is none or it is kept
abbrev pub side_of : Options → Option ℕ → ℕ → Side
side_of options None sign = Own
side_of options (Some ppm) sign = if options.keep_ppm then Own else if sign == 0 then Slow ppm else Fast ppm

-- at most the greatest number of 64 bits, and of 128
abbrev pub capped : ℕ → ℕ
capped n = min n (2 ^ 64 - 1)

abbrev pub widely_capped : ℕ → ℕ
widely_capped n = min n (2 ^ 128 - 1)

-- by how much a node begins later, and on which side its clock is, and what the others draw from
abbrev pub chosen : Options → ℕ → ℕ × NodeText → DigitSource → Choice × DigitSource
chosen options step m draws =
    let place = drawn (offset_count options step m) draws in
    let sign = drawn (sign_count options m.1) place.1 in
    (record { by = capped (step * place.0); side = side_of options m.1.tolerance sign.0 }, sign.1)

-- how many members the numbered nodes of a text make, 2^128 - 1 where there are more
abbrev pub choice_count : Options → ℕ → List (ℕ × NodeText) → ℕ
choice_count options step ms =
    fold (λ count m. widely_capped (widely_capped (count * offset_count options step m) * sign_count options m.1)) 1 ms

-- what is varied: nothing of a text that is refused, so that it has one member, itself
abbrev pub kept : Options → Options
kept options = record options { keep_offsets = true; keep_ppm = true }

abbrev pub varied : Options → PlanText → Options
varied options plan = if is_ok (plan_of_text plan) then options else kept options

-- how many members a text has
abbrev pub member_count : Options → PlanText → ℕ
member_count options plan = choice_count (varied options plan) (offset_step options plan) (enumerate_from 0 plan.node)

-- the seed of a run's generator
abbrev pub run_seed : Options → ℕ → ℕ
run_seed options run = (options.seed * 2 ^ 32 + run) % 2 ^ 64

-- What a run's digits are taken from: its number, where all members are run; else the first run has all digits 0, and each other
-- draws from a generator of its own.
abbrev pub draws_of : Options → ℕ → ℕ → DigitSource
draws_of options count run = if nat_le count options.runs || (run == 0) then Number run else Words (run_seed options run)

-- the nodes of a member
abbrev pub member_nodes : Options → ℕ → DigitSource → List (ℕ × NodeText) → List NodeText
member_nodes options step draws [] = []
member_nodes options step draws (m ∷ ms) =
    let made = chosen options step m draws in
    moved_node made.0.by made.0.side m.1 ∷ member_nodes options step made.1 ms

-- the member that a run is of
abbrev pub member_of : Options → PlanText → ℕ → PlanText
member_of options plan run =
    record plan {
      node =
          member_nodes (varied options plan) (offset_step options plan) (draws_of options (member_count options plan) run) (enumerate_from 0 plan.node);
    }

-- how many runs there are
abbrev pub run_count : Options → PlanText → ℕ
run_count options plan = min (member_count options plan) options.runs
