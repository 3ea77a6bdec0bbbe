-- What a node does after its samples, and for how long (Bosch CAN 2.0 part B, sections 3, 6 and 8; the words are those of a waveform).
use Rattle.std.specs.Prelude.{ℕ, ◌+◌, min, max, List, length, map, take, fold, slice_index_or, Option, Some, None, if◌then◌else◌, nat_le, nat_lt}
use Rattle.std.specs.List.{range_with_len}
use Rattle.wl_level.specs.declared.Level.{Level}
use Rattle.wl_level.specs.declared.Level.TheVariants.{Recessive}
use Rattle.wl_clock.specs.Timing.{Timing, tick_of}
use Rattle.wl_machine.specs.declared.doing.Doing.{Doing}
use Rattle.wl_machine.specs.Doing.{doing_of}
use Rattle.wl_machine.specs.Judged.{stretch_of}
use Rattle.wl_node.specs.declared.setup.NodeSetup.{NodeSetup}
use Rattle.wl_node.specs.Limits.{most_run_quanta}
use Rattle.wl_plan.specs.declared.plan.Plan.{Plan}
use Rattle.wl_plan.specs.PlanLine.{setup_at}
use Rattle.wl_serial.specs.Outcome.{node_outcome_of}
use Rattle.wl_trace.specs.Replay.{SampledPast, no_past, past_after}
use Rattle.wl_traffic.specs.declared.spans.Span.{Span}

-- what came before, after these samples
abbrev pub past_of_samples : NodeSetup → List (ℕ × Level) → SampledPast
past_of_samples setup samples = fold (past_after setup) no_past samples

-- what the node does after these samples, and after sample k of them
abbrev pub doing_after : NodeSetup → List (ℕ × Level) → Doing
doing_after setup samples = doing_of (stretch_of (past_of_samples setup samples).inputs)

abbrev pub doing_at : NodeSetup → List (ℕ × Level) → ℕ → Doing
doing_at setup samples k = doing_after setup (take (k + 1) samples)

-- the tick of sample k; the end, if there is none
abbrev pub sample_tick : NodeSetup → (end : ℕ) → List (ℕ × Level) → ℕ → ℕ
sample_tick setup end samples k =
    if nat_lt k (length samples) then tick_of setup.clock (slice_index_or samples k (0, Recessive)).0 else end

-- it does that up to its next sample, the last one up to the end
abbrev pub span_at : NodeSetup → (end : ℕ) → List (ℕ × Level) → ℕ → Span
span_at setup end samples k =
    let from : ℕ = sample_tick setup end samples k in
    record { doing = doing_at setup samples k; from = from; until = max from (sample_tick setup end samples (k + 1)) }

abbrev pub spans_of : NodeSetup → (end : ℕ) → List (ℕ × Level) → List Span
spans_of setup end samples = map (span_at setup end samples) (range_with_len 0 (length samples))

-- up to which tick a node is there: up to the end, or up to the quantum with which it leaves the bus (this project's profile)
abbrev pub there_until : Option ℕ → Timing → (end : ℕ) → ℕ
there_until None clock end = end
there_until (Some n) clock end = if nat_le n most_run_quanta then min (tick_of clock n) end else end

-- of node i
abbrev pub node_spans : Plan → ℕ → List Span
node_spans plan i =
    spans_of (setup_at plan i) (there_until (setup_at plan i).until (setup_at plan i).clock plan.end) (node_outcome_of plan i).samples
