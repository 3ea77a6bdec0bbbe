-- Since when a node is on the bus and error active, by its samples (Bosch CAN 2.0 part B, section 8; that samples tell is this project's profile).
use Rattle.std.specs.Prelude.{ℕ, ◌&&◌, Bool, true, false, List, fold, unwrap_or, Option, Some, None}
use Rattle.wl_level.specs.declared.Level.{Level}
use Rattle.wl_clock.specs.Timing.{tick_of}
use Rattle.wl_confine.specs.declared.Mode.{Mode}
use Rattle.wl_confine.specs.declared.Mode.TheVariants.{Active, Passive, Off}
use Rattle.wl_confine.specs.Counts.{counts_of, mode_of}
use Rattle.wl_machine.specs.declared.doing.Doing.{Doing}
use Rattle.wl_machine.specs.declared.doing.Doing.TheVariants.{OffBus}
use Rattle.wl_machine.specs.Doing.{doing_of}
use Rattle.wl_machine.specs.Judged.{stretch_of}
use Rattle.wl_node.specs.declared.setup.NodeSetup.{NodeSetup}
use Rattle.wl_plan.specs.declared.plan.Plan.{Plan}
use Rattle.wl_plan.specs.PlanLine.{setup_at}
use Rattle.wl_serial.specs.Outcome.{node_outcome_of}
use Rattle.wl_trace.specs.Replay.{SampledPast, no_past, past_after}

abbrev pub is_active : Mode → Bool
is_active Active = true
is_active Passive = false
is_active Off = false

abbrev pub is_on : Doing → Bool
is_on OffBus = false
is_on doing = true

-- after what came before a node is on the bus and error active
abbrev pub is_fit : SampledPast → Bool
is_fit p = is_active (mode_of (counts_of p.happened)) && is_on (doing_of (stretch_of p.inputs))

-- The tick since which it has been so without a break: that of the first such sample, or that of its quantum 0.
abbrev pub since_with : Bool → Option ℕ → (at : ℕ) → Option ℕ
since_with true since at = Some (unwrap_or since at)
since_with false since at = None

abbrev pub fit_with : NodeSetup → SampledPast × Option ℕ → ℕ × Level → SampledPast × Option ℕ
fit_with setup (p, since) sample = (past_after setup p sample, since_with (is_fit (past_after setup p sample)) since (tick_of setup.clock sample.0))

abbrev pub fit_by : NodeSetup → List (ℕ × Level) → SampledPast × Option ℕ
fit_by setup samples = fold (fit_with setup) (no_past, Some (tick_of setup.clock 0)) samples

-- of node i up to the end of its run; none, if it isn't so at the end
abbrev pub fit_since : Plan → ℕ → Option ℕ
fit_since plan i = (fit_by (setup_at plan i) (node_outcome_of plan i).samples).1
