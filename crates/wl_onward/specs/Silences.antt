-- A silence in the run of a plan, as its changes and its samples show it (this project's profile).
use Rattle.std.specs.Prelude.{◌≡◌, ℕ, zero, suc, ◌+◌, ◌-◌, ◌*◌, ◌<◌, ◌≤◌, nat_le, max, Bool, false, length, fold, unwrap_or, if◌then◌else◌}
use Rattle.std.specs.Option.{IsSome}
use Rattle.wl_clock.specs.Timing.{tick_of}
use Rattle.wl_segments.specs.Lengths.{bit_quanta}
use Rattle.wl_topology.specs.Delays.{delay_of}
use Rattle.wl_topology.specs.Driven.{any_below}
use Rattle.wl_node.specs.declared.setup.NodeSetup.{NodeSetup}
use Rattle.wl_plan.specs.declared.plan.Disturbance.{Disturbance}
use Rattle.wl_plan.specs.declared.plan.Plan.{Plan}
use Rattle.wl_plan.specs.PlanLine.{delay_to, line_of, setup_at}
use Rattle.wl_plan.specs.Simulation.{level}
use Rattle.wl_silence.specs.Silences.{silence_bits}
use Rattle.wl_onward.specs.Fits.{fit_since}

-- the greatest of the first n of some numbers; 0 if there is none
abbrev pub greatest_below : (ℕ → ℕ) → ℕ → ℕ
greatest_below f zero = 0
greatest_below f (suc n) = max (greatest_below f n) (f n)

-- when a disturbance is over at node i, in ticks; 0 if it doesn't come there before the end
abbrev pub over_at : Plan → ℕ → Disturbance → ℕ
over_at plan i d = if nat_le plan.end (d.from + delay_to plan.topology d i) then 0 else d.to + delay_to plan.topology d i

-- when all of them are
abbrev pub over_for : Plan → ℕ → ℕ
over_for plan i = fold (λ t d. max t (over_at plan i d)) 0 plan.disturbances

-- and the node is on the bus and error active up to the end of the run
abbrev pub settled_for : Plan → ℕ → ℕ
settled_for plan i = max (over_for plan i) (unwrap_or (fit_since plan i) 0)

-- the tick from which on all of that is so at each node
abbrev pub settled_at : Plan → ℕ
settled_at plan = greatest_below (settled_for plan) (length plan.nodes)

-- how long it takes until node i has found all that was driven before
abbrev pub way_to : Plan → ℕ → ℕ
way_to plan i = greatest_below (λ k. delay_of plan.topology k i) (length plan.nodes)

-- how many ticks these bits of a node take, and a quantum, rounded down
abbrev pub bits_ticks : NodeSetup → ℕ
bits_ticks setup = tick_of setup.clock (silence_bits * bit_quanta setup.segments + 1) - tick_of setup.clock 0

-- for how many ticks a silence lasts at least
abbrev pub silence_ticks : Plan → ℕ
silence_ticks plan = greatest_below (λ i. way_to plan i + bits_ticks (setup_at plan i)) (length plan.nodes)

-- some node drives dominant at tick t
abbrev pub is_driven : Plan → ℕ → Bool
is_driven plan t = any_below (length plan.nodes) (λ i. level (line_of plan) i t)

-- From this tick on nobody drives dominant for so long, and that ends before the end of the plan.
pub record IsPause (plan : Plan) (long from : ℕ) : Type 0 where
  pub inside : from + long < plan.end
  pub quiet : (t : ℕ) → from ≤ t → t ≤ from + long → is_driven plan t ≡ false

-- So it is with a silence. All disturbances are over by then, and all nodes are on the bus and error active from then on up to the end.
pub record ShowsSilence (plan : Plan) (from : ℕ) : Type 0 where
  pub settled : settled_at plan ≤ from
  pub pause : IsPause plan (silence_ticks plan) from

-- all nodes are on the bus and error active at the end
abbrev pub AreFit : Plan → ℕ → Type 0
AreFit plan n = (i : ℕ) → i < n → IsSome (fit_since plan i)
