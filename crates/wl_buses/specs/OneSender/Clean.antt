-- A plan on which one node alone sends, as one of the buses of a family that the condition for margins is about.
use Rattle.std.specs.Prelude.{◌≡◌, ◌≢◌, ℕ, ◌+◌, ◌-◌, ◌*◌, ◌<◌, ◌≤◌, true, false, List, [], ◌∷◌, length, Some}
use Rattle.wl_level.specs.declared.Level.{Level}
use Rattle.wl_frame.specs.Grammar.{Content}
use Rattle.wl_node.specs.declared.setup.Queued.{Queued}
use Rattle.wl_plan.specs.declared.plan.Plan.{Plan}
use Rattle.wl_plan.specs.PlanLine.{setup_at}
use Rattle.wl_phase.specs.Clocks.{Steady}
use Rattle.wl_bound.specs.Conditions.{plain}
use Rattle.wl_bound.specs.Oscillators.{Pace}
use Rattle.wl_bound.specs.Families.{Buses, longest_in, only_listens, shortest_in, units}
use Rattle.wl_bound.specs.Verdicts.{idle_at, is_ready_from}
use Rattle.wl_buses.specs.OneSender.OneSender.{SenderBus}
use Rattle.wl_buses.specs.OneSender.Plans.{sender_bus_of}
use Rattle.wl_buses.specs.OneSender.Tolerances.{Tolerance}
use Rattle.wl_buses.specs.BothProofs.Queues.{decides_at, first_head, wakes_at}

-- what the clocks of a family may do, in the units of the condition for margins
abbrev pub tolerance_of : Buses → Tolerance
tolerance_of f = record { units = units plain; shortest = shortest_in f plain; longest = longest_in f plain }

-- A clock of one rate keeps to an oscillator: a quantum takes no less than its fastest nominal one and no more than its slowest, each with the tolerance.
pub record KeepsPace (p : Pace) (c : Steady) : Type 0 where
  pub fastest : p.fastest.num * (1000000 - p.tolerance) * c.den ≤ 1000000 * c.num * p.fastest.den
  pub slowest : 1000000 * c.num * p.slowest.den ≤ p.slowest.num * (1000000 + p.tolerance) * c.den

-- The second plan has the nodes and the cable of the first, and its clocks have the same rates. Its frames and offsets are free.
pub record IsAlike (plan other : Plan) (clocks others : ℕ → Steady) : Type 0 where
  pub cable : other.topology ≡ plan.topology
  pub nodes : length other.nodes ≡ length plan.nodes
  pub segments : (i : ℕ) → i < length plan.nodes → (setup_at other i).segments ≡ (setup_at plan i).segments
  pub num : (i : ℕ) → i < length plan.nodes → (others i).num ≡ (clocks i).num
  pub den : (i : ℕ) → i < length plan.nodes → (others i).den ≡ (clocks i).den

-- This node has frames, on one of which it decides after its power-up, and no other has any. None only listens (ISO 11898-1, bus monitoring). Each other node is idle when the first frame becomes ready (Bosch CAN 2.0
-- part B, section 2, wake-up).
pub record HasOneSender (plan : Plan) (sender : ℕ) : Type 0 where
  pub inside : sender < length plan.nodes
  pub first : Queued
  pub later : List Queued
  pub queue : (setup_at plan sender).queue ≡ first ∷ later
  pub frame : Content
  pub decides : first_head (setup_at plan sender) ≡ Some frame
  pub alone : (j : ℕ) → j < length plan.nodes → j ≢ sender → (setup_at plan j).queue ≡ []
  pub answers : (i : ℕ) → i < length plan.nodes → only_listens plan.topology i ≡ false
  pub idle : (j : ℕ) → j < length plan.nodes → j ≢ sender
      → is_ready_from (setup_at plan sender) (setup_at plan sender).queue (idle_at (setup_at plan j)) ≡ true

abbrev pub bus_with : (plan : Plan) (clocks : ℕ → Steady) (sender : ℕ) → HasOneSender plan sender → (stuffed : Content → List Level) → SenderBus
bus_with plan clocks sender one stuffed =
    sender_bus_of plan clocks sender one.frame (stuffed one.frame) (decides_at (setup_at plan sender).segments (wakes_at (setup_at plan sender) (setup_at plan sender).queue))
