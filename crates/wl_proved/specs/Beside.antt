-- What the nodes of a plan show beside nodes that only listen. This project's.
use Rattle.std.specs.Prelude.{◌≡◌, ℕ, ◌<◌, Bool, false, List, ◌++◌, length, map, Some, slice_get}
use Rattle.wl_confine.specs.Counts.{no_counts}
use Rattle.wl_frame.specs.Grammar.{Content}
use Rattle.wl_plan.specs.declared.plan.Plan.{Plan}
use Rattle.wl_plan.specs.PlanLine.{setup_at}
use Rattle.wl_buses.specs.BothProofs.Queues.{ComeFrom}
use Rattle.wl_serial.specs.declared.outcome.NodeOutcome.{NodeOutcome}
use Rattle.wl_serial.specs.Outcome.{outcome_of}
use Rattle.wl_proved.specs.CleanRuns.{IsCleanNode, IsCleanRun, as_passing, frames_from}

-- The other plan is this one without some nodes that only listen: node i is node `at i` of this one. It runs clean, and each of its nodes is clean beside these listeners too, with the same frames on the bus.
pub record AreCleanBeside (other plan : Plan) (at : ℕ → ℕ) : Type 0 where
  pub run : IsCleanRun other
  pub nodes : (i : ℕ) (node : NodeOutcome) → i < length other.nodes → slice_get (outcome_of plan).nodes (at i) ≡ Some node → IsCleanNode other run.bus i node

-- how a frame on the bus passes a node that only listens: it is received
abbrev pub received_of : ℕ × Content → Bool × Content
received_of x = (false, x.1)

-- A node that only listens has found no error, both of its error counters are 0, and it has received the first frames on the bus, and nothing else.
pub record IsCleanListener (bus : List (ℕ × Content)) (node : NodeOutcome) : Type 0 where
  pub errors : node.errors ≡ 0
  pub counters : node.counters ≡ no_counts
  pub received : (later : List (Bool × Content)) × (map as_passing node.frames ++ later ≡ map received_of bus)

-- There are frames on the bus, those of each sender from its queue, such that each node of the other plan is clean (`IsCleanRun`), and node i of this one, which only listens, is a clean listener.
pub record HearsCleanRun (other plan : Plan) (i : ℕ) : Type 0 where
  pub bus : List (ℕ × Content)
  pub order : (k : ℕ) → (later : List Content) × ComeFrom (setup_at other k) (frames_from k bus) later
  pub nodes : (k : ℕ) (node : NodeOutcome) → slice_get (outcome_of other).nodes k ≡ Some node → IsCleanNode other bus k node
  pub listener : (node : NodeOutcome) → slice_get (outcome_of plan).nodes i ≡ Some node → IsCleanListener bus node
