-- What the run of a plan shows if nothing goes wrong on its bus. This project's; what is taken from public texts is named.
use Rattle.std.specs.Prelude.{◌≡◌, ℕ, ◌+◌, ◌==◌, Bool, List, [], ◌∷◌, ◌++◌, codes, length, filter, map, count_by, All, Some, slice_get}
use Rattle.wl_confine.specs.Counts.{no_counts}
use Rattle.wl_frame.specs.Grammar.{Content}
use Rattle.wl_node.specs.declared.setup.Passed.{Passed}
use Rattle.wl_node.specs.History.{is_sent}
use Rattle.wl_plan.specs.declared.plan.Plan.{Plan}
use Rattle.wl_plan.specs.PlanLine.{setup_at}
use Rattle.wl_buses.specs.BothProofs.Queues.{ComeFrom}
use Rattle.wl_serial.specs.declared.outcome.NodeOutcome.{NodeOutcome}
use Rattle.wl_serial.specs.Outcome.{outcome_of, totals_of}
use Rattle.wl_report.specs.Lines.{line}
use Rattle.wl_report.specs.Report.{verdict_line}

-- The frames on a bus, one after another, each with the number of its sender. Of these, those of node i:
abbrev pub frames_from : ℕ → List (ℕ × Content) → List Content
frames_from i bus = map (λ x. x.1) (filter (λ x. i == x.0) bus)

-- how a frame passes node i, sent or received (Bosch CAN 2.0 part B, section 5), and how a report has it
abbrev pub passing_of : ℕ → ℕ × Content → Bool × Content
passing_of i x = (i == x.0, x.1)

abbrev pub as_passing : Passed → Bool × Content
as_passing p = (p.sent, p.frame)

-- What a node shows at the end:
pub record IsCleanNode (plan : Plan) (bus : List (ℕ × Content)) (i : ℕ) (node : NodeOutcome) : Type 0 where
  -- it has found no error, and both of its error counters are 0,
  pub errors : node.errors ≡ 0
  pub counters : node.counters ≡ no_counts
  -- the first frames on the bus have passed it: its own it has sent, all others it has received,
  pub passed : (later : List (Bool × Content)) × (map as_passing node.frames ++ later ≡ map (passing_of i) bus)
  -- and unsent are those of its queue that it hasn't sent.
  pub unsent : count_by is_sent node.frames + node.unsent ≡ length (setup_at plan i).queue

-- the report's verdict
abbrev pub SaysClean : Plan → Type 0
SaysClean plan = verdict_line (totals_of (outcome_of plan)) ≡ line (codes "verdict") (codes "clean" ∷ [])

-- The outcome of a plan's run. There are frames on the bus such that:
pub record IsCleanRun (plan : Plan) : Type 0 where
  pub bus : List (ℕ × Content)
  -- those of each sender are of its queue, each once, and the first in its order if that is first in, first out; no other node has sent any,
  pub order : (i : ℕ) → (later : List Content) × ComeFrom (setup_at plan i) (frames_from i bus) later
  -- each node is clean,
  pub nodes : (i : ℕ) (node : NodeOutcome) → slice_get (outcome_of plan).nodes i ≡ Some node → IsCleanNode plan bus i node
  -- and the report's verdict is `clean` if the plan ends late enough that no frame is left.
  pub verdict : All (λ node. node.unsent ≡ 0) (outcome_of plan).nodes → SaysClean plan
