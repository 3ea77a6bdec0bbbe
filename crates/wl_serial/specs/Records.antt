-- The records of an outcome: for each node all its changes, and the silence up to the end. This project's profile; that a silence
-- is a promise of no change before a tick is Chandy and Misra 1979.
use Rattle.std.specs.Prelude.{ℕ, suc, ◌<◌, ◌≤◌, List, [], ◌∷◌, ◌++◌, length, All}
use Rattle.std.specs.List.{flat_map, enumerate_from}
use Rattle.wl_record_core.specs.declared.record.Record.{Record}
use Rattle.wl_record_core.specs.declared.record.Record.TheVariants.{Edge, Silence}
use Rattle.wl_record_core.specs.Limits.{most_nodes, most_edges, tick_end}
use Rattle.wl_limits.specs.declared.Limits.{Limits}
use Rattle.wl_record_core.specs.Within.{IsWide, IsWithinBy}
use Rattle.wl_plan.specs.declared.plan.Plan.{Plan}
use Rattle.wl_plan.specs.PlanLine.{IsTrueOfPlan}
use Rattle.wl_plan.specs.Checked.{IsChecked, IsPlanWithin}
use Rattle.wl_serial.specs.declared.outcome.Outcome.{Outcome}
use Rattle.wl_serial.specs.Outcome.{outcome_of}

-- an edge of node i at each of these ticks, numbered from s on
abbrev pub edges_from : ℕ → ℕ → List ℕ → List Record
edges_from i s [] = []
edges_from i s (t ∷ ts) = Edge i s t ∷ edges_from i (suc s) ts

-- of a node all edges, then one silence with their number and the end
abbrev pub node_records : ℕ → ℕ → List ℕ → List Record
node_records end i changes = edges_from i 0 changes ++ Silence i (length changes) end ∷ []

-- of all nodes, in order
abbrev pub outcome_records : Outcome → List Record
outcome_records o = flat_map (λ (i, node). node_records o.end i node.changes) (enumerate_from 0 o.nodes)

-- The numbers of nodes and changes, and the end, are such as records can name.
pub record IsRecordable (o : Outcome) : Type 0 where
  pub few_nodes : length o.nodes ≤ most_nodes
  pub few_changes : All (λ node. length node.changes ≤ most_edges) o.nodes
  pub ends : o.end < tick_end

-- the outcome of a plan that can be run can be written as records
abbrev pub OutcomeIsRecordable : Type 0
OutcomeIsRecordable = (plan : Plan) → IsChecked plan → IsRecordable (outcome_of plan)

-- and each of these records is true of the plan, and within the limits
abbrev pub RecordsAreTrue : Type 0
RecordsAreTrue = (plan : Plan) → IsChecked plan → All (λ told. IsTrueOfPlan plan told × IsWide told) (outcome_records (outcome_of plan))

-- the records of a plan that is within some limits are within them
abbrev pub RecordsAreWithin : Type 0
RecordsAreWithin = (limits : Limits) (queued : ℕ) (plan : Plan) → IsChecked plan → IsPlanWithin limits queued plan
    → All (λ told. IsWithinBy limits told) (outcome_records (outcome_of plan))
