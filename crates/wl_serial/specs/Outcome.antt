-- The outcome of the one-thread simulation of a plan: for each node its changes, and what its history at the end says. This project's profile.
use Rattle.std.specs.Prelude.{◌≡◌, ℕ, ◌+◌, List, [], ◌∷◌, ◌++◌, length, map}
use Rattle.std.specs.List.{range_with_len}
use Rattle.wl_node.specs.declared.setup.NodeSetup.{NodeSetup}
use Rattle.wl_node.specs.Extremes.{phase_totals}
use Rattle.wl_node.specs.History.{History, history_of, counters_of, phases_of, hards_of, error_count, unsent_count}
use Rattle.wl_plan.specs.declared.plan.Plan.{Plan}
use Rattle.wl_plan.specs.PlanLine.{setup_at, line_of, table_of}
use Rattle.wl_plan.specs.Simulation.{history}
use Rattle.wl_serial.specs.declared.outcome.NodeOutcome.{NodeOutcome}
use Rattle.wl_serial.specs.declared.outcome.NodeTotals.{NodeTotals}
use Rattle.wl_serial.specs.declared.outcome.Counted.{Counted}
use Rattle.wl_serial.specs.declared.outcome.Outcome.{Outcome}

-- what a node of this setup did, by the ticks at which its drive changed and by its history
abbrev pub outcome_of_history : NodeSetup → List ℕ → History → NodeOutcome
outcome_of_history setup changes h = record {
  changes = changes;
  samples = h.samples;
  frames = h.frames;
  counters = counters_of h;
  phases = phases_of h;
  hards = hards_of h;
  errors = error_count h;
  unsent = unsent_count setup h;
}

-- node i at the end: after all that it has seen in the tick-by-tick simulation up to there
abbrev pub history_at_end : Plan → ℕ → History
history_at_end plan i = history_of (setup_at plan i) ((history (line_of plan) plan.end).seen i)

abbrev pub node_outcome_of : Plan → ℕ → NodeOutcome
node_outcome_of plan i = outcome_of_history (setup_at plan i) (table_of plan i) (history_at_end plan i)

-- of each node, and the end
abbrev pub outcome_of : Plan → Outcome
outcome_of plan = record { nodes = map (node_outcome_of plan) (range_with_len 0 (length plan.nodes)); end = plan.end }

-- what a report says of a node: the number of its samples, and what is said of its phase errors
abbrev pub node_totals : NodeOutcome → NodeTotals
node_totals n = record {
  samples = length n.samples;
  frames = n.frames;
  counters = n.counters;
  phases = phase_totals n.phases;
  hards = n.hards;
  errors = n.errors;
  unsent = n.unsent;
}

-- of each node
abbrev pub totals_of : Outcome → List NodeTotals
totals_of outcome = map node_totals outcome.nodes

-- the ticks at which the drive of each node changed
abbrev pub drives_of : Outcome → List (List ℕ)
drives_of outcome = map (λ n. n.changes) outcome.nodes

-- these ticks, and what a report says of all nodes
abbrev pub counted_of : Outcome → Counted
counted_of outcome = record { drives = drives_of outcome; totals = totals_of outcome }

-- of one node more: what came before, and the outcome of that node
abbrev pub GoesNodeByNode : Type 0
GoesNodeByNode =
    (plan : Plan) (n : ℕ)
    → map (node_outcome_of plan) (range_with_len 0 (n + 1)) ≡ map (node_outcome_of plan) (range_with_len 0 n) ++ node_outcome_of plan n ∷ []
