-- What the outcome of a plan shows, by what each node was after its last quantum.
use Rattle.std.proofs.Common.{◌≡◌, ◌∙◌, sym, subst, ℕ, ◌+◌, ◌<◌, List, ◌++◌, All, get_or, length, map, Bool, Some, arith}
use Rattle.std.specs.Prelude.{count_by, slice_get}
use Rattle.std.proofs.lemmas.List.Elements.{All-map}
use Rattle.std.proofs.lemmas.List.FromFn.{get_or-map-range_with_len, length-map-range_with_len}
use Rattle.std.proofs.lemmas.Option.{get_or_from_slice_get, slice_get-get_or, slice_get_within}
use Rattle.wl_confine.specs.Counts.{no_counts}
use Rattle.wl_frame.specs.Grammar.{Content}
use Rattle.wl_node.specs.History.{History, counters_of, error_count, history_of, is_sent, unsent_of}
use Rattle.wl_plan.specs.declared.plan.Plan.{Plan}
use Rattle.wl_plan.specs.PlanLine.{line_of, setup_at}
use Rattle.wl_plan.specs.Simulation.{AreInside, ran, seen}
use Rattle.wl_plan.specs.SimulationLaws.{SimulationLaws}
use Rattle.wl_plan.specs.Sound.{IsCausal}
use Rattle.wl_serial.specs.declared.outcome.NodeOutcome.{NodeOutcome}
use Rattle.wl_serial.specs.Outcome.{history_at_end, node_outcome_of, node_totals, outcome_of, totals_of}
use Rattle.wl_serial.specs.declared.outcome.NodeTotals.{NodeTotals}
use Rattle.wl_buses.specs.BothProofs.Queues.{ComeFrom}
use Rattle.wl_report.specs.Verdict.{CleanIsClean}
use Rattle.wl_proved.specs.CleanRuns.{IsCleanNode, IsCleanRun, as_passing, frames_from, passing_of}

-- after so many quanta, all before the end, a node is clean
pub record IsCleanAt (plan : Plan) (bus : List (ℕ × Content)) (i : ℕ) (h : History) : Type 0 where
  pub errors : error_count h ≡ 0
  pub counters : counters_of h ≡ no_counts
  pub passed : (later : List (Bool × Content)) × (map as_passing h.frames ++ later ≡ map (passing_of i) bus)
  pub unsent : count_by is_sent h.frames + length (unsent_of (setup_at plan i) h) ≡ length (setup_at plan i).queue

-- no node has a frame left
pub none_unsent : (plan : Plan) → ((i : ℕ) → i < length plan.nodes → (node_outcome_of plan i).unsent ≡ 0) → All (λ node. node.unsent ≡ 0) (outcome_of plan).nodes
none_unsent plan none i node less =
    let long = length-map-range_with_len (node_outcome_of plan) 0 (length plan.nodes) in
    let ni : i < length plan.nodes = omega arith in
    subst (λ x. x.unsent ≡ 0) (sym (get_or-map-range_with_len (node_outcome_of plan) 0 (length plan.nodes) i i node ni (omega arith))) (none i ni)

-- what a report asks of each node
abbrev IsFaultless : NodeTotals → Type 0
IsFaultless n = (n.errors ≡ 0) × (n.unsent ≡ 0)

all_faultless : (nodes : List NodeOutcome) → ((i : ℕ) (node : NodeOutcome) → slice_get nodes i ≡ Some node → node.errors ≡ 0) → All (λ node. node.unsent ≡ 0) nodes
    → All IsFaultless (map node_totals nodes)
all_faultless nodes fine none =
    All-map IsFaultless node_totals nodes (λ i node less. (fine i (get_or nodes i node) (slice_get-get_or nodes i node less), none i node less))

module _ (laws : SimulationLaws) (verdicts : CleanIsClean) (plan : Plan) (causal : IsCausal (line_of plan)) (bus : List (ℕ × Content))
    (clean : (i k : ℕ) → i < length plan.nodes → AreInside (line_of plan) i k → IsCleanAt plan bus i (history_of (setup_at plan i) (seen (line_of plan) i k))) where
  -- all its quanta before the end
  abbrev quanta : ℕ → ℕ
  quanta i = ran (line_of plan) i plan.end

  at_end : (i : ℕ) → i < length plan.nodes → IsCleanAt plan bus i (history_at_end plan i)
  at_end i inside =
      subst (λ levels. IsCleanAt plan bus i (history_of (setup_at plan i) levels)) (sym (laws.history_seen (line_of plan) i plan.end causal inside))
      (clean i (quanta i) inside (laws.ran_inside (line_of plan) i plan.end causal inside))

  node_is : (i : ℕ) (node : NodeOutcome) → slice_get (outcome_of plan).nodes i ≡ Some node → (i < length plan.nodes) × (node_outcome_of plan i ≡ node)
  node_is i node is =
      let all = length-map-range_with_len (node_outcome_of plan) 0 (length plan.nodes) in
      let within = slice_get_within (outcome_of plan).nodes i node is in
      let inside : i < length plan.nodes = omega arith in (
        inside,
        sym (get_or-map-range_with_len (node_outcome_of plan) 0 (length plan.nodes) i i node inside (omega arith)) ∙ get_or_from_slice_get (outcome_of plan).nodes i node node is,
      )

  own : (i : ℕ) → i < length plan.nodes → IsCleanNode plan bus i (node_outcome_of plan i)
  own i inside =
      let h = at_end i inside in
      record { errors = h.errors; counters = h.counters; passed = h.passed; unsent = h.unsent }

  pub node_clean : (i : ℕ) (node : NodeOutcome) → slice_get (outcome_of plan).nodes i ≡ Some node → IsCleanNode plan bus i node
  node_clean i node is = let x = node_is i node is in subst (IsCleanNode plan bus i) x.1 (own i x.0)

  pub ends_clean : ((i : ℕ) → (later : List Content) × ComeFrom (setup_at plan i) (frames_from i bus) later) → IsCleanRun plan
  ends_clean order = record {
    bus = bus;
    order = order;
    nodes = node_clean;
    verdict = λ none. (verdicts (totals_of (outcome_of plan))).1 (all_faultless (outcome_of plan).nodes (λ i node is. (node_clean i node is).errors) none);
  }
