-- What a node shows beside nodes that only listen is what it shows without them.
use Rattle.std.proofs.Common.{◌≡◌, ◌∙◌, sym, ap, ℕ, ◌<◌, get_or, length, Some, arith}
use Rattle.std.specs.Prelude.{slice_get}
use Rattle.std.proofs.lemmas.List.FromFn.{get_or-map-range_with_len, length-map-range_with_len}
use Rattle.std.proofs.lemmas.Option.{get_or_from_slice_get, slice_get-get_or, slice_get_within}
use Rattle.wl_plan.specs.declared.plan.Plan.{Plan}
use Rattle.wl_serial.specs.declared.outcome.NodeOutcome.{NodeOutcome}
use Rattle.wl_serial.specs.Outcome.{node_outcome_of, outcome_of}
use Rattle.wl_proved.specs.Beside.{AreCleanBeside}
use Rattle.wl_proved.specs.CleanRuns.{IsCleanRun}

-- the outcome of a node, by its place in the list of all
listed : (plan : Plan) (i : ℕ) (node : NodeOutcome) → i < length plan.nodes → get_or (outcome_of plan).nodes i node ≡ node_outcome_of plan i
listed plan i node inside = get_or-map-range_with_len (node_outcome_of plan) 0 (length plan.nodes) i i node inside (omega arith)

pub node_there : (plan : Plan) (i : ℕ) (node : NodeOutcome) → slice_get (outcome_of plan).nodes i ≡ Some node → node_outcome_of plan i ≡ node
node_there plan i node is =
    let all = length-map-range_with_len (node_outcome_of plan) 0 (length plan.nodes) in
    let within = slice_get_within (outcome_of plan).nodes i node is in
    let inside : i < length plan.nodes = omega arith in
    sym (listed plan i node inside) ∙ get_or_from_slice_get (outcome_of plan).nodes i node node is

pub place_of_node : (plan : Plan) (i : ℕ) → i < length plan.nodes → slice_get (outcome_of plan).nodes i ≡ Some (node_outcome_of plan i)
place_of_node plan i inside =
    let all = length-map-range_with_len (node_outcome_of plan) 0 (length plan.nodes) in
    let node = node_outcome_of plan i in
    slice_get-get_or (outcome_of plan).nodes i node (omega arith) ∙ ap Some (listed plan i node inside)

pub clean_beside : (plan other : Plan) (at : ℕ → ℕ) → ((i : ℕ) → i < length other.nodes → node_outcome_of other i ≡ node_outcome_of plan (at i))
    → IsCleanRun other → AreCleanBeside other plan at
clean_beside plan other at same run = record {
  run = run;
  nodes = λ i node inside there. run.nodes i node (place_of_node other i inside ∙ ap Some (same i inside ∙ node_there plan (at i) node there));
}
