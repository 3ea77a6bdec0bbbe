use Rattle.std.proofs.Common.{◌≡◌, ◌∙◌, List, ℕ, length, map, get_or, ap, arith, zero-add}
use Rattle.std.specs.List.{range_with_len}
use Rattle.std.proofs.lemmas.List.{get_or_default}
use Rattle.std.proofs.lemmas.List.FromFn.{get_or-map-range_with_len, length-map-range_with_len}
use Rattle.std.proofs.lemmas.Simd.{map-map}
use Rattle.wl_node.specs.declared.setup.NodeSetup.{NodeSetup}
use Rattle.wl_plan.specs.declared.plan.Plan.{Plan}
use Rattle.wl_plan.specs.PlanLine.{no_setup}
use Rattle.wl_serial.specs.declared.outcome.NodeTotals.{NodeTotals}
use Rattle.wl_serial.specs.Outcome.{node_outcome_of, node_totals, outcome_of, totals_of}
use Rattle.wl_traffic.proofs.nodes.node_at.Goals as goal

-- the totals node by node
abbrev of_node : Plan → ℕ → NodeTotals
of_node plan i = node_totals (node_outcome_of plan i)

totals_are : (plan : Plan) (totals : List NodeTotals) → totals ≡ totals_of (outcome_of plan) → totals ≡ map (of_node plan) (range_with_len 0 (length plan.nodes))
totals_are plan totals e = e ∙ map-map node_totals (node_outcome_of plan) (range_with_len 0 (length plan.nodes))

pub bounds-nodes-i : goal.bounds-nodes-i
bounds-nodes-i c =
    let plan : Plan = c.args.plan.now in
    let e = ap length (c.as_slice-nodes.ensures ∙ totals_are plan c.args.totals.now c.requires.totals) in
    let n = length-map-range_with_len (of_node plan) 0 (length plan.nodes) in
    let b = c.requires.node in
    omega arith

pub returns-clause-setup : goal.returns-clause-setup
returns-clause-setup c =
    c.index-setups-i.is ∙ ap (λ (xs : List NodeSetup). get_or xs c.args.i c.index-setups-i.result) (c.as_slice-setups.ensures ∙ ap (λ (p : Plan). p.nodes) c.deref.ensures.0)
    ∙ get_or_default c.args.plan.now.nodes c.args.i c.index-setups-i.result no_setup c.requires.node

pub returns-clause-totals : goal.returns-clause-totals
returns-clause-totals c =
    let plan : Plan = c.args.plan.now in
    c.index-nodes-i.is
    ∙ ap (λ (xs : List NodeTotals). get_or xs c.args.i c.index-nodes-i.result) (c.as_slice-nodes.ensures ∙ totals_are plan c.args.totals.now c.requires.totals)
    ∙ get_or-map-range_with_len (of_node plan) 0 (length plan.nodes) c.args.i c.args.i c.index-nodes-i.result c.requires.node (zero-add c.args.i)
