use Rattle.std.proofs.Common.{◌≡◌, ◌∙◌, ◌<◌, ap, arith, subst, zero-add, ℕ, List, get_or, length}
use Rattle.std.specs.List.{range_with_len}
use Rattle.std.proofs.lemmas.List.FromFn.{get_or-map-range_with_len}
use Rattle.std.proofs.lemmas.Simd.{map-map}
use Rattle.wl_plan.specs.declared.plan.Plan.{Plan}
use Rattle.wl_serial.specs.declared.outcome.NodeTotals.{NodeTotals}
use Rattle.wl_serial.specs.Outcome.{node_outcome_of, node_totals, outcome_of, totals_of}
use Rattle.wl_views.specs.SentFrames.{AreInTime}
use Rattle.wl_traffic.specs.Known.{AreKnownFrames}
use Rattle.wl_traffic.proofs.nodes.frames_are_known.Goals as goal

-- by the totals of the outcome, node by node
known : (plan : Plan) → AreInTime plan (totals_of (outcome_of plan)) → (i : ℕ) → i < length plan.nodes → AreKnownFrames (node_outcome_of plan i).frames
known plan times i b =
    let d : NodeTotals = node_totals (node_outcome_of plan i) in
    let all : List NodeTotals = totals_of (outcome_of plan) in
    let here : get_or all i d ≡ d =
    ap (λ (xs : List NodeTotals). get_or xs i d) (map-map node_totals (node_outcome_of plan) (range_with_len 0 (length plan.nodes)))
    ∙ get_or-map-range_with_len (λ (k : ℕ). node_totals (node_outcome_of plan k)) 0 (length plan.nodes) i i d b (zero-add i) in
    subst (λ (n : NodeTotals). AreKnownFrames n.frames) here (times.quanta i d (let n = times.nodes in omega (arith, n, b)))

pub returns : goal.returns
returns c i b = known c.args.plan.now (c.sent_in_time.ensures c.args.plan.now c.laws.ensures.checked) i b
