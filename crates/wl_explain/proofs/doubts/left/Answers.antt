use Rattle.std.proofs.Common.{◌∙◌, ◌+◌, ◌-◌, ap, ap₂, ℕ, suc, min, arith}
use Rattle.wl_plan.specs.declared.plan.Plan.{Plan}
use Rattle.wl_explain.specs.Doubts.{borne, difference, margin_below}
use Rattle.wl_explain.proofs.doubts.left.Goals as goal

pub loop-j-preserved : goal.loop-j-preserved
loop-j-preserved c =
    let plan : Plan = c.args.plan.now in
    let i : ℕ = c.args.i in
    let j : ℕ = c.loop-j.j in
    c.min-left.ensures
    ∙ ap₂ min c.loop-j.invariant (c.saturating_sub.ensures
    ∙ ap₂ (λ (a b : ℕ). a - b) (c.borne.ensures ∙ ap₂ borne c.node-node.ensures c.node-other.ensures)
    (c.difference.ensures ∙ (λ k. difference (c.deref.ensures.0 k).end (c.node-node.ensures k) (c.node-other.ensures k))))
    ∙ ap (margin_below plan i) {x = suc j} {y = j + 1} (omega arith)
