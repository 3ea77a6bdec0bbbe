-- Each node's outcome stands after those of the nodes before it.
use Rattle.std.proofs.Common.{[], ◌∷◌, ◌++◌, map, ap, sym, ◌∙◌}
use Rattle.std.specs.List.{range_with_len}
use Rattle.wl_serial.specs.Outcome.{node_outcome_of}
use Rattle.wl_worker.proofs.threads.outcome_from.Goals as goal

pub loop-i-preserved : goal.loop-i-preserved
loop-i-preserved c =
    let of = node_outcome_of c.args.plan.now in
    c.in_ok-push.ensures.ok
    ∙ (ap (λ l. l ++ c.in_ok-outcome.outcome ∷ []) c.loop-i.invariant
    ∙ (ap (λ x. map of (range_with_len 0 c.loop-i.i) ++ x ∷ []) c.in_ok-outcome.ensures ∙ sym (c.outcome_node_by_node.ensures c.args.plan.now c.loop-i.i)))
