use Rattle.std.proofs.Common.{◌∙◌, ap, ap₂, sym, ℕ, max, List, take}
use Rattle.std.proofs.lemmas.List.Sums.{fold_more}
use Rattle.wl_traffic.specs.declared.queues.NodeQueue.{NodeQueue}
use Rattle.wl_traffic.specs.Late.{longest_period_in, longest_period}
use Rattle.wl_traffic.proofs.late.longest_period.Goals as goal

pub loop-queue-preserved : goal.loop-queue-preserved
loop-queue-preserved c =
    let queues : List NodeQueue = c.args.queues.now in
    let k : ℕ = c.loop-queue.queue-index in
    let d : NodeQueue = c.queue-item.result in
    c.max-longest.ensures ∙ ap₂ max c.loop-queue.invariant c.in_ok-longest_period_in.ensures
    ∙ ap (λ (q : NodeQueue). max (longest_period (take k queues)) (longest_period_in q)) c.queue-item.is
    ∙ sym (fold_more (λ (most : ℕ) (q : NodeQueue). max most (longest_period_in q)) 0 queues k d c.loop-queue-test.true)
