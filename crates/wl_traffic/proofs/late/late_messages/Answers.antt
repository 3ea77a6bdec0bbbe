use Rattle.std.proofs.Common.{◌∙◌, ◌++◌, ap, sym, ℕ, List, take}
use Rattle.std.specs.List.{flat_map}
use Rattle.wl_traffic.specs.declared.late.LateMessage.{LateMessage}
use Rattle.wl_traffic.specs.declared.queues.NodeQueue.{NodeQueue}
use Rattle.wl_traffic.specs.Late.{late_in}
use Rattle.wl_traffic.proofs.Growing.{flat_more}
use Rattle.wl_traffic.proofs.late.late_messages.Goals as goal

pub loop-queue-preserved : goal.loop-queue-preserved
loop-queue-preserved c =
    let late = late_in c.in_ok-longest.longest in
    let queues : List NodeQueue = c.args.queues.now in
    let k : ℕ = c.loop-queue.queue-index in
    let d : NodeQueue = c.queue-item.result in
    c.in_ok-push_node.ensures
    ∙ ap (λ (xs : List LateMessage). xs ++ late d) c.loop-queue.invariant
    ∙ ap (λ (q : NodeQueue). flat_map late (take k queues) ++ late q) c.queue-item.is
    ∙ sym (flat_more late queues k d c.loop-queue-test.true)
