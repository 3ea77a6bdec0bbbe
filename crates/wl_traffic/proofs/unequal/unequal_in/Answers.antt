use Rattle.std.proofs.Common.{◌∙◌, ◌++◌, ap, ap₂, sym, ℕ, List, Option, take}
use Rattle.std.specs.List.{flat_map}
use Rattle.wl_frame.specs.Grammar.{Content}
use Rattle.wl_traffic.specs.declared.queues.NodeQueue.{NodeQueue}
use Rattle.wl_traffic.specs.declared.unequal.Unequal.{Unequal}
use Rattle.wl_traffic.specs.Unequal.{said_of, unequal_at}
use Rattle.wl_traffic.proofs.Growing.{flat_more}
use Rattle.wl_traffic.proofs.unequal.unequal_in.Goals as goal

pub loop-queue-preserved : goal.loop-queue-preserved
loop-queue-preserved c =
    let s : NodeQueue = c.args.sender.now in
    let frame : Content = c.args.frame.now in
    let sent : List ℕ = c.in_ok-sent.sent.items in
    let queues : List NodeQueue = c.args.queues.now in
    let k : ℕ = c.loop-queue.queue-index in
    let d : NodeQueue = c.queue-item.result in
    let of = λ (q : NodeQueue). said_of (unequal_at s frame sent q) in
    let found = c.in_ok-found.ensures ∙ ap (λ (ticks : List ℕ). unequal_at s frame ticks d) c.deref.ensures.value in
    c.in_ok-push_said.ensures
    ∙ ap₂ (λ (xs : List Unequal) (u : Option Unequal). xs ++ said_of u) c.loop-queue.invariant found
    ∙ ap (λ (q : NodeQueue). flat_map of (take k queues) ++ of q) c.queue-item.is
    ∙ sym (flat_more of queues k d c.loop-queue-test.true)
