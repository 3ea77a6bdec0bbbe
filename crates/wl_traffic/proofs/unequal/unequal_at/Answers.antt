use Rattle.std.proofs.Common.{◌≡◌, ◌∙◌, ◌==◌, ap, ap₂, sym, ne_eqb, cond, ℕ, Bool, false, List, length, None}
use Rattle.wl_delivery.specs.declared.delivery.Delivery.{Delivery}
use Rattle.wl_delivery.specs.declared.delivery.Presence.{Presence}
use Rattle.wl_delivery.specs.Deliveries.{delivery_of, presence_of}
use Rattle.wl_delivery.specs.Messages.{message_ticks}
use Rattle.wl_frame.specs.Grammar.{Content}
use Rattle.wl_node.specs.declared.setup.Passed.{Passed}
use Rattle.wl_traffic.specs.declared.queues.NodeQueue.{NodeQueue}
use Rattle.wl_traffic.specs.Unequal.{unequal_by}
use Rattle.wl_traffic.proofs.unequal.unequal_at.Goals as goal

pub returns : goal.returns
returns c =
    let s : NodeQueue = c.args.sender.now in
    let q : NodeQueue = c.args.queue.now in
    let frame : Content = c.args.frame.now in
    let sent : List ℕ = c.args.sent.now in
    let taken : c.deref.result.now ≡ message_ticks q.clock false frame q.frames =
    c.deref.ensures.value ∙ c.in_ok-taken.ensures ∙ ap (λ (frames : List Passed). message_ticks q.clock false frame frames) c.as_slice.ensures in
    let found : c.in_ok-found.found ≡ delivery_of (presence_of q.clock q.joined q.last) sent (message_ticks q.clock false frame q.frames) =
    c.in_ok-found.ensures ∙ ap₂ (λ (p : Presence) (ticks : List ℕ). delivery_of p sent ticks) c.presence_of-presence.ensures taken in
    let other : (q.node == s.node) ≡ false = ne_eqb q.node s.node c.if-queue-sender.false in
    c.unequal_by.ensures ∙ ap (λ (d : Delivery). unequal_by s.node frame (length sent) q.node d) found
    ∙ sym (ap (λ (b : Bool). cond b None (unequal_by s.node frame (length sent) q.node (delivery_of (presence_of q.clock q.joined q.last) sent (message_ticks q.clock false frame q.frames)))) other)
