use Rattle.std.proofs.Common.{◌∙◌, ◌++◌, ap, sym, append_assoc, List}
use Rattle.std.specs.List.{flat_map, range_with_len}
use Rattle.wl_traffic.specs.declared.late.LateMessage.{LateMessage}
use Rattle.wl_traffic.specs.Late.{late_at}
use Rattle.wl_traffic.proofs.Growing.{flat_below_more}
use Rattle.wl_traffic.proofs.late.push_node.Goals as goal

pub loop-k-preserved : goal.loop-k-preserved
loop-k-preserved c =
    let at = late_at c.args.longest c.args.queue.now in
    c.in_ok-push_late_at.ensures
    ∙ ap (λ (xs : List LateMessage). xs ++ at c.loop-k.k) c.loop-k.invariant
    ∙ append_assoc c.args.all.now.items (flat_map at (range_with_len 0 c.loop-k.k)) (at c.loop-k.k)
    ∙ ap (λ (xs : List LateMessage). c.args.all.now.items ++ xs) (sym (flat_below_more at c.loop-k.k))
