use Rattle.std.proofs.Common.{◌∙◌, ◌++◌, ap, ap₂, sym, append_assoc, ℕ, List}
use Rattle.std.specs.List.{flat_map, range_with_len}
use Rattle.wl_traffic.specs.declared.unequal.Unequal.{Unequal}
use Rattle.wl_traffic.specs.Unequal.{unequal_message}
use Rattle.wl_traffic.proofs.Growing.{flat_below_more}
use Rattle.wl_traffic.proofs.unequal.push_node.Goals as goal

pub loop-k-preserved : goal.loop-k-preserved
loop-k-preserved c =
    let at = unequal_message c.args.queues.now c.args.sender.now in
    let k : ℕ = c.loop-k.k in
    let old : List Unequal = c.args.all.now.items in
    c.in_ok-extend_from_slice.ensures.items
    ∙ ap₂ (λ (xs ys : List Unequal). xs ++ ys) c.loop-k.invariant (c.deref.ensures.value ∙ c.in_ok-found.ensures)
    ∙ append_assoc old (flat_map at (range_with_len 0 k)) (at k)
    ∙ ap (λ (xs : List Unequal). old ++ xs) (sym (flat_below_more at k))
