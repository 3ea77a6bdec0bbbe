-- One node's events after those of the nodes before it.
use Rattle.std.proofs.Common.{◌∙◌, ◌++◌, ap, sym}
use Rattle.std.specs.List.{filter, flat_map, range_with_len}
use Rattle.std.proofs.lemmas.List.Elements.{filter-append}
use Rattle.wl_views.specs.Picks.{is_picked}
use Rattle.wl_views.specs.TraceText.{told_at_end}
use Rattle.wl_views.proofs.Telling.{one_more}
use Rattle.wl_views.proofs.told.all_told.Goals as goal

pub loop-i-preserved : goal.loop-i-preserved
loop-i-preserved c =
    let plan = c.args.plan.now in
    let picked = is_picked c.args.pick.now in
    c.in_ok-push_node.ensures ∙ ap (λ es. es ++ filter picked (told_at_end plan c.loop-i.i)) c.loop-i.invariant
    ∙ sym (filter-append picked (flat_map (told_at_end plan) (range_with_len 0 c.loop-i.i)) (told_at_end plan c.loop-i.i))
    ∙ ap (filter picked) (sym (one_more (told_at_end plan) c.loop-i.i))
