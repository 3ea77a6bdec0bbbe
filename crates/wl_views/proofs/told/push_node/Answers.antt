-- What is said of the samples is after how the node was synchronised.
use Rattle.std.proofs.Common.{append-nil, ap₂, ◌∙◌, ◌++◌, ap, sym, List, append_assoc, ℕ}
use Rattle.std.specs.List.{filter}
use Rattle.std.proofs.lemmas.List.Elements.{filter-append}
use Rattle.wl_trace.specs.declared.event.Noted.{Noted}
use Rattle.wl_plan.specs.declared.plan.Plan.{Plan}
use Rattle.wl_plan.specs.PlanLine.{setup_at}
use Rattle.wl_views.specs.declared.pick.Pick.{Pick}
use Rattle.wl_views.specs.Picks.{is_picked}
use Rattle.wl_views.specs.TraceText.{events_at_end, syncs_at_end, told_by}
use Rattle.wl_views.proofs.Syncless.{none_of_node}
use Rattle.wl_views.proofs.told.push_node.Goals as goal

-- of a node that isn't asked for nothing is
pub returns-then-not-is_asked_node : goal.returns-then-not-is_asked_node
returns-then-not-is_asked_node c =
    let plan : Plan = c.args.plan.now in
    let i : ℕ = c.args.i in
    let pick : Pick = c.args.pick.now in
    let old = c.args.told.now.items in
    let syncs : List (ℕ × (ℕ × Noted)) = told_by (setup_at plan i).clock i (syncs_at_end plan i) in
    let events : List (ℕ × (ℕ × Noted)) = told_by (setup_at plan i).clock i (events_at_end plan i) in
    let none = sym c.is_asked_node.ensures ∙ c.if-not-is_asked_node.true in
    sym (append-nil old)
    ∙ ap (λ xs. old ++ xs)
    (sym (filter-append (is_picked pick) syncs events
    ∙ ap₂ (λ xs ys. xs ++ ys) (none_of_node pick (setup_at plan i).clock i (syncs_at_end plan i) none) (none_of_node pick (setup_at plan i).clock i (events_at_end plan i) none)))

pub returns : goal.returns
returns c =
    let plan : Plan = c.args.plan.now in
    let i : ℕ = c.args.i in
    let picked = is_picked c.args.pick.now in
    let old = c.args.told.now.items in
    let syncs : List (ℕ × (ℕ × Noted)) = told_by (setup_at plan i).clock i (syncs_at_end plan i) in
    let events : List (ℕ × (ℕ × Noted)) = told_by (setup_at plan i).clock i (events_at_end plan i) in
    c.in_ok-push_events.ensures
    ∙ ap (λ xs. xs ++ filter picked events) c.in_ok-push_syncs.ensures
    ∙ append_assoc old (filter picked syncs) (filter picked events)
    ∙ ap (λ xs. old ++ xs) (sym (filter-append picked syncs events))
