use Rattle.std.proofs.Common.{◌≡◌, ◌∙◌, ◌<◌, rules, ap, sym, subst, ℕ}
use Rattle.std.specs.List.{All}
use Rattle.std.proofs.lemmas.List.Sorted.{IsNonDecreasingBy-from_sort_by_key, answers_always}
use Rattle.wl_trace.specs.declared.event.NodeEvent.TheVariants as events
use Rattle.wl_trace.specs.declared.event.FlagForm.TheVariants.{Active}
use Rattle.wl_trace.specs.declared.event.Noted.{Noted}
use Rattle.wl_level.specs.ByTick.{by_tick}
use Rattle.wl_level.proofs.Callers.{sorted_is_by_tick}
use Rattle.std.proofs.lemmas.List.Elements.{All-filter}
use Rattle.wl_views.specs.Picks.{is_picked}
use Rattle.wl_views.specs.TraceText.{all_told}
use Rattle.wl_views.proofs.Picking.{picked_by_tick}
use Rattle.wl_views.proofs.Telling.{told_below}
use Rattle.wl_views.proofs.told.told_in_order.Goals as goal

-- some event of some node
abbrev some_event : ℕ × Noted
some_event = (0, record { quantum = 0; bit = 0; event = events.Flag Active })

pub returns : goal.returns
returns c =
    let end : ℕ = c.args.plan.now.end in
    let picked = is_picked c.args.pick.now in
    sorted_is_by_tick end some_event c.in_ok-told.told.items c.sort_by_cached_key.new.self.items c.in_ok-sort_by_cached_key.ensures.permutation
    (IsNonDecreasingBy-from_sort_by_key (λ s. s.0) _ c.in_ok-sort_by_cached_key.ensures.sorted (λ a r q k. search rules))
    (c.in_ok-sort_by_cached_key.ensures.stable (λ s. s.0) (answers_always _ (λ a r. r ≡ a.0.now.0) _ (λ f a r q k. search rules)))
    (subst (All (λ (s : ℕ × (ℕ × Noted)). s.0 < end)) (sym c.in_ok-told.ensures)
    (All-filter picked (λ (s : ℕ × (ℕ × Noted)). s.0 < end) (all_told c.args.plan.now)
    (told_below c.simulation_laws.ensures c.trace_laws.ensures c.args.plan.now c.laws.ensures.sound)))
    ∙ ap (by_tick end) c.in_ok-told.ensures ∙ sym (picked_by_tick picked end (all_told c.args.plan.now))
