-- The first error is the first of the errors.
use Rattle.std.proofs.Common.{◌∙◌, ap}
use Rattle.std.specs.List.{filter}
use Rattle.wl_level.specs.ByTick.{by_tick}
use Rattle.wl_views.specs.Picks.{is_picked}
use Rattle.wl_views.specs.TraceText.{all_told, first_error_at}
use Rattle.wl_views.proofs.Picking.{first_tick_of_errors}
use Rattle.wl_views.proofs.trace_text.first_error_tick.Goals as goal

pub returns : goal.returns
returns c =
    let all = by_tick c.args.plan.now.end (all_told c.args.plan.now) in
    c.first_error_at.ensures
    ∙ ap first_error_at (c.deref.ensures.value ∙ c.in_ok-errors.ensures ∙ ap (λ pick. filter (is_picked pick) all) c.errors.ensures)
    ∙ first_tick_of_errors all
