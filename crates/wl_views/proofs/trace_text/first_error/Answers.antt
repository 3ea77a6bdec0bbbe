-- The first error is the first of the errors.
use Rattle.std.proofs.Common.{◌∙◌, ◌++◌, ap, ap₂}
use Rattle.std.specs.List.{filter}
use Rattle.wl_level.specs.ByTick.{by_tick}
use Rattle.wl_views.specs.Picks.{is_picked}
use Rattle.wl_views.specs.TraceText.{all_told, first_error_in}
use Rattle.wl_views.proofs.Picking.{first_of_errors}
use Rattle.wl_views.proofs.trace_text.first_error.Goals as goal

pub returns : goal.returns
returns c =
    let all = by_tick c.args.plan.now.end (all_told c.args.plan.now) in
    c.in_ok-push_first_error.ensures
    ∙ ap₂ (λ was told. was ++ first_error_in c.args.names.now told) c.new-text.ensures.bytes
    (c.deref.ensures.value ∙ c.in_ok-errors.ensures ∙ ap (λ pick. filter (is_picked pick) all) c.errors.ensures)
    ∙ first_of_errors c.args.names.now all
