-- The parts of what was sent and of the errors.
use Rattle.std.proofs.Common.{◌≡◌, ◌∙◌, ap, ap₂}
use Rattle.std.specs.List.{filter}
use Rattle.wl_level.specs.ByTick.{by_tick}
use Rattle.wl_plan.specs.declared.plan.Plan.{Plan}
use Rattle.wl_serial.specs.declared.outcome.Counted.{Counted}
use Rattle.wl_serial.specs.Outcome.{outcome_of, totals_of}
use Rattle.wl_views.specs.Parts.{parts_by}
use Rattle.wl_views.specs.Picks.{all_errors, is_picked}
use Rattle.wl_views.specs.SentFrames.{all_sent}
use Rattle.wl_views.specs.TraceText.{all_told}
use Rattle.wl_views.proofs.parts.thousandths.Goals as goal

pub returns : goal.returns
returns c =
    let plan : Plan = c.args.plan.now in
    let all = by_tick plan.end (all_told plan) in
    let end : c.deref-2.result.now.end ≡ plan.end = ap (λ (p : Plan). p.end) c.deref-2.ensures.0 in
    let totals : c.as_slice.result.now ≡ totals_of (outcome_of plan) = c.as_slice.ensures ∙ ap (λ (counted : Counted). counted.totals) c.requires in
    let sent : c.deref-3.result.now ≡ all_sent plan (totals_of (outcome_of plan)) =
    c.deref-3.ensures.value ∙ c.in_ok-sent.ensures ∙ ap₂ all_sent c.deref.ensures.0 totals
    in
    let errors : c.deref-4.result.now ≡ filter (is_picked all_errors) all =
    c.deref-4.ensures.value ∙ c.in_ok-errors.ensures ∙ ap (λ pick. filter (is_picked pick) all) c.errors.ensures
    in
    c.in_ok-text.ensures ∙ ap₂ (parts_by c.deref-2.result.now.end) sent errors ∙ ap (λ n. parts_by n (all_sent plan (totals_of (outcome_of plan))) (filter (is_picked all_errors) all)) end
