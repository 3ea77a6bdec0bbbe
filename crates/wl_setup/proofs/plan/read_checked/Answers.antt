use Rattle.std.proofs.Common.{Err, ap, ◌∙◌}
use Rattle.std.proofs.lemmas.Result.{err_from_is_err_and}
use Rattle.wl_setup.proofs.PlanLemmas.{planned, not_planned}
use Rattle.wl_setup.specs.Plans.{named_plan_of}
use Rattle.wl_setup.proofs.plan.read_checked.Goals as goal

pub returns-in_err-text-clause-answer : goal.returns-in_err-text-clause-answer
returns-in_err-text-clause-answer g c =
    let p = err_from_is_err_and c.from_residual.result c.from_residual.ensures.1 in
    not_planned g.R.Source.gives named_plan_of c.args.reader.now c.read_named.new.reader c.in_err-text.field-0.0 c.from_residual.result c.in_err-text.ensures.fault (p.1 ∙ ap (λ f. Err f) p.2)

pub returns-clause-answer : goal.returns-clause-answer
returns-clause-answer g c =
    planned g.R.Source.gives named_plan_of c.args.reader.now c.read_named.new.reader c.in_ok-text.text c.named_plan.result c.in_ok-text.ensures.ok.0 c.named_plan.ensures.answer
