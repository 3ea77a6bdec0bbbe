-- The reason and the trouble are those of what was found.
use Rattle.std.proofs.Common.{◌∙◌, ap}
use Rattle.wl_plan.specs.declared.plan.Plan.{Plan}
use Rattle.wl_serial.specs.declared.outcome.Counted.{Counted}
use Rattle.wl_traffic.specs.declared.found.Found.{Found}
use Rattle.wl_traffic.proofs.verdict.verdict_of.Goals as goal

pub returns-clause-reason : goal.returns-clause-reason
returns-clause-reason c =
    let plan : Plan = c.args.plan.now in
    ap (λ (f : Found). f.reason)
    (c.in_ok-found.ensures plan c.in_ok-seen.ensures.bus (c.as_slice.ensures ∙ c.in_ok-seen.ensures.queues)
    (ap (λ (n : Counted). n.totals) c.requires.counted))
