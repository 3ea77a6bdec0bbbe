use Rattle.std.proofs.Common.{◌∙◌, ap, length}
use Rattle.std.proofs.lemmas.Result.{IfOk-weaker}
use Rattle.wl_bound.specs.Families.{Buses}
use Rattle.wl_margin.proofs.Callers.{members-length, paces-length}
use Rattle.wl_traffic.proofs.silence.family_with.Goals as goal

pub of_plan-requires : goal.of_plan-requires
of_plan-requires c = record { one_each = paces-length c.args.bus.now.deviations c.args.all.now c.requires.paces ∙ c.requires.deviations }

pub returns-clause-members : goal.returns-clause-members
returns-clause-members c =
    IfOk-weaker c.of_plan.result _ _
    (λ f h. ap (λ (f : Buses). length f.members) h
    ∙ members-length c.args.bus.now.plan.nodes c.args.all.now (paces-length c.args.bus.now.deviations c.args.all.now c.requires.paces ∙ c.requires.deviations))
    c.of_plan.ensures
