use Rattle.std.proofs.Common.{◌∙◌, ap, length, arith}
use Rattle.std.proofs.lemmas.Result.{IfOk-weaker}
use Rattle.wl_plan.specs.declared.plan.Plan.{Plan}
use Rattle.wl_bound.specs.Families.{family_of}
use Rattle.wl_respond.specs.Senders.{family_with}
use Rattle.wl_respond.proofs.Sending.{family_same, senders-length}
use Rattle.wl_respond.proofs.senders.family_with_text.Goals as goal

pub of_plan-requires : goal.of_plan-requires
of_plan-requires c =
    let same = ap (λ (p : Plan). length p.nodes) c.in_ok-sending.ensures in
    let long = senders-length c.as_slice.result.now 0 c.args.plan.now.nodes in
    let each = c.requires.one_each in
    record { one_each = omega arith }

pub returns : goal.returns
returns c =
    IfOk-weaker c.of_plan.result _ _
    (λ family is. is ∙ ap (λ (p : Plan). family_of p c.args.oscillators.now) c.in_ok-sending.ensures
    ∙ family_same c.as_slice.result.now c.args.plan.now c.args.oscillators.now
    ∙ ap (family_with c.args.plan.now c.args.oscillators.now) (c.as_slice.ensures ∙ c.in_ok-messages.ensures))
    c.of_plan.ensures
