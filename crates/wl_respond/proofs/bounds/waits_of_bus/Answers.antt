use Rattle.std.proofs.Common.{◌≡◌, ◌∙◌, List, Option, Some, ap, length, subst, sym}
use Rattle.std.proofs.lemmas.Result.{IfOk-weaker}
use Rattle.wl_bound.specs.Oscillators.{Pace}
use Rattle.wl_margin.specs.Margins.{paces_of}
use Rattle.wl_margin.proofs.Callers.{paces-length}
use Rattle.wl_respond.specs.Bounds.{AreWaitsOfPaces}
use Rattle.wl_respond.specs.Tables.{messages_of}
use Rattle.wl_respond.proofs.Sending.{family-length}
use Rattle.wl_respond.proofs.bounds.waits_of_bus.Goals as goal

-- as many oscillators as there are nodes
pub waits_for-requires-clause-oscillators : goal.waits_for-requires-clause-oscillators
waits_for-requires-clause-oscillators c =
    let are : paces_of c.args.bus.now.deviations ≡ Some c.in-Some.oscillators =
    ap paces_of (sym c.as_slice.ensures) ∙ sym c.in_ok-oscillators.ensures ∙ c.in-Some.is in
    ap length c.as_slice-in-Some.ensures ∙ paces-length c.args.bus.now.deviations c.in-Some.oscillators are ∙ c.requires.deviations

pub waits_for-requires-clause-members : goal.waits_for-requires-clause-members
waits_for-requires-clause-members c =
    family-length c.args.bus.now.plan c.as_slice-in-Some.result.now (messages_of c.args.bus.now.plan c.args.plain.now) (waits_for-requires-clause-oscillators c)

pub returns-in-Some-clause-waits : goal.returns-in-Some-clause-waits
returns-in-Some-clause-waits c =
    let are : paces_of c.args.bus.now.deviations ≡ Some c.as_slice-in-Some.result.now =
    ap paces_of (sym c.as_slice.ensures) ∙ sym c.in_ok-oscillators.ensures ∙ c.in-Some.is ∙ ap Some (sym c.as_slice-in-Some.ensures) in
    IfOk-weaker c.waits_for.result _ _
    (λ waits due. subst (λ (o : Option (List Pace)). AreWaitsOfPaces c.args.tick c.args.plain.now c.args.bus.now o waits) (sym are) due) c.waits_for.ensures.waits
