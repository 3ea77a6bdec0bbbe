use Rattle.std.proofs.Common.{◌≡◌, ◌∙◌, List, Option, Some, ap, length, refl, subst, sym}
use Rattle.wl_bound.specs.Oscillators.{Pace}
use Rattle.wl_margin.specs.Margins.{paces_of}
use Rattle.wl_margin.proofs.Callers.{paces-length}
use Rattle.wl_respond.specs.Bounds.{AreWaitsBy}
use Rattle.wl_respond.specs.Tables.{messages_of}
use Rattle.wl_respond.proofs.Sending.{family-length}
use Rattle.wl_respond.proofs.bounds.waits_asked.Goals as goal

-- as many oscillators as there are nodes
pub waits_with-requires-clause-oscillators : goal.waits_with-requires-clause-oscillators
waits_with-requires-clause-oscillators c =
    let are : paces_of c.args.bus.now.deviations ≡ Some c.in-Some.oscillators =
    ap paces_of (sym c.as_slice.ensures) ∙ sym c.in_ok-oscillators.ensures ∙ c.in-Some.is in
    ap length c.as_slice-in-Some.ensures ∙ paces-length c.args.bus.now.deviations c.in-Some.oscillators are ∙ c.requires.deviations

pub waits_with-requires-clause-members : goal.waits_with-requires-clause-members
waits_with-requires-clause-members c =
    family-length c.args.bus.now.plan c.as_slice-in-Some.result.now (messages_of c.args.bus.now.plan c.args.plain.now) (waits_with-requires-clause-oscillators c)

pub returns-in_ok-waits-in-Some-clause-waits : goal.returns-in_ok-waits-in-Some-clause-waits
returns-in_ok-waits-in-Some-clause-waits c =
    let are : paces_of c.args.bus.now.deviations ≡ Some c.as_slice-in-Some.result.now =
    ap paces_of (sym c.as_slice.ensures) ∙ sym c.in_ok-oscillators.ensures ∙ c.in-Some.is ∙ ap Some (sym c.as_slice-in-Some.ensures) in
    let w = c.in_ok-waits-in-Some.waits in
    subst (λ (o : Option (List Pace)). AreWaitsBy c.args.question.tick c.args.question.any_data c.args.plain.now c.args.bus.now o (Some w)) (sym are)
    (w, refl, c.in_ok-waits-in-Some.ensures.waits)
