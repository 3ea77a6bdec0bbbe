use Rattle.std.proofs.Common.{◌≡◌, ◌∙◌, ap, subst, sym, string_bytes, List, Option, Some}
use Rattle.std.proofs.lemmas.Result.{IfOk-weaker}
use Rattle.wl_bound.specs.Families.{Buses, family_of}
use Rattle.wl_bound.specs.Oscillators.{Pace}
use Rattle.wl_margin.specs.Standings.{standing_of}
use Rattle.wl_judge.specs.Answers.{IsAnswerOf, standing_in}
use Rattle.wl_judge.specs.Judgements.{judgement_of}
use Rattle.wl_judge.proofs.answer.answer_by.Goals as goal

pub returns-in_ok-family-in-Some-clause-judgement : goal.returns-in_ok-family-in-Some-clause-judgement
returns-in_ok-family-in-Some-clause-judgement c =
    let is : c.in_ok-family-in-Some.family ≡ family_of c.args.bus.now.plan c.in-Some.all =
    c.in_ok-family-in-Some.ensures.family ∙ ap (family_of c.args.bus.now.plan) c.as_slice-in-Some.ensures in
    IfOk-weaker c.answer_on.result _ _
    (λ a h. h
    ∙ ap (λ (f : Buses). judgement_of (Some (standing_of c.args.bus.now.deviations c.args.bus.now.plan f)) c.args.run.state) is
    ∙ ap (λ (o : Option (List Pace)). judgement_of (standing_in c.args.bus.now o) c.args.run.state) (sym c.in-Some.is))
    c.answer_on.ensures.judgement

pub returns-in_ok-family-in-Some-clause-text : goal.returns-in_ok-family-in-Some-clause-text
returns-in_ok-family-in-Some-clause-text c =
    let is : c.in_ok-family-in-Some.family ≡ family_of c.args.bus.now.plan c.in-Some.all =
    c.in_ok-family-in-Some.ensures.family ∙ ap (family_of c.args.bus.now.plan) c.as_slice-in-Some.ensures in
    IfOk-weaker c.answer_on.result _ _
    (λ a h. subst
    (λ (o : Option (List Pace)). IsAnswerOf c.args.manner.tick c.args.manner.explain c.args.run.state c.args.run.word.now c.args.bus.now o
    (string_bytes a.text))
    (sym c.in-Some.is) (c.in_ok-family-in-Some.family, is, h))
    c.answer_on.ensures.text
