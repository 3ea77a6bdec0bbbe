use Rattle.std.proofs.Common.{◌∙◌, ap, Some}
use Rattle.wl_margin.specs.Standings.{standing_of}
use Rattle.wl_judge.specs.Judgements.{judgement_of}
use Rattle.wl_judge.proofs.answer.answer_on.Goals as goal

pub returns-clause-judgement : goal.returns-clause-judgement
returns-clause-judgement c =
    c.judgement_of.ensures
    ∙ ap (λ s. judgement_of (Some s) c.args.run.state)
    (c.bus_standing-first.ensures.standing ∙ ap (λ d. standing_of d c.args.bus.now.plan c.args.family.now) c.as_slice.ensures)
