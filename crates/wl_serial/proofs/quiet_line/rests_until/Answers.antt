-- The line is at rest up to then.
use Rattle.std.proofs.Common.{inl, inr, get_or}
use Rattle.std.proofs.lemmas.Bool.{cases_lt}
use Rattle.wl_serial.proofs.Resting.{all_stay, silent_less, stay_none}
use Rattle.wl_serial.proofs.Runners.{stands_at}
use Rattle.wl_serial.proofs.quiet_line.rests_until.Goals as goal

pub stands_until-requires-clause-running : goal.stands_until-requires-clause-running
stands_until-requires-clause-running c =
    stands_at c.args.plan.now c.args.running.now c.args.j c.index-running-j-else-silent_until-known.result c.requires.node c.index-running-j-else-silent_until-known.is c.requires.running

pub returns : goal.returns
returns c =
    let plan = c.args.plan.now in
    let rs = c.args.running.now in
    let t = c.all_stand_until.result in
    let few = c.all_stand_until.ensures.few in
    elim (cases_lt 0 t) [
      | inl some ↦
          all_stay plan rs c.requires.running c.driven_laws.ensures c.simulation_laws.ensures c.table_laws.ensures c.laws.ensures.sound t
          c.a_line_at_rest_stays.ensures
          (λ j d b. silent_less plan rs j (get_or rs j d).next t c.all_silent_until-silent.result few (c.all_silent_until-silent.ensures.silent j d b))
          (c.all_stand_until.ensures.stand some)
      | inr none ↦ stay_none plan rs t c.table_laws.ensures none
    ]
