-- One delivery after another.
use Rattle.std.proofs.Common.{sym, ◌∙◌, ap, subst, arith}
use Rattle.wl_plan.specs.PlanLine.{line_of}
use Rattle.wl_world.specs.declared.events.Event.TheVariants.{Deliver}
use Rattle.wl_world.specs.Moves.{MovesLed}
use Rattle.wl_world.specs.WorldValue.{IsWorldAt, cast_of}
use Rattle.wl_world.proofs.RunProofs.{stepped_on, on_err}
use Rattle.wl_world.proofs.MoveProofs.{handed_gone, handed_more, handed_enough}
use Rattle.wl_world.proofs.world.World.deliver_to.Goals as goal

pub returns-in_err-deliver-clause-moved : goal.returns-in_err-deliver-clause-moved
returns-in_err-deliver-clause-moved c =
    let line = line_of c.args.self.now.plan in
    let cast = cast_of c.args.self.now.numbers in
    on_err c.from_residual.result (subst (MovesLed line cast c.args.self.now) (sym c.in_err-deliver.ensures.err)
    (handed_gone line cast c.args.group c.args.from c.loop-number.number c.args.self.now c.loop-number.self c.loop-number.invariant.handed))

pub loop-number-preserved : goal.loop-number-preserved
loop-number-preserved c =
    let line = line_of c.args.self.now.plan in
    let cast = cast_of c.args.self.now.numbers in
    let old = c.loop-number.self in
    let new = c.deliver.new.self in
    let answer = c.in_ok-deliver.field-0 in
    record {
      same_plan = c.in_ok-deliver.ensures.plan ∙ c.loop-number.invariant.same_plan;
      same_numbers = c.in_ok-deliver.ensures.grouping ∙ c.loop-number.invariant.same_numbers;
      handed = handed_more line cast c.party_laws.ensures c.args.group c.args.from c.loop-number.number c.args.self.now old new answer c.requires c.loop-number.invariant.handed
          (stepped_on IsWorldAt line (line_of old.plan) cast (cast_of old.numbers) (Deliver c.args.group c.loop-number.number) old new answer
          (ap line_of c.loop-number.invariant.same_plan) (ap cast_of c.loop-number.invariant.same_numbers) c.in_ok-deliver.ensures.ok);
    }

pub returns-clause-handed : goal.returns-clause-handed
returns-clause-handed c =
    handed_enough (line_of c.args.self.now.plan) (cast_of c.args.self.now.numbers) c.args.group c.args.from c.loop-number.number c.args.to c.args.self.now c.loop-number.self (omega arith)
    c.loop-number.invariant.handed
