-- One group after another.
use Rattle.std.proofs.Common.{◌≡◌, ◌∙◌, ap, arith}
use Rattle.wl_plan.specs.PlanLine.{line_of}
use Rattle.wl_plan.specs.Groupings.{groups_of}
use Rattle.wl_world.specs.Moves.{MovesLed, HasHanded}
use Rattle.wl_world.specs.WorldValue.{WorldValue, cast_of}
use Rattle.wl_world.proofs.MoveProofs.{set_on, gone_on, handed_all_gone, handed_all_more, handed_all_enough}
use Rattle.wl_world.proofs.RunProofs.{on_err}
use Rattle.wl_world.proofs.world.World.deliver_to_all.Goals as goal

pub returns-in_err-deliver_to-clause-moved : goal.returns-in_err-deliver_to-clause-moved
returns-in_err-deliver_to-clause-moved c =
    let line = line_of c.args.self.now.plan in
    let cast = cast_of c.args.self.now.numbers in
    let mid = c.loop-group.self in
    let new = c.deliver_to.new.self in
    on_err c.from_residual.result (gone_on line cast c.args.self.now mid new
    (handed_all_gone line cast c.loop-group.group c.args.from c.args.to c.args.self.now mid c.loop-group.invariant.handed)
    (set_on (λ l d. MovesLed l d mid new) line (line_of mid.plan) cast (cast_of mid.numbers)
    (ap line_of c.loop-group.invariant.same_plan) (ap cast_of c.loop-group.invariant.same_numbers) c.in_err-deliver_to.ensures.moved))

pub loop-group-preserved : goal.loop-group-preserved
loop-group-preserved c =
    let line = line_of c.args.self.now.plan in
    let cast = cast_of c.args.self.now.numbers in
    let mid = c.loop-group.self in
    let new = c.deliver_to.new.self in
    record {
      same_plan = c.in_ok-deliver_to.ensures.plan ∙ c.loop-group.invariant.same_plan;
      same_numbers = c.in_ok-deliver_to.ensures.grouping ∙ c.loop-group.invariant.same_numbers;
      handed = handed_all_more line cast c.party_laws.ensures c.loop-group.group c.args.from c.args.to c.args.self.now mid new c.loop-group.invariant.handed
          (set_on (λ l d. HasHanded l d c.loop-group.group c.args.from c.args.to mid new) line (line_of mid.plan) cast (cast_of mid.numbers)
          (ap line_of c.loop-group.invariant.same_plan) (ap cast_of c.loop-group.invariant.same_numbers) c.in_ok-deliver_to.ensures.handed);
    }

pub returns-clause-handed : goal.returns-clause-handed
returns-clause-handed c =
    let count : c.groups-group-end.result ≡ groups_of c.args.self.now.numbers = c.groups-group-end.ensures.count ∙ ap (λ (u : WorldValue). groups_of u.numbers) c.self.view_is in
    handed_all_enough (line_of c.args.self.now.plan) (cast_of c.args.self.now.numbers) (groups_of c.args.self.now.numbers) c.loop-group.group c.args.from c.args.to c.args.self.now c.loop-group.self
    (omega arith) c.loop-group.invariant.handed
