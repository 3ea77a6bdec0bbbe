-- One group after another.
use Rattle.std.proofs.Common.{◌≡◌, ◌∙◌, ap, arith}
use Rattle.wl_plan.specs.PlanLine.{line_of}
use Rattle.wl_plan.specs.Groupings.{groups_of}
use Rattle.wl_world.specs.Moves.{MovesLed, HasExhausted}
use Rattle.wl_world.specs.WorldValue.{WorldValue, cast_of}
use Rattle.wl_world.proofs.MoveProofs.{set_on, gone_on, exhausted_all_gone, exhausted_all_more, exhausted_all_enough}
use Rattle.wl_world.proofs.RunProofs.{on_err}
use Rattle.wl_world.proofs.world.World.advance_all.Goals as goal

pub returns-in_err-advance_group-clause-moved : goal.returns-in_err-advance_group-clause-moved
returns-in_err-advance_group-clause-moved c =
    let line = line_of c.args.self.now.plan in
    let cast = cast_of c.args.self.now.numbers in
    let mid = c.loop-group.self in
    let new = c.advance_group.new.self in
    on_err c.from_residual.result (gone_on line cast c.args.self.now mid new
    (exhausted_all_gone line cast c.loop-group.group c.args.self.now mid c.loop-group.invariant.exhausted)
    (set_on (λ l d. MovesLed l d mid new) line (line_of mid.plan) cast (cast_of mid.numbers)
    (ap line_of c.loop-group.invariant.same_plan) (ap cast_of c.loop-group.invariant.same_numbers) c.in_err-advance_group.ensures.moved))

pub loop-group-preserved : goal.loop-group-preserved
loop-group-preserved c =
    let line = line_of c.args.self.now.plan in
    let cast = cast_of c.args.self.now.numbers in
    let mid = c.loop-group.self in
    let new = c.advance_group.new.self in
    record {
      same_plan = c.in_ok-advance_group.ensures.plan ∙ c.loop-group.invariant.same_plan;
      same_numbers = c.in_ok-advance_group.ensures.grouping ∙ c.loop-group.invariant.same_numbers;
      exhausted = exhausted_all_more line cast c.party_laws.ensures c.loop-group.group c.args.self.now mid new c.loop-group.invariant.exhausted
          (set_on (λ l d. HasExhausted l d c.loop-group.group mid new) line (line_of mid.plan) cast (cast_of mid.numbers)
          (ap line_of c.loop-group.invariant.same_plan) (ap cast_of c.loop-group.invariant.same_numbers) c.in_ok-advance_group.ensures.stuck);
    }

pub returns-clause-stuck : goal.returns-clause-stuck
returns-clause-stuck c =
    let count : c.groups-group-end.result ≡ groups_of c.args.self.now.numbers = c.groups-group-end.ensures.count ∙ ap (λ (u : WorldValue). groups_of u.numbers) c.self.view_is in
    exhausted_all_enough (line_of c.args.self.now.plan) (cast_of c.args.self.now.numbers) (groups_of c.args.self.now.numbers) c.loop-group.group c.args.self.now c.loop-group.self
    (omega arith) c.loop-group.invariant.exhausted
