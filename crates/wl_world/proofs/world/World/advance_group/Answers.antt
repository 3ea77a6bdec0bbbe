-- One quantum after another; each is one fewer that is left.
use Rattle.std.proofs.Common.{refl, sym, ◌∙◌, ap, subst}
use Rattle.wl_plan.specs.PlanLine.{line_of}
use Rattle.wl_world.specs.declared.events.Event.TheVariants.{Advance}
use Rattle.wl_world.specs.Scene.{Scene}
use Rattle.wl_world.specs.Moves.{IsStuckAt, MovesLed}
use Rattle.wl_world.specs.WorldValue.{IsWorldAt, IsWorldValue, cast_of}
use Rattle.wl_world.proofs.RunProofs.{stepped_on, on_err}
use Rattle.wl_world.proofs.MoveProofs.{advanced_none, advanced_more, advanced_gone, exhausted, set_on}
use Rattle.wl_world.proofs.EndProofs.{advance_fewer}
use Rattle.wl_world.proofs.world.World.advance_group.Goals as goal

pub loop-node-init : goal.loop-node-init
loop-node-init c = record {
  same_plan = refl;
  same_numbers = refl;
  holds = subst IsWorldValue c.self.view_is c.self.invariant;
  advanced = advanced_none (line_of c.args.self.now.plan) (cast_of c.args.self.now.numbers) c.args.group c.args.self.now;
}

pub returns-in_err-advance-clause-moved : goal.returns-in_err-advance-clause-moved
returns-in_err-advance-clause-moved c =
    let line = line_of c.args.self.now.plan in
    let cast = cast_of c.args.self.now.numbers in
    on_err c.from_residual.result (subst (MovesLed line cast c.args.self.now) (sym c.in_err-advance.ensures.err)
    (advanced_gone line cast c.args.group c.args.self.now c.loop-node.self c.loop-node.invariant.advanced))

pub loop-node-smaller : goal.loop-node-smaller
loop-node-smaller c =
    let laws = c.laws_of_rounds.ensures in
    advance_fewer laws.simulation laws.sound laws.grouping laws.known laws.groups laws.family c.loop-node.self c.advance.new.self c.loop-node.invariant.holds
    (subst IsWorldValue c.self-in-Some.view_is c.self-in-Some.invariant) c.in_ok-advance.ensures.plan c.in_ok-advance.ensures.grouping c.args.group c.in-Some.node c.in_ok-advance.field-0
    c.in-Some.ensures.ready c.in_ok-advance.ensures.ok

pub loop-node-preserved : goal.loop-node-preserved
loop-node-preserved c =
    let line = line_of c.args.self.now.plan in
    let cast = cast_of c.args.self.now.numbers in
    let mid = c.loop-node.self in
    let new = c.advance.new.self in
    record {
      same_plan = c.in_ok-advance.ensures.plan ∙ c.loop-node.invariant.same_plan;
      same_numbers = c.in_ok-advance.ensures.grouping ∙ c.loop-node.invariant.same_numbers;
      holds = subst IsWorldValue c.self-in-Some.view_is c.self-in-Some.invariant;
      advanced = advanced_more line cast c.args.group c.in-Some.node c.args.self.now mid new c.in_ok-advance.field-0 c.loop-node.invariant.advanced
          (stepped_on IsWorldAt line (line_of mid.plan) cast (cast_of mid.numbers) (Advance c.args.group c.in-Some.node) mid new c.in_ok-advance.field-0
          (ap line_of c.loop-node.invariant.same_plan) (ap cast_of c.loop-node.invariant.same_numbers) c.in_ok-advance.ensures.ok);
    }

pub returns-clause-stuck : goal.returns-clause-stuck
returns-clause-stuck c =
    let line = line_of c.args.self.now.plan in
    let cast = cast_of c.args.self.now.numbers in
    let mid = c.loop-node.self in
    exhausted line cast c.args.group c.args.self.now mid c.loop-node.invariant.advanced
    (set_on (λ l d. (w : Scene) → IsWorldAt w mid → IsStuckAt l d c.args.group w) line (line_of mid.plan) cast (cast_of mid.numbers)
    (ap line_of c.loop-node.invariant.same_plan) (ap cast_of c.loop-node.invariant.same_numbers) c.in_default.ensures.stuck)
