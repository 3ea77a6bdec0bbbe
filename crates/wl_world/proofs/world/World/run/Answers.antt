-- What the events leave is a world.
use Rattle.std.proofs.Common.{subst}
use Rattle.wl_plan.specs.PlanLine.{line_of}
use Rattle.wl_world.specs.WorldValue.{IsWorldValue, cast_of}
use Rattle.wl_world.proofs.FaithfulProofs.{run_grown}
use Rattle.wl_world.proofs.world.World.run.Goals as goal

pub returns-clause-faithful : goal.returns-clause-faithful
returns-clause-faithful c = c.worlds_are_faithful.ensures c.handle-answers.new.self (subst IsWorldValue c.self-2.view_is c.self-2.invariant)

pub returns-clause-grows : goal.returns-clause-grows
returns-clause-grows c =
    let is : IsWorldValue c.args.self.now = subst IsWorldValue c.self.view_is c.self.invariant in
    run_grown (line_of c.args.self.now.plan) (cast_of c.args.self.now.numbers) c.args.events.now c.args.self.now c.handle-answers.new.self (λ answers. answers.items) c.handle-answers.result
    c.handle-answers.ensures.ok c.handle-answers.ensures.stopped is.reached.0 is.reached.1
