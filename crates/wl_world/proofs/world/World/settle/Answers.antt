-- What the rounds leave is a world.
use Rattle.std.proofs.Common.{subst}
use Rattle.wl_plan.specs.PlanLine.{line_of}
use Rattle.wl_world.specs.WorldValue.{IsWorldValue, cast_of}
use Rattle.wl_world.proofs.FaithfulProofs.{settle_grown}
use Rattle.wl_world.proofs.world.World.settle.Goals as goal

pub returns-clause-faithful : goal.returns-clause-faithful
returns-clause-faithful c = c.worlds_are_faithful.ensures c.go_round-rounds.new.self (subst IsWorldValue c.self-2.view_is c.self-2.invariant)

pub returns-clause-grows : goal.returns-clause-grows
returns-clause-grows c =
    let is : IsWorldValue c.args.self.now = subst IsWorldValue c.self.view_is c.self.invariant in
    settle_grown (line_of c.args.self.now.plan) (cast_of c.args.self.now.numbers) c.args.self.now c.go_round-rounds.new.self c.go_round-rounds.result c.go_round-rounds.ensures.settled
    c.go_round-rounds.ensures.moved is.reached.0 is.reached.1
