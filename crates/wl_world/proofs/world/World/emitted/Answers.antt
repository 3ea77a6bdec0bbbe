use Rattle.std.proofs.Common.{subst}
use Rattle.wl_world.specs.WorldValue.{IsWorldValue}
use Rattle.wl_world.proofs.world.World.emitted.Goals as goal

pub returns-clause-faithful : goal.returns-clause-faithful
returns-clause-faithful c = c.worlds_are_faithful.ensures c.args.self.now (subst IsWorldValue c.self.view_is c.self.invariant)
