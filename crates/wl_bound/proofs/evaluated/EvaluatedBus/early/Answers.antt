use Rattle.std.proofs.Common.{arith}
use Rattle.wl_bound.proofs.evaluated.EvaluatedBus.early.Goals as goal

pub bounds-rows-i : goal.bounds-rows-i
bounds-rows-i c =
    let rows = c.args.self.now.some _ c.in-Some.is in
    let few = rows.ways.nodes in
    omega (arith, c.requires, few)
