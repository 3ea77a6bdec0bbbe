use Rattle.std.proofs.Common.{◌≡◌, subst, min}
use Rattle.wl_topology.specs.Delays.{IsLeastFrom, delay_of}
use Rattle.wl_topology.proofs.Nearest.{least_from_more}
use Rattle.wl_topology.proofs.Topology.least_from.Goals as goal

pub loop-j-preserved : goal.loop-j-preserved
loop-j-preserved c =
    let e : min c.loop-j.least (delay_of c.args.self.now c.args.i c.loop-j.j) ≡ c.min-least.result = cc in
    subst (IsLeastFrom _ _ _) e (least_from_more _ _ _ _ c.loop-j.invariant)
