use Rattle.std.proofs.Common.{sym, subst}
use Rattle.wl_topology.specs.Delays.{IsLeastOf}
use Rattle.wl_topology.proofs.Nearest.{least_of_more}
use Rattle.wl_topology.proofs.Topology.least_delay.Goals as goal

pub loop-i-preserved : goal.loop-i-preserved
loop-i-preserved c = subst (IsLeastOf _ _) (sym c.min-least.ensures) (least_of_more _ _ _ _ c.loop-i.invariant c.least_from.ensures.least)
