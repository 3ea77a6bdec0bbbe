use Rattle.wl_node.proofs.Picking.{extremes}
use Rattle.wl_node.proofs.laws.extremes_are_extreme.Goals as goal

pub returns : goal.returns
returns c = extremes
