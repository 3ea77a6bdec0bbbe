use Rattle.wl_replica.proofs.DenseShown.{empty_shown}
use Rattle.wl_replica.proofs.dense.Rows.of_no_nodes.Goals as goal

pub returns : goal.returns
returns c = empty_shown 0 c.new.result.items c.new-2.result.items c.new.ensures.items c.new-2.ensures.items
