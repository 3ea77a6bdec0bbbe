-- With room or without, the node has seen nothing.
use Rattle.std.proofs.Common.{[]}
use Rattle.wl_serial.proofs.running_node.new_node.Goals as goal
use Rattle.wl_serial.proofs.running_node.new_node.Goals.{then-busy+in_ok-reserve, else-busy}

pub returns-clause-node : goal.returns-clause-node
returns-clause-node c = elim c.if-busy.branch [
  | then-busy+in_ok-reserve w ↦ rw (w.node-is) (w.in_ok-reserve.ensures.node [] c.in_ok-node.ensures.node)
  | else-busy w ↦ rw (w.node-is) c.in_ok-node.ensures.node
]
