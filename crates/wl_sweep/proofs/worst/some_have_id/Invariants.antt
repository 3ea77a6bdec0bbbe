use Rattle.std.proofs.Common.{◌≡◌, drop}
use Rattle.std.specs.List.{list_any}
use Rattle.wl_sweep.specs.Worst.{has_id, some_have_id}
use Rattle.wl_sweep.proofs.worst.some_have_id.Given as goal

abbrev pub invariant-loop-node : goal.invariant-loop-node
invariant-loop-node l = list_any (has_id l.id) (drop l.node-index l.nodes) ≡ some_have_id l.id l.nodes
