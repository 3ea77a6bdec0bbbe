use Rattle.std.proofs.Common.{◌≡◌, drop}
use Rattle.std.specs.List.{list_any}
use Rattle.wl_sweep.specs.Vary.{has_key}
use Rattle.wl_sweep.proofs.vary.some_have.Given as goal

abbrev pub invariant-loop-node : goal.invariant-loop-node
invariant-loop-node l = list_any (has_key l.key) (drop l.node-index l.nodes) ≡ list_any (has_key l.key) l.nodes
