use Rattle.std.proofs.Common.{◌≡◌, map, take}
use Rattle.wl_serial.specs.Outcome.{node_totals}
use Rattle.wl_serial.proofs.outcome.Outcome.totals.Given as goal

abbrev pub invariant-loop-node : goal.invariant-loop-node
invariant-loop-node l = l.totals ≡ map node_totals (take l.node-index l.nodes)
