use Rattle.std.proofs.Common.{◌≡◌, drop}
use Rattle.std.specs.List.{list_any}
use Rattle.wl_sweep.specs.Findings.{is_off_bus, some_off}
use Rattle.wl_sweep.proofs.finding.some_off.Given as goal

abbrev pub invariant-loop-node : goal.invariant-loop-node
invariant-loop-node l = list_any is_off_bus (drop l.node-index l.nodes) ≡ some_off l.nodes
