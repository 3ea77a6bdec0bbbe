use Rattle.std.proofs.Common.{◌≡◌, drop}
use Rattle.std.specs.List.{list_all}
use Rattle.wl_serial.specs.declared.outcome.NodeTotals.{NodeTotals}
use Rattle.wl_sweep.specs.Findings.{like}
use Rattle.wl_sweep.proofs.finding.all_like.Given as goal

abbrev pub invariant-loop-node : goal.invariant-loop-node
invariant-loop-node l = list_all (λ (n : NodeTotals). like l.first.frames n.frames) (drop l.node-index l.nodes) ≡ list_all (λ (n : NodeTotals). like l.first.frames n.frames) l.nodes
