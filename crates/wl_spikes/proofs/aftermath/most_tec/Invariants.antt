use Rattle.std.proofs.Common.{◌≡◌, drop, max}
use Rattle.std.specs.Prelude.{fold}
use Rattle.wl_serial.specs.declared.outcome.NodeTotals.{NodeTotals}
use Rattle.wl_spikes.specs.Aftermaths.{most_tec}
use Rattle.wl_spikes.proofs.aftermath.most_tec.Given as goal

abbrev pub invariant-loop-node : goal.invariant-loop-node
invariant-loop-node l = fold (λ most (n : NodeTotals). max most n.counters.tec) l.most (drop l.node-index l.nodes) ≡ most_tec l.nodes
