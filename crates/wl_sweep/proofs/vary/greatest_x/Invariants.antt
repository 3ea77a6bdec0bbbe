use Rattle.std.proofs.Common.{◌≡◌, drop}
use Rattle.std.specs.Prelude.{fold, max}
use Rattle.wl_setup.specs.declared.plan_text.NodeText.{NodeText}
use Rattle.wl_sweep.specs.Vary.{greatest_x}
use Rattle.wl_sweep.proofs.vary.greatest_x.Given as goal

abbrev pub invariant-loop-node : goal.invariant-loop-node
invariant-loop-node l = fold (λ most (n : NodeText). max most n.x) l.most (drop l.node-index l.nodes) ≡ greatest_x l.nodes
