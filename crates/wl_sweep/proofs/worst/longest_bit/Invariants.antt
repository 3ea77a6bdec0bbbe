use Rattle.std.proofs.Common.{◌≡◌, drop}
use Rattle.std.specs.Prelude.{ℕ, fold, max}
use Rattle.wl_setup.specs.declared.plan_text.NodeText.{NodeText}
use Rattle.wl_sweep.specs.Family.{bit_in}
use Rattle.wl_sweep.specs.Worst.{longest_bit}
use Rattle.wl_sweep.proofs.worst.longest_bit.Given as goal

abbrev pub invariant-loop-node : goal.invariant-loop-node
invariant-loop-node l = fold (λ (most : ℕ) (node : NodeText). max most (bit_in node)) l.most (drop l.node-index l.nodes) ≡ longest_bit l.nodes
