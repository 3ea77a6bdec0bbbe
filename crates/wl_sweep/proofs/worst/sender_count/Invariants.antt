use Rattle.std.proofs.Common.{◌≡◌, drop}
use Rattle.std.specs.Prelude.{ℕ, ◌+◌, fold, if◌then◌else◌}
use Rattle.wl_setup.specs.declared.plan_text.NodeText.{NodeText}
use Rattle.wl_sweep.specs.Family.{capped}
use Rattle.wl_sweep.specs.Worst.{sender_count, sends}
use Rattle.wl_sweep.proofs.worst.sender_count.Given as goal

abbrev pub invariant-loop-node : goal.invariant-loop-node
invariant-loop-node l = fold (λ (count : ℕ) (node : NodeText). if sends node then capped (count + 1) else count) l.count (drop l.node-index l.nodes) ≡ sender_count l.nodes
