use Rattle.std.proofs.Common.{◌≡◌, drop}
use Rattle.std.specs.Prelude.{◌==◌}
use Rattle.std.specs.List.{position_from}
use Rattle.wl_setup.specs.declared.plan_text.NodeText.{NodeText}
use Rattle.wl_sweep.proofs.vary.farthest.Given as goal

abbrev pub invariant-loop-i : goal.invariant-loop-i
invariant-loop-i l = position_from (λ (n : NodeText). n.x == l.most) l.i (drop l.i l.nodes) ≡ position_from (λ (n : NodeText). n.x == l.most) 0 l.nodes
