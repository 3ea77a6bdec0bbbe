use Rattle.std.proofs.Common.{◌≡◌, drop}
use Rattle.std.specs.List.{position_from}
use Rattle.std.specs.Str.{bytes_eq}
use Rattle.wl_setup.specs.declared.plan_text.NodeText.{NodeText}
use Rattle.wl_sweep.proofs.vary.node_named.Given as goal

abbrev pub invariant-loop-i : goal.invariant-loop-i
invariant-loop-i l = position_from (λ (n : NodeText). bytes_eq n.name l.name) l.i (drop l.i l.nodes) ≡ position_from (λ (n : NodeText). bytes_eq n.name l.name) 0 l.nodes
