use Rattle.std.proofs.Common.{◌≡◌, ◌+◌, map, drop}
use Rattle.wl_setup.specs.Plans.{node_named}
use Rattle.wl_setup.proofs.plan.node_named.Given as goal

-- none of those so far has the name
abbrev pub invariant-loop-i : goal.invariant-loop-i
invariant-loop-i l = l.i + node_named (map (λ node. node.name) (drop l.i l.nodes)) l.name ≡ node_named (map (λ node. node.name) l.nodes) l.name
