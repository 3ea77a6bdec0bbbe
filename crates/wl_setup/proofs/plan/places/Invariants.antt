use Rattle.std.proofs.Common.{◌≡◌, ◌++◌, map, drop}
use Rattle.wl_setup.specs.Plans.{place_of}
use Rattle.wl_setup.proofs.plan.places.Given as goal

-- those of the nodes that are left follow on these
abbrev pub invariant-loop-node : goal.invariant-loop-node
invariant-loop-node l = l.places ++ map place_of (drop l.node-index l.nodes) ≡ map place_of l.nodes
