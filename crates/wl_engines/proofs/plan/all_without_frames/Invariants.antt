use Rattle.std.proofs.Common.{◌≡◌, map, take}
use Rattle.wl_engines.specs.Plans.{without_frames}
use Rattle.wl_engines.proofs.plan.all_without_frames.Given as goal

-- the nodes so far
abbrev pub invariant-loop-node : goal.invariant-loop-node
invariant-loop-node l = l.bare ≡ map without_frames (take l.node-index l.nodes)
