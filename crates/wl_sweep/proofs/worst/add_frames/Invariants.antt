use Rattle.std.proofs.Common.{◌≡◌, drop}
use Rattle.std.specs.Prelude.{◌++◌}
use Rattle.wl_sweep.specs.declared.worst.TheConstants.{IDS}
use Rattle.wl_sweep.specs.Worst.{add_frames}
use Rattle.wl_sweep.proofs.worst.add_frames.Given as goal

abbrev pub invariant-loop-node : goal.invariant-loop-node
invariant-loop-node l = l.all ++ add_frames l.nodes l.id (drop l.node-index l.nodes) ≡ add_frames l.nodes IDS l.nodes
