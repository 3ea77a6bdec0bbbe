use Rattle.std.proofs.Common.{take}
use Rattle.std.specs.Prelude.{All}
use Rattle.wl_node.specs.declared.setup.NodeSetup.{NodeSetup}
use Rattle.wl_sweep_engine.specs.Payload.{NoFrameTests}
use Rattle.wl_sweep_engine.proofs.payload.none_tests.Given as goal

abbrev pub invariant-loop-node : goal.invariant-loop-node
invariant-loop-node l = All (λ (n : NodeSetup). NoFrameTests n.queue) (take l.node-index l.nodes)
