use Rattle.std.proofs.Common.{sym, subst, arith}
use Rattle.std.specs.Prelude.{All}
use Rattle.std.proofs.lemmas.List.{take_all}
use Rattle.std.proofs.lemmas.List.Elements.{All-more}
use Rattle.wl_node.specs.declared.setup.NodeSetup.{NodeSetup}
use Rattle.wl_sweep_engine.specs.Payload.{NoFrameTests}
use Rattle.wl_sweep_engine.proofs.payload.none_tests.Goals as goal

pub returns-then-not-no_frame_tests-clause-no : goal.returns-then-not-no_frame_tests-clause-no
returns-then-not-no_frame_tests-clause-no c is all =
    c.no_frame_tests.ensures.no c.if-not-no_frame_tests.true
    (subst NoFrameTests (sym c.as_slice.ensures)
    (subst (λ (n : NodeSetup). NoFrameTests n.queue) (sym c.node-item.is) (all c.loop-node.node-index c.node-item.result (omega arith))))

pub loop-node-preserved : goal.loop-node-preserved
loop-node-preserved c =
    All-more (λ (n : NodeSetup). NoFrameTests n.queue) c.args.nodes.now c.loop-node.node-index c.node-item.result (omega arith) c.loop-node.invariant
    (subst (λ (n : NodeSetup). NoFrameTests n.queue) c.node-item.is (subst NoFrameTests c.as_slice.ensures (c.no_frame_tests.ensures.yes c.if-not-no_frame_tests.false)))

pub returns-clause-yes : goal.returns-clause-yes
returns-clause-yes c is =
    subst (All (λ (n : NodeSetup). NoFrameTests n.queue)) (take_all c.loop-node.node-index c.args.nodes.now (omega arith)) c.loop-node.invariant
