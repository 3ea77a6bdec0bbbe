use Rattle.std.proofs.Common.{take}
use Rattle.std.specs.Prelude.{All}
use Rattle.wl_node.specs.declared.setup.Queued.{Queued}
use Rattle.wl_sweep_engine.specs.Payload.{TestsClocks}
use Rattle.wl_sweep_engine.proofs.payload.no_frame_tests.Given as goal

abbrev pub invariant-loop-queued : goal.invariant-loop-queued
invariant-loop-queued l = All (λ (q : Queued). ¬ TestsClocks q.frame) (take l.queued-index l.queue)
