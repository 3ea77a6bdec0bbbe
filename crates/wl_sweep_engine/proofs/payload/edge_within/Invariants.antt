use Rattle.std.proofs.Common.{◌≡◌}
use Rattle.wl_frame.specs.Laws.{up_to_ack}
use Rattle.wl_sweep_engine.specs.Payload.{edge_within}
use Rattle.wl_sweep_engine.proofs.payload.edge_within.Given as goal

abbrev pub invariant-loop-n : goal.invariant-loop-n
invariant-loop-n l = l.found ≡ edge_within (up_to_ack l.stuffed) l.from l.n
