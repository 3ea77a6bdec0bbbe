use Rattle.std.proofs.Common.{◌≡◌}
use Rattle.wl_frame.specs.Laws.{up_to_ack}
use Rattle.wl_sweep_engine.specs.Payload.{far_below}
use Rattle.wl_sweep_engine.proofs.payload.has_far_edges.Given as goal

abbrev pub invariant-loop-k : goal.invariant-loop-k
invariant-loop-k l = l.found ≡ far_below (up_to_ack l.stuffed) l.k
