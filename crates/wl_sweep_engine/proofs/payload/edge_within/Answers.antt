use Rattle.std.proofs.Common.{◌∙◌, ap, arith}
use Rattle.wl_frame.specs.Laws.{up_to_ack}
use Rattle.wl_sweep_engine.specs.Payload.{edge_within}
use Rattle.wl_sweep_engine.proofs.payload.edge_within.Goals as goal

pub returns : goal.returns
returns c = c.loop-n.invariant ∙ ap (edge_within (up_to_ack c.args.stuffed.now) c.args.from) {x = c.loop-n.n} {y = 9} (omega arith)
