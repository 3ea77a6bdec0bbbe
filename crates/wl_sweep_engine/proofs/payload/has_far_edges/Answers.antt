use Rattle.std.proofs.Common.{◌∙◌, sym}
use Rattle.wl_frame.specs.Laws.{up_to_ack}
use Rattle.wl_sweep_engine.proofs.Edges.{far_here, not_far_here}
use Rattle.wl_sweep_engine.proofs.payload.has_far_edges.Goals as goal
use Rattle.wl_sweep_engine.proofs.payload.has_far_edges.Goals.{then-is_far, else-is_far}

pub loop-k-preserved : goal.loop-k-preserved
loop-k-preserved c =
    let y = up_to_ack c.args.stuffed.now in
    elim c.if-is_far.branch [
      | then-is_far w ↦ w.found-is ∙ far_here y c.loop-k.k (sym c.is_far.ensures ∙ w.if-is_far.true)
      | else-is_far w ↦ w.found-is ∙ not_far_here y c.loop-k.k c.loop-k.found (sym c.is_far.ensures ∙ w.if-is_far.false) c.loop-k.invariant
    ]
