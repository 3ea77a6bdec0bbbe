-- Each edge stands after those before it, and all numbers fit.
use Rattle.std.proofs.Common.{◌++◌, ◌∷◌, [], ◌∙◌, ap, sym, append_assoc, get_or, take, refl, arith}
use Rattle.wl_record_core.specs.declared.record.Record.TheVariants.{Edge}
use Rattle.wl_record_core.specs.Limits.{most_edges-is}
use Rattle.wl_serial.specs.Records.{edges_from}
use Rattle.wl_serial.proofs.Told.{edges_more}
use Rattle.wl_serial.proofs.records.push_node.Goals as goal

pub overflow_cast-seq : goal.overflow_cast-seq
overflow_cast-seq c = (let e = most_edges-is in omega arith)

pub loop-seq-preserved : goal.loop-seq-preserved
loop-seq-preserved c =
    c.in_ok-push.ensures.items
    ∙ (ap (λ xs. xs ++ Edge c.args.node c.loop-seq.seq (get_or c.args.changes.now c.loop-seq.seq 0) ∷ []) c.loop-seq.invariant
    ∙ (append_assoc c.args.records.now.items (edges_from c.args.node 0 (take c.loop-seq.seq c.args.changes.now)) (Edge c.args.node c.loop-seq.seq (get_or c.args.changes.now c.loop-seq.seq 0) ∷ [])
    ∙ ap (λ xs. c.args.records.now.items ++ xs) (sym (edges_more c.args.node c.loop-seq.seq (get_or c.args.changes.now c.loop-seq.seq 0) c.args.changes.now c.loop-seq-test.true refl))))

pub overflow_cast-changes : goal.overflow_cast-changes
overflow_cast-changes c = (let e = most_edges-is in omega arith)
