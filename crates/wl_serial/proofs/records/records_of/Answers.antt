-- The records of each node stand after those of the nodes before it.
use Rattle.std.proofs.Common.{◌++◌, ◌<◌, ◌∙◌, ap, sym, length, take, get_or, arith}
use Rattle.std.specs.List.{enumerate_from, flat_map}
use Rattle.wl_record_core.specs.Limits.{most_nodes-is}
use Rattle.wl_serial.specs.Records.{node_records}
use Rattle.wl_serial.proofs.Told.{nodes_more}
use Rattle.wl_serial.proofs.records.records_of.Goals as goal

pub overflow_cast-i : goal.overflow_cast-i
overflow_cast-i c = (let e = most_nodes-is in let f = c.requires.few_nodes in let g = ap length c.as_slice-node-items.ensures in omega arith)

pub loop-i-preserved : goal.loop-i-preserved
loop-i-preserved c =
    let same = ap length c.as_slice-node-items.ensures in
    let is_node : c.loop-i.i < length c.args.outcome.now.nodes = omega arith in
    c.in_ok-push_node.ensures
    ∙ (ap (λ xs. xs ++ node_records c.args.outcome.now.end c.loop-i.i c.as_slice.result.now) c.loop-i.invariant
    ∙ (ap (λ ts. flat_map (λ (i, node). node_records c.args.outcome.now.end i node.changes) (enumerate_from 0 (take c.loop-i.i c.args.outcome.now.nodes)) ++ node_records c.args.outcome.now.end c.loop-i.i ts) c.as_slice.ensures
    ∙ sym (nodes_more c.args.outcome.now.end c.loop-i.i c.node-item.result c.args.outcome.now.nodes is_node
    (c.node-item.is ∙ ap (λ xs. get_or xs c.loop-i.i c.node-item.result) c.as_slice-node-items.ensures))))
