use Rattle.std.proofs.Common.{◌<◌, ◌++◌, [], ap₂, sym, arith}
use Rattle.std.specs.List.{filter_map, flat_map}
use Rattle.std.specs.FinMap.{entries}
use Rattle.wl_lattice.specs.Words.{max_word}
use Rattle.wl_replica.specs.Canonical.{canonical, records_of_node, edge_record, silence_record}
use Rattle.wl_replica.specs.Dense.{row_entries}
use Rattle.wl_lattice.specs.Numbers.{number_word}
use Rattle.wl_replica.proofs.OfRecords.{records_fit}
use Rattle.wl_replica.proofs.Telling.{node_step}
use Rattle.wl_replica.proofs.dense.Rows.tell.Goals as goal

pub loop-node-preserved : goal.loop-node-preserved
loop-node-preserved g c =
    let s = c.args.self.now in
    let node = c.loop-node.node in
    let edges = filter_map edge_record (row_entries number_word node 0 c.edge_numbers.result.now []) in
    let silences = filter_map silence_record (row_entries max_word node 0 c.silence_numbers.result.now []) in
    let below : node < s.nodes = omega (arith, c.loop-node-test.true, c.nodes-node-end.ensures.value) in
    node_step g.S.RecordSink.line (records_of_node (entries s.edges) (entries s.silences)) s.nodes node
    (g.S.RecordSink.parts c.loop-node.sink) (g.S.RecordSink.parts c.tell_edges.new.sink) (g.S.RecordSink.parts c.tell_silences.new.sink)
    (g.S.RecordSink.parts c.args.sink.now ++ flat_map g.S.RecordSink.line (canonical s)) edges silences below
    c.loop-node.invariant c.in_ok-tell_edges.ensures c.in_ok-tell_silences.ensures
    (ap₂ (λ es ss. es ++ ss) (sym c.edge_numbers.ensures.records) (sym c.silence_numbers.ensures.records))

pub returns-clause-fits : goal.returns-clause-fits
returns-clause-fits g c = records_fit c.args.self.now c.nodes-node-end.ensures.records

pub returns-in_err-tell_edges-clause-fits : goal.returns-in_err-tell_edges-clause-fits
returns-in_err-tell_edges-clause-fits g c = records_fit c.args.self.now c.nodes-node-end.ensures.records

pub returns-in_err-tell_silences-clause-fits : goal.returns-in_err-tell_silences-clause-fits
returns-in_err-tell_silences-clause-fits g c = records_fit c.args.self.now c.nodes-node-end.ensures.records
