use Rattle.wl_replica.specs.Dense.{edges_of_row, row_number}
use Rattle.wl_replica.proofs.RunsTaken.{was_run, runs_now}
use Rattle.wl_replica.proofs.replica.take_one.Goals as goal

pub record_came-requires-clause-was : goal.record_came-requires-clause-was
record_came-requires-clause-was c =
    was_run c.args.rows.now.known c.take.new.self.known c.args.told.now c.take.ensures.known c.args.runs.now.items c.requires.runs
    c.requires.fits c.node-node.result c.node-node.ensures
    (edges_of_row c.edge_numbers.result.now) (row_number c.silence_numbers.result.now) c.edge_numbers.ensures.words c.silence_numbers.ensures

pub returns-clause-runs : goal.returns-clause-runs
returns-clause-runs c =
    runs_now c.args.rows.now.known c.take.new.self.known c.args.told.now c.take.ensures.known c.args.runs.now.items c.requires.runs
    c.requires.fits c.node-node.result c.node-node.ensures
    (edges_of_row c.edge_numbers.result.now) (row_number c.silence_numbers.result.now) c.edge_numbers.ensures.words c.silence_numbers.ensures
    c.record_came.new.runs.items c.record_came.ensures.count c.record_came.ensures.run c.record_came.ensures.others
